-- What the answer of the reduction says of a block.
use Rattle.std.specs.Prelude.{◌≡◌, Option, Some, None, Result, Ok, Err, ℕ}
use Rattle.model.specs.Block.{Block, gate_count}
use Rattle.model.specs.Part.{SeriesParallel}
use Rattle.model.specs.Answer.{NotSeriesParallelAt}
use Rattle.parts.specs.Nodes.{Nodes}
use Rattle.parts.specs.Rooted.{Rooted}
use Rattle.slots.specs.declared.NotSeriesParallel.{NotSeriesParallel}
use Rattle.slots.specs.declared.nodes.TreeNodes.{TreeNodes}
use Rattle.reduction.specs.declared.tree.Root.{Root}
use Rattle.reduction.specs.State.{nodes_in}

-- a root; one gate without a wire; or the block is not series-parallel, with the lowest gate that remains
abbrev pub Answered : Block → TreeNodes → Result (Option ℕ) NotSeriesParallel → Type 0
Answered B T (Ok (Some t)) = Rooted B (nodes_in T) t T.count
Answered B T (Ok None) = (gate_count B ≡ 1) × SeriesParallel B
Answered B T (Err e) = NotSeriesParallelAt B e.gate

-- the same of nodes in arrays that are lent, with their number
abbrev pub AnsweredIn : Block → Nodes → Result (Option Root) NotSeriesParallel → Type 0
AnsweredIn B T (Ok (Some r)) = Rooted B T r.node r.nodes
AnsweredIn B T (Ok None) = (gate_count B ≡ 1) × SeriesParallel B
AnsweredIn B T (Err e) = NotSeriesParallelAt B e.gate
