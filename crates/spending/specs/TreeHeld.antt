-- A series-parallel block with its tree: what sizing it asks, and what is found.
use Rattle.std.specs.Prelude.{◌≡◌, List, map, ℕ, ◌-◌, ◌*◌, ◌^◌, ◌≤◌, ◌<◌, length, get_or}
use Rattle.lists.specs.Sum.{sum}
use Rattle.lists.specs.Over.{over}
use Rattle.model.specs.Limits.{max_gates, max_steps}
use Rattle.model.specs.Block.{Block}
use Rattle.model.specs.Part.{SeriesParallel}
use Rattle.model.specs.Gain.{saving}
use Rattle.model.specs.Curve.{Pair}
use Rattle.model.specs.Refusal.{SoundNetwork}
use Rattle.model.proofs.Limited.{BlockLimits}
use Rattle.gains.specs.Savings.{ListSaving, most_of_gate}
use Rattle.parts.specs.Nodes.{Nodes}
use Rattle.planting.specs.declared.tree.Tree.{Tree}
use Rattle.planting.specs.TreeWords.{tree_nodes, tree_parents}
use Rattle.optimum.specs.Tree.{Below, zeros, longest}
use Rattle.optimum.specs.BlockTree.{block_tree, start_of, increases, pairs_of}
use Rattle.heads.specs.Plan.{Plan, node_count, part, parent, heads_in, Shaped}
use Rattle.sizing.specs.Raise.{root, delays_in}
use Rattle.sizing.specs.Pairs.{Spent}
use Rattle.sizing.proofs.Blocks.{Held}
use Rattle.spending.specs.declared.tree.TreeCurve.{TreeCurve}
use Rattle.spending.specs.declared.tree.PlantedSteps.{PlantedSteps}

-- What stands while ticks are handed out: the tree's nodes with their parents, the gates' steps, input activities and delays.
pub record TreeArrays : Type 0 where
  pub nodes : Nodes
  pub parents : List ℕ
  pub counts : List ℕ
  pub step_widths : List ℕ
  pub drops : List ℕ
  pub inputs : List ℕ
  pub delays : List ℕ

abbrev pub tree_arrays : Tree → List ℕ → List ℕ → List ℕ → List ℕ → List ℕ → TreeArrays
tree_arrays tree counts step_widths drops inputs delays =
    record {
      nodes = tree_nodes tree;
      parents = tree_parents tree;
      counts = counts;
      step_widths = step_widths;
      drops = drops;
      inputs = inputs;
      delays = delays;
    }

-- the same of what is lent together
abbrev pub arrays_lent : PlantedSteps → TreeArrays
arrays_lent s = tree_arrays s.tree.now s.counts.now s.step_widths.now s.drops.now s.inputs.now s.delays.now

-- The block B of n gates, within the limits of a file, with its tree, is in the arrays.
pub record TreeHeld (B : Block) (n : ℕ) (A : TreeArrays) : Type 0 where
  pub limits : BlockLimits B
  pub sound : SoundNetwork B
  pub fits : SeriesParallel B
  pub top : part A.nodes (node_count A.nodes - 1) ≡ block_tree B fits
  pub short : start_of B (block_tree B fits) < 2 ^ 32
  pub activities : List ℕ
  pub held : Held B n A.delays activities A.counts A.step_widths A.drops A.inputs
  pub shaped : Shaped A.nodes A.parents
  pub below : (k : ℕ) → k < node_count A.nodes → Below n (part A.nodes k)
  pub above : (k : ℕ) → k < node_count A.nodes → k < parent A.parents k
  pub lasts : (k : ℕ) → k < node_count A.nodes → longest (delays_in A.delays) (part A.nodes k) (zeros (part A.nodes k)) ≤ start_of B (block_tree B fits)
  pub some_node : 0 < node_count A.nodes
  pub counts_long : n ≤ length A.counts
  pub widths_long : n * max_steps ≤ length A.step_widths
  pub drops_long : n * max_steps ≤ length A.drops
  pub inputs_long : n ≤ length A.inputs

-- the plan of the tree and the gates' heads
abbrev pub tree_plan : ℕ → TreeArrays → Plan
tree_plan n A = record { gate_count = n; nodes = A.nodes; parents = A.parents; heads = heads_in n A.counts A.step_widths A.drops A.inputs }

-- The ticks have been spent from the raised start on, on at most as many runs as there are steps: what the increases at start save, and the pairs of the curve of the runs.
pub record RunsFound (B : Block) (fits : SeriesParallel B) (n : ℕ) (A : TreeArrays) (ticks : ℕ) (after ws gs ws' gs' : List ℕ) (r : TreeCurve) : Type 0 where
  pub start : List ℕ
  pub at_start : start ≡ increases B (block_tree B fits) 0
  pub saves : ListSaving n A.counts A.step_widths A.drops A.inputs start r.saving
  pub spent : Spent (tree_plan n A) start after (root (tree_plan n A)) ticks (sum n (λ (g : ℕ). get_or A.counts g 0)) r.pairs ws gs ws' gs'

-- The saving at start, and the pairs of the block's curve in front of the two slices.
pub record CurveFound (B : Block) (fits : SeriesParallel B) (ws gs ws' gs' : List ℕ) (r : TreeCurve) : Type 0 where
  pub saved : r.saving ≡ saving B (increases B (block_tree B fits) 0)
  pub small : r.saving ≤ max_gates * most_of_gate
  pub count : r.pairs ≡ length (pairs_of B (block_tree B fits))
  pub widths : ws' ≡ over (map (λ (p : Pair). p.width) (pairs_of B (block_tree B fits))) ws
  pub gains : gs' ≡ over (map (λ (p : Pair). p.gain) (pairs_of B (block_tree B fits))) gs

-- The increases after so many ticks from the raised start, and what they save.
pub record IncreasesFound (B : Block) (fits : SeriesParallel B) (ticks : ℕ) (after : List ℕ) (r : ℕ) : Type 0 where
  pub list : after ≡ increases B (block_tree B fits) ticks
  pub saved : r ≡ saving B after
