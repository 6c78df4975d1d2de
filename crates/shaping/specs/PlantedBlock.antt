-- What planting the tree of a block asks, and what it leaves in a tree.
use Rattle.std.specs.Prelude.{◌≡◌, Result, Ok, Err, List, ℕ, ◌≤◌, ◌<◌, length}
use Rattle.model.specs.Block.{Block}
use Rattle.model.specs.Part.{SeriesParallel}
use Rattle.model.specs.Refusal.{SoundNetwork}
use Rattle.model.specs.Answer.{NotSeriesParallelAt}
use Rattle.model.proofs.Limited.{BlockLimits}
use Rattle.parts.specs.Nodes.{Tree}
use Rattle.reduction.specs.Wired.{Wired}
use Rattle.optimum.specs.BlockTree.{block_tree}
use Rattle.planting.specs.Copy.{planted_in, max_nodes}
use Rattle.planting.specs.Planted as Planting
use Rattle.planting.specs.declared.tree.Tree.{Tree as StoredTree}
use Rattle.planting.specs.TreeWords.{plot_of, nodes_held}
use Rattle.slots.specs.declared.NotSeriesParallel.{NotSeriesParallel}

-- B is within the limits of a file, its network is sound, and its m wires stand in the arrays.
pub record Given (B : Block) (n m : ℕ) (sources targets wire_delays : List ℕ) : Type 0 where
  pub limits : BlockLimits B
  pub sound : SoundNetwork B
  pub wired : Wired B n m sources targets wire_delays

-- the arrays have a place for each of m wires
pub record WiresLong (m : ℕ) (sources targets wire_delays : List ℕ) : Type 0 where
  pub sources_long : m ≤ length sources
  pub targets_long : m ≤ length targets
  pub delays_long : m ≤ length wire_delays

-- The block is series-parallel, and its tree stands in the first c nodes of `after`, whose other nodes are as in `before`.
pub record PlantedBlock (B : Block) (c : ℕ) (before after : StoredTree) : Type 0 where
  pub fits : SeriesParallel B
  pub tree : Tree
  pub is_tree : Planting.as_tree tree ≡ block_tree B fits
  pub planted : Planting.Planted tree c (plot_of after)
  pub written : plot_of after ≡ planted_in tree (plot_of before)
  pub held : nodes_held after ≡ c
  pub some : 0 < c
  pub few : c ≤ max_nodes

-- The block's tree stands in `after`; or the block is not series-parallel, which the lowest gate that remains tells, and the tree is as before.
abbrev pub PlantedOrNot : Block → Result ℕ NotSeriesParallel → StoredTree → StoredTree → Type 0
PlantedOrNot B (Ok c) before after = PlantedBlock B c before after
PlantedOrNot B (Err e) before after = NotSeriesParallelAt B e.gate × (after ≡ before)
