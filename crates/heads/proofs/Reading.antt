-- Nodes below the count are nodes of the tree.
-- Assumes nothing.
use mathlib.Core.Path.{◌≡◌}
use Prim.Native.Nat.{ℕ, ◌≤◌, ◌<◌}
use native.Mathlib.Omega.{arith}
use Rattle.planting.specs.Copy.{max_nodes}
use Rattle.planting.proofs.HeldNodes.{kinds_held}
use Rattle.planting.specs.declared.tree.Tree.{Tree}
use Rattle.planting.specs.TreeWords.{nodes_held, tree_nodes, NodeIn}
use Rattle.heads.specs.Plan.{node_count}

module _ (tree : Tree) where
  pub node_in : (k : ℕ) → k < node_count (tree_nodes tree) → node_count (tree_nodes tree) ≤ max_nodes → NodeIn tree k
  node_in k l f = record { node = rw (kinds_held tree) at l; few = rw (kinds_held tree) at f }

  -- below the count there are nodes, and no others
  pub node_of_all : {count i : ℕ} → count ≡ nodes_held tree → i < count → i < node_count (tree_nodes tree)
  node_of_all e l = rw (kinds_held tree, ← e) l

  pub all_nodes : {count i : ℕ} → count ≡ nodes_held tree → i ≤ count → count ≤ i → i ≡ node_count (tree_nodes tree)
  all_nodes e l m = rw (kinds_held tree, ← e) (omega arith)
