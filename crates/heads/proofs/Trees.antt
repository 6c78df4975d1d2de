-- The part of a node by the node's kind: a wire, its children in series through its gate, or its children in parallel.
-- Assumes nothing.
use mathlib.Core.Path.{◌≡◌, ◌∙◌, ap}
use Prim.Native.Nat.{ℕ, zero, suc, ◌-◌, ◌<◌}
use native.Mathlib.Omega.{arith}
use Rattle.parts.specs.Nodes.{Nodes, node_tree, tree_of}
use Rattle.parts.proofs.Nodes.{tree_at, tree_wire}
use Rattle.optimum.specs.Tree.{wire, series, parallel}
use Rattle.planting.specs.Planted.{as_tree}
use Rattle.heads.specs.Plan.{part, kind, left, gate, right}

-- a statement about a kind, by the three kinds
pub by_kind : {C : Type 0} (a : ℕ) → (a ≡ 0 → C) → (a ≡ 1 → C) → (1 < a → C) → C
by_kind zero on_wire on_series on_parallel = on_wire (omega arith)
by_kind (suc zero) on_wire on_series on_parallel = on_series (omega arith)
by_kind (suc (suc a)) on_wire on_series on_parallel = on_parallel (omega arith)

pub part_wire : (N : Nodes) (k : ℕ) → kind N k ≡ 0 → part N k ≡ wire (gate N k)
part_wire N k e = ap as_tree (tree_wire N k e)

module _ (N : Nodes) (k : ℕ) (l : left N k < k) (r : right N k < k) where
  of_kind : (a : ℕ) → kind N k ≡ a → part N k ≡ as_tree (node_tree a (tree_of N (left N k)) (gate N k) (tree_of N (right N k)))
  of_kind a e =
      ap as_tree (tree_at N k l r ∙ ap (λ (b : ℕ). node_tree b (tree_of N (left N k)) (gate N k) (tree_of N (right N k))) e)

  pub part_series : kind N k ≡ 1 → part N k ≡ series (part N (left N k)) (gate N k) (part N (right N k))
  part_series e = of_kind 1 e

  pub part_parallel : 1 < kind N k → part N k ≡ parallel (part N (left N k)) (part N (right N k))
  part_parallel e = of_kind (suc (suc (kind N k - 2))) (omega arith)
