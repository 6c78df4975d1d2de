-- A planted tree of a block is what sizing asks for: no gate stands twice in a part, each gate stands at one series node, the gates are the block's and a part has no more of them.
-- Assumes nothing.
use mathlib.Core.Path.{◌≡◌}
use Prim.Native.Nat.{ℕ, ◌≤◌, ◌<◌}
use native.Mathlib.Omega.{arith}
use Rattle.model.specs.Block.{Block, gate_count}
use Rattle.parts.specs.Nodes.{Tree}
use Rattle.optimum.specs.Tree.{Once, Below, size}
use Rattle.optimum.specs.BlockTree.{IsTree}
use Rattle.optimum.proofs.Range.{tree_size}
use Rattle.planting.specs.Copy.{Plot}
use Rattle.planting.specs.Planted.{as_tree, part, kind, gate, Planted}

module _ (B : Block) {t : Tree} (tree : IsTree B (as_tree t)) {c : ℕ} {A : Plot} (p : Planted t c A) where
  pub own_gate : (j k : ℕ) → j < c → k < c → kind A.nodes j ≡ 1 → kind A.nodes k ≡ 1 → gate A.nodes j ≡ gate A.nodes k → j ≡ k
  own_gate = p.own_gate tree.once

  pub once : (k : ℕ) → k < c → Once (part A.nodes k)
  once k h g = omega (arith, (p.inside k h).counts g, tree.once g)

  pub below : (k : ℕ) → k < c → Below (gate_count B) (part A.nodes k)
  below k h g l = tree.below g (omega (arith, (p.inside k h).counts g))

  pub few : (k : ℕ) → k < c → size (part A.nodes k) ≤ gate_count B
  few k h = omega (arith, (p.inside k h).sizes, tree_size B (as_tree t) tree)
