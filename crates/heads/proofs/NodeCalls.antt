-- What a node's head asks of the stored heads, and what stands below it.
-- Assumes nothing.
use mathlib.Core.Path.{◌≡◌, sym}
use Prim.Native.Nat.{ℕ, ◌<◌}
use native.Mathlib.Omega.{arith}
use Rattle.optimum.specs.Head.{Head}
use Rattle.planting.specs.declared.tree.Tree.{Tree}
use Rattle.planting.specs.TreeWords.{tree_nodes, NodeIn}
use Rattle.heads.specs.Plan.{kind, left, gate, right}
use Rattle.heads.specs.declared.store.Heads.{Heads}
use Rattle.heads.specs.Stored.{GateRoom, NodeRoom, CanMake, NodeWritten, gate_heads, node_heads, head_below}
use Rattle.heads.proofs.Reading.{node_in}

module _ {tree : Tree} {kept : Heads} {i : ℕ} (can : CanMake tree kept i) where
  pub here : NodeIn tree i
  here = node_in tree i can.made.node can.made.few

  pub own_room : NodeRoom kept i
  own_room = record { room = can.made.room }

  module _ {t : ℕ} (e : t ≡ kind (tree_nodes tree) i) (inner : 0 < t) where
    pub left_room : {l : ℕ} → l ≡ left (tree_nodes tree) i → NodeRoom kept l
    left_room el = record { room = rw el (can.made.left_room (omega arith)) }

    pub right_room : {r : ℕ} → r ≡ right (tree_nodes tree) i → NodeRoom kept r
    right_room er = record { room = rw er (can.made.right_room (omega arith)) }

  pub gate_room : {g : ℕ} → 1 ≡ kind (tree_nodes tree) i → g ≡ gate (tree_nodes tree) i → GateRoom kept g
  gate_room e eg = record { room = rw eg (can.made.gate_room (sym e)) }

  pub head_stored : {kept' : Heads} {a : Head} → NodeWritten kept kept' i a → a ≡ head_below (tree_nodes tree) (gate_heads kept) (node_heads kept) i
      → NodeWritten kept kept' i (head_below (tree_nodes tree) (gate_heads kept) (node_heads kept) i)
  head_stored w e = rw (← e) w
