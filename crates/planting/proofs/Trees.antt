-- A tree of parts with its wires' delays is the tree of its shape (`converted`), and a tree of a whole block that of the block (`whole_converted`).
-- Assumes nothing.
use mathlib.Core.Path.{◌≡◌, ap, ap₂, sym}
use mathlib.Core.List.{List}
use Prim.Native.Nat.{ℕ}
use Rattle.model.specs.Block.{Wire, Block, first, last}
use Rattle.parts.specs.Nodes.{Tree, leaf, chain, beside, shape_of, Weighed}
use Rattle.optimum.specs.Tree.{wire, series, parallel}
use Rattle.optimum.specs.BlockTree.{tree_of, NoneTwice, whole_tree}
use Rattle.optimum.proofs.Paths.{delay_is}
use Rattle.planting.specs.Planted.{as_tree, whole}

pub converted : (ws : List Wire) → NoneTwice ws → (a b : ℕ) (t : Tree) → Weighed ws a b t → as_tree t ≡ tree_of ws (shape_of t) a b
unfolding Weighed shape_of
converted ws n a b (leaf d) w = ap wire (sym (delay_is ws a b d n w))
converted ws n a b (chain P m Q) w = ap₂ (λ p q. series p m q) (converted ws n a m P w.0) (converted ws n m b Q w.1)
converted ws n a b (beside P Q) w = ap₂ parallel (converted ws n a b P w.0) (converted ws n a b Q w.1)

pub whole_converted : (B : Block) → NoneTwice B.wires → (t : Tree) → Weighed B.wires (first B) (last B) t
    → as_tree (whole (first B) t (last B)) ≡ whole_tree B (shape_of t)
whole_converted B n t w = ap (λ p. series (wire 0) (first B) (series p (last B) (wire 0))) (converted B.wires n (first B) (last B) t w)
