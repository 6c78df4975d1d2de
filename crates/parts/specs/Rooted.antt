-- A tree in the node arrays that is the whole block.
use Rattle.std.specs.Prelude.{◌≡◌, ◌⊎◌, ℕ, ◌≤◌, ◌<◌, length, get_or}
use Rattle.model.specs.Block.{Block, first, last}
use Rattle.model.specs.Part.{Whole}
use Rattle.parts.specs.Nodes.{Nodes, shape_of, Weighed, tree_of}

-- Node t, one of c nodes in the arrays, is the root of a tree that is the whole block, with its wires' delays. Children have smaller numbers than their parents.
pub record Rooted (B : Block) (T : Nodes) (t c : ℕ) : Type 0 where
  pub whole : Whole B (shape_of (tree_of T t))
  pub weighed : Weighed B.wires (first B) (last B) (tree_of T t)
  pub below : t < c
  pub children : (j : ℕ) → j < c → (get_or T.kinds j 0 ≡ 0) ⊎ ((get_or T.lefts j 0 < j) × (get_or T.rights j 0 < j))
  pub kinds_long : c ≤ length T.kinds
  pub lefts_long : c ≤ length T.lefts
  pub gates_long : c ≤ length T.gates
  pub rights_long : c ≤ length T.rights
