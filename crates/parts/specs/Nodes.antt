-- The tree of parts, with the delay of each wire, in four arrays, an entry a node: its kind, its left child, its middle gate (of a wire: its delay), its right child. A node's children have smaller numbers than the node.
use Rattle.std.specs.Prelude.{true, false, List, ℕ, zero, suc, ltb, get_or}
use Rattle.model.specs.Block.{Wire, Stands}
use Rattle.model.specs.Part.{Shape, wire, series, parallel}

-- a shape with a delay at each wire
pub data Tree : Type 0 where
  leaf : ℕ → Tree
  chain : Tree → ℕ → Tree → Tree
  beside : Tree → Tree → Tree

unfoldable pub shape_of : Tree → Shape
shape_of (leaf d) = wire
shape_of (chain P m Q) = series (shape_of P) m (shape_of Q)
shape_of (beside P Q) = parallel (shape_of P) (shape_of Q)

-- the delays in the tree, as a part from a to b, are those of the wires ws
unfoldable pub Weighed : List Wire → ℕ → ℕ → Tree → Type 0
Weighed ws a b (leaf d) = Stands ws a b d
Weighed ws a b (chain P m Q) = Weighed ws a m P × Weighed ws m b Q
Weighed ws a b (beside P Q) = Weighed ws a b P × Weighed ws a b Q

pub record Nodes : Type 0 where
  pub kinds : List ℕ
  pub lefts : List ℕ
  pub gates : List ℕ
  pub rights : List ℕ

-- kind 0 is a wire, 1 a series node, any other a parallel node
abbrev pub node_tree : ℕ → Tree → ℕ → Tree → Tree
node_tree zero P m Q = leaf m
node_tree (suc zero) P m Q = chain P m Q
node_tree (suc (suc k)) P m Q = beside P Q

-- the trees of the nodes below n: node j's, if j is below n
unfoldable pub below : Nodes → ℕ → ℕ → Tree
below N zero j = leaf 0
below N (suc n) j =
    elim (ltb j n) [
      | true ↦ below N n j
      | false ↦ node_tree (get_or N.kinds n 0) (below N n (get_or N.lefts n 0)) (get_or N.gates n 0) (below N n (get_or N.rights n 0))
    ]

-- the tree whose root is node i
unfoldable pub tree_of : Nodes → ℕ → Tree
tree_of N i = below N (suc i) i
