-- What the arrays hold once a tree of parts is planted: each node once, with its parent, and each gate at one node; and the tree of a whole block.
use Rattle.std.specs.Prelude.{◌≡◌, ℕ, ◌-◌, ◌≤◌, ◌<◌, get_or}
use Rattle.parts.specs.Nodes.{leaf, chain, beside, Nodes, tree_of, Tree as NodeTree}
use Rattle.optimum.specs.Tree.{Tree, wire, series, parallel, count, Once, size, zeros, longest}
use Rattle.planting.specs.Copy.{Plot}

-- the tree of a node as a tree of parts
abbrev pub as_tree : NodeTree → Tree
as_tree (leaf d) = wire d
as_tree (chain P m Q) = series (as_tree P) m (as_tree Q)
as_tree (beside P Q) = parallel (as_tree P) (as_tree Q)

-- the part whose top is node k
abbrev pub part : Nodes → ℕ → Tree
part N k = as_tree (tree_of N k)

abbrev pub kind : Nodes → ℕ → ℕ
kind N k = get_or N.kinds k 0

abbrev pub left : Nodes → ℕ → ℕ
left N k = get_or N.lefts k 0

abbrev pub gate : Nodes → ℕ → ℕ
gate N k = get_or N.gates k 0

abbrev pub right : Nodes → ℕ → ℕ
right N k = get_or N.rights k 0

abbrev pub parent : Plot → ℕ → ℕ
parent A k = get_or A.parents k 0

-- The gates of s are gates of t, and s lasts no longer.
pub record Inside (s t : Tree) : Type 0 where
  pub counts : (g : ℕ) → count s g ≤ count t g
  pub sizes : size s ≤ size t
  pub lasts : (d : ℕ → ℕ) → longest d s (zeros s) ≤ longest d t (zeros t)

-- The arrays' first c nodes are the tree t, whose top is the last of them. Children have smaller numbers than their parent, whose number stands in `parents`; every node's parent has a greater number, the top's one that no node has. Where no gate stands twice in t, a gate stands at one series node.
pub record Planted (t : NodeTree) (c : ℕ) (A : Plot) : Type 0 where
  pub top : tree_of A.nodes (c - 1) ≡ t
  pub top_parent : parent A (c - 1) ≡ c
  pub above : (k : ℕ) → k < c → k < parent A k
  pub left_below : (k : ℕ) → k < c → 0 < kind A.nodes k → left A.nodes k < k
  pub right_below : (k : ℕ) → k < c → 0 < kind A.nodes k → right A.nodes k < k
  pub left_parent : (k : ℕ) → k < c → 0 < kind A.nodes k → parent A (left A.nodes k) ≡ k
  pub right_parent : (k : ℕ) → k < c → 0 < kind A.nodes k → parent A (right A.nodes k) ≡ k
  pub own_gate : Once (as_tree t) → (j k : ℕ) → j < c → k < c → kind A.nodes j ≡ 1 → kind A.nodes k ≡ 1 → gate A.nodes j ≡ gate A.nodes k
      → j ≡ k
  pub inside : (k : ℕ) → k < c → Inside (part A.nodes k) (as_tree t)

-- a part with a first and a last gate around it, with ends that take no time
abbrev pub whole : ℕ → NodeTree → ℕ → NodeTree
whole first t last = chain (leaf 0) first (chain t last (leaf 0))

-- one gate alone
abbrev pub lone : ℕ → NodeTree
lone g = chain (leaf 0) g (leaf 0)
