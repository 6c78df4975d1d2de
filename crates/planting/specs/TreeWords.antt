-- A tree as it is stored: how many nodes it has, and the nodes, each with what it is and its parent. What it holds as arrays, an entry a node: its kind, its left child, its gate (of a wire: its delay), its right child, its parent.
use Rattle.std.specs.Prelude.{◌≡◌, List, map, ℕ, ◌-◌, ◌≤◌, ◌<◌, get_or, set}
use Rattle.lists.specs.Over.{build}
use Rattle.parts.specs.Nodes.{Nodes}
use Rattle.planting.specs.Copy.{Plot, nodes_in, plot, put, max_nodes}
use Rattle.planting.specs.declared.tree.Kind.{Kind}
use Rattle.planting.specs.declared.tree.Kind.TheVariants.{Wire, Series, Parallel}
use Rattle.planting.specs.declared.tree.Node.{Node}
use Rattle.planting.specs.declared.tree.Tree.{Tree}

-- a kind in numbers: 0 is a wire, 1 a series node, 2 a parallel node
abbrev pub number_of : Kind → ℕ
number_of (Wire d) = 0
number_of (Series l g r) = 1
number_of (Parallel l r) = 2

abbrev pub left_of : Kind → ℕ
left_of (Wire d) = 0
left_of (Series l g r) = l
left_of (Parallel l r) = l

abbrev pub gate_of : Kind → ℕ
gate_of (Wire d) = d
gate_of (Series l g r) = g
gate_of (Parallel l r) = 0

abbrev pub right_of : Kind → ℕ
right_of (Wire d) = 0
right_of (Series l g r) = r
right_of (Parallel l r) = r

-- a node that is not there
abbrev pub no_node : Node
no_node = record { kind = Wire 0; parent = 0 }

-- the arrays that all nodes hold, however many the tree has
unfoldable pub plot_of : Tree → Plot
plot_of tree =
    plot (map (λ n. number_of n.kind) tree.nodes) (map (λ n. left_of n.kind) tree.nodes) (map (λ n. gate_of n.kind) tree.nodes)
    (map (λ n. right_of n.kind) tree.nodes) (map (λ n. n.parent) tree.nodes)

-- how many nodes the tree has
abbrev pub nodes_held : Tree → ℕ
nodes_held tree = tree.count

-- one number of each node that the tree has
unfoldable pub column : (Node → ℕ) → Tree → List ℕ
column f tree = build (nodes_held tree) (λ (k : ℕ). f (get_or tree.nodes k no_node))

-- the nodes that the tree has
unfoldable pub tree_nodes : Tree → Nodes
tree_nodes tree =
    nodes_in (column (λ n. number_of n.kind) tree) (column (λ n. left_of n.kind) tree) (column (λ n. gate_of n.kind) tree)
    (column (λ n. right_of n.kind) tree)

-- their parents
unfoldable pub tree_parents : Tree → List ℕ
tree_parents tree = column (λ n. n.parent) tree

-- node k is one of the tree, which has no more nodes than a block's tree can have
pub record NodeIn (tree : Tree) (k : ℕ) : Type 0 where
  pub node : k < nodes_held tree
  pub few : nodes_held tree ≤ max_nodes

-- node k is of this kind
pub record KindIs (N : Nodes) (k : ℕ) (kind : Kind) : Type 0 where
  pub number : number_of kind ≡ get_or N.kinds k 0
  pub left : left_of kind ≡ get_or N.lefts k 0
  pub gate : gate_of kind ≡ get_or N.gates k 0
  pub right : right_of kind ≡ get_or N.rights k 0

-- node c is of this kind
abbrev pub kind_put : ℕ → Kind → Nodes → Nodes
kind_put c kind N = put c (number_of kind) (left_of kind) (gate_of kind) (right_of kind) N

-- node r is of this kind, the parent of the nodes just before l and just before r
abbrev pub above_put : ℕ → Kind → ℕ → Plot → Plot
above_put l kind r A = record { nodes = kind_put r kind A.nodes; parents = set (set A.parents (l - 1) r) (r - 1) r }
