-- A tree of parts copied into arrays, an entry a node, with the number of each node's parent: the left part first, then the right, then the node itself. So each node has one parent, whatever the arrays copied from share.
use Rattle.std.specs.Prelude.{◌≡◌, ◌⊎◌, List, ℕ, ◌+◌, ◌*◌, ◌-◌, ◌^◌, ◌≤◌, ◌<◌, length, get_or, set}
use Rattle.model.specs.Limits.{max_gates, max_wires}
use Rattle.parts.specs.Nodes.{Tree, leaf, chain, beside, Nodes}

pub record Plot : Type 0 where
  pub nodes : Nodes
  pub parents : List ℕ

abbrev pub nodes_in : List ℕ → List ℕ → List ℕ → List ℕ → Nodes
nodes_in kinds lefts gates rights = record { kinds = kinds; lefts = lefts; gates = gates; rights = rights }

abbrev pub plot : List ℕ → List ℕ → List ℕ → List ℕ → List ℕ → Plot
plot kinds lefts gates rights parents = record { nodes = nodes_in kinds lefts gates rights; parents = parents }

-- the number of nodes of a tree
abbrev pub nodes_of : Tree → ℕ
nodes_of (leaf d) = 1
nodes_of (chain P m Q) = nodes_of P + nodes_of Q + 1
nodes_of (beside P Q) = nodes_of P + nodes_of Q + 1

-- node c written
abbrev pub put : ℕ → ℕ → ℕ → ℕ → ℕ → Nodes → Nodes
put c kind left gate right N =
    record { kinds = set N.kinds c kind; lefts = set N.lefts c left; gates = set N.gates c gate; rights = set N.rights c right }

abbrev pub with_leaf : ℕ → ℕ → Plot → Plot
with_leaf c d A = record { nodes = put c 0 0 d 0 A.nodes; parents = A.parents }

-- node r written, the parent of the nodes just before l and just before r
abbrev pub with_parent : ℕ → ℕ → ℕ → ℕ → Plot → Plot
with_parent kind l m r A =
    record { nodes = put r kind (l - 1) m (r - 1) A.nodes; parents = set (set A.parents (l - 1) r) (r - 1) r }

-- the tree copied to the nodes from c on
unfoldable pub copied : Tree → ℕ → Plot → Plot
copied (leaf d) c A = with_leaf c d A
copied (chain P m Q) c A =
    with_parent 1 (c + nodes_of P) m (c + nodes_of P + nodes_of Q) (copied Q (c + nodes_of P) (copied P c A))
copied (beside P Q) c A =
    with_parent 2 (c + nodes_of P) 0 (c + nodes_of P + nodes_of Q) (copied Q (c + nodes_of P) (copied P c A))

-- places of the arrays that a reduction leaves its nodes in: a leaf for each wire, and at most two nodes for each gate that goes
abbrev pub max_reduced : ℕ
max_reduced = max_wires + (max_gates + max_gates)

-- nodes of a block's tree, at most: 4n − 7 for its parts (`few_nodes`), and four for the first and the last gate
abbrev pub max_nodes : ℕ
max_nodes = 4 * max_gates

-- node i and the nodes below it stand in the arrays of a reduction, and children have smaller numbers than their parents
pub record Readable (T : Nodes) (i : ℕ) : Type 0 where
  pub below : i < max_reduced
  pub children : (j : ℕ) → j ≤ i → (get_or T.kinds j 0 ≡ 0) ⊎ ((get_or T.lefts j 0 < j) × (get_or T.rights j 0 < j))

-- the arrays have room for c nodes
pub record Room (A : Plot) (c : ℕ) : Type 0 where
  pub kind_room : c ≤ length A.nodes.kinds
  pub left_room : c ≤ length A.nodes.lefts
  pub gate_room : c ≤ length A.nodes.gates
  pub right_room : c ≤ length A.nodes.rights
  pub parent_room : c ≤ length A.parents
  pub few : c < 2 ^ 32

-- the last of c nodes gets a parent's number that no node has
abbrev pub rooted : ℕ → Plot → Plot
rooted c A = record { nodes = A.nodes; parents = set A.parents (c - 1) c }

-- the tree in the first nodes, with its top's parent; every node beyond is as in A
abbrev pub planted_in : Tree → Plot → Plot
planted_in t A = rooted (nodes_of t) (copied t 0 A)
