-- Heads stored, one for each gate and one for each node; and what makes them right: a node's stored head is what the stored heads just below it make.
use Rattle.std.specs.Prelude.{◌≡◌, ◌≢◌, List, map, ℕ, zero, suc, ◌+◌, ◌^◌, ◌≤◌, ◌<◌, length, get_or, set}
use Rattle.model.specs.Limits.{max_gates}
use Rattle.planting.specs.Copy.{max_nodes}
use Rattle.parts.specs.Nodes.{Nodes}
use Rattle.optimum.specs.Head.{Head, no_head, best_of, beside, Item, turn, item}
use Rattle.planting.specs.declared.tree.Tree.{Tree}
use Rattle.planting.specs.TreeWords.{tree_nodes, tree_parents}
use Rattle.ties.specs.declared.Head.{Head as Coded}
use Rattle.ties.specs.Code.{of_key, key_of}
use Rattle.heads.specs.declared.store.Heads.{Heads}
use Rattle.heads.specs.Plan.{node_count, kind, left, gate, right, parent, most_gain, Shaped}

pub record Stored : Type 0 where
  pub widths : List ℕ
  pub keys : List ℕ

abbrev pub stored : List ℕ → List ℕ → Stored
stored widths keys = record { widths = widths; keys = keys }

-- heads as stored
abbrev pub stored_in : List Coded → Stored
stored_in heads = stored (map (λ a. a.width) heads) (map (λ a. a.key) heads)

unfoldable pub gate_heads : Heads → Stored
gate_heads kept = stored_in kept.gates

unfoldable pub node_heads : Heads → Stored
node_heads kept = stored_in kept.nodes

-- there is a head for each gate and for each node
pub record AllThere (kept : Heads) : Type 0 where
  pub gates : max_gates ≤ length kept.gates
  pub nodes : max_nodes ≤ length kept.nodes

-- the head at place k
abbrev pub head_at : Stored → ℕ → Head
head_at H k = of_key (get_or H.widths k 0) (get_or H.keys k 0)

-- the head a at place k
abbrev pub put : Stored → ℕ → Head → Stored
put H k a = stored (set H.widths k a.width) (set H.keys k (key_of a))

-- place k is there in both
pub record Room (H : Stored) (k : ℕ) : Type 0 where
  pub in_widths : k < length H.widths
  pub in_keys : k < length H.keys

-- the head of a node of a kind with these heads at its left, its gate and its right
abbrev pub made : ℕ → Head → Head → Head → Head
made zero a b c = no_head
made (suc zero) a b c = best_of a b c
made (suc (suc k)) a b c = beside a c

-- the head that the stored heads just below node k make
abbrev pub head_below : Nodes → Stored → Stored → ℕ → Head
head_below N G H k = made (kind N k) (head_at H (left N k)) (head_at G (gate N k)) (head_at H (right N k))

-- The heads just below node k are at hand, and the head that they make fits.
pub record Made (N : Nodes) (G H : Stored) (k : ℕ) : Type 0 where
  pub node : k < node_count N
  pub few : node_count N ≤ max_nodes
  pub room : Room H k
  pub left_room : 0 < kind N k → Room H (left N k)
  pub gate_room : kind N k ≡ 1 → Room G (gate N k)
  pub right_room : 0 < kind N k → Room H (right N k)
  pub sum_fits : 1 < kind N k → (head_at H (left N k)).gain + (head_at H (right N k)).gain < 2 ^ 56

-- The head stored for node k is what those just below it make.
pub record Local (N : Nodes) (G H : Stored) (k : ℕ) : Type 0 where
  pub is : head_at H k ≡ head_below N G H k

-- every node but p whose head was right by those below it still is
pub record Keeps (N : Nodes) (G H G' H' : Stored) (p : ℕ) : Type 0 where
  pub still : (k : ℕ) → k < node_count N → k ≢ p → Local N G H k → Local N G' H' k

-- There is a head for every node and for the gate of every series node, whose gain is not too great.
pub record Lent (N : Nodes) (G H : Stored) : Type 0 where
  pub room : (k : ℕ) → k < node_count N → Room H k
  pub gate_room : (k : ℕ) → k < node_count N → kind N k ≡ 1 → Room G (gate N k)
  pub gate_gain : (k : ℕ) → k < node_count N → kind N k ≡ 1 → (head_at G (gate N k)).gain ≤ most_gain

-- gate g, or node k, has a head
pub record GateRoom (kept : Heads) (g : ℕ) : Type 0 where
  pub room : Room (gate_heads kept) g

pub record NodeRoom (kept : Heads) (k : ℕ) : Type 0 where
  pub room : Room (node_heads kept) k

-- A node's head has been written, and no other.
pub record NodeWritten (kept kept' : Heads) (k : ℕ) (a : Head) : Type 0 where
  pub gates : gate_heads kept' ≡ gate_heads kept
  pub nodes : node_heads kept' ≡ put (node_heads kept) k a

-- A gate's head has been written, and no other.
pub record GateWritten (kept kept' : Heads) (g : ℕ) (a : Head) : Type 0 where
  pub gates : gate_heads kept' ≡ put (gate_heads kept) g a
  pub nodes : node_heads kept' ≡ node_heads kept

-- the node that gets the ticks of node k: node k itself where its own gate gets them, or where it is no series node
abbrev pub next_by : ℕ → Item → ℕ → ℕ → ℕ → ℕ
next_by (suc zero) i l k r = item i l k r
next_by zero i l k r = k
next_by (suc (suc a)) i l k r = k

unfoldable pub next_down : Nodes → Stored → Stored → ℕ → ℕ
next_down N G H k = next_by (kind N k) (turn (head_at H (left N k)) (head_at G (gate N k)) (head_at H (right N k))) (left N k) k (right N k)

-- from node i down nested series nodes to node j, each time to the item that leads
pub data Down (N : Nodes) (G H : Stored) (i : ℕ) : ℕ → Type 0 where
  here : Down N G H i i
  further : (j : ℕ) → Down N G H i j → next_down N G H j < j → Down N G H i (next_down N G H j)

-- every node up to i can be looked at from node i down
pub record Walkable (N : Nodes) (G H : Stored) (i : ℕ) : Type 0 where
  pub made : (k : ℕ) → k ≤ i → Made N G H k
  pub left_below : (k : ℕ) → k ≤ i → 0 < kind N k → left N k < k
  pub right_below : (k : ℕ) → k ≤ i → 0 < kind N k → right N k < k

-- node j is the end of the way down from node i
pub record Ended (N : Nodes) (G H : Stored) (i j : ℕ) : Type 0 where
  pub down : Down N G H i j
  pub stays : next_down N G H j ≡ j

-- node i is reached from node j along the parents
pub data Up (parents : List ℕ) (i : ℕ) : ℕ → Type 0 where
  top : Up parents i i
  over : (j : ℕ) → j < parent parents j → Up parents i (parent parents j) → Up parents i j

-- The heads from node j along the parents up to node i can be renewed: those of all other nodes up to i are right.
pub record Renewable (N : Nodes) (parents : List ℕ) (G H : Stored) (j i : ℕ) : Type 0 where
  pub shaped : Shaped N parents
  pub lent : Lent N G H
  pub node : i < node_count N
  pub up : Up parents i j
  pub local : (k : ℕ) → k ≤ i → k ≢ j → Local N G H k

-- They have been renewed: the head of node j is right too, and every other that was still is, but for that of i's parent.
pub record Renewed (N : Nodes) (parents : List ℕ) (G H H' : Stored) (j i : ℕ) : Type 0 where
  pub lent : Lent N G H'
  pub still : (k : ℕ) → k < node_count N → k ≢ parent parents i → (k ≢ j → Local N G H k) → Local N G H' k

-- The same over a tree and the heads as stored.
pub record CanMake (tree : Tree) (kept : Heads) (k : ℕ) : Type 0 where
  pub made : Made (tree_nodes tree) (gate_heads kept) (node_heads kept) k

pub record CanWalk (tree : Tree) (kept : Heads) (i : ℕ) : Type 0 where
  pub walkable : Walkable (tree_nodes tree) (gate_heads kept) (node_heads kept) i

pub record WalkEnds (tree : Tree) (kept : Heads) (i j : ℕ) : Type 0 where
  pub ended : Ended (tree_nodes tree) (gate_heads kept) (node_heads kept) i j

pub record CanRenew (tree : Tree) (kept : Heads) (j i : ℕ) : Type 0 where
  pub renewable : Renewable (tree_nodes tree) (tree_parents tree) (gate_heads kept) (node_heads kept) j i

-- no head of a gate has been written
pub record NodesRenewed (tree : Tree) (kept kept' : Heads) (j i : ℕ) : Type 0 where
  pub gates : gate_heads kept' ≡ gate_heads kept
  pub renewed : Renewed (tree_nodes tree) (tree_parents tree) (gate_heads kept) (node_heads kept) (node_heads kept') j i
