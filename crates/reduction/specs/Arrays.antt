-- The reduction's state in arrays: for each slot whether it is live (1), its two gates and a node of the tree; and the node arrays. What a step changes in them.
use Rattle.std.specs.Prelude.{◌≡◌, ◌⊎◌, Bool, true, false, List, ℕ, ◌+◌, ◌≤◌, ◌<◌, eqb, ltb, length, get_or, set}
use Rattle.model.specs.Block.{Wire}
use Rattle.parts.specs.Slots.{Slot, empty}
use Rattle.parts.specs.Nodes.{Nodes, shape_of, Weighed, tree_of}
use Rattle.slots.specs.Sought.{Leads}

pub record Arrays : Type 0 where
  pub lives : List ℕ
  pub froms : List ℕ
  pub tos : List ℕ
  pub tops : List ℕ
  pub tree : Nodes

abbrev pub arrays : List ℕ → List ℕ → List ℕ → List ℕ → List ℕ → List ℕ → List ℕ → List ℕ → Arrays
arrays lives froms tos tops kinds lefts gates rights =
    record {
      lives = lives;
      froms = froms;
      tos = tos;
      tops = tops;
      tree = record { kinds = kinds; lefts = lefts; gates = gates; rights = rights };
    }

abbrev pub held_at : Bool → Arrays → ℕ → Slot
held_at true A i =
    record {
      live = eqb (get_or A.lives i 0) 1;
      source = get_or A.froms i 0;
      target = get_or A.tos i 0;
      shape = shape_of (tree_of A.tree (get_or A.tops i 0));
    }
held_at false A i = empty

-- the k slots that the arrays hold
unfoldable pub held : ℕ → Arrays → ℕ → Slot
held k A i = held_at (ltb i k) A i

-- k slots and c nodes stand in the arrays, with the delays of the wires ws.
pub record Formed (ws : List Wire) (k c : ℕ) (A : Arrays) : Type 0 where
  pub tops_below : (i : ℕ) → i < k → get_or A.tops i 0 < c
  pub children : (j : ℕ) → j < c → (get_or A.tree.kinds j 0 ≡ 0) ⊎ ((get_or A.tree.lefts j 0 < j) × (get_or A.tree.rights j 0 < j))
  pub weighed : (i : ℕ) → i < k → get_or A.lives i 0 ≡ 1 → Weighed ws (get_or A.froms i 0) (get_or A.tos i 0) (tree_of A.tree (get_or A.tops i 0))

-- the arrays have room for k slots and c nodes
pub record Room (k c : ℕ) (A : Arrays) : Type 0 where
  pub live_room : k ≤ length A.lives
  pub from_room : k ≤ length A.froms
  pub to_room : k ≤ length A.tos
  pub top_room : k ≤ length A.tops
  pub kind_room : c ≤ length A.tree.kinds
  pub left_room : c ≤ length A.tree.lefts
  pub gate_room : c ≤ length A.tree.gates
  pub right_room : c ≤ length A.tree.rights

-- Of k slots, i is the only one that leads to gate m, and j the only one that leads from it.
pub record Chosen (k : ℕ) (A : Arrays) (m i j : ℕ) : Type 0 where
  pub in_slot : i < k
  pub in_live : get_or A.lives i 0 ≡ 1
  pub in_to : get_or A.tos i 0 ≡ m
  pub in_only : (q : ℕ) → q < k → get_or A.lives q 0 ≡ 1 → get_or A.tos q 0 ≡ m → q ≡ i
  pub out_slot : j < k
  pub out_live : get_or A.lives j 0 ≡ 1
  pub out_from : get_or A.froms j 0 ≡ m
  pub out_only : (q : ℕ) → q < k → get_or A.lives q 0 ≡ 1 → get_or A.froms q 0 ≡ m → q ≡ j

-- node c added
abbrev pub add_node : ℕ → ℕ → ℕ → ℕ → ℕ → Nodes → Nodes
add_node c kind left gate right N =
    record { kinds = set N.kinds c kind; lefts = set N.lefts c left; gates = set N.gates c gate; rights = set N.rights c right }

-- the series node of slots i and j through gate m
abbrev pub add_series : ℕ → ℕ → ℕ → ℕ → Arrays → Nodes
add_series c m i j A = add_node c 1 (get_or A.tops i 0) m (get_or A.tops j 0) A.tree

-- Gate m goes: slots i and j become one in i's place, of node c.
unfoldable pub joined : ℕ → ℕ → ℕ → ℕ → Arrays → Arrays
joined c m i j A =
    record {
      lives = set A.lives j 0;
      froms = A.froms;
      tos = set A.tos i (get_or A.tos j 0);
      tops = set A.tops i c;
      tree = add_series c m i j A;
    }

-- Gate m goes: slot l takes up slots i and j, of nodes c and, in parallel with its own, c + 1.
unfoldable pub taken_up : ℕ → ℕ → ℕ → ℕ → ℕ → Arrays → Arrays
taken_up c m i j l A =
    record {
      lives = set (set A.lives i 0) j 0;
      froms = A.froms;
      tos = A.tos;
      tops = set A.tops l (c + 1);
      tree = add_node (c + 1) 2 (get_or A.tops l 0) 0 c (add_series c m i j A);
    }

-- Gate m has gone, from the arrays A with c nodes to the arrays B with r nodes.
pub data Went (k c m i j : ℕ) (A B : Arrays) (r : ℕ) : Type 0 where
  by_joining :
      ((q : ℕ) → q < k → ¬ (Leads A.lives A.froms A.tos (get_or A.froms i 0) (get_or A.tos j 0) q))
      → B ≡ joined c m i j A
      → r ≡ c + 1
      → Went k c m i j A B r
  by_taking_up :
      (l : ℕ)
      → l < k
      → Leads A.lives A.froms A.tos (get_or A.froms i 0) (get_or A.tos j 0) l
      → B ≡ taken_up c m i j l A
      → r ≡ c + 2
      → Went k c m i j A B r
