-- The tree of parts, with the number of each node's parent, and the heads that the gates have by their steps. Nothing of it changes while ticks are handed out.
use Rattle.std.specs.Prelude.{◌≡◌, cond, List, ℕ, ◌+◌, ◌*◌, ◌^◌, ◌≤◌, ◌<◌, ltb, eqb, length, get_or}
use Rattle.lists.specs.Over.{build}
use Rattle.model.specs.Limits.{max_gates, max_wires, max_steps, max_activity, max_drop}
use Rattle.model.specs.Block.{Step}
use Rattle.model.specs.Gain.{drop_of}
use Rattle.model.specs.Arrays.{step_at}
use Rattle.parts.specs.Nodes.{Nodes, tree_of}
use Rattle.planting.specs.Copy.{max_nodes}
use Rattle.planting.specs.Planted.{as_tree}
use Rattle.planting.specs.declared.tree.Tree.{Tree as StoredTree}
use Rattle.planting.specs.TreeWords.{tree_nodes, tree_parents}
use Rattle.optimum.specs.Tree.{Tree, Once, Below, size}
use Rattle.optimum.specs.Head.{Head, Heads, no_head, rank}
use Rattle.optimum.specs.Gates.{room}
use Rattle.blockwords.specs.BlockWords.{gates_held, counts_of, widths_of, drops_of, inputs_of}

-- the part whose top is node k
abbrev pub part : Nodes → ℕ → Tree
part N k = as_tree (tree_of N k)

abbrev pub node_count : Nodes → ℕ
node_count N = length N.kinds

abbrev pub kind : Nodes → ℕ → ℕ
kind N k = get_or N.kinds k 0

abbrev pub left : Nodes → ℕ → ℕ
left N k = get_or N.lefts k 0

abbrev pub gate : Nodes → ℕ → ℕ
gate N k = get_or N.gates k 0

abbrev pub right : Nodes → ℕ → ℕ
right N k = get_or N.rights k 0

abbrev pub parent : List ℕ → ℕ → ℕ
parent parents k = get_or parents k 0

-- gates of a block here, at most: one more than a file's
abbrev pub most_gates : ℕ
most_gates = max_gates + 1

-- input activity of a gate, at most: every wire leads to it
abbrev pub most_input : ℕ
most_input = max_wires * max_activity

-- gain of a gate's tick, at most
abbrev pub most_gain : ℕ
most_gain = most_input * max_drop

-- Children have smaller numbers than their parent, whose number stands in `parents`; a gate stands at one series node, and once in a part. No more nodes than a block's tree can have.
pub record Shaped (N : Nodes) (parents : List ℕ) : Type 0 where
  pub few_nodes : node_count N ≤ max_nodes
  pub left_below : (k : ℕ) → k < node_count N → 0 < kind N k → left N k < k
  pub right_below : (k : ℕ) → k < node_count N → 0 < kind N k → right N k < k
  pub left_parent : (k : ℕ) → k < node_count N → 0 < kind N k → parent parents (left N k) ≡ k
  pub right_parent : (k : ℕ) → k < node_count N → 0 < kind N k → parent parents (right N k) ≡ k
  pub own_gate : (j k : ℕ) → j < node_count N → k < node_count N → kind N j ≡ 1 → kind N k ≡ 1 → gate N j ≡ gate N k → j ≡ k
  pub once : (k : ℕ) → k < node_count N → Once (part N k)
  pub few : (k : ℕ) → k < node_count N → size (part N k) ≤ most_gates

-- the head of a gate of rank r and input activity a at a tick with this drop, `width` ticks before the end of its step
unfoldable pub step_head : ℕ → ℕ → ℕ → ℕ → Head
step_head r a width drop = cond (eqb (drop * a) 0) no_head (record { width = width; gain = drop * a; rank = r })

-- the steps of gate g
abbrev pub steps_in : List ℕ → List ℕ → List ℕ → ℕ → List Step
steps_in counts step_widths drops g = build (get_or counts g 0) (step_at step_widths drops g)

-- the heads of the n gates whose steps and input activities the arrays hold
unfoldable pub heads_in : ℕ → List ℕ → List ℕ → List ℕ → List ℕ → ℕ → ℕ → Head
heads_in n counts step_widths drops inputs g k =
    let ss = steps_in counts step_widths drops g in
    cond (ltb g n) (step_head (rank n g) (get_or inputs g 0) (room ss k) (drop_of ss k)) no_head

-- The arrays hold at most so many steps of each of n gates, with drops and input activities that are not too great.
pub record StepsLent (n : ℕ) (counts step_widths drops inputs : List ℕ) : Type 0 where
  pub gates : n ≤ max_gates
  pub few : (g : ℕ) → g < n → get_or counts g 0 ≤ max_steps
  pub drop_small : (g j : ℕ) → g < n → j < get_or counts g 0 → get_or drops (g * max_steps + j) 0 ≤ max_drop
  pub input_small : (g : ℕ) → g < n → get_or inputs g 0 ≤ most_input

-- the heads of a block's gates
abbrev pub heads_of : List ℕ → ℕ → ℕ → Head
heads_of block = heads_in (gates_held block) (counts_of block) (widths_of block) (drops_of block) (inputs_of block)

-- the words of a block hold such steps
abbrev pub StepsHeld : List ℕ → Type 0
StepsHeld block = StepsLent (gates_held block) (counts_of block) (widths_of block) (drops_of block) (inputs_of block)

-- What stands while ticks are handed out: n gates, the tree, and the gates' heads.
pub record Plan : Type 0 where
  pub gate_count : ℕ
  pub nodes : Nodes
  pub parents : List ℕ
  pub heads : ℕ → ℕ → Head

-- the plan in the words of a block and in a tree
abbrev pub plan : List ℕ → StoredTree → Plan
plan block tree =
    record {
      gate_count = gates_held block;
      nodes = tree_nodes tree;
      parents = tree_parents tree;
      heads = heads_of block;
    }

-- The tree is one of gates below n; the heads are those of gates, no gain is too great, and no width leads too far.
pub record Sound (P : Plan) : Type 0 where
  pub shaped : Shaped P.nodes P.parents
  pub below : (k : ℕ) → k < node_count P.nodes → Below P.gate_count (part P.nodes k)
  pub heads : Heads P.gate_count P.heads
  pub small : (g k : ℕ) → (P.heads g k).gain ≤ most_gain
  pub near : (g k : ℕ) → 0 < (P.heads g k).gain → k + (P.heads g k).width < 2 ^ 32
