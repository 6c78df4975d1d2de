-- Raising the short sides of parallel nodes, inside out, in rising order of the nodes.
use Rattle.std.specs.Prelude.{◌≡◌, List, ℕ, ◌+◌, ◌-◌, ◌^◌, ◌≤◌, ◌<◌, length, get_or, replicate}
use Rattle.parts.specs.Nodes.{Nodes}
use Rattle.planting.specs.Copy.{max_nodes}
use Rattle.optimum.specs.Tree.{count, zeros, longest}
use Rattle.optimum.specs.Handout.{raise}
use Rattle.optimum.specs.Increases.{read, raise_list}
use Rattle.heads.specs.Plan.{Plan, Sound, node_count, part, kind, left, gate, right, parent}
use Rattle.heads.specs.Stored.{Room, Local, Lent}
use Rattle.handout.specs.State.{State, Fresh}

-- the part of the last node, the whole
abbrev pub root : Plan → ℕ
root P = node_count P.nodes - 1

-- `lengths` holds how long the part of each node below k lasts with no increase
pub record Lengths (N : Nodes) (d : ℕ → ℕ) (lengths : List ℕ) (k : ℕ) : Type 0 where
  pub right : (j : ℕ) → j < k → get_or lengths j 0 ≡ longest d (part N j) (zeros (part N j))

-- the delays that an array holds
abbrev pub delays_in : List ℕ → ℕ → ℕ
delays_in delays g = get_or delays g 0

-- The lengths of all nodes can be computed: children have smaller numbers, there is a place for each node and each gate, and no length is too great.
pub record Measurable (N : Nodes) (delays lengths : List ℕ) : Type 0 where
  pub left_below : (k : ℕ) → k < node_count N → 0 < kind N k → left N k < k
  pub right_below : (k : ℕ) → k < node_count N → 0 < kind N k → right N k < k
  pub few_nodes : node_count N ≤ max_nodes
  pub lengths_long : node_count N ≤ length lengths
  pub gate_in : (k : ℕ) → k < node_count N → kind N k ≡ 1 → gate N k < length delays
  pub short : (k : ℕ) → k < node_count N → longest (delays_in delays) (part N k) (zeros (part N k)) < 2 ^ 32

-- The heads of the gates and of the nodes below i are right, and every parent has a greater number than its child.
pub record Standing (P : Plan) (S : State) (i : ℕ) : Type 0 where
  pub sound : Sound P
  pub above : (k : ℕ) → k < node_count P.nodes → k < parent P.parents k
  pub lent : Lent P.nodes S.gates S.nodes
  pub fresh : Fresh P S
  pub local : (k : ℕ) → k < i → Local P.nodes S.gates S.nodes k

-- The parts of the nodes below i whose parents are still to come are raised, and the gates of the nodes from i on have no increase.
pub record Lifted (P : Plan) (d : ℕ → ℕ) (x : List ℕ) (i : ℕ) : Type 0 where
  pub raised : (k : ℕ) → k < i → k < node_count P.nodes → i ≤ parent P.parents k → read (part P.nodes k) x ≡ raise d P.heads (part P.nodes k)
  pub waiting : (k : ℕ) → i ≤ k → k < node_count P.nodes → kind P.nodes k ≡ 1 → get_or x (gate P.nodes k) 0 ≡ 0

-- Node i is raised too, whatever the delays, if `lengths` holds the lengths under them.
pub record Levelled (P : Plan) (lengths x x' : List ℕ) (i : ℕ) : Type 0 where
  pub by_lengths : (d : ℕ → ℕ) → Lengths P.nodes d lengths (node_count P.nodes) → Lifted P d x i → Lifted P d x' (i + 1)

-- From no increase, with every gate in the whole, the parts can be raised.
pub record Raisable (P : Plan) (S : State) : Type 0 where
  pub sound : Sound P
  pub above : (k : ℕ) → k < node_count P.nodes → k < parent P.parents k
  pub some_node : 0 < node_count P.nodes
  pub whole : (g : ℕ) → g < P.gate_count → 0 < count (part P.nodes (root P)) g
  pub lent : Lent P.nodes S.gates S.nodes
  pub fresh : Fresh P S
  pub one_each : length S.increases ≡ P.gate_count
  pub no_increase : (g : ℕ) → g < P.gate_count → get_or S.increases g 0 ≡ 0

-- The increases are those of the raised start, and the heads of all nodes are right.
pub record Raised (P : Plan) (d : ℕ → ℕ) (S : State) : Type 0 where
  pub increases : S.increases ≡ raise_list d P.heads (part P.nodes (root P)) (replicate P.gate_count 0)
  pub lent : Lent P.nodes S.gates S.nodes
  pub fresh : Fresh P S
  pub local : (k : ℕ) → k < node_count P.nodes → Local P.nodes S.gates S.nodes k

-- The plan is sound, every gate stands in the whole, and the arrays have room for all gates and nodes.
pub record Sizable (P : Plan) (S : State) : Type 0 where
  pub sound : Sound P
  pub above : (k : ℕ) → k < node_count P.nodes → k < parent P.parents k
  pub some_node : 0 < node_count P.nodes
  pub whole : (g : ℕ) → g < P.gate_count → 0 < count (part P.nodes (root P)) g
  pub room : (k : ℕ) → k < node_count P.nodes → Room S.nodes k
  pub gate_room : (g : ℕ) → g < P.gate_count → Room S.gates g
  pub one_each : length S.increases ≡ P.gate_count
