-- What changes while ticks are handed out: the increases, the heads of the gates and the heads of the nodes. What a hand-out asks of them, and what it leaves.
use Rattle.std.specs.Prelude.{◌≡◌, List, ℕ, ◌≤◌, ◌<◌, length, get_or}
use Rattle.optimum.specs.Increases.{give_list}
use Rattle.planting.specs.declared.tree.Tree.{Tree}
use Rattle.heads.specs.Plan.{Plan, Sound, StepsHeld, plan, node_count, part}
use Rattle.heads.specs.declared.store.Heads.{Heads}
use Rattle.heads.specs.Stored.{Stored, Room, Local, Keeps, Lent, head_at, gate_heads, node_heads}

pub record State : Type 0 where
  pub increases : List ℕ
  pub gates : Stored
  pub nodes : Stored

abbrev pub state : List ℕ → Heads → State
state x kept = record { increases = x; gates = gate_heads kept; nodes = node_heads kept }

-- every gate has an increase, and its stored head is the one that it has with that increase
pub record Fresh (P : Plan) (S : State) : Type 0 where
  pub long : P.gate_count ≤ length S.increases
  pub room : (g : ℕ) → g < P.gate_count → Room S.gates g
  pub right : (g : ℕ) → g < P.gate_count → head_at S.gates g ≡ P.heads g (get_or S.increases g 0)

-- Ticks can be handed out at node i: the heads of all gates and of the nodes up to i are right.
pub record Ready (P : Plan) (S : State) (i : ℕ) : Type 0 where
  pub sound : Sound P
  pub lent : Lent P.nodes S.gates S.nodes
  pub fresh : Fresh P S
  pub node : i < node_count P.nodes
  pub local : (k : ℕ) → k ≤ i → Local P.nodes S.gates S.nodes k

-- w ticks do not pass the width of node i's head, where it has one
abbrev pub Fitting : State → ℕ → ℕ → Type 0
Fitting S i w = 0 < (head_at S.nodes i).gain → w ≤ (head_at S.nodes i).width

-- w ticks have been handed out at node i: heads that were right still are, but for that of node p
pub record GivenOut (P : Plan) (S S' : State) (i w p : ℕ) : Type 0 where
  pub increases : S'.increases ≡ give_list P.heads (part P.nodes i) w S.increases
  pub lent : Lent P.nodes S'.gates S'.nodes
  pub fresh : Fresh P S'
  pub keeps : Keeps P.nodes S.gates S.nodes S'.gates S'.nodes p

-- w ticks can be handed out at node i, over what is stored
pub record CanGiveOut (block : List ℕ) (tree : Tree) (x : List ℕ) (kept : Heads) (i w : ℕ) : Type 0 where
  pub ready : Ready (plan block tree) (state x kept) i
  pub steps : StepsHeld block
  pub fitting : Fitting (state x kept) i w

-- they have been
pub record GaveOut (block : List ℕ) (tree : Tree) (x : List ℕ) (kept : Heads) (x' : List ℕ) (kept' : Heads) (i w p : ℕ) : Type 0 where
  pub given : GivenOut (plan block tree) (state x kept) (state x' kept') i w p
