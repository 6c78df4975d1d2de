-- The heads of gates, an entry a gate: after ticks for one gate, and without increase.
use Rattle.std.specs.Prelude.{◌≡◌, List, ℕ, ◌+◌, ◌<◌, get_or}
use Rattle.optimum.specs.Head.{Head}
use Rattle.ties.specs.Code.{ranks}
use Rattle.optimum.specs.Increases.{add}
use Rattle.heads.specs.declared.store.Heads.{Heads}
use Rattle.heads.specs.Stored.{Stored, Room, head_at, put, gate_heads, node_heads}

-- w ticks more for gate g, and its head, whose rank fits a key, made right again
pub record Added (heads : ℕ → ℕ → Head) (x x' : List ℕ) (G G' : Stored) (g w : ℕ) : Type 0 where
  pub increases : x' ≡ add x g w
  pub written : G' ≡ put G g (heads g (get_or x g 0 + w))
  pub low : (heads g (get_or x g 0 + w)).rank < ranks

-- the same as stored, where the heads of the nodes are as before
pub record GateAdded (heads : ℕ → ℕ → Head) (x x' : List ℕ) (kept kept' : Heads) (g w : ℕ) : Type 0 where
  pub added : Added heads x x' (gate_heads kept) (gate_heads kept') g w
  pub nodes : node_heads kept' ≡ node_heads kept

-- n gates without increase, and their heads
pub record Unslowed (heads : ℕ → ℕ → Head) (n : ℕ) (x : List ℕ) (G : Stored) : Type 0 where
  pub no_increase : (g : ℕ) → g < n → get_or x g 0 ≡ 0
  pub right : (g : ℕ) → g < n → head_at G g ≡ heads g 0

-- the same as stored, where the heads of the nodes are as before, and as many of gates
pub record GatesUnslowed (heads : ℕ → ℕ → Head) (n : ℕ) (x : List ℕ) (kept kept' : Heads) : Type 0 where
  pub unslowed : Unslowed heads n x (gate_heads kept')
  pub room : (g : ℕ) → Room (gate_heads kept) g → Room (gate_heads kept') g
  pub nodes : node_heads kept' ≡ node_heads kept
