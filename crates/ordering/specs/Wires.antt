-- The wires as the code holds them: two arrays, gate numbers at the source and at the target of each wire, of which the first m elements count.
-- The code reads no wire delay: its promises hold for every block that has these gates and wires.
use Rattle.std.specs.Prelude.{◌≡◌, List, ℕ, ◌≤◌, ◌<◌, length, get_or}
use Rattle.model.specs.Limits.{max_gates, max_wires}
use Rattle.model.specs.Block.{Block, gate_count}
use Rattle.model.specs.Arrays.{wires_in}
use Rattle.ordering.specs.declared.wires.Wires.{Wires}

-- What is asked of the arrays: they are long enough, and each wire joins gates below n.
pub record Lent (n m : ℕ) (sources targets : List ℕ) : Type 0 where
  pub gates : n ≤ max_gates
  pub wires : m ≤ max_wires
  pub sources_long : m ≤ length sources
  pub targets_long : m ≤ length targets
  pub source_is_gate : (i : ℕ) → i < m → get_or sources i 0 < n
  pub target_is_gate : (i : ℕ) → i < m → get_or targets i 0 < n

-- A wire from gate a to gate b stands at some place.
pub record Wired (m : ℕ) (sources targets : List ℕ) (a b : ℕ) : Type 0 where
  pub place : ℕ
  pub below : place < m
  pub source : get_or sources place 0 ≡ a
  pub target : get_or targets place 0 ≡ b

-- The block B has n gates, and its wires are those of the arrays, whatever their delays.
pub record InArrays (B : Block) (n m : ℕ) (sources targets : List ℕ) : Type 0 where
  pub delays : List ℕ
  pub gates : gate_count B ≡ n
  pub wires : B.wires ≡ wires_in m sources targets delays

-- the same wires, each led the other way
abbrev pub backwards : Wires → Wires
backwards w = record { count = w.count; sources = w.targets; targets = w.sources; delays = w.delays }
