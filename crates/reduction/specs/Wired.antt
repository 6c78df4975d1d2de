-- The wires of a block in arrays, and the slots and leaves that the reduction lays out for them.
use Rattle.std.specs.Prelude.{◌≡◌, List, ℕ, ◌<◌, length, get_or}
use Rattle.model.specs.Block.{Block, gate_count}
use Rattle.parts.specs.Network.{wire_at, Network}

-- the arrays hold the k wires of N, which has n gates
pub record Wired (N : Block) (n k : ℕ) (froms tos delays : List ℕ) : Type 0 where
  pub gates : gate_count N ≡ n
  pub count : length N.wires ≡ k
  pub source : (i : ℕ) → i < k → get_or froms i 0 ≡ (wire_at N.wires i).source
  pub target : (i : ℕ) → i < k → get_or tos i 0 ≡ (wire_at N.wires i).target
  pub delay : (i : ℕ) → i < k → get_or delays i 0 ≡ (wire_at N.wires i).delay

-- the arrays hold the wires of some network
pub record Given (n k : ℕ) (froms tos delays : List ℕ) : Type 0 where
  pub block : Block
  pub network : Network block
  pub wired : Wired block n k froms tos delays

-- slot i is live, with the wire's target and leaf i, which holds the wire's delay
pub record LaidAt (tos delays lives targets tops kinds gates : List ℕ) (i : ℕ) : Type 0 where
  pub live : get_or lives i 0 ≡ 1
  pub target : get_or targets i 0 ≡ get_or tos i 0
  pub top : get_or tops i 0 ≡ i
  pub kind : get_or kinds i 0 ≡ 0
  pub delay : get_or gates i 0 ≡ get_or delays i 0

-- the slots below i are laid out so
abbrev pub Laid : ℕ → List ℕ → List ℕ → List ℕ → List ℕ → List ℕ → List ℕ → List ℕ → Type 0
Laid k tos delays lives targets tops kinds gates = (i : ℕ) → i < k → LaidAt tos delays lives targets tops kinds gates i
