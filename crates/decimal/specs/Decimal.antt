-- The decimal digits of a number as a person writes them (document 02, K4). That `digits` of Printout has exactly these is a law (proofs/Value).
use Rattle.std.specs.Prelude.{◌≡◌, ℕ, ◌+◌, ◌-◌, ◌*◌, ◌<◌, ◌≤◌, length, get_or}
use mathlib.Core.List.{List, [], ◌∷◌, Memᴰ}
use Rattle.model.specs.Printout.{digit_zero}

-- a byte that is one of the ten digits
abbrev pub Digit : ℕ → Type 0
Digit b = (digit_zero ≤ b) × (b ≤ digit_zero + 9)

-- The value of digits, read from the front: ten times what stands before, and the digit.
unfoldable pub value_after : ℕ → List ℕ → ℕ
value_after v [] = v
value_after v (d ∷ ds) = value_after (v * 10 + (d - digit_zero)) ds

abbrev pub value : List ℕ → ℕ
value ds = value_after 0 ds

-- "exactly its decimal digits .., with no needless 0 in front": at least one byte, each one of the ten digits, no 0 in front of others, and their value is n.
pub record DecimalOf (n : ℕ) (ds : List ℕ) : Type 0 where
  pub some : 1 ≤ length ds
  pub all : (b : ℕ) → Memᴰ b ds → Digit b
  pub front : 1 < length ds → digit_zero < get_or ds 0 0
  pub worth : value ds ≡ n
