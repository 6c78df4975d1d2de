-- The lists of numbers that the lines of the gates are written from.
use Rattle.std.specs.Prelude.{◌≡◌, List, ℕ, ◌<◌, ◌≤◌, ℤ, pos, length, get_or}
use Rattle.model.specs.Printout.{gate_text}

-- a signed number that needs no sign
abbrev pub Natural : ℤ → Type 0
Natural z = (k : ℕ) × (z ≡ pos k)

-- What is asked of the lists of n gates: they are long enough, and no slack needs a sign.
pub record Listed (n : ℕ) (delays increases : List ℕ) (slacks : List ℤ) : Type 0 where
  pub delays_long : n ≤ length delays
  pub increases_long : n ≤ length increases
  pub slacks_long : n ≤ length slacks
  pub natural : (g : ℕ) → g < n → Natural (get_or slacks g (pos 0))

-- the line of gate g, whose numbers are the elements g of the lists
abbrev pub listed_line : List ℕ → List ℕ → List ℤ → ℕ → List ℕ
listed_line delays increases slacks g = gate_text g (get_or delays g 0) (get_or increases g 0) (get_or slacks g (pos 0))
