-- The table of the pairs of gates that wires have joined.
use Rattle.std.specs.Prelude.{◌≡◌, not, List, ℕ, ◌+◌, ◌*◌, ◌<◌, eqb, get_or}
use Rattle.model.specs.Limits.{max_gates}
use Rattle.model.specs.Block.{Wire}
use Rattle.model.specs.File.{some, same_ends}

-- pairs of gates, at most
abbrev pub pairs : ℕ
pairs = max_gates * max_gates

-- the place of a pair in the table
abbrev pub pair_place : ℕ → ℕ → ℕ
pair_place a b = max_gates * a + b

-- the wire from a to b with a delay
abbrev pub between : ℕ → ℕ → ℕ → Wire
between a b delay = record { source = a; target = b; delay = delay }

-- The table is 0 at exactly those pairs that no wire of the list joins. Which other number stands at the rest, and what stands beyond the pairs, is free.
pub record Marks (table : List ℕ) (ws : List Wire) : Type 0 where
  pub at_pair : (a b delay : ℕ) → a < max_gates → b < max_gates → eqb (get_or table (pair_place a b) 0) 0 ≡ not (some (same_ends (between a b delay)) ws)
