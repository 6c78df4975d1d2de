-- How a wanted saving is reached on a curve, counting ticks off its front (document 02, K6).
use Rattle.std.specs.Prelude.{Option, Some, None, List, ℕ, ◌+◌, ◌≤◌, ◌<◌}
use Rattle.lists.specs.Search.{Lowest}
use Rattle.model.specs.Curve.{Pair, count_off}

-- The saving at start and what k ticks earn come to the wanted saving, and with fewer ticks they do not; or "even the whole curve stays below the wanted saving", whatever the number of ticks.
abbrev pub Reaches : List Pair → ℕ → ℕ → Option ℕ → Type 0
Reaches ps at_start wanted (Some k) = Lowest (λ (j : ℕ). wanted ≤ at_start + count_off ps j) k
Reaches ps at_start wanted None = (k : ℕ) → at_start + count_off ps k < wanted
