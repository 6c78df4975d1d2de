-- The saving curve, and what ticks counted off it earn (document 01, "Gains, paths, building up").
use Rattle.std.specs.Prelude.{List, [], ◌∷◌, ℕ, ◌+◌, ◌*◌, ◌-◌, ◌≤◌, ◌<◌, min}
use Rattle.lists.specs.Sum.{total}
use Rattle.model.specs.Block.{Block}
use Rattle.model.specs.InTime.{IsStart}
use Rattle.model.specs.Best.{BestSaving}

-- A pair of a curve: `width` ticks that earn `gain` each.
pub record Pair : Type 0 where
  pub width : ℕ
  pub gain : ℕ

-- the gain of the first pair, 0 where there is none
abbrev pub first_gain : List Pair → ℕ
first_gain [] = 0
first_gain (p ∷ ps) = p.gain

-- "pairs (width, gain), each width at least 1, of strictly falling gain above 0"
abbrev pub Falling : List Pair → Type 0
Falling [] = Unit {0}
Falling (p ∷ ps) = (1 ≤ p.width) × (first_gain ps < p.gain) × Falling ps

-- the ticks of all pairs: the whole curve
abbrev pub all_ticks : List Pair → ℕ
all_ticks = total (λ (p : Pair). p.width)

-- What the first k ticks of a curve earn: they "are counted off the curve from its front; those beyond its end earn 0".
unfoldable pub count_off : List Pair → ℕ → ℕ
count_off [] k = 0
count_off (p ∷ ps) k = min k p.width * p.gain + count_off ps (k - p.width)

-- The curve of a block: start, saving at start and pairs. "For every k, the saving at start plus the first k ticks' gains is the best saving if spare were k in place of the file's own."
pub record IsCurve (B : Block) (start at_start : ℕ) (pairs : List Pair) : Type 0 where
  pub starts : IsStart B start
  pub falls : Falling pairs
  pub best : (k : ℕ) → BestSaving B (start + k) (at_start + count_off pairs k)
