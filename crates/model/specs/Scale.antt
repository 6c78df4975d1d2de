-- A block in finer ticks, and that they gain nothing (document 02, K14).
use Rattle.std.specs.Prelude.{◌≡◌, ◌↔◌, List, map, ℕ, suc, ◌+◌, ◌*◌}
use Rattle.model.specs.Block.{Step, Gate, Wire, Block}
use Rattle.model.specs.Gain.{saving}
use Rattle.model.specs.InTime.{InTime}
use Rattle.model.specs.Best.{Best, BestSaving}
use Rattle.model.specs.Curve.{Pair, IsCurve}
use Rattle.model.specs.Part.{SeriesParallel}

-- A step, a gate and a wire once each tick is divided into m: as much time is m times as many ticks. Drops and activities stay, so that each of the m ticks gains what the one gained (`same_gains`, proofs).
abbrev pub scaled_step : ℕ → Step → Step
scaled_step m s = record { width = m * s.width; drop = s.drop }

abbrev pub scaled_gate : ℕ → Gate → Gate
scaled_gate m g = record { delay = m * g.delay; activity = g.activity; steps = map (scaled_step m) g.steps }

abbrev pub scaled_wire : ℕ → Wire → Wire
scaled_wire m w = record { source = w.source; target = w.target; delay = m * w.delay }

-- "Multiply every gate delay, wire delay, width, arrival and deadline .. by m and leave the gains."
abbrev pub scaled : ℕ → Block → Block
scaled m B =
    record {
      arrival = m * B.arrival;
      deadline = m * B.deadline;
      activity = B.activity;
      gates = map (scaled_gate m) B.gates;
      wires = map (scaled_wire m) B.wires;
    }

-- the same increases in finer ticks
abbrev pub scaled_list : ℕ → List ℕ → List ℕ
scaled_list m = map (λ (a : ℕ). m * a)

-- the pairs of a curve, widths "m times the old, with the same gains"
abbrev pub widened : ℕ → List Pair → List Pair
widened m = map (λ (p : Pair). record { width = m * p.width; gain = p.gain })

-- What K14 asks of a series-parallel block and a whole m of 1 or more.
pub record FinerTicks (m : ℕ) (B : Block) : Type 0 where
  pub series_parallel : SeriesParallel (scaled m B)
  -- it is in time exactly when the block is
  pub in_time : ((x : List ℕ) × InTime B x) ↔ ((y : List ℕ) × InTime (scaled m B) y)
  -- "The best saving, where the block is in time, is then exactly m times the old one", ..
  pub saves : (x y : List ℕ) → Best B x → Best (scaled m B) y → saving (scaled m B) y ≡ m * saving B x
  -- .. by the old best list in finer ticks.
  pub list : (x : List ℕ) → Best B x → Best (scaled m B) (scaled_list m x)
  -- The same for any time T in place of the block's own; and each of the m ticks from T to T + 1 earns what that one tick earned.
  pub best_saving : (T s : ℕ) → BestSaving B T s → BestSaving (scaled m B) (m * T) (m * s)
  pub between : (T s s' q r : ℕ) → q + r ≡ m → BestSaving B T s → BestSaving B (suc T) s' → BestSaving (scaled m B) (m * T + r) (q * s + r * s')
  -- "The curve's widths, its start and its saving at start are m times the old, with the same gains": for every number of ticks, also between multiples of m, since a curve tells the best saving for each.
  pub curve : (start at_start : ℕ) (pairs : List Pair) → IsCurve B start at_start pairs → IsCurve (scaled m B) (m * start) (m * at_start) (widened m pairs)
