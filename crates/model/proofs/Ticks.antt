-- The fewest ticks for a wanted saving: what the curve says of them; that no block of a file needs more than the steps of a block have ticks, and no number of ticks is enough exactly when no list at all saves as much; that arrival and deadline play no part.
-- Assumes of the block, where it is a file's: no gate is at fault with its wires, the gates can be numbered along the wires, and its numbers are within the limits of a file.
use mathlib.Core.Path.{◌≡◌}
use mathlib.Core.Logic.{◌↔◌, ⊎_elim}
use mathlib.Core.List.{List}
use Prim.Native.Nat.{ℕ, ◌+◌, ◌*◌, ◌-◌, ◌≤◌, ◌<◌}
use native.Mathlib.Nat.{mul-le-mul_right, add-mul}
use native.Mathlib.Omega.{arith}
use Rattle.lists.specs.Search.{Lowest}
use Rattle.lists.proofs.Compare.{le_or_lt}
use Rattle.lists.proofs.Search.{lowest_alike}
use Rattle.model.specs.Limits.{max_gates, max_steps, max_width, max_ticks}
use Rattle.model.specs.Block.{Wire, Block, redated, gate_count, first}
use Rattle.model.specs.Path.{Path, stay, go}
use Rattle.model.specs.Gain.{saving, gain, input_activity}
use Rattle.model.specs.InTime.{drawn, slowed, Sizing, Within, AnyTime, IsStart}
use Rattle.model.specs.Best.{BestSaving}
use Rattle.model.specs.Curve.{Pair, all_ticks, count_off, IsCurve}
use Rattle.model.specs.Part.{SeriesParallel, lone, built}
use Rattle.model.specs.Remainder.{Remains}
use Rattle.model.specs.Slack.{start}
use Rattle.model.specs.Ticks.{Reached, Fewest, Unreachable}
use Rattle.model.specs.Refusal.{SoundNetwork}
use Rattle.model.specs.Answer.{Outcome, fits, passes, NotSeriesParallelAt, fewest, TicksLines}
use Rattle.model.proofs.Curve.{count_off_whole, start_unique}
use Rattle.model.proofs.Source.{Along}
use Rattle.model.proofs.Limited.{BlockLimits, widths_most}
use Rattle.model.proofs.Slack.{start_is}

-- BY THE CURVE. k ticks reach a saving exactly when the saving at start and the first k ticks' gains do.
module _ {B : Block} {s a : ℕ} {ps : List Pair} (is : IsStart B (start B)) (c : IsCurve B s a ps) (wanted : ℕ) where
  start_same : start B ≡ s
  start_same = start_unique B (start B) s is c.starts

  best_after : (k : ℕ) → BestSaving B (start B + k) (a + count_off ps k)
  best_after k = rw start_same (c.best k)

  pub reached_by_curve : (k : ℕ) → Reached B wanted k ↔ (wanted ≤ a + count_off ps k)
  reached_by_curve k = (
    λ r. omega (arith, r.saves, (best_after k).greatest r.list r.within),
    λ l. let b = best_after k in record { list = b.list; within = b.within; saves = omega (arith, b.saves) },
  )

  pub fewest_by_curve : (k : ℕ) → Fewest B wanted k ↔ Lowest (λ (j : ℕ). wanted ≤ a + count_off ps j) k
  fewest_by_curve k = (lowest_alike reached_by_curve, lowest_alike (λ j. ((reached_by_curve j).1, (reached_by_curve j).0)))

  -- no number of ticks is enough exactly when "even the whole curve stays below"
  pub unreached_by_curve : Unreachable B wanted ↔ (a + count_off ps (all_ticks ps) < wanted)
  unreached_by_curve = (
    λ none. ⊎_elim (λ (h : wanted ≤ a + count_off ps (all_ticks ps)). absurd (none (all_ticks ps) ((reached_by_curve (all_ticks ps)).1 h))) (λ l. l) (le_or_lt wanted (a + count_off ps (all_ticks ps))),
    λ below k r. omega (arith, (reached_by_curve k).0 r, count_off_whole ps k),
  )

-- where each gate is slowed by at most m, a path lasts at most m longer for each gate from its first on in the numbering
module _ {ws : List Wire} {d e : ℕ → ℕ} {n : ℕ} (m : ℕ) (order : Along ws n) (slower : (g : ℕ) → g < n → e g ≤ d g + m) where
  path_most : {a b t : ℕ} → a < n → Path ws e a b t → (u : ℕ) × Path ws d a b u × (t ≤ u + (n - order.place a) * m)
  path_most {a = a} l stay =
      let one : 1 ≤ n - order.place a = omega (arith, order.below a l) in
      (d a, stay, omega (arith, slower a l, mul-le-mul_right m one))
  path_most {a = a} l (go {c = c} {w = w} on rest) =
      let inside = (order.in_range a c w on).1 in
      let (u, path, most) = path_most inside rest in
      let one : n - order.place c + 1 ≤ n - order.place a = omega (arith, order.below c inside, order.grows a c w on) in
      (d a + w + u, go on path, omega (arith, slower a l, mul-le-mul_right m one, add-mul (n - order.place c) 1 m))

-- a list within a time is one within the widths
any_time : {B : Block} {ok : ℕ → Type 0} {x : List ℕ} → Sizing B ok x → AnyTime B x
any_time sized = record { one_each = sized.one_each; within_widths = sized.within_widths; paths = λ t p. tt }

-- OF A FILE'S BLOCK
module _ {B : Block} (limits : BlockLimits B) (sound : SoundNetwork B) (order : Along B.wires (gate_count B)) where
  -- as many ticks as the steps of a block can have are enough for every list
  pub any_time_within : {x : List ℕ} → AnyTime B x → Within B (start B + max_ticks) x
  any_time_within {x} sized =
      record {
        one_each = sized.one_each;
        within_widths = sized.within_widths;
        paths = λ t p.
            let (u, path, most) = path_most (max_steps * max_width) order slower limits.some_gate p in
            let few : gate_count B - order.place (first B) ≤ max_gates = omega (arith, limits.gates_most) in
            omega (arith, (start_is B sound order limits.some_gate).greatest u path, mul-le-mul_right (max_steps * max_width) few);
      }
    where
      slower : (g : ℕ) → g < gate_count B → slowed B x g ≤ drawn B g + max_steps * max_width
      slower g l = omega (arith, sized.within_widths g l, widths_most (limits.gate_limits g))

  -- whatever is reached is reached with so many ticks
  reached_soon : {wanted k : ℕ} → Reached B wanted k → Reached B wanted max_ticks
  reached_soon r = record { list = r.list; within = any_time_within (any_time r.within); saves = r.saves }

  pub fewest_small : {wanted k : ℕ} → Fewest B wanted k → k ≤ max_ticks
  fewest_small {wanted} {k} f =
      ⊎_elim (λ (h : k ≤ max_ticks). h) (λ h. absurd (f.none_below max_ticks h (reached_soon f.holds)))
      (le_or_lt k max_ticks)

  -- no number of ticks is enough exactly when no list at all, whatever time it takes, saves as much
  pub unreached_exactly : {wanted : ℕ} → Unreachable B wanted ↔ ((x : List ℕ) → AnyTime B x → saving B x < wanted)
  unreached_exactly {wanted} = (
    λ none x sized.
        ⊎_elim (λ (h : wanted ≤ saving B x). absurd (none max_ticks (record { list = x; within = any_time_within sized; saves = h }))) (λ h. h)
        (le_or_lt wanted (saving B x)),
    λ less k r. omega (arith, r.saves, less r.list (any_time r.within)),
  )

-- ARRIVAL AND DEADLINE play no part: what is said of a block is said of the same block with others.
module _ (B : Block) {a d b e : ℕ} where
  fits_redated : SeriesParallel (redated a d B) → SeriesParallel (redated b e B)
  fits_redated (lone one none) = lone one none
  fits_redated (built P w) = built P (record { part = w.part; wires = w.wires; gates = w.gates })

  remains_redated : {g : ℕ} → Remains (redated a d B) g → Remains (redated b e B) g
  remains_redated r =
      record {
        end = r.end;
        reduced = record { reached = r.reduced.reached; ended = r.reduced.ended };
        below = r.below;
        left = r.left;
        not_first = r.not_first;
        not_last = r.not_last;
      }

  reached_redated : {wanted k : ℕ} → Reached (redated a d B) wanted k → Reached (redated b e B) wanted k
  unfolding start saving gain input_activity
  reached_redated r =
      let x = r.within in
      record { list = r.list; within = record { one_each = x.one_each; within_widths = x.within_widths; paths = x.paths }; saves = r.saves }

not_fits_redated : (B : Block) {a d b e p : ℕ} → NotSeriesParallelAt (redated a d B) p → NotSeriesParallelAt (redated b e B) p
not_fits_redated B (none, low) = (λ sp. none (fits_redated B sp), lowest_alike (λ g. (remains_redated B, remains_redated B)) low)

fewest_redated : (B : Block) {a d b e wanted k : ℕ} → Fewest (redated a d B) wanted k → Fewest (redated b e B) wanted k
fewest_redated B = lowest_alike (λ k. (reached_redated B, reached_redated B))

unreached_redated : (B : Block) {a d b e wanted : ℕ} → SeriesParallel (redated a d B) × Unreachable (redated a d B) wanted → SeriesParallel (redated b e B) × Unreachable (redated b e B) wanted
unreached_redated B (sp, none) = (fits_redated B sp, λ k r. none k (reached_redated B r))

pub ticks_redated : (B : Block) {a d b e wanted : ℕ} {o : Outcome (Unit {0})} → TicksLines wanted (redated a d B) o → TicksLines wanted (redated b e B) o
ticks_redated B (fits p none is) = fits p (not_fits_redated B none) is
ticks_redated B (passes n (fits p (z, none) is)) = passes (λ p w. n p (not_fits_redated B w)) (fits p (z, unreached_redated B none) is)
ticks_redated B (passes n (passes m (fewest k sp f is))) =
    passes (λ p w. n p (not_fits_redated B w))
    (passes (λ p (z, none). m p (z, unreached_redated B none)) (fewest k (fits_redated B sp) (fewest_redated B f) is))
