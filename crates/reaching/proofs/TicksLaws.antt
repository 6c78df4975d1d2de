-- From the curve of a file's block and the ticks counted off it to the answer of the fewest ticks.
-- Assumes nothing.
use mathlib.Core.Path.{refl}
use mathlib.Core.List.{List, [], ◌∷◌, Memᴰ}
use Prim.Native.Nat.{ℕ, ◌+◌, ◌^◌, ◌≤◌, ◌<◌}
use native.Mathlib.Nat.{mul-le-mul_right}
use native.Mathlib.Omega.{arith}
use Rattle.lists.specs.Search.{Lowest}
use Rattle.lists.proofs.Over.{mem_build}
use Rattle.model.specs.Limits.{max_gain, max_ticks}
use Rattle.model.specs.Curve.{Pair, all_ticks, count_off}
use Rattle.model.specs.InTime.{IsStart}
use Rattle.model.specs.Slack.{start}
use Rattle.model.specs.Ticks.{Fewest}
use Rattle.std.specs.Prelude.{Ok}
use Rattle.model.specs.declared.CurveFound.{CurveFound}
use Rattle.model.specs.Answer.{accepted, refusal, well_formed, fits, passes, fewest, AnswersTicks}
use Rattle.model.proofs.Limited.{BlockLimits, read_limits}
use Rattle.model.proofs.Slack.{start_is}
use Rattle.model.proofs.Ticks.{reached_by_curve, fewest_by_curve, fewest_small}
use Rattle.ordering.proofs.Numbered.{sound_along}
use Rattle.saving_curve.specs.Position.{pair_at, pairs_in}
use Rattle.saving_curve.proofs.Earning.{count_off_most, fewer_earn_less}
use Rattle.reaching.specs.CurveKnown.{CurveKnown}
use Rattle.reaching.proofs.CurveLaws.{Known, known}

module _ {file : List ℕ} {at_start : ℕ} {ps : List Pair} (k : Known file at_start ps) where
  limits : BlockLimits k.block
  limits = read_limits file k.well.reads

  starts : IsStart k.block (start k.block)
  starts = start_is k.block k.well.network (sound_along limits k.well.network) limits.some_gate

  -- 17: the whole curve stays below
  pub ticks_beyond : {wanted : ℕ} → ((j : ℕ) → at_start + count_off ps j < wanted) → AnswersTicks file wanted (record { answer = refusal 17 0; memory = tt })
  ticks_beyond {wanted} below =
      well_formed k.block k.well
      (passes (λ p n. n.0 k.fits) (fits 0 (refl, (k.fits, λ j r. omega (arith, below j, (reached_by_curve starts k.is_curve wanted j).0 r))) refl))

  module _ (wanted : ℕ) {ticks : ℕ} (lowest : Lowest (λ (j : ℕ). wanted ≤ at_start + count_off ps j) ticks) where
    is_fewest : Fewest k.block wanted ticks
    is_fewest = (fewest_by_curve starts k.is_curve wanted ticks).1 lowest

    -- they fit 32 bits
    pub ticks_few : ticks ≤ max_ticks
    ticks_few = fewest_small limits k.well.network (sound_along limits k.well.network) is_fewest

    pub ticks_given : AnswersTicks file wanted (record { answer = accepted (ticks ∷ []); memory = tt })
    ticks_given =
        well_formed k.block k.well
        (passes (λ p n. n.0 k.fits) (passes (λ p u. u.1.1 ticks is_fewest.holds) (fewest ticks k.fits is_fewest refl)))

  -- the ticks of the whole curve are the fewest for all that it earns ..
  all_few : all_ticks ps ≤ max_ticks
  all_few =
      ticks_few (at_start + count_off ps (all_ticks ps))
      (record { holds = omega arith; none_below = λ j l h. omega (arith, fewer_earn_less ps k.is_curve.falls j l) })

  -- .. which fits 64 bits
  pub curve_fits : ((p : Pair) → Memᴰ p ps → p.gain ≤ max_gain) → count_off ps (all_ticks ps) < 2 ^ 64
  curve_fits bound = omega (arith, count_off_most max_gain ps bound (all_ticks ps), mul-le-mul_right max_gain all_few)

-- so all that the pairs in the slices earn fits
pub earnings_fit : {file ws gs : List ℕ} {f : CurveFound} → CurveKnown file (Ok f) ws gs → count_off (pairs_in f.pairs ws gs) (all_ticks (pairs_in f.pairs ws gs)) < 2 ^ 64
earnings_fit {file} {ws} {gs} {f} k = curve_fits (known k) few
  where
    few : (p : Pair) → Memᴰ p (pairs_in f.pairs ws gs) → p.gain ≤ max_gain
    few p m = let (i, l, e) = mem_build f.pairs (pair_at ws gs) m in rw e (k.bounds.1 i l)
