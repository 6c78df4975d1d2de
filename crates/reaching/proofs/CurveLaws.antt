-- What the outcome of a curve says of its file: a refusal is one of 1 to 9 or 11, and an accepted answer is the curve of a well-formed series-parallel block, whose pairs stand in the slices.
-- Assumes nothing.
use mathlib.Core.Path.{◌≡◌, sym, ◌∙◌, ap}
use mathlib.Core.List.{List, [], ◌∷◌, map}
use Prim.Native.Nat.{ℕ, ◌≤◌, ◌<◌}
use native.Mathlib.Omega.{arith}
use Rattle.std.specs.Prelude.{Result, Ok, Err}
use lib.ListN.{length, get_or, replicate, length-map, length-replicate, get_or-map}
use lib.Seq.{ext_get_or}
use Rattle.lists.specs.Over.{over}
use Rattle.lists.proofs.Over.{length_build, get_or_build, get_or_over_front}
use Rattle.model.specs.declared.Refusal.{Refusal}
use Rattle.model.specs.declared.CurveFound.{CurveFound}
use Rattle.model.specs.Limits.{max_pairs}
use Rattle.model.specs.Block.{Block}
use Rattle.model.specs.Part.{SeriesParallel}
use Rattle.model.specs.Curve.{Pair, IsCurve}
use Rattle.model.specs.Refusal.{WellFormed}
use Rattle.model.specs.Answer.{Outcome, Slices, accepted, refusal, refusal_answer, curve_answer, CurveBounds, fits, passes, ill_formed, well_formed, curve, AnswersCurve, AnswersTicks}
use Rattle.loading.proofs.Refused.{refusal_numbered, not_refused}
use Rattle.saving_curve.specs.Position.{pair_at, pairs_in, no_pair}
use Rattle.reaching.specs.CurveKnown.{CurveKnown}

-- pairs whose widths and gains stand in front of two slices are read off them
pairs_read : (ps : List Pair) (ws gs : List ℕ) → pairs_in (length ps) (over (map (λ (p : Pair). p.width) ps) ws) (over (map (λ (p : Pair). p.gain) ps) gs) ≡ ps
pairs_read ps ws gs =
    let widths = over (map (λ (p : Pair). p.width) ps) ws in
    let gains = over (map (λ (p : Pair). p.gain) ps) gs in
    let long = length_build (length ps) (pair_at widths gains) in
    ext_get_or no_pair (pairs_in (length ps) widths gains) ps long
    (λ i l.
    let below : i < length ps = omega arith in
    get_or_build (length ps) (pair_at widths gains) i no_pair below
    ∙ (λ j.
    record {
      width = (get_or_over_front (map (λ (p : Pair). p.width) ps) ws i 0 (rw length-map below) ∙ get_or-map (λ (p : Pair). p.width) ps i no_pair) j;
      gain = (get_or_over_front (map (λ (p : Pair). p.gain) ps) gs i 0 (rw length-map below) ∙ get_or-map (λ (p : Pair). p.gain) ps i no_pair) j;
    }))

-- The curve of a well-formed file's series-parallel block.
pub record Known (file : List ℕ) (at_start : ℕ) (ps : List Pair) : Type 0 where
  pub block : Block
  pub well : WellFormed file block
  pub fits : SeriesParallel block
  pub start : ℕ
  pub is_curve : IsCurve block start at_start ps

-- the curve that an accepted answer gives
known_by : {file ws gs : List ℕ} {lent : Slices} {s a n : ℕ} → max_pairs ≤ length lent.for_widths → max_pairs ≤ length lent.for_gains
    → AnswersCurve file lent (record { answer = accepted (s ∷ a ∷ n ∷ []); memory = record { for_widths = ws; for_gains = gs } })
    → Known file a (pairs_in n ws gs)
known_by wide long (ill_formed k p i e) = not_refused (ap (λ o. o.answer) e)
known_by wide long (well_formed B w (fits p f e)) = not_refused (ap (λ o. o.answer) e)
known_by wide long (well_formed B w (passes f (fits p g e))) = not_refused (ap (λ o. o.answer) e)
known_by wide long (well_formed B w (passes f (passes g (fits p h e)))) = not_refused (ap (λ o. o.answer) e)
known_by {ws = ws} {gs = gs} {lent = lent} {a = a} {n = n} wide long (well_formed B w (passes f (passes g (passes h (curve start at_start ps sp c e))))) =
    let saved : a ≡ at_start = ap (λ (o : Outcome Slices). get_or o.answer.values 1 0) e in
    let count : n ≡ length ps = ap (λ (o : Outcome Slices). get_or o.answer.values 2 0) e in
    let widths : ws ≡ over (map (λ (p : Pair). p.width) ps) lent.for_widths = ap (λ (o : Outcome Slices). o.memory.for_widths) e in
    let gains : gs ≡ over (map (λ (p : Pair). p.gain) ps) lent.for_gains = ap (λ (o : Outcome Slices). o.memory.for_gains) e in
    record { block = B; well = w; fits = sp; start = start; is_curve = rw (count, widths, gains, pairs_read ps lent.for_widths lent.for_gains, saved) c }

-- the lines of the curve before its answer are those of the fewest ticks
refused_by : {file ws gs : List ℕ} {lent : Slices} {k p : ℕ} (wanted : ℕ) → max_pairs ≤ length lent.for_widths → max_pairs ≤ length lent.for_gains
    → AnswersCurve file lent (record { answer = refusal k p; memory = record { for_widths = ws; for_gains = gs } })
    → AnswersTicks file wanted (record { answer = refusal k p; memory = tt })
refused_by wanted wide long (ill_formed k p i e) = ill_formed k p i (ap (λ o. record { answer = o.answer; memory = tt }) e)
refused_by wanted wide long (well_formed B w (fits p (z, short) e)) = absurd (omega arith)
refused_by wanted wide long (well_formed B w (passes f (fits p (z, short) e))) = absurd (omega arith)
refused_by wanted wide long (well_formed B w (passes f (passes g (fits p h e)))) = well_formed B w (fits p h (ap (λ o. record { answer = o.answer; memory = tt }) e))
refused_by wanted wide long (well_formed B w (passes f (passes g (passes h (curve start at_start ps sp c e))))) = not_refused (sym (ap (λ o. o.answer) e))

-- slices of zeros, as a call has them of its own
abbrev zeros : Slices
zeros = record { for_widths = replicate max_pairs 0; for_gains = replicate max_pairs 0 }

pub curve_known : {file : List ℕ} {found : Result CurveFound Refusal} {ws gs : List ℕ}
    → AnswersCurve file zeros (record { answer = curve_answer found; memory = record { for_widths = ws; for_gains = gs } }) × CurveBounds found gs
    → CurveKnown file found ws gs
curve_known (answers, bounds) =
    let long = length-replicate {A = ℕ} max_pairs 0 in
    record { lent = zeros; widths_long = omega arith; gains_long = omega arith; answers = answers; bounds = bounds }

module _ {file ws gs : List ℕ} where
  pub known : {f : CurveFound} → CurveKnown file (Ok f) ws gs → Known file f.at_start (pairs_in f.pairs ws gs)
  known k = known_by k.widths_long k.gains_long k.answers

  pub passed_on : {x : Refusal} (wanted : ℕ) → CurveKnown file (Err x) ws gs → AnswersTicks file wanted (record { answer = refusal_answer x; memory = tt })
  passed_on {x} wanted k =
      let (n, p, e) = refusal_numbered x in
      rw e (refused_by wanted k.widths_long k.gains_long (rw e at k.answers))
