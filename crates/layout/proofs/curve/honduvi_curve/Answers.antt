-- `layout::curve::honduvi_curve` meets its contract: the answer of `resizing` told in numbers, whose places and number of pairs fit. Assumes nothing.
use borrow.Author.Rules.{rules}
use mathlib.Core.Path.{refl}
use Rattle.laying.proofs.Told.{refusal_not_zero, judged_told, unsaid_zeros}
use Rattle.layout.proofs.CallPlaces.{curve_place}
use Rattle.layout.proofs.curve.honduvi_curve.Goals as goal

pub refused-numbers-requires : goal.refused-numbers-requires
refused-numbers-requires c = curve_place c.in-Err.refusal (rw c.in-Err.is at c.curve-answer.ensures.answers_curve)

pub overflow_cast-written : goal.overflow_cast-written
overflow_cast-written c = let bounds = rw c.in-Ok.is at c.curve-answer.ensures.curve_bounds in search rules

pub returns-in-Err : goal.returns-in-Err
returns-in-Err c =
    record { answers_curve = judged_told c.in-Err.refusal _ _ c.refused-numbers.ensures (rw c.in-Err.is at c.curve-answer.ensures.answers_curve); unsaid_zero = rw c.refused-numbers.ensures (unsaid_zeros c.in-Err.refusal 3); pair_bounds = λ (none : _). absurd (refusal_not_zero c.in-Err.refusal (rw c.refused-numbers.ensures at none)) }

pub returns-in-Ok : goal.returns-in-Ok
returns-in-Ok c =
    let found = rw c.in-Ok.is at c.curve-answer.ensures in
    record { answers_curve = found.answers_curve; unsaid_zero = refl; pair_bounds = λ (accepted : _). found.curve_bounds }
