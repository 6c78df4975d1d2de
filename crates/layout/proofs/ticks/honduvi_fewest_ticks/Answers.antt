-- `layout::ticks::honduvi_fewest_ticks` meets its contract: the answer of `resizing` told in numbers, whose places fit. Assumes nothing.
use mathlib.Core.Path.{refl}
use Rattle.laying.proofs.Told.{judged_told, unsaid_zeros}
use Rattle.layout.proofs.CallPlaces.{ticks_place}
use Rattle.layout.proofs.ticks.honduvi_fewest_ticks.Goals as goal

pub refused-numbers-requires : goal.refused-numbers-requires
refused-numbers-requires c = ticks_place c.in-Err.refusal (rw c.in-Err.is at c.fewest_ticks-answer.ensures)

pub returns-in-Err : goal.returns-in-Err
returns-in-Err c =
    record { answers_ticks = judged_told c.in-Err.refusal _ _ c.refused-numbers.ensures (rw c.in-Err.is at c.fewest_ticks-answer.ensures); unsaid_zero = rw c.refused-numbers.ensures (unsaid_zeros c.in-Err.refusal 1) }

pub returns-in-Ok : goal.returns-in-Ok
returns-in-Ok c = record { answers_ticks = rw c.in-Ok.is at c.fewest_ticks-answer.ensures; unsaid_zero = refl }
