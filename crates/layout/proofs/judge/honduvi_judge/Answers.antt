-- `layout::judge::honduvi_judge` meets its contract: the answer of `resizing` told in numbers, whose places fit. Assumes nothing.
use mathlib.Core.Path.{refl}
use Rattle.laying.proofs.Told.{judged_told, unsaid_zeros}
use Rattle.layout.proofs.CallPlaces.{judge_place}
use Rattle.layout.proofs.judge.honduvi_judge.Goals as goal

pub refused-requires : goal.refused-requires
refused-requires c = judge_place c.in-Err.refusal (rw c.in-Err.is at c.judge-answer.ensures)

pub returns-in-Err : goal.returns-in-Err
returns-in-Err c =
    record { answers_judge = judged_told c.in-Err.refusal _ _ c.refused.ensures (rw c.in-Err.is at c.judge-answer.ensures); unsaid_zero = rw c.refused.ensures (unsaid_zeros c.in-Err.refusal 1) }

pub returns-in-Ok : goal.returns-in-Ok
returns-in-Ok c = record { answers_judge = rw c.in-Ok.is at c.judge-answer.ensures; unsaid_zero = refl }
