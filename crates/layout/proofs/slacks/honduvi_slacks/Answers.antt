-- `layout::slacks::honduvi_slacks` meets its contract: the answer of `resizing` told in numbers, whose places and number of slacks fit. Assumes nothing.
use borrow.Author.Rules.{rules}
use mathlib.Core.Path.{refl, ap}
use Rattle.laying.specs.declared.answer.LayoutAnswer.{LayoutAnswer}
use Rattle.laying.proofs.Told.{judged_told}
use Rattle.layout.proofs.CallPlaces.{slacks_place, slacks_count}
use Rattle.layout.proofs.slacks.honduvi_slacks.Goals as goal

pub refused-requires : goal.refused-requires
refused-requires c = slacks_place c.in-Err.refusal (rw c.in-Err.is at c.slacks-answer.ensures)

pub overflow_cast-written : goal.overflow_cast-written
overflow_cast-written c = let fits = slacks_count (rw c.in-Ok.is at c.slacks-answer.ensures) in search rules

pub returns-in-Err : goal.returns-in-Err
returns-in-Err c =
    record { answers_slacks = judged_told c.in-Err.refusal _ _ c.refused.ensures (rw c.in-Err.is at c.slacks-answer.ensures); saving_value = ap (λ (a : LayoutAnswer). a.saving) c.refused.ensures }

pub returns-in-Ok : goal.returns-in-Ok
returns-in-Ok c = record { answers_slacks = rw c.in-Ok.is at c.slacks-answer.ensures; saving_value = refl }
