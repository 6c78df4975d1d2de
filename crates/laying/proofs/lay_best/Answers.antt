-- `laying::lay_best` meets its contract: room, then the refusals of the best increases passed on, or the list as bytes. Assumes nothing.
use mathlib.Core.Path.{refl}
use native.Mathlib.Omega.{arith}
use Rattle.laying.proofs.LayoutLaws.{gates_most, no_room, best_place, best_refused, best_given, nothing_saved}
use Rattle.laying.proofs.lay_best.Goals as goal

pub overflow_mul-needed : goal.overflow_mul-needed
overflow_mul-needed c = let h = gates_most c.requires.1 in omega arith

pub refused-requires : goal.refused-requires
refused-requires c = let h = gates_most c.requires.1 in omega arith

pub returns-then-increases-needed : goal.returns-then-increases-needed
returns-then-increases-needed c =
    record { layout = λ file held. no_room held c.args.increases.now _ c.refused.ensures (omega (arith, c.if-increases-needed.true)); no_saving_refused = nothing_saved _ c.refused.ensures }

pub best_held-best-requires : goal.best_held-best-requires
best_held-best-requires c =
    let h = gates_most c.requires.1 in record { held = c.requires; room = omega arith }

pub refused-requires-in-Err : goal.refused-requires-in-Err
refused-requires-in-Err c =
    best_place c.requires.1 c.in-Err.refusal (rw c.in-Err.is at (c.best_held-best.ensures c.requires.0 c.requires.1))

pub write_increases-requires : goal.write_increases-requires
write_increases-requires c = let h = gates_most c.requires.1 in (h, omega arith, omega (arith, c.if-increases-needed.false))

pub overflow_cast-result : goal.overflow_cast-result
overflow_cast-result c = let h = gates_most c.requires.1 in omega arith

pub returns-in-Err : goal.returns-in-Err
returns-in-Err c =
    record { layout = λ file held. best_refused held c.in-Err.refusal _ c.args.increases.now (omega (arith, c.if-increases-needed.false)) (rw c.in-Err.is at (c.best_held-best.ensures file held)) c.refused-in-Err.ensures; no_saving_refused = nothing_saved _ c.refused-in-Err.ensures }

pub returns-in-Ok : goal.returns-in-Ok
returns-in-Ok c =
    record { layout = λ file held. best_given held c.in-Ok.found.saving c.in-Ok.found.gates c.args.increases.now _ (omega (arith, c.if-increases-needed.false)) (rw c.in-Ok.is at (c.best_held-best.ensures file held)) c.write_increases.ensures; no_saving_refused = λ (refused : _). absurd (refused refl) }
