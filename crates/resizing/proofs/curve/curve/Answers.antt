-- `resizing::curve::curve` meets its contract: the refusals 1 to 9 as loading finds them, then what is found of the held block. Assumes nothing.
use Rattle.loading.proofs.Refused.{passed_up}
use Rattle.resizing.proofs.curve.curve.Goals as goal

pub returns-in_err-load-clause-answers_curve : goal.returns-in_err-load-clause-answers_curve
returns-in_err-load-clause-answers_curve c = passed_up _ c.from_residual.result c.in_err-load.field-0.0 c.from_residual.ensures.1 c.in_err-load.ensures

pub returns-clause-answers_curve : goal.returns-clause-answers_curve
returns-clause-answers_curve c = c.curve_with_room.ensures.curve c.args.file.now _ _ c.in_ok-load.ensures.0

pub curve_with_room-requires : goal.curve_with_room-requires
curve_with_room-requires c = (c.args.file.now, c.load.new.self.arrival, c.load.new.self.deadline, c.in_ok-load.ensures.0)
