-- `resizing::slacks::slacks` meets its contract: the refusals 1 to 9 as loading finds them, then what is found of the held block. Assumes nothing.
use Rattle.loading.proofs.Refused.{passed_up}
use Rattle.loading.proofs.HeldFile.{times_held}
use Rattle.resizing.proofs.slacks.slacks.Goals as goal

pub returns-in_err-load : goal.returns-in_err-load
returns-in_err-load c = passed_up _ c.from_residual.result c.in_err-load.field-0.0 c.from_residual.ensures.1 c.in_err-load.ensures

pub slacks_with_room-requires : goal.slacks_with_room-requires
slacks_with_room-requires c = (c.args.file.now, times_held c.in_ok-load.ensures.0)

pub returns : goal.returns
returns c = c.slacks_with_room.ensures c.args.file.now (times_held c.in_ok-load.ensures.0)
