-- `printing::printout` meets its contract: no room, a refusal of 1 to 9, or the printout of the held block. Assumes nothing.
use native.Mathlib.Omega.{arith}
use Rattle.printing.proofs.Outcome.{nothing_in, printed_in}
use Rattle.printing.proofs.HeldLaws.{ill_printed}
use Rattle.printing.proofs.printout.Goals as goal

pub returns-then-out-lt-PRINTOUT_BYTES : goal.returns-then-out-lt-PRINTOUT_BYTES
returns-then-out-lt-PRINTOUT_BYTES c = nothing_in (omega arith)

pub print_held-requires : goal.print_held-requires
print_held-requires c = record { held = (c.args.file.now, c.in-Ok.ensures.0); room = c.if-out-lt-PRINTOUT_BYTES.false }

pub returns-in-Err : goal.returns-in-Err
returns-in-Err c = printed_in c.if-out-lt-PRINTOUT_BYTES.false (ill_printed c.in-Err.refusal c.in-Err.ensures c.print_refusal.ensures)

pub shape_of-out-in-Ok : goal.shape_of-out-in-Ok
shape_of-out-in-Ok c = c.print_held.auto.out

pub returns-in-Ok : goal.returns-in-Ok
returns-in-Ok c = printed_in c.if-out-lt-PRINTOUT_BYTES.false (c.print_held.ensures c.args.file.now c.in-Ok.ensures.0)
