-- `printing::held::print_held` meets its contract: the best increases are found of the block, then their refusal or the block is printed. Assumes nothing.
use Rattle.holding.proofs.HeldLaws.{the_lent}
use Rattle.printing.proofs.HeldLaws.{line_printed, sized, block_printed}
use Rattle.printing.proofs.held.print_held.Goals as goal

pub best_held-best-requires : goal.best_held-best-requires
best_held-best-requires c = record { held = c.requires.held; room = (the_lent c.requires.held.1).gates }

pub print_block-requires : goal.print_block-requires
print_block-requires c = record { held = c.requires.held; sized = sized c.requires.held.1 (rw c.in-Ok.is at (c.best_held-best.ensures c.requires.held.0 c.requires.held.1)) c.best_held-best.auto.increases; room = c.requires.room }

pub returns-in-Err : goal.returns-in-Err
returns-in-Err c = λ file h. line_printed h c.in-Err.refusal (rw c.in-Err.is at (c.best_held-best.ensures file h)) c.print_refusal.ensures

pub shape_of-out-in-Ok : goal.shape_of-out-in-Ok
shape_of-out-in-Ok c = c.print_block.auto.out

pub returns-in-Ok : goal.returns-in-Ok
returns-in-Ok c = λ file h. block_printed h (rw c.in-Ok.is at (c.best_held-best.ensures file h)) c.best_held-best.auto.increases c.print_block.ensures
