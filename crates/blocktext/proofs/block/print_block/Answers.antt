-- `blocktext::block::print_block` meets its contract: what it hands over to be printed are the numbers of the block. The promise comes first, then what the calls ask. Assumes nothing.
use native.Mathlib.Omega.{arith}
use Rattle.holding.proofs.HeldLaws.{slackable, the_limits, the_lent}
use Rattle.text.proofs.Writing.{as_text}
use Rattle.blocktext.proofs.BlockLaws.{text_is, listed, spare_fits}
use Rattle.blocktext.proofs.block.print_block.Goals as goal

pub returns : goal.returns
returns c = let w = c.wires.ensures in as_text (text_is c.requires.held.1 _ c.write_slacks.new.out (rw (w.count, w.sources, w.targets, w.delays) at c.write_slacks.ensures) c.requires.sized (c.start_of-start.ensures.start _ _)) c.write_block.ensures.1

pub overflow_add-spare : goal.overflow_add-spare
overflow_add-spare c = omega (arith, (the_limits c.requires.held.1).arrival_most, c.start_of-start.ensures.small)

pub overflow_sub-spare : goal.overflow_sub-spare
overflow_sub-spare c = spare_fits c.requires.held.1 c.requires.sized (c.start_of-start.ensures.start _ _)

pub write_slacks-requires : goal.write_slacks-requires
write_slacks-requires c = let w = c.wires.ensures in rw (w.count, w.sources, w.targets, w.delays) (slackable c.requires.held.1 _ (the_lent c.requires.held.1).gates)

pub write_block-requires : goal.write_block-requires
write_block-requires c = let w = c.wires.ensures in ((the_lent c.requires.held.1).gates, c.requires.room, listed c.requires.held.1 _ _ (rw (w.count, w.sources, w.targets, w.delays) at c.write_slacks.ensures) c.requires.sized c.write_slacks.auto.out)

pub shape_of-out : goal.shape_of-out
shape_of-out c = c.write_block.auto.out

pub start_of-start-requires : goal.start_of-start-requires
start_of-start-requires c = (c.requires.held.0, c.args.block.now.arrival, c.args.block.now.deadline, c.requires.held.1)
