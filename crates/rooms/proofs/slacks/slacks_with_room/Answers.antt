-- `rooms::slacks::slacks_with_room` meets its contract: room, then the slacks. Assumes nothing.
use Rattle.loading.proofs.HeldFile.{too_short}
use Rattle.holding.proofs.HeldLaws.{slackable}
use Rattle.rooms.proofs.SlacksLaws.{slacks_given}
use Rattle.rooms.proofs.slacks.slacks_with_room.Goals as goal

pub returns-then-out-n : goal.returns-then-out-n
returns-then-out-n c = λ file held. too_short file _ _ _ _ _ _ _ c.args.block.now.order c.args.out.now held.held.well c.if-out-n.true

pub write_slacks-requires : goal.write_slacks-requires
write_slacks-requires c =
    let w = c.wires.ensures in
    rw (w.count, w.sources, w.targets, w.delays)
    (slackable c.requires.1.held c.args.out.now c.if-out-n.false)

pub returns : goal.returns
returns c = let w = c.wires.ensures in λ file held. slacks_given held.held c.args.out.now _ c.if-out-n.false (rw (w.count, w.sources, w.targets, w.delays) at c.write_slacks.ensures)
