-- `slots::finish::lowest_left` meets its contract. The loop's invariant: g is the lowest gate to which a live slot below i leads, or last. Assumes nothing.
use Rattle.lists.proofs.Search.{least_of_none}
use Rattle.slots.proofs.FinishLaws.{led_more}
use Rattle.slots.proofs.finish.lowest_left.Goals as goal

pub loop-i-init : goal.loop-i-init
loop-i-init c = least_of_none _

pub loop-i-preserved : goal.loop-i-preserved
loop-i-preserved c = led_more c.args.live.now c.args.to.now _ _ _ _ c.loop-i.invariant c.lower-g.ensures
