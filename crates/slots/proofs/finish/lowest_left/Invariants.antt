-- `slots::finish::lowest_left` meets its contract. The loop's invariant: g is the lowest gate to which a live slot below i leads, or last. Assumes nothing.
use Rattle.slots.specs.Sought.{LowestLed}
use Rattle.slots.proofs.finish.lowest_left.Given as goal

abbrev pub invariant-loop-i : goal.invariant-loop-i
invariant-loop-i l = LowestLed l.live l.to l.i l.last l.g
