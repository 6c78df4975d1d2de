-- `slots::Slots::lay` meets its contract. The loop's invariant: the slots below i are live, lead where the wires lead, and have the leaves of their numbers. Assumes nothing.
use Rattle.std.proofs.Common.{◌≢◌, arith, get_or-set_other, get_or-set_same, below_more, length-set}
use Rattle.slots.proofs.Slots.lay.Goals as goal

pub loop-i-preserved : goal.loop-i-preserved
loop-i-preserved c = (
  rw length-set c.loop-i.invariant.0,
  rw length-set c.loop-i.invariant.1,
  rw length-set c.loop-i.invariant.2,
  below_more _ _
      (λ q h. let ne : q ≢ c.loop-i.i = omega arith in rw get_or-set_other (c.loop-i.invariant.3 q h))
      (get_or-set_same c.loop-i.self.live c.loop-i.i 1 0 (omega arith)),
  below_more _ _
      (λ q h. let ne : q ≢ c.loop-i.i = omega arith in rw get_or-set_other (c.loop-i.invariant.4 q h))
      (get_or-set_same c.loop-i.self.to c.loop-i.i _ 0 (omega arith)),
  below_more _ _
      (λ q h. let ne : q ≢ c.loop-i.i = omega arith in rw get_or-set_other (c.loop-i.invariant.5 q h))
      (get_or-set_same c.loop-i.self.top c.loop-i.i c.loop-i.i 0 (omega arith)),
)
