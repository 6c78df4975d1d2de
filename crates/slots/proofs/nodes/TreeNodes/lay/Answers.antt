-- `slots::nodes::TreeNodes::lay` meets its contract. The loop's invariant: the nodes below i are leaves with the delays of their wires. Assumes nothing.
use Rattle.std.proofs.Common.{◌≢◌, arith, get_or-set_other, get_or-set_same, below_more, length-set}
use Rattle.slots.proofs.nodes.TreeNodes.lay.Goals as goal

pub loop-i-preserved : goal.loop-i-preserved
loop-i-preserved c = (
  c.loop-i.invariant.0,
  rw length-set c.loop-i.invariant.1,
  c.loop-i.invariant.2,
  rw length-set c.loop-i.invariant.3,
  c.loop-i.invariant.4,
  below_more _ _
      (λ q h. let ne : q ≢ c.loop-i.i = omega arith in rw get_or-set_other (c.loop-i.invariant.5 q h))
      (get_or-set_same c.loop-i.self.kind c.loop-i.i 0 0 (omega arith)),
  below_more _ _
      (λ q h. let ne : q ≢ c.loop-i.i = omega arith in rw get_or-set_other (c.loop-i.invariant.6 q h))
      (get_or-set_same c.loop-i.self.gate c.loop-i.i _ 0 (omega arith)),
)
