-- `tallies::queue::Queue::line_up` meets its contract. The loop's invariant: the gates below g stand in the queue. Assumes nothing.
use lib.ListN.{length-set}
use native.Mathlib.Omega.{arith}
use Rattle.tallies.proofs.QueueLaws.{lined_up_more}
use Rattle.tallies.proofs.queue.Queue.line_up.Goals as goal

pub loop-g-preserved : goal.loop-g-preserved
loop-g-preserved c = (
  omega arith,
  omega arith,
  rw (c.put.ensures.gates_after, length-set) c.loop-g.invariant.2,
  rw (c.put.ensures.places_after, length-set) c.loop-g.invariant.3,
  rw (c.put.ensures.gates_after, c.put.ensures.places_after, c.loop-g.invariant.1) (lined_up_more c.loop-g.self.gates c.loop-g.self.places c.loop-g.g (omega arith) (omega arith) c.loop-g.invariant.4),
)
