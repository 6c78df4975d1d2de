-- `heads::way::descend` meets its contract. Assumes nothing.
use native.Mathlib.Omega.{arith}
use Rattle.heads.proofs.Descent.{walk_starts, walk_on, walk_ends}
use Rattle.heads.proofs.way.descend.Goals as goal

pub loop-next-init : goal.loop-next-init
loop-next-init c = walk_starts c.requires.walkable c.next_down-next.ensures

pub loop-next-preserved : goal.loop-next-preserved
loop-next-preserved c = walk_on c.requires.walkable c.loop-next.invariant c.loop-next-test.true c.next_down-next-in-loop-next.ensures

pub returns : goal.returns
returns c = record { ended = walk_ends c.requires.walkable c.loop-next.invariant (λ l. omega arith) }
