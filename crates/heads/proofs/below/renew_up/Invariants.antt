-- `heads::below::renew_up` meets its contract. Assumes nothing.
use Prim.Native.Nat.{◌-◌}
use Rattle.heads.proofs.Renewing.{ClimbedIn}
use Rattle.heads.proofs.below.renew_up.Given as goal

abbrev pub invariant-loop-k : goal.invariant-loop-k
invariant-loop-k l = ClimbedIn l.tree l.initial.heads l.j l.i l.heads l.k

abbrev pub decreases-loop-k : goal.decreases-loop-k
decreases-loop-k l = l.i - l.k
