-- `sizing::ticks::ticks_out` meets its contract: the ticks left lead to the increases that all of them lead to. Assumes nothing.
use Rattle.heads.specs.Plan.{plan}
use Rattle.handout.specs.State.{state}
use Rattle.sizing.proofs.Ticking.{Underway}
use Rattle.sizing.proofs.ticks.ticks_out.Given as goal

abbrev pub invariant-loop-run : goal.invariant-loop-run
invariant-loop-run l = Underway (plan l.block l.tree) (state l.initial.increases l.initial.heads) (state l.increases l.heads) l.i l.ticks l.left

abbrev pub decreases-loop-run : goal.decreases-loop-run
decreases-loop-run l = l.left
