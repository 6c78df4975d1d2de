-- `sizing::curve::spend_ticks` meets its contract: the runs noted so far, followed by those of the ticks that are left, are all runs. Assumes nothing.
use Rattle.heads.specs.Plan.{plan}
use Rattle.handout.specs.State.{state}
use Rattle.sizing.proofs.Spending.{Spending}
use Rattle.sizing.proofs.curve.spend_ticks.Given as goal

abbrev pub invariant-loop-k : goal.invariant-loop-k
invariant-loop-k l = Spending (plan l.block l.tree) l.initial.increases l.i l.ticks l.steps l.left l.count l._k l.initial.pair_widths l.initial.pair_gains (state l.increases l.heads) l.pair_widths l.pair_gains
