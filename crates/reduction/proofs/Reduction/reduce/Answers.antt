-- `reduction::Reduction::reduce` meets its contract. The loop's invariant: the turns so far keep what holds of the arrays, and tallies and queue are right. The head rises. Assumes nothing.
use Rattle.reduction.proofs.TurnLaws.{turning_on, turning_ends}
use Rattle.reduction.proofs.Reduction.reduce.Goals as goal

pub loop-self-preserved : goal.loop-self-preserved
loop-self-preserved c =
    rw (c.visit.ensures.ends_after.0, c.visit.ensures.ends_after.1)
    (turning_on (rw c.requires.leaves at c.requires.moment.sound) c.loop-self.invariant c.visit.ensures.visited)

pub returns : goal.returns
returns c = turning_ends c.args.wires.now.few_wires c.loop-self.invariant c.loop-self-test.false
