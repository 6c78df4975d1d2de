-- `saving_curve::reach::ticks_for` meets its contract: whole pairs are passed, and of the pair that earns enough only as many ticks as it takes. Assumes nothing.
use native.Mathlib.Omega.{arith}
use Rattle.lists.proofs.Over.{length_build}
use Rattle.saving_curve.proofs.Reaching.{at_start_enough, reaching_starts, nowhere, turn_fits, turn_passes, turn_gains, turn_reaches, turn_few}
use Rattle.saving_curve.proofs.reach.ticks_for.Goals as goal

pub returns-then-wanted-at_start : goal.returns-then-wanted-at_start
returns-then-wanted-at_start c = at_start_enough _ _ _ c.if-wanted-at_start.true

pub loop-pair-init : goal.loop-pair-init
loop-pair-init c = reaching_starts _ _ _ c.if-wanted-at_start.false

pub earned-earned-requires : goal.earned-earned-requires
earned-earned-requires c = turn_fits c.args.curve c.loop-pair.invariant (omega arith) c.rest-whole.ensures.taken c.requires.1

pub ticks_of-requires : goal.ticks_of-requires
ticks_of-requires c = (turn_gains c.args.curve c.loop-pair.invariant (omega arith) c.rest-whole.ensures.taken (omega arith), omega (arith, c.loop-pair.invariant.some))

pub overflow_add-result : goal.overflow_add-result
overflow_add-result c =
    let few = turn_few c.args.curve c.loop-pair.invariant (omega arith) c.rest-whole.ensures.taken (omega arith) c.ticks_of.ensures in
    omega (arith, c.loop-pair.invariant.few, c.requires.0)

pub returns-then-need-earned : goal.returns-then-need-earned
returns-then-need-earned c = turn_reaches c.args.curve c.loop-pair.invariant (omega arith) c.rest-whole.ensures.taken (omega arith) c.ticks_of.ensures

pub overflow_add-ticks : goal.overflow_add-ticks
overflow_add-ticks c = omega (arith, c.loop-pair.invariant.few, c.requires.0)

pub loop-pair-preserved : goal.loop-pair-preserved
loop-pair-preserved c = rw (c.from-ticks.ensures, c.earned-earned.ensures)
    (turn_passes c.args.curve c.loop-pair.invariant (omega arith) c.rest-whole.ensures.taken (omega arith) (omega arith))

pub returns : goal.returns
returns c = nowhere c.loop-pair.invariant (rw length_build (omega arith))
