-- `saving_curve::count::count_off` meets its contract: what the takings so far earn and what is counted off from the position on come to all. The measure is the ticks wanted and the pairs ahead. Assumes nothing.
use mathlib.Core.Logic.{inl, inr}
use native.Mathlib.Omega.{arith}
use Rattle.lists.proofs.Over.{length_build}
use Rattle.saving_curve.proofs.Counting.{counting_starts, counting_ends, turn_takes, turn_shortens, turn_fits, turn_counts}
use Rattle.saving_curve.proofs.count.count_off.Goals as goal

pub loop-left-init : goal.loop-left-init
loop-left-init c = rw c.front-next.ensures (counting_starts _ _)

pub overflow_sub-left : goal.overflow_sub-left
overflow_sub-left c = turn_takes c.args.curve c.args.ticks c.loop-left.earned c.loop-left.next c.take-taken.ensures

pub earned-earned-requires : goal.earned-earned-requires
earned-earned-requires c = let all = turn_fits c.args.curve c.args.ticks c.loop-left.earned c.loop-left.next c.take-taken.ensures c.loop-left.invariant c.requires in omega arith

pub overflow_add-earned : goal.overflow_add-earned
overflow_add-earned c = let all = turn_fits c.args.curve c.args.ticks c.loop-left.earned c.loop-left.next c.take-taken.ensures c.loop-left.invariant c.requires in omega arith

pub loop-left-smaller : goal.loop-left-smaller
loop-left-smaller c = turn_shortens c.args.curve c.args.ticks c.loop-left.earned c.loop-left.next c.take-taken.ensures (omega arith) (omega arith)

pub loop-left-preserved : goal.loop-left-preserved
loop-left-preserved c = rw c.earned-earned.ensures (turn_counts c.args.curve c.args.ticks c.loop-left.earned c.loop-left.next c.take-taken.ensures c.loop-left.invariant)

pub returns-else-next-curve : goal.returns-else-next-curve
returns-else-next-curve c = counting_ends _ _ _ _ _ c.loop-left.invariant (inr (rw length_build (omega arith)))

pub returns-after-loop-left : goal.returns-after-loop-left
returns-after-loop-left c = counting_ends _ _ _ _ _ c.loop-left.invariant (inl (omega arith))
