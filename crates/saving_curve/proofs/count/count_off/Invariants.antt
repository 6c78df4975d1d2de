-- `saving_curve::count::count_off` meets its contract: what the takings so far earn and what is counted off from the position on come to all. The measure is the ticks wanted and the pairs ahead. Assumes nothing.
use Prim.Native.Nat.{◌+◌, ◌-◌}
use Rattle.saving_curve.specs.Position.{pairs_of}
use Rattle.saving_curve.proofs.Counting.{Counted}
use Rattle.saving_curve.proofs.count.count_off.Given as goal

abbrev pub invariant-loop-left : goal.invariant-loop-left
invariant-loop-left l = Counted (pairs_of l.curve) l.ticks l.next l.left l.earned

abbrev pub decreases-loop-left : goal.decreases-loop-left
decreases-loop-left l = l.left + (l.curve.pairs - l.next.pair)
