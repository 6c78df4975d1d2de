-- `saving_curve::reach::ticks_for` meets its contract: whole pairs are passed, and of the pair that earns enough only as many ticks as it takes. Assumes nothing.
use Rattle.saving_curve.specs.Position.{pairs_of}
use Rattle.saving_curve.proofs.Reaching.{Reaching}
use Rattle.saving_curve.proofs.reach.ticks_for.Given as goal

abbrev pub invariant-loop-pair : goal.invariant-loop-pair
invariant-loop-pair l = Reaching (pairs_of l.curve) l.at_start l.wanted (record { pair = l.pair; used = 0 }) l.ticks l.need
