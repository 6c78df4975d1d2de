-- `saving_curve::position::Position::take` meets its contract: the ticks stay within the pair, or take all that is left of it. Assumes nothing.
use Rattle.saving_curve.proofs.Held.{taken_all}
use Rattle.saving_curve.proofs.position.Position.take.Goals as goal

pub returns-else-self-curve : goal.returns-else-self-curve
returns-else-self-curve c = taken_all c.args.curve c.args.self c.args.ticks _ _ c.rest-rest.ensures.taken c.min-taken.ensures c.else-self-curve.either
