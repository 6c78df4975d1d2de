-- `resizing::ticks::fewest_ticks` meets its contract: the curve is found in slices of the call's own, and the ticks are counted off it. Assumes nothing.
use Rattle.reaching.proofs.CurveLaws.{curve_known}
use Rattle.resizing.proofs.ticks.fewest_ticks.Goals as goal

pub ticks_on_curve-requires : goal.ticks_on_curve-requires
ticks_on_curve-requires c = (c.args.file.now, curve_known (c.curve-found.ensures.answers_curve, c.curve-found.ensures.curve_bounds))

pub returns : goal.returns
returns c = c.ticks_on_curve.ensures c.args.file.now (curve_known (c.curve-found.ensures.answers_curve, c.curve-found.ensures.curve_bounds))
