-- `gains::steps::widths_of` meets its contract: the widths of its steps stand in one stretch. Assumes nothing.
use mathlib.Core.Path.{◌∙◌}
use Rattle.std.proofs.lemmas.Iterator.{YieldsList-from_slice}
use Rattle.std.proofs.lemmas.Iterator.Consumers.{sum_from_yields_List, fits_from_yields_list}
use Rattle.gains.proofs.Exceeding.{widths_sum, widths_fit}
use Rattle.gains.proofs.steps.widths_of.Goals as goal

pub sum-requires-clause-fits : goal.sum-requires-clause-fits
sum-requires-clause-fits c =
    fits_from_yields_list c.iter.result _ (YieldsList-from_slice _ c.iter.ensures.rest)
    (widths_fit c.args.counts.now c.args.step_widths.now c.args.g c.place_of-first.result c.requires c.place_of-first.ensures)

pub returns : goal.returns
returns c =
    sum_from_yields_List c.iter.result c.sum.result c.sum.ensures.ran (YieldsList-from_slice _ c.iter.ensures.rest)
    ∙ widths_sum c.args.counts.now c.args.step_widths.now c.args.g c.place_of-first.result c.requires c.place_of-first.ensures
