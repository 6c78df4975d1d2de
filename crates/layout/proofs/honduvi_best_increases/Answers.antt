-- `layout::honduvi_best_increases` meets its contract: the refusals 1 to 9 as loading finds them, then room and the best increases. Assumes nothing.
use Rattle.laying.proofs.LayoutLaws.{loading_refused, nothing_saved}
use Rattle.laying.proofs.Places.{loading_place}
use Rattle.layout.proofs.honduvi_best_increases.Goals as goal

pub refused-requires : goal.refused-requires
refused-requires c = loading_place c.in-Err.refusal c.in-Err.ensures

pub lay_best-requires : goal.lay_best-requires
lay_best-requires c = (c.args.file.now, c.in-Ok.ensures.0)

pub returns-in-Err : goal.returns-in-Err
returns-in-Err c =
    record { answers_layout = loading_refused c.in-Err.refusal _ c.in-Err.ensures c.refused.ensures; no_saving_refused = nothing_saved _ c.refused.ensures }

pub returns-in-Ok : goal.returns-in-Ok
returns-in-Ok c =
    record { answers_layout = c.lay_best.ensures.layout c.args.file.now c.in-Ok.ensures.0; no_saving_refused = c.lay_best.ensures.no_saving_refused }
