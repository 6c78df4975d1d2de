-- `answers::curve_lines::curve_held` meets its contract: the tree is planted, start is measured, and the runs from the raised start on are noted. Assumes nothing.
use Rattle.std.proofs.lemmas.Result.{err_from_is_err_and}
use Rattle.model.specs.Answer.{fits}
use mathlib.Core.Path.{refl, sym}
use native.Mathlib.Omega.{arith}
use lib.Seq.{length-take-le}
use Rattle.holding.proofs.HeldLaws.{block, the_lent}
use Rattle.answers.proofs.Plantable.{given, wires_long}
use Rattle.answers.proofs.PlantedLaws.{tree_held}
use Rattle.answers.proofs.Lines.{curve_line, curve_bounds}
use Rattle.answers.proofs.curve_lines.curve_held.Goals as goal

pub plant_block-requires : goal.plant_block-requires
plant_block-requires c =
    let w = c.wires.ensures in
    record { given = (block c.requires.held.3, rw (w.count, w.sources, w.targets, w.delays) (given c.requires.held.3)); wires_long = rw (w.count, w.sources, w.targets, w.delays) (wires_long c.requires.held.3); nodes_long = omega arith }

pub returns-in_err-plant_block : goal.returns-in_err-plant_block
returns-in_err-plant_block c =
    let w = c.wires.ensures in
    let p = err_from_is_err_and c.from_residual.result c.from_residual.ensures.1 in
    rw (p.1, p.2) (record { lines = λ file arrival deadline h. fits _ (c.in_err-plant_block.ensures.planted (block h) (rw (w.count, w.sources, w.targets, w.delays) (given h))).0 refl; curve_bounds = tt })

pub overflow_cast-n : goal.overflow_cast-n
overflow_cast-n c = omega (arith, (the_lent c.requires.held.3).gates)

pub slice_bounds-increases-end : goal.slice_bounds-increases-end
slice_bounds-increases-end c = omega (arith, (the_lent c.requires.held.3).gates)

pub slice_bounds-tree_curve-end : goal.slice_bounds-tree_curve-end
slice_bounds-tree_curve-end c = sym (length-take-le _ _ (omega (arith, (the_lent c.requires.held.3).gates)))

pub tree_curve-curve-requires : goal.tree_curve-curve-requires
tree_curve-curve-requires c =
    let w = c.wires.ensures in
    record { tree_held = (block c.requires.held.3, (tree_held c.requires.held.3 (c.in_ok-plant_block.ensures.planted (block c.requires.held.3) (rw (w.count, w.sources, w.targets, w.delays) (given c.requires.held.3))) _ c.input_activities_of-inputs.ensures.long c.input_activities_of-inputs.ensures.activities (c.start_of-start.ensures.start _ _) c.start_of-start.ensures.small)); increases_len = length-take-le _ _ (omega (arith, (the_lent c.requires.held.3).gates)); max_pairs_in_bounds = c.requires.room }

pub shape_of-widths : goal.shape_of-widths
shape_of-widths c = c.tree_curve-curve.auto.pair_widths

pub shape_of-gains : goal.shape_of-gains
shape_of-gains c = c.tree_curve-curve.auto.pair_gains

pub returns : goal.returns
returns c =
    let w = c.wires.ensures in
    record {
      lines =
          λ file arrival deadline h.
          let t = tree_held h (c.in_ok-plant_block.ensures.planted (block h) (rw (w.count, w.sources, w.targets, w.delays) (given h))) _ c.input_activities_of-inputs.ensures.long c.input_activities_of-inputs.ensures.activities (c.start_of-start.ensures.start _ _) c.start_of-start.ensures.small in
          curve_line h t.fits (c.tree_curve-curve.ensures (block h) t) (c.start_of-start.ensures.start _ _);
      curve_bounds =
          let t = tree_held c.requires.held.3 (c.in_ok-plant_block.ensures.planted (block c.requires.held.3) (rw (w.count, w.sources, w.targets, w.delays) (given c.requires.held.3))) _ c.input_activities_of-inputs.ensures.long c.input_activities_of-inputs.ensures.activities (c.start_of-start.ensures.start _ _) c.start_of-start.ensures.small in
          curve_bounds t (c.tree_curve-curve.ensures (block c.requires.held.3) t);
    }

pub shared_ref_as_front-steps : goal.shared_ref_as_front-steps
shared_ref_as_front-steps c = (the_lent c.requires.held.3).gates
