-- `faults::gate_fault` meets its contract: the shape's fault, if it has one, else what the numbers decide.
-- Assumes nothing.
use mathlib.Core.Path.{◌≡◌, sym, ◌∙◌}
use mathlib.Core.Bool.{false}
use lib.ListN.{drop}
use Rattle.model.specs.File.{gate, falls, steps_in}
use Rattle.ranges.proofs.Steps.{steps_part}
use Rattle.faults.proofs.Shapes.{shape_passes, shape_passed_on}
use Rattle.faults.proofs.gate_fault.Goals as goal

pub returns-in_err-shape_fault : goal.returns-in_err-shape_fault
returns-in_err-shape_fault c =
    shape_passed_on (gate c.args.edition) c.args.field c.args.body.now c.in_err-shape_fault.field-0.0 _ c.from_residual.ensures.1 c.in_err-shape_fault.ensures

pub returns-then-not-drops_fall : goal.returns-then-not-drops_fall
returns-then-not-drops_fall c =
    let f : falls (steps_in (drop 4 c.args.body.now)) ≡ false = rw (steps_part c.args.body.now) at (sym c.drops_fall.ensures ∙ c.if-not-drops_fall.true) in
    sym (shape_passes (gate c.args.edition) c.args.field c.args.body.now (sym c.in_ok-shape_fault.ensures) ∙ rw (sym c.gate_in_range.ensures ∙ c.if-not-gate_in_range.false, f))
