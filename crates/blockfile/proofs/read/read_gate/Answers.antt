-- `blockfile::read::read_gate` meets its contract: the field is judged, and refused or stored with its net's activity.
-- Assumes nothing.
use mathlib.Core.Path.{◌∙◌, ap}
use Rattle.std.proofs.Common.{rules}
use Rattle.model.specs.Edition.{activity_of}
use Rattle.model.specs.File.{gate}
use Rattle.blockfile.proofs.Judged.{judged, behind_at, passed_on, told_refused, told_nothing}
use Rattle.blockfile.proofs.Gates.{gate_refused, gate_found}
use Rattle.blockfile.proofs.read.read_gate.Goals as goal

pub returns-in_err-map_err : goal.returns-in_err-map_err
returns-in_err-map_err c =
    let t = told_refused c.gate_fault.result c.args.offset c.in_err-map_err.field-0.0 c.map_err.ensures.cases (λ e x p. search rules) c.in_err-map_err.was in
    rw (passed_on _ _ c.from_residual.ensures.1)
    (gate_refused (judged (gate c.args.edition) c.new-reader.ensures c.field.ensures c.body-body.ensures.bytes c.gate_fault.ensures) c.args.gate _ _ t.is_fault t.told)

pub returns : goal.returns
returns c =
    let z = told_nothing _ c.gate_fault.result _ c.in_ok-map_err.field-0 c.map_err.ensures.cases c.in_ok-map_err.was in
    gate_found (judged (gate c.args.edition) c.new-reader.ensures c.field.ensures c.body-body.ensures.bytes c.gate_fault.ensures) c.args.gate _ _ _ _ z (c.activity_of.ensures ∙ ap (activity_of c.args.edition) c.number_at.ensures) c.store_gate.ensures (behind_at c.new-reader.ensures c.behind.ensures.1)
