-- `blockfile::read::read_wire` meets its contract: the field is judged, and refused or stored and noted in the table.
-- Assumes nothing.
use native.Mathlib.Omega.{arith}
use Rattle.std.proofs.Common.{rules}
use Rattle.model.specs.File.{wire}
use Rattle.blockfile.proofs.Judged.{judged, behind_at, passed_on, told_refused, told_nothing}
use Rattle.blockfile.proofs.Wires.{wire_refused, wire_found}
use Rattle.blockfile.proofs.read.read_wire.Goals as goal

pub returns-in_err-map_err : goal.returns-in_err-map_err
returns-in_err-map_err c =
    let t = told_refused c.wire_fault.result c.args.offset c.in_err-map_err.field-0.0 c.map_err.ensures.cases (λ e x p. search rules) c.in_err-map_err.was in
    rw (passed_on _ _ c.from_residual.ensures.1)
    (wire_refused (λ ws m. judged (wire c.args.edition c.args.gates ws) c.new-reader.ensures c.field.ensures c.body-body.ensures.bytes (c.wire_fault.ensures ws m)) _ _ t.is_fault t.told)

pub returns : goal.returns
returns c =
    let z = told_nothing _ c.wire_fault.result _ c.in_ok-map_err.field-0 c.map_err.ensures.cases c.in_ok-map_err.was in
    wire_found (λ ws m. judged (wire c.args.edition c.args.gates ws) c.new-reader.ensures c.field.ensures c.body-body.ensures.bytes (c.wire_fault.ensures ws m)) _ _ _ _ _ _ _ _ (omega (arith, c.requires.wire_room.sources, c.requires.gates_le_max_gates.1)) (omega (arith, c.requires.wire_room.targets, c.requires.gates_le_max_gates.1)) (omega (arith, c.requires.wire_room.delays, c.requires.gates_le_max_gates.1)) c.from.ensures c.from-2.ensures c.wire_delay.ensures c.mark.ensures z (behind_at c.new-reader.ensures c.behind.ensures.1)
