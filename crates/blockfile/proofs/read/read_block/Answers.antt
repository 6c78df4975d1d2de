-- `blockfile::read::read_block` meets its contract: the block field, the gates and the wires in turn, each refused or read.
-- Assumes nothing.
use Rattle.std.proofs.Common.{rules}
use Rattle.model.specs.File.{block}
use Rattle.blockfile.proofs.Judged.{judged, behind_at, passed_on, told_refused, told_nothing}
use Rattle.blockfile.proofs.Whole.{block_refused, gates_at_most, block_gates_refused, wires_from, block_wires_refused, block_found}
use Rattle.blockfile.proofs.read.read_block.Goals as goal

pub returns-in_err-map_err : goal.returns-in_err-map_err
returns-in_err-map_err c =
    let t = told_refused c.block_fault.result 0 c.in_err-map_err.field-0.0 c.map_err.ensures.cases (λ e x p. search rules) c.in_err-map_err.was in
    rw (passed_on _ _ c.from_residual.ensures.1)
    (block_refused (judged block c.new-reader.ensures c.field.ensures c.body-body.ensures.bytes c.block_fault.ensures) c.in_err-map_err.field-0.0 t.is_fault t.told)

pub returns-in_err-gates_end : goal.returns-in_err-gates_end
returns-in_err-gates_end c =
    let z = told_nothing _ c.block_fault.result _ c.in_ok-map_err.field-0 c.map_err.ensures.cases c.in_ok-map_err.was in
    rw (passed_on _ _ c.from_residual-in_err-gates_end.ensures.1)
    (block_gates_refused (judged block c.new-reader.ensures c.field.ensures c.body-body.ensures.bytes c.block_fault.ensures) z (behind_at c.new-reader.ensures c.behind.ensures.1) c.in_err-gates_end.field-0.0 (rw c.from.ensures at c.in_err-gates_end.ensures))

pub read_wires-requires-clause-start_in_bounds : goal.read_wires-requires-clause-start_in_bounds
read_wires-requires-clause-start_in_bounds c =
    let z = told_nothing _ c.block_fault.result _ c.in_ok-map_err.field-0 c.map_err.ensures.cases c.in_ok-map_err.was in
    let j = judged block c.new-reader.ensures c.field.ensures c.body-body.ensures.bytes c.block_fault.ensures in
    (wires_from j z (behind_at c.new-reader.ensures c.behind.ensures.1) _ _ (rw c.from.ensures at c.in_ok-gates_end.ensures), gates_at_most j z)

pub returns-in_err-wires : goal.returns-in_err-wires
returns-in_err-wires c =
    let z = told_nothing _ c.block_fault.result _ c.in_ok-map_err.field-0 c.map_err.ensures.cases c.in_ok-map_err.was in
    rw (passed_on _ _ c.from_residual-in_err-wires.ensures.1)
    (block_wires_refused (judged block c.new-reader.ensures c.field.ensures c.body-body.ensures.bytes c.block_fault.ensures) z (behind_at c.new-reader.ensures c.behind.ensures.1) _ _ (rw c.from.ensures at c.in_ok-gates_end.ensures) c.in_err-wires.field-0.0 c.in_err-wires.ensures)

pub returns : goal.returns
returns c =
    let z = told_nothing _ c.block_fault.result _ c.in_ok-map_err.field-0 c.map_err.ensures.cases c.in_ok-map_err.was in
    rw c.block_said.ensures (block_found (judged block c.new-reader.ensures c.field.ensures c.body-body.ensures.bytes c.block_fault.ensures) z (behind_at c.new-reader.ensures c.behind.ensures.1) _ _ (rw c.from.ensures at c.in_ok-gates_end.ensures) _ c.in_ok-wires.ensures)
