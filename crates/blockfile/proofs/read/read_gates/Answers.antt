-- `blockfile::read::read_gates` meets its contract: one gate more is read, or refused, and then all are.
-- Assumes nothing.
use native.Mathlib.Omega.{arith}
use Rattle.blockfile.proofs.Judged.{passed_on}
use Rattle.blockfile.proofs.Gates.{gates_none, gates_more, gates_refused}
use Rattle.blockfile.proofs.read.read_gates.Goals as goal

pub loop-gate-init : goal.loop-gate-init
loop-gate-init c = gates_none _ _ _ _

pub returns-in_err-offset : goal.returns-in_err-offset
returns-in_err-offset c = rw (passed_on _ _ c.from_residual.ensures.1) (gates_refused c.loop-gate.invariant c.args.gates _ c.in_err-offset.field-0.0 (omega arith) c.in_err-offset.ensures)

pub loop-gate-preserved : goal.loop-gate-preserved
loop-gate-preserved c = gates_more c.loop-gate.invariant _ _ c.in_ok-offset.ensures
