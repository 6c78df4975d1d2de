-- `blockfile::read::read_gates` meets its contract. The loop's invariant: the gates passed were read and stand in the arrays.
-- Assumes nothing.
use Rattle.blockfile.specs.Held.{gate_arrays}
use Rattle.blockfile.proofs.Gates.{GatesSoFar}
use Rattle.blockfile.proofs.read.read_gates.Given as goal

abbrev pub invariant-loop-gate : goal.invariant-loop-gate
invariant-loop-gate l = GatesSoFar l.edition l.file l.start l.gate (gate_arrays l.delays l.activities l.counts l.step_widths l.drops) l.offset
