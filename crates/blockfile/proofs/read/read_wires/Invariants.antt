-- `blockfile::read::read_wires` meets its contract. The loop's invariant: the wires passed were read and stand in the arrays and in the table.
-- Assumes nothing.
use Prim.Native.Nat.{◌-◌, ◌≤◌}
use Rattle.model.specs.Limits.{max_wires}
use Rattle.blockfile.specs.Held.{wire_arrays}
use Rattle.blockfile.proofs.Wires.{WiresSoFar}
use Rattle.blockfile.proofs.read.read_wires.Given as goal

abbrev pub invariant-loop-offset : goal.invariant-loop-offset
invariant-loop-offset l =
    record {
      most : l.wires ≤ max_wires;
      so_far : WiresSoFar l.edition l.gates l.file l.start l.wires (wire_arrays l.sources l.targets l.wire_delays) l.seen l.offset;
    }

abbrev pub decreases-loop-offset : goal.decreases-loop-offset
decreases-loop-offset l = max_wires - l.wires
