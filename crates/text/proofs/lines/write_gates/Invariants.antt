-- The lines of the first g gates are written.
use Rattle.std.proofs.Common.{◌+◌, ◌*◌, ◌≤◌}
use Rattle.model.specs.Printout.{gate_texts}
use Rattle.text.specs.Written.{Written, gate_room}
use Rattle.text.specs.Numbers.{listed_line}
use Rattle.text.proofs.lines.write_gates.Given as goal

abbrev pub invariant-loop-g : goal.invariant-loop-g
invariant-loop-g l =
    record {
      room : l.next ≤ l.at + gate_room * l.g;
      written : Written (gate_texts (listed_line l.delays l.increases l.slacks) l.g) l.at l.initial.out l.out l.next;
    }
