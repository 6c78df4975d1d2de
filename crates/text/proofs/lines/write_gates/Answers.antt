-- `text::lines::write_gates` meets its contract: the line of a gate stands behind those of the gates before it.
-- Assumes nothing.
use Rattle.std.proofs.Common.{arith, rules, get_or}
use lib.IntN.{pos}
use mir.Syntax.{w32}
use mir.Val.{SFits}
use Rattle.std.proofs.lemmas.Int.{to_z-of_z}
use Rattle.model.specs.Printout.{gate_texts}
use Rattle.text.proofs.Writing.{nothing}
use Rattle.text.proofs.Printed.{gates_written}
use Rattle.text.proofs.Signless.{natural_read}
use Rattle.text.specs.Numbers.{listed_line}
use Rattle.text.proofs.lines.write_gates.Goals as goal

pub loop-g-init : goal.loop-g-init
unfolding gate_texts
loop-g-init c = record { room = omega arith; written = nothing c.args.at c.args.out.now (omega arith) }

pub write_gate-next-requires : goal.write_gate-next-requires
write_gate-next-requires c =
    let slack = get_or c.args.slacks.now c.loop-g.g (pos 0) in
    let small : SFits w32 slack = search rules in
    (omega arith, natural_read slack small (c.requires.1.natural c.loop-g.g (omega arith)))

pub loop-g-preserved : goal.loop-g-preserved
loop-g-preserved c =
    let slack = get_or c.args.slacks.now c.loop-g.g (pos 0) in
    let small : SFits w32 slack = search rules in
    record {
      room = omega arith;
      written = gates_written (listed_line c.args.delays.now c.args.increases.now c.args.slacks.now) c.loop-g.g c.loop-g.invariant.written
          (rw (to_z-of_z w32 slack small) at c.write_gate-next.ensures.1);
    }
