-- `text::lines::write_gate` meets its contract: four numbers, one behind another, of which the last needs no sign.
-- Assumes nothing.
use Rattle.std.proofs.Common.{arith, sym, ap, ◌∙◌}
use lib.IntN.{pos}
use Rattle.text.proofs.Printed.{gate_written}
use Rattle.text.proofs.Signless.{natural_size}
use Rattle.text.proofs.lines.write_gate.Goals as goal

pub returns : goal.returns
returns c =
    let size = natural_size c.args.slack c.ranges.slack c.requires.1 in (
      omega arith,
      gate_written c.args.g c.args.delay c.args.increase c.args.at c.args.slack c.from.ensures c.from-2.ensures
          (size ∙ ap pos (sym c.unsigned_abs.ensures.value ∙ sym c.from-3.ensures))
          c.write_number-next.ensures.1 c.write_number-next-2.ensures.1 c.write_number-next-3.ensures.1 c.write_number.ensures.1,
    )
