-- `text::lines::write_head` meets its contract: five words, each with its number, one behind another.
-- Assumes nothing.
use native.Mathlib.Omega.{arith}
use Rattle.text.proofs.Printed.{head_written}
use Rattle.text.proofs.lines.write_head.Goals as goal

pub returns : goal.returns
returns c = (
  omega arith,
  head_written c.args.head.gates c.args.head.wires c.args.head.start c.args.head.spare c.args.head.saving c.from.ensures c.from-2.ensures
      c.write_named-next.ensures.1 c.write_named-next-2.ensures.1 c.write_named-next-3.ensures.1 c.write_named-next-4.ensures.1 c.write_named.ensures.1,
)
