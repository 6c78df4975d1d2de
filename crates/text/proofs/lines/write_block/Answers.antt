-- `text::lines::write_block` meets its contract: the lines of the gates stand behind the head.
-- Assumes nothing.
use native.Mathlib.Omega.{arith}
use Rattle.text.proofs.Writing.{then}
use Rattle.text.proofs.lines.write_block.Goals as goal

pub returns : goal.returns
returns c = (omega arith, then c.write_head-next.ensures.1 c.write_gates.ensures.1)
