-- `text::pieces::write_named` meets its contract: behind a word of at most eight bytes there is room for the number.
-- Assumes nothing.
use Rattle.std.proofs.Common.{arith}
use Rattle.text.proofs.Writing.{copied}
use Rattle.text.proofs.Printed.{named_written}
use Rattle.text.proofs.pieces.write_named.Goals as goal

pub returns : goal.returns
returns c = (
  omega arith,
  named_written c.args.word.now c.args.n c.args.end
      (copied c.args.word.now c.args.at c.args.out.now _ _ (omega arith) (omega arith) c.copy_from_slice.ensures.after)
      c.write_number.ensures.1,
)
