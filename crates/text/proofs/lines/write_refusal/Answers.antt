-- `text::lines::write_refusal` meets its contract: a word with a number, and a number behind it.
-- Assumes nothing.
use Rattle.text.proofs.Printed.{refusal_written}
use Rattle.text.proofs.lines.write_refusal.Goals as goal

pub returns : goal.returns
returns c = refusal_written c.args.number c.args.place c.write_named-next.ensures.1 c.write_number.ensures.1
