-- `blocktext::refusal::print_refusal` meets its contract: the two numbers are those of the refusal. Assumes nothing.
use Rattle.blocktext.proofs.refusal.print_refusal.Goals as goal

pub returns : goal.returns
returns c = rw c.numbers_of-numbers.ensures at c.write_refusal.ensures
