use borrow.Author.Rules.{rules}
use Rattle.blockwords.proofs.Written.{gate_written}
use Rattle.blockwords.proofs.gathering.gather_gate.Goals as goal

pub gather_steps-requires : goal.gather_steps-requires
gather_steps-requires c = (search rules, search rules, rw c.gather_numbers.ensures (search rules))

pub returns : goal.returns
returns c = gate_written _ _ _ _ (search rules) (search rules) (search rules) (rw c.gather_numbers.ensures at c.gather_steps.ensures)
