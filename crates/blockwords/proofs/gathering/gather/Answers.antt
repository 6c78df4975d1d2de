-- The loop's invariant: the number of gates and the gates below g are written.
-- Assumes nothing.
use borrow.Author.Rules.{rules}
use Rattle.blockwords.proofs.Written.{no_gates, gate_more, all_gates}
use Rattle.blockwords.proofs.gathering.gather.Goals as goal

pub loop-g-init : goal.loop-g-init
loop-g-init c = no_gates c.requires

pub gather_gate-requires : goal.gather_gate-requires
gather_gate-requires c = (search rules, c.requires.few _ (search rules), search rules)

pub loop-g-preserved : goal.loop-g-preserved
loop-g-preserved c = gate_more c.gather_gate.ensures (search rules) c.requires.few (search rules) c.loop-g.invariant

pub returns : goal.returns
returns c = all_gates (search rules) c.loop-g.invariant
