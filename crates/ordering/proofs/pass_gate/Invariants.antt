-- `ordering::pass_gate` meets its contract: each wire of the gate's chain is passed in its turn.
-- Assumes nothing.
use Rattle.ordering.specs.Chain.{link_to}
use Rattle.ordering.proofs.Turns.{Turn}
use Rattle.ordering.proofs.pass_gate.Given as goal

abbrev pub invariant-loop-next : goal.invariant-loop-next
invariant-loop-next l = Turn l.n l.wires.count l.wires.sources.now l.wires.targets.now l.initial.order l.left l.order l.count l.done (link_to l.next)

abbrev pub decreases-loop-next : goal.decreases-loop-next
decreases-loop-next l = link_to l.next
