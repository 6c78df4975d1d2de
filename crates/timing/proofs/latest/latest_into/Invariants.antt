-- `timing::latest::latest_into` meets its contract: a walk along the gate's chain of wires. Assumes nothing.
use Rattle.ordering.specs.Chain.{link_to}
use Rattle.timing.proofs.Walk.{Walk}
use Rattle.timing.proofs.latest.latest_into.Given as goal

abbrev pub invariant-loop-next : goal.invariant-loop-next
invariant-loop-next l = Walk l.wires.sources.now l.wires.targets.now l.wires.delays.now l.times l.base l.g l.wires.count l.latest (link_to l.next)

abbrev pub decreases-loop-next : goal.decreases-loop-next
decreases-loop-next l = link_to l.next
