-- `timing::latest::latest_times` meets its contract: the times of the gates placed before k are right. Assumes nothing.
use Rattle.timing.specs.Times.{Ready}
use Rattle.timing.proofs.Found.{Found}
use Rattle.timing.proofs.latest.latest_times.Given as goal

abbrev pub invariant-loop-gate : goal.invariant-loop-gate
invariant-loop-gate l = (r : Ready l.n l.wires.count l.order l.wires.sources.now l.wires.targets.now l.wires.delays.now l.gate_delays l.chains.heads l.chains.links l.base l.initial.times) → Found l.n l.wires.count l.order l.wires.sources.now l.wires.targets.now l.wires.delays.now l.gate_delays l.chains.heads l.chains.links l.base l.initial.times r l.gate-index l.times
