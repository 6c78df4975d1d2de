-- `judging::longest::slow_gates` meets its contract: the first g gates are slowed. Assumes nothing.
use Rattle.judging.specs.Slowed.{Added}
use Rattle.judging.proofs.longest.slow_gates.Given as goal

abbrev pub invariant-loop-g : goal.invariant-loop-g
invariant-loop-g l = Added l.g l.delays l.increases l.initial.slowed l.slowed
