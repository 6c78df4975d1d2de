-- `judging::longest::longest_with` meets its contract: the latest time at the last gate of the slowed network. Assumes nothing.
use Rattle.judging.proofs.Slowing.{addable, timeable, lasts}
use Rattle.judging.proofs.longest.longest_with.Goals as goal

pub slow_gates-requires : goal.slow_gates-requires
slow_gates-requires c = addable _ _ _ _ _ _ _ _ c.requires

pub times_from-requires : goal.times_from-requires
times_from-requires c = let w = c.wires.ensures in rw (w.count, w.sources, w.targets, w.delays) (timeable _ _ _ _ _ _ _ _ c.requires c.slow_gates.new.slowed c.slow_gates.auto.slowed c.slow_gates.ensures)

pub overflow_sub-result : goal.overflow_sub-result
overflow_sub-result c = c.requires.some

pub returns : goal.returns
returns c = let w = c.wires.ensures in lasts _ _ _ _ _ _ _ _ c.requires c.slow_gates.new.slowed c.slow_gates.auto.slowed c.slow_gates.ensures c.times_from.new.times (rw (w.count, w.sources, w.targets, w.delays) at c.times_from.ensures)
