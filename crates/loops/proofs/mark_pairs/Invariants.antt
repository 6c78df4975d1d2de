-- `loops::mark_pairs` meets its contract: the marks are those of the wires passed.
-- Assumes nothing.
use Rattle.std.proofs.Common.{length}
use Rattle.model.specs.Limits.{max_gates}
use Rattle.ordering.specs.Wires.{Wired}
use Rattle.loops.specs.Square.{PairMarks}
use Rattle.loops.proofs.mark_pairs.Given as goal

abbrev pub invariant-loop-source : goal.invariant-loop-source
invariant-loop-source l = PairMarks (Wired (length l.yielded) l.wires.sources.now l.wires.targets.now) max_gates l.square
