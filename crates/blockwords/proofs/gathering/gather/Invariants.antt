-- The loop's invariant: the number of gates and the gates below g are written.
-- Assumes nothing.
use Rattle.blockwords.specs.Gathered.{GatheredTo}
use Rattle.blockwords.proofs.gathering.gather.Given as goal

abbrev pub invariant-loop-g : goal.invariant-loop-g
invariant-loop-g l = GatheredTo l.g l.n l.counts l.step_widths l.drops l.inputs l.block
