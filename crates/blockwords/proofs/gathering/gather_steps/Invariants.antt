-- The loop's invariant: the steps of gate g below j are written, and no word beside its steps.
-- Assumes nothing.
use Rattle.blockwords.specs.Gathered.{StepsWritten}
use Rattle.blockwords.proofs.gathering.gather_steps.Given as goal

abbrev pub invariant-loop-j : goal.invariant-loop-j
invariant-loop-j l = StepsWritten l.g l.j l.step_widths l.drops l.initial.block l.block
