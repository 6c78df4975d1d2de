-- `blockfile::store::store_steps` meets its contract. The loop's invariant: the steps passed are stored.
-- Assumes nothing.
use Rattle.blockfile.proofs.Stores.{StepsSoFar}
use Rattle.blockfile.proofs.store.store_steps.Given as goal

abbrev pub invariant-loop-j : goal.invariant-loop-j
invariant-loop-j l = StepsSoFar l.fn.steps l.gate l.j l.initial.step_widths l.initial.drops l.step_widths l.drops
