-- The loop's invariant: the steps of gate g below j are written, and no word beside its steps.
-- Assumes nothing.
use borrow.Author.Rules.{rules}
use Rattle.blockwords.proofs.Written.{no_steps, step_more, all_steps}
use Rattle.blockwords.proofs.gathering.gather_steps.Goals as goal

pub loop-j-init : goal.loop-j-init
loop-j-init c = no_steps

pub loop-j-preserved : goal.loop-j-preserved
loop-j-preserved c = rw c.gather_step.ensures (step_more c.loop-j.invariant (search rules) (search rules) (search rules))

pub returns : goal.returns
returns c = all_steps (search rules) c.loop-j.invariant
