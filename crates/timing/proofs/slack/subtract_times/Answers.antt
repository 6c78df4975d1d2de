-- `timing::slack::subtract_times` meets its contract: the first g slacks are written. Assumes nothing.
use mathlib.Core.Path.{sym}
use Rattle.lists.specs.Over.{build}
use Rattle.lists.proofs.Over.{over_none}
use Rattle.timing.proofs.Subtraction.{slack_written}
use Rattle.timing.proofs.slack.subtract_times.Goals as goal

pub loop-g-init : goal.loop-g-init
unfolding build
loop-g-init c = sym (over_none _)

pub loop-g-preserved : goal.loop-g-preserved
loop-g-preserved c = slack_written _ _ _ _ _ _ c.requires c.loop-g.g c.loop-g.out c.loop-g-test.true c.loop-g.invariant
