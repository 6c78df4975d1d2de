-- `judging::longest::slow_gates` meets its contract: the first g gates are slowed. Assumes nothing.
use mathlib.Core.Path.{sym}
use native.Mathlib.Omega.{arith}
use Rattle.lists.specs.Over.{build}
use Rattle.lists.proofs.Over.{over_none}
use Rattle.judging.proofs.Slowing.{added_more}
use Rattle.judging.proofs.longest.slow_gates.Goals as goal

pub loop-g-init : goal.loop-g-init
unfolding build
loop-g-init c = sym (over_none _)

pub loop-g-preserved : goal.loop-g-preserved
loop-g-preserved c =
    added_more c.loop-g.g c.args.delays.now c.args.increases.now c.args.slowed.now c.loop-g.slowed (omega (arith, c.requires.slowed_long, c.loop-g.auto.slowed)) c.loop-g.invariant
