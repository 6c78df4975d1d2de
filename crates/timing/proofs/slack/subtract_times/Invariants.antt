-- `timing::slack::subtract_times` meets its contract: the first g slacks are written. Assumes nothing.
use mathlib.Core.Path.{◌≡◌}
use Rattle.lists.specs.Over.{build, over}
use Rattle.timing.specs.Slacks.{left_at}
use Rattle.timing.proofs.slack.subtract_times.Given as goal

abbrev pub invariant-loop-g : goal.invariant-loop-g
invariant-loop-g l = l.out ≡ over (build l.g (left_at l.times l.tails l.gate_delays l.deadline)) l.initial.out
