-- `timing::slack::write_slacks` meets its contract: the times from the first gate on and back from the last leave the slacks. Assumes nothing.
use mathlib.Core.Path.{◌∙◌}
use Rattle.timing.proofs.Slacks.{forward_able, back_able, subtractable, slacks_are}
use Rattle.timing.proofs.slack.write_slacks.Goals as goal

pub times_from-requires : goal.times_from-requires
times_from-requires c = forward_able _ _ _ _ _ _ _ _ _ _ c.requires

pub times_from-requires-2 : goal.times_from-requires-2
times_from-requires-2 c = rw c.reversed.ensures (back_able _ _ _ _ _ _ _ _ _ _ c.requires _ c.reverse_order.auto.back c.reverse_order.ensures)

pub subtract_times-requires : goal.subtract_times-requires
subtract_times-requires c = subtractable _ _ _ _ _ _ _ _ _ _ c.requires c.reverse_order.new.back c.times_from.new.times c.times_from-2.new.times c.reverse_order.ensures c.times_from.ensures (rw c.reversed.ensures at c.times_from-2.ensures) c.times_from.auto.times c.times_from-2.auto.times

pub returns : goal.returns
returns c = c.subtract_times.ensures ∙ slacks_are _ _ _ _ _ _ _ _ _ _ c.requires c.reverse_order.new.back c.times_from.new.times c.times_from-2.new.times c.reverse_order.ensures c.times_from.ensures (rw c.reversed.ensures at c.times_from-2.ensures)
