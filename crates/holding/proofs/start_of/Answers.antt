-- `holding::start_of` meets its contract: start is that of the gates and the wires. Assumes nothing.
use Rattle.model.specs.Slack.{start}
use Rattle.holding.proofs.HeldLaws.{startable, start_found}
use Rattle.holding.proofs.start_of.Goals as goal

pub start_time-requires : goal.start_time-requires
start_time-requires c = let w = c.wires.ensures in rw (w.count, w.sources, w.targets, w.delays) (startable c.requires.3)

pub returns : goal.returns
unfolding start
returns c =
    let w = c.wires.ensures in
    record { start = λ arrival deadline. start_found c.requires.3 (rw (w.count, w.sources, w.targets, w.delays) at c.start_time.ensures); small = c.start_time.ensures.small }
