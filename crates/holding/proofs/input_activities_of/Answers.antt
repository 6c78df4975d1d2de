-- `holding::input_activities_of` meets its contract. Assumes nothing.
use Rattle.holding.proofs.HeldLaws.{summable, some}
use Rattle.holding.proofs.input_activities_of.Goals as goal

pub input_activities-requires : goal.input_activities-requires
input_activities-requires c = let w = c.wires.ensures in (rw (w.count, w.sources, w.targets) (summable c.requires.3), some c.requires.3)
