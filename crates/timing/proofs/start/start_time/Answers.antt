-- `timing::start::start_time` meets its contract: the latest time at the last gate. Assumes nothing.
use Rattle.timing.proofs.Starting.{start_timeable, start_found}
use Rattle.timing.proofs.start.start_time.Goals as goal

pub times_from-requires : goal.times_from-requires
times_from-requires c = start_timeable _ _ _ _ _ _ _ c.requires

pub returns : goal.returns
returns c = start_found _ _ _ _ _ _ _ c.requires c.times_from.new.times c.times_from.ensures
