-- `timing::times::times_from` meets its contract: fresh chains are made, and the times found by them. Assumes nothing.
use native.Mathlib.Omega.{arith}
use Rattle.timing.proofs.Fresh.{once_chained}
use Rattle.timing.proofs.times.times_from.Goals as goal

pub latest_times-requires : goal.latest_times-requires
latest_times-requires c = once_chained _ _ _ _ _ _ _ _ _ c.requires _ _ (omega arith) (omega arith) c.of-chains.ensures
