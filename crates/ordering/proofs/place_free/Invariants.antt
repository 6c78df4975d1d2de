-- `ordering::place_free` meets its contract: each visit keeps `FreePlaced`, and there is room for a gate not visited.
-- Assumes nothing.
use Rattle.ordering.specs.Counts.{FreePlaced}
use Rattle.ordering.proofs.place_free.Given as goal

abbrev pub invariant-loop-g : goal.invariant-loop-g
invariant-loop-g l = FreePlaced l.n l.left l.initial.order l.g l.order l.count
