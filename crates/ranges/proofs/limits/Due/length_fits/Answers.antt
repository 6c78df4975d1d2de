-- `ranges::limits::Due::length_fits` meets its contract: a gate's lengths are the same in every edition.
-- Assumes nothing.
use Rattle.ranges.proofs.limits.Due.length_fits.Goals as goal

pub returns-in-Gate : goal.returns-in-Gate
returns-in-Gate c = rw c.in-Gate.is (c.gate_length_fits.ensures c.in-Gate.edition)
