-- `ordering::count_wires` meets its contract: the wires passed are counted.
-- Assumes nothing.
use Rattle.std.proofs.Common.{◌≡◌, ℕ, get_or}
use Rattle.ordering.specs.Counts.{wires_into}
use Rattle.ordering.proofs.count_wires.Given as goal

abbrev pub invariant-loop-target : goal.invariant-loop-target
invariant-loop-target l = (g : ℕ) → get_or l.left g 0 ≡ wires_into l.targets l.target-index g
