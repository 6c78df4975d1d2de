-- `ordering::marking::mark_keys` meets its contract: the marks are those of the keys passed.
-- Assumes nothing.
use Rattle.std.proofs.Common.{◌≡◌, ℕ, ◌<◌, get_or}
use Rattle.ordering.specs.Marks.{Marks, Among}
use Rattle.ordering.proofs.marking.mark_keys.Given as goal

abbrev pub invariant-loop-key : goal.invariant-loop-key
invariant-loop-key l = (n : ℕ) → ((g : ℕ) → g < n → get_or l.initial.marks g 0 ≡ 0) → Marks (Among l.keys l.key-index) n l.marks
