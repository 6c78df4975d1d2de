-- `tallies::tally::tally` meets its contract. The loop's invariant: the tallies are those of the slots below i, and small. Assumes nothing.
use mathlib.Core.Path.{◌≡◌}
use mathlib.Core.List.{List}
use Prim.Native.Nat.{ℕ, ◌*◌, ◌≤◌, ◌<◌}
use lib.ListN.{length, get_or}
use Rattle.model.specs.Limits.{max_gates}
use Rattle.tallies.specs.Tallies.{most_share, TalliedBy}
use Rattle.tallies.proofs.tally.tally.Given as goal

abbrev pub invariant-loop-i : goal.invariant-loop-i
invariant-loop-i l = (length l.tallies ≡ max_gates) × ((g : ℕ) → g < max_gates → get_or l.tallies g 0 ≤ l.i * most_share) × ((lives : List ℕ) → ((q : ℕ) → q < l.k → get_or lives q 0 ≡ 1) → TalliedBy lives l.ends max_gates l.i l.tallies)
