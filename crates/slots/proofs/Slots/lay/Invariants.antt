-- `slots::Slots::lay` meets its contract. The loop's invariant: the slots below i are live, lead where the wires lead, and have the leaves of their numbers. Assumes nothing.
use mathlib.Core.Path.{◌≡◌}
use Prim.Native.Nat.{ℕ, ◌<◌}
use lib.ListN.{length, get_or}
use Rattle.model.specs.Limits.{max_wires}
use Rattle.slots.proofs.Slots.lay.Given as goal

abbrev pub invariant-loop-i : goal.invariant-loop-i
invariant-loop-i l =
    (length l.self.live ≡ max_wires)
    × (length l.self.to ≡ max_wires)
    × (length l.self.top ≡ max_wires)
    × ((q : ℕ) → q < l.i → get_or l.self.live q 0 ≡ 1)
    × ((q : ℕ) → q < l.i → get_or l.self.to q 0 ≡ get_or l.targets q 0)
    × ((q : ℕ) → q < l.i → get_or l.self.top q 0 ≡ q)
