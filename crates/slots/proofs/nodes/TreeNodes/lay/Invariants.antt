-- `slots::nodes::TreeNodes::lay` meets its contract. The loop's invariant: the nodes below i are leaves with the delays of their wires. Assumes nothing.
use mathlib.Core.Path.{◌≡◌}
use Prim.Native.Nat.{ℕ, ◌+◌, ◌<◌}
use lib.ListN.{length, get_or}
use Rattle.model.specs.Limits.{max_gates, max_wires}
use Rattle.slots.proofs.nodes.TreeNodes.lay.Given as goal

abbrev pub invariant-loop-i : goal.invariant-loop-i
invariant-loop-i l =
    (l.self.count ≡ l.k)
    × (length l.self.kind ≡ max_wires + (max_gates + max_gates))
    × (length l.self.left ≡ max_wires + (max_gates + max_gates))
    × (length l.self.gate ≡ max_wires + (max_gates + max_gates))
    × (length l.self.right ≡ max_wires + (max_gates + max_gates))
    × ((q : ℕ) → q < l.i → get_or l.self.kind q 0 ≡ 0)
    × ((q : ℕ) → q < l.i → get_or l.self.gate q 0 ≡ get_or l.delays q 0)
