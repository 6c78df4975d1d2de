-- `timing::latest::latest_times` meets its contract: the times of the gates placed before k are right. Assumes nothing.
use mathlib.Core.Path.{◌≡◌}
use mathlib.Core.List.{List}
use Prim.Native.Nat.{ℕ, ◌≤◌, ◌<◌}
use native.Mathlib.Omega.{arith}
use lib.ListN.{length, get_or, take}
use lib.Seq.{get_or-take, length-take-le}
use Rattle.timing.proofs.Found.{found_none, found_walkable, found_more, found_all, found_fits}
use Rattle.timing.proofs.latest.latest_times.Goals as goal

-- the gate at a place of the order's front, and the place among the n
placed : (n k : ℕ) (order : List ℕ) → n ≤ length order → k < length (take n order) → (k < n) × (get_or (take n order) k 0 ≡ get_or order k 0)
placed n k order long h =
    let below : k < n = omega (arith, length-take-le n order long) in
    (below, get_or-take n order k 0 below)

pub loop-gate-init : goal.loop-gate-init
loop-gate-init c = λ r. found_none _ _ _ _ _ _ _ _ _ _ _ r

pub latest_into-latest-requires : goal.latest_into-latest-requires
latest_into-latest-requires c =
    let at = placed c.args.n c.loop-gate.gate-index c.args.order.now c.requires.order_long c.loop-gate-test.true in (
      omega (arith, c.requires.ordered.names_gate c.loop-gate.gate-index at.0, at.1),
      omega (arith, c.requires.base_small),
      found_walkable _ _ _ _ _ _ _ _ _ _ _ c.requires _ _ (c.loop-gate.invariant c.requires),
    )

pub overflow_add-times : goal.overflow_add-times
overflow_add-times c =
    let at = placed c.args.n c.loop-gate.gate-index c.args.order.now c.requires.order_long c.loop-gate-test.true in
    omega (arith, found_fits _ _ _ _ _ _ _ _ _ _ _ c.requires _ _ _ _ (c.loop-gate.invariant c.requires) at.0 at.1 c.latest_into-latest.ensures)

pub loop-gate-preserved : goal.loop-gate-preserved
loop-gate-preserved c = λ r.
    let at = placed c.args.n c.loop-gate.gate-index c.args.order.now c.requires.order_long c.loop-gate-test.true in
    found_more _ _ _ _ _ _ _ _ _ _ _ r _ _ _ _ (c.loop-gate.invariant r) at.0 at.1 c.latest_into-latest.ensures

pub returns : goal.returns
returns c =
    let f = c.loop-gate.invariant c.requires in
    let e : c.loop-gate.gate-index ≡ c.args.n = omega (arith, f.within, length-take-le c.args.n c.args.order.now c.requires.order_long) in
    found_all _ _ _ _ _ _ _ _ _ _ _ c.requires _ (rw e at f)
