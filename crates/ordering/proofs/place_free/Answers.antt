-- `ordering::place_free` meets its contract: each visit keeps `FreePlaced`, and there is room for a gate not visited.
-- Assumes nothing.
use Rattle.std.proofs.Common.{arith}
use Rattle.ordering.proofs.Counts.{free_none, free_room, free_visited}
use Rattle.ordering.proofs.place_free.Goals as goal

pub loop-g-init : goal.loop-g-init
loop-g-init c = free_none c.args.n c.args.left.now c.args.order.now

pub place_if_free-count-requires : goal.place_if_free-count-requires
place_if_free-count-requires c =
    let r = free_room c.loop-g.invariant c.loop-g-test.true in
    record { g_lt_max_gates = (omega arith, omega arith); room = omega arith }

pub loop-g-preserved : goal.loop-g-preserved
loop-g-preserved c = free_visited c.loop-g.invariant c.loop-g-test.true (omega arith) c.place_if_free-count.ensures
