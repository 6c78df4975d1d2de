-- `ordering::pass_gates` meets its contract: each placed gate has its turn.
-- Assumes nothing.
use Rattle.std.proofs.Common.{◌≡◌, arith}
use Rattle.ordering.proofs.pass_gates.Goals as goal

pub returns : goal.returns
returns c =
    let e : c.loop-done.done ≡ c.loop-done.count = omega arith in
    record { counted = rw e at c.loop-done.invariant.counted; same_beyond = c.loop-done.invariant.same_beyond }
