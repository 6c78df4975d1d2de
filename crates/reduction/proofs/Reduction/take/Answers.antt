-- `reduction::Reduction::take` meets its contract: the changes of its parts, put together. Assumes nothing.
use Rattle.reduction.proofs.TakeLaws.{went_joined, went_taken_up}
use Rattle.reduction.proofs.Reduction.take.Goals as goal

pub returns-in-None-clause-went : goal.returns-in-None-clause-went
returns-in-None-clause-went c =
    went_joined (rw c.in-None.is at c.between-between.ensures) c.push.ensures.count_after
    c.join.ensures.live_after c.join.ensures.to_after c.join.ensures.top_after
    c.push.ensures.kind_after c.push.ensures.left_after c.push.ensures.gate_after c.push.ensures.right_after

pub returns-in-Some-clause-went : goal.returns-in-Some-clause-went
returns-in-Some-clause-went c =
    went_taken_up (rw c.in-Some.is at c.between-between.ensures) c.push.ensures.count_after c.push-in-Some.ensures.count_after
    c.take_up.ensures.live_after c.take_up.ensures.to_after c.take_up.ensures.top_after
    c.push.ensures.kind_after c.push.ensures.left_after c.push.ensures.gate_after c.push.ensures.right_after
    c.push-in-Some.ensures.kind_after c.push-in-Some.ensures.left_after c.push-in-Some.ensures.gate_after c.push-in-Some.ensures.right_after
