-- `ordering::count_wires` meets its contract: the wires passed are counted.
-- Assumes nothing.
use Rattle.std.proofs.Common.{◌<◌, refl, get_or, arith, length-take}
use Rattle.std.proofs.lemmas.List.{get_or-take}
use Rattle.ordering.proofs.Counts.{wires_none, wires_few, wires_more}
use Rattle.ordering.proofs.count_wires.Goals as goal

pub loop-target-init : goal.loop-target-init
loop-target-init c = wires_none c.args.targets.now c.args.left.now c.requires.begun

pub overflow_add-left : goal.overflow_add-left
overflow_add-left c =
    let g = get_or c.args.targets.now c.loop-target.target-index 0 in
    let below : c.loop-target.target-index < c.args.m = omega (arith, length-take c.args.m c.args.targets.now, c.requires.room.1) in
    rw (get_or-take c.args.m c.args.targets.now c.loop-target.target-index 0 below)
    (omega (arith, c.loop-target.invariant g, wires_few c.args.targets.now c.loop-target.target-index g, c.requires.room.0))

pub loop-target-preserved : goal.loop-target-preserved
loop-target-preserved c =
    let below : c.loop-target.target-index < c.args.m = omega (arith, length-take c.args.m c.args.targets.now, c.requires.room.1) in
    rw (get_or-take c.args.m c.args.targets.now c.loop-target.target-index 0 below)
    (wires_more c.args.targets.now c.loop-target.left c.loop-target.target-index _ refl (omega (arith, c.requires.to_gates c.loop-target.target-index below)) c.loop-target.invariant)
