-- `gains::inputs::add_wires` meets its contract: the sums over the first i wires stand in `out`. Assumes nothing.
use mathlib.Core.Path.{◌≡◌, refl}
use native.Mathlib.Omega.{arith}
use Rattle.ordering.proofs.Front.{set_beyond, front_written}
use Rattle.gains.specs.Activities.{brought_by}
use Rattle.gains.proofs.Activities.{brought_none, brought_more, sum_fits}
use Rattle.gains.proofs.inputs.add_wires.Goals as goal

pub loop-i-init : goal.loop-i-init
loop-i-init c = (brought_none c.args.n c.args.wires.sources.now c.args.wires.targets.now c.args.activities.now c.args.out.now c.requires.1, λ i h. refl)

pub overflow_add-out : goal.overflow_add-out
overflow_add-out c = omega (arith, sum_fits c.args.n c.args.wires.count c.args.wires.sources.now c.args.wires.targets.now c.args.activities.now c.args.out.now c.requires.0 c.loop-i.i _ _ c.loop-i.out c.loop-i-test.true refl refl c.loop-i.invariant.0)

pub loop-i-preserved : goal.loop-i-preserved
loop-i-preserved c =
    let below = c.requires.0.lent.target_is_gate c.loop-i.i c.loop-i-test.true in (
      brought_more c.args.n c.loop-i.i c.args.wires.sources.now c.args.wires.targets.now c.args.activities.now c.loop-i.out c.loop-i.invariant.0 _ _ refl refl below (omega (arith, below, c.requires.0.out_long)),
      set_beyond c.args.n _ _ c.args.out.now c.loop-i.out below c.loop-i.invariant.1,
    )

pub returns : goal.returns
returns c =
    front_written c.args.n (brought_by c.args.wires.count c.args.wires.sources.now c.args.wires.targets.now c.args.activities.now) c.args.out.now c.loop-i.out c.requires.0.out_long c.loop-i.auto.out (let e : c.loop-i.i ≡ c.args.wires.count = omega arith in rw e at c.loop-i.invariant.0) c.loop-i.invariant.1
