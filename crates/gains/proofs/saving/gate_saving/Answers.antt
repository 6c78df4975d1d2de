-- `gains::saving::gate_saving` meets its contract: j steps are passed, and the ticks left earn from the others. Assumes nothing.
use native.Mathlib.Nat.{min-le_left}
use native.Mathlib.Omega.{arith}
use lib.ListN.{get_or}
use Rattle.gains.proofs.Earnings.{earning_none, earning_more, earning_all, ticks_small, drop_small}
use Rattle.gains.proofs.saving.gate_saving.Goals as goal

pub loop-j-init : goal.loop-j-init
loop-j-init c = (earning_none c.args.counts.now c.args.step_widths.now c.args.drops.now c.args.g c.args.activity c.args.increase, omega arith)

pub step_saving-saving-requires : goal.step_saving-saving-requires
step_saving-saving-requires c = let h = c.loop-j-test.true in (
  ticks_small c.args.counts.now c.args.step_widths.now c.args.drops.now c.args.g c.requires.0 c.loop-j.j c.place_of-place.result h c.place_of-place.ensures c.loop-j.left c.min-ticks.result c.min-ticks.ensures,
  drop_small c.args.counts.now c.args.step_widths.now c.args.drops.now c.args.g c.requires.0 c.loop-j.j c.place_of-place.result h c.place_of-place.ensures,
  c.requires.1,
)

pub overflow_add-saving : goal.overflow_add-saving
overflow_add-saving c = omega (arith, c.step_saving-saving.ensures.1, c.loop-j.invariant.1, c.requires.0.widths_lent.few)

pub overflow_sub-left : goal.overflow_sub-left
overflow_sub-left c = omega (arith, c.min-ticks.ensures, min-le_left c.loop-j.left (get_or c.args.step_widths.now c.place_of-place.result 0))

pub loop-j-preserved : goal.loop-j-preserved
loop-j-preserved c = let h = c.loop-j-test.true in (
  earning_more c.args.counts.now c.args.step_widths.now c.args.drops.now c.args.g c.args.activity c.args.increase c.loop-j.j c.place_of-place.result c.loop-j.left c.loop-j.saving c.min-ticks.result c.step_saving-saving.result h c.place_of-place.ensures c.min-ticks.ensures c.step_saving-saving.ensures.0 c.loop-j.invariant.0,
  omega (arith, c.step_saving-saving.ensures.1, c.loop-j.invariant.1),
)

pub returns : goal.returns
returns c = record {
  is = earning_all c.args.counts.now c.args.step_widths.now c.args.drops.now c.args.g c.args.activity c.args.increase c.loop-j.j c.loop-j.left c.loop-j.saving (omega arith) c.loop-j.invariant.0;
  small = omega (arith, c.loop-j.invariant.1, c.requires.0.widths_lent.few);
}
