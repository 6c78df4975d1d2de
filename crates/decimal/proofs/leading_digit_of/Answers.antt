-- A power more is ten times the one before; where the next is above the number, no digit is left out.
use Rattle.std.proofs.Common.{arith, ◌-◌, add-one}
use native.Mathlib.Nat.{pow-suc}
use Rattle.decimal.proofs.Digits.{more_than, at_most, power_below}
use Rattle.decimal.proofs.leading_digit_of.Goals as goal

pub loop-power-preserved : goal.loop-power-preserved
loop-power-preserved c =
    record {
      some = omega arith;
      within = omega (arith, more_than c.loop-power.count c.args.n (omega arith));
      tenfold = rw (add-one c.loop-power.count, pow-suc 10 c.loop-power.count) (omega arith);
    }

pub returns : goal.returns
returns c = (
  omega (arith, at_most c.loop-power.count c.args.n (omega arith) (omega arith)),
  omega (arith, power_below c.loop-power.count (c.loop-power.count - 1) (omega arith)),
)
