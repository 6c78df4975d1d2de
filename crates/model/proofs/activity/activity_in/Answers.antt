-- `model::activity::activity_in` meets its contract: the rule is carried to the entry that is read; above 256 the difference is 0.
-- Assumes nothing.
use mathlib.Core.Path.{◌≡◌}
use Prim.Native.Nat.{◌-◌}
use native.Mathlib.Nat.{mul-zero}
use native.Mathlib.Omega.{arith}
use Rattle.lists.proofs.Table.{entry}
use Rattle.model.specs.Activity.{activity, activities}
use Rattle.model.proofs.activity.activity_in.Goals as goal

pub returns-then-p-le256 : goal.returns-then-p-le256
unfolding activities
returns-then-p-le256 c = rw c.requires (entry activity 257 c.args.p (omega arith))

pub returns-else-p-le256 : goal.returns-else-p-le256
unfolding activity
returns-else-p-le256 c =
    let none : 256 - c.args.p ≡ 0 = omega arith in
    rw (none, mul-zero)
