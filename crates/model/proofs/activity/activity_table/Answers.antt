-- `model::activity::activity_table` meets its contract: the rule is one test over the whole table.
-- Assumes nothing.
use mathlib.Core.Path.{refl}
use Rattle.model.specs.Activity.{activity, activities}
use Rattle.model.proofs.activity.activity_table.Goals as goal

pub returns : goal.returns
unfolding activities activity
returns c = refl
