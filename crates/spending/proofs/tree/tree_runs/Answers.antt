-- `spending::tree::tree_runs` meets its contract: ticks spent from the raised start on, and their runs noted. Assumes nothing.
use mathlib.Core.Path.{refl, ◌∙◌}
use native.Mathlib.Omega.{arith}
use lib.Seq.{length-take-le}
use Rattle.planting.proofs.HeldNodes.{kinds_held}
use Rattle.heads.proofs.Gathering.{steps_held}
use Rattle.spending.proofs.TreeLaws.{gates_few, counts_small, steps_lent, measurable, earnable, steps_few, steps_counted}
use Rattle.spending.proofs.PlanLaws.{can_start, started, can_spend, spent}
use Rattle.spending.proofs.tree.tree_runs.Goals as goal

pub gather-requires : goal.gather-requires
gather-requires c = record { gates = gates_few c.requires.tree_held.1; few = counts_small c.requires.tree_held.1; long = omega arith }

pub start-requires : goal.start-requires
start-requires c = record { sizable = can_start c.args.steps.tree.now c.requires.tree_held.1 c.gather.ensures _ c.requires.increases_len (record { gates = omega arith; nodes = omega arith }); steps_held = steps_held c.gather.ensures (steps_lent c.requires.tree_held.1); measurable = measurable c.requires.tree_held.1 (omega arith) }

pub list_saving-saving-requires : goal.list_saving-saving-requires
list_saving-saving-requires c = earnable c.requires.tree_held.1 (c.start.auto.increases ∙ c.requires.increases_len)

pub step_count-runs-requires : goal.step_count-runs-requires
step_count-runs-requires c = omega (arith, gates_few c.requires.tree_held.1, length-take-le c.args.n c.args.steps.counts.now c.requires.tree_held.1.counts_long)

pub overflow_sub-tree : goal.overflow_sub-tree
overflow_sub-tree c = omega (arith, kinds_held c.args.steps.tree.now, c.requires.tree_held.1.some_node)

pub spend_ticks-pairs-requires : goal.spend_ticks-pairs-requires
spend_ticks-pairs-requires c = record { curvable = can_spend c.args.steps.tree.now c.requires.tree_held.1 c.gather.ensures c.start.ensures refl (steps_counted c.requires.tree_held.1 c.step_count-runs.ensures); steps_held = steps_held c.gather.ensures (steps_lent c.requires.tree_held.1); steps_in_bounds = (omega (arith, steps_few c.requires.tree_held.1, (steps_counted c.requires.tree_held.1 c.step_count-runs.ensures), c.requires.max_pairs_in_bounds.0), omega (arith, steps_few c.requires.tree_held.1, (steps_counted c.requires.tree_held.1 c.step_count-runs.ensures), c.requires.max_pairs_in_bounds.1)) }

pub returns : goal.returns
returns c = λ B held. record { start = _; at_start = started c.args.steps.tree.now held c.gather.ensures c.start.ensures; saves = c.list_saving-saving.ensures; spent = spent c.args.steps.tree.now held c.gather.ensures refl (steps_counted held c.step_count-runs.ensures) c.spend_ticks-pairs.ensures }
