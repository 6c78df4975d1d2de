-- `spending::tree::tree_increases` meets its contract: what the ticks earn is counted off the pairs of their runs. Assumes nothing.
use native.Mathlib.Omega.{arith}
use Rattle.spending.proofs.CountLaws.{sum_fits, earned_fits, increases_found}
use Rattle.spending.proofs.tree.tree_increases.Goals as goal

pub tree_runs-found-requires : goal.tree_runs-found-requires
tree_runs-found-requires c = record { tree_held = c.requires.tree_held; increases_len = c.requires.increases_len.0; max_pairs_in_bounds = (omega arith, omega arith) }

pub count_off-requires : goal.count_off-requires
count_off-requires c =
    earned_fits c.requires.tree_held.1 (c.tree_runs-found.ensures c.requires.tree_held.0 c.requires.tree_held.1) c.requires.increases_len.1

pub overflow_add-result : goal.overflow_add-result
overflow_add-result c = omega (arith, sum_fits c.requires.tree_held.1 (c.tree_runs-found.ensures c.requires.tree_held.0 c.requires.tree_held.1) c.count_off.ensures c.requires.increases_len.1)

pub returns : goal.returns
returns c = λ B held. increases_found held (c.tree_runs-found.ensures B held) c.count_off.ensures
