-- `spending::tree::tree_curve` meets its contract: with ticks for all steps, the runs noted are the curve's. Assumes nothing.
use native.Mathlib.Omega.{arith}
use Rattle.spending.proofs.TreeLaws.{curve_found}
use Rattle.spending.proofs.tree.tree_curve.Goals as goal

pub returns : goal.returns
returns c = λ B held. curve_found held (c.tree_runs.ensures B held) (omega arith) c.requires.max_pairs_in_bounds.0 c.requires.max_pairs_in_bounds.1 c.tree_runs.auto.pair_widths c.tree_runs.auto.pair_gains
