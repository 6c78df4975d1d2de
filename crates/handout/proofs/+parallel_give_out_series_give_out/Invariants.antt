-- The measure is twice the wires of the part, one more for `series_give_out`, which may hand on the whole part; `parallel_give_out` hands on to parts of fewer wires. Assumes nothing.
use Rattle.planting.specs.TreeWords.{tree_nodes}
use Rattle.heads.specs.Plan.{part}
use Rattle.handout.proofs.Handing.{wires}
use Rattle.handout.proofs.Calls.{in_parallel, in_series}
use Rattle.handout.proofs.+parallel_give_out_series_give_out.Given as goal

abbrev pub decreases-parallel_give_out : goal.decreases-parallel_give_out
decreases-parallel_give_out l = in_parallel (wires (part (tree_nodes l.tree.now) l.i))

abbrev pub decreases-series_give_out : goal.decreases-series_give_out
decreases-series_give_out l = in_series (wires (part (tree_nodes l.tree.now) l.i))
