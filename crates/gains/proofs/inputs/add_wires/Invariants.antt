-- `gains::inputs::add_wires` meets its contract: the sums over the first i wires stand in `out`. Assumes nothing.
use Rattle.ordering.specs.Order.{SameBeyond}
use Rattle.gains.proofs.Activities.{Brought}
use Rattle.gains.proofs.inputs.add_wires.Given as goal

abbrev pub invariant-loop-i : goal.invariant-loop-i
invariant-loop-i l = Brought l.n l.i l.wires.sources.now l.wires.targets.now l.activities l.out × SameBeyond l.n l.initial.out l.out
