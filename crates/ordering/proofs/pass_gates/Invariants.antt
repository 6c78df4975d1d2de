-- `ordering::pass_gates` meets its contract: each placed gate has its turn.
-- Assumes nothing.
use Rattle.std.proofs.Common.{◌-◌}
use Rattle.ordering.specs.Order.{SameBeyond}
use Rattle.ordering.specs.Counts.{Counted}
use Rattle.ordering.proofs.pass_gates.Given as goal

abbrev pub invariant-loop-done : goal.invariant-loop-done
invariant-loop-done l =
    record {
      counted : Counted l.n l.wires.count l.wires.sources.now l.wires.targets.now l.left l.order l.count l.done l.wires.count;
      same_beyond : SameBeyond l.n l.initial.order l.order;
    }

abbrev pub decreases-loop-done : goal.decreases-loop-done
decreases-loop-done l = l.n - l.done
