-- `ordering::pass_gate` meets its contract: each wire of the gate's chain is passed in its turn.
-- Assumes nothing.
use Rattle.std.proofs.Common.{length, ap, arith, length-set}
use Rattle.ordering.specs.Chain.{link_to}
use Rattle.ordering.proofs.Turns.{turn_begins, turn_wire, turn_falls, turn_needs, turn_goes_on}
use Rattle.ordering.proofs.pass_gate.Goals as goal

pub loop-next-init : goal.loop-next-init
loop-next-init c =
    turn_begins c.requires.linked c.requires.turn c.requires.counted (rw c.at.ensures at c.first-next.ensures)

pub at-requires-in-Some : goal.at-requires-in-Some
at-requires-in-Some c =
    omega (arith, turn_wire c.requires.linked c.loop-next.invariant (ap link_to c.in-Some.is), c.requires.linked.lent.targets_long)

pub pass_wire-count-requires : goal.pass_wire-count-requires
pass_wire-count-requires c =
    let w = turn_needs c.requires.linked c.loop-next.invariant (ap link_to c.in-Some.is) c.at-in-Some.ensures in
    record { g_lt_max_gates = (omega (arith, w.0), omega (arith, w.2)); room = omega (arith, w.2); nonzero = w.1 }

pub next-next-requires : goal.next-next-requires
next-next-requires c =
    omega (arith, turn_wire c.requires.linked c.loop-next.invariant (ap link_to c.in-Some.is), c.requires.linked.lent.wires)

pub loop-next-smaller : goal.loop-next-smaller
loop-next-smaller c = turn_falls c.requires.linked c.loop-next.invariant (ap link_to c.in-Some.is) c.next-next.ensures

pub loop-next-preserved : goal.loop-next-preserved
loop-next-preserved c =
    let same_long = simp length-set at (ap length c.pass_wire-count.ensures.left_after) in
    turn_goes_on c.requires.linked c.loop-next.invariant (ap link_to c.in-Some.is) c.at-in-Some.ensures (omega arith) (omega arith)
    c.pass_wire-count.ensures.left_after c.pass_wire-count.ensures.visit c.next-next.ensures
