-- `reduction::Reduction::visit` meets its contract: tallies that are right choose the gate's slots, and its neighbours join the queue. Assumes nothing.
use mathlib.Core.Path.{refl}
use native.Mathlib.Omega.{arith}
use Rattle.reduction.proofs.GoingLaws.{gate_chosen}
use Rattle.reduction.proofs.TurnLaws.{visited_goes}
use Rattle.reduction.proofs.Reduction.visit.Goals as goal

pub remove-requires-clause-chosen : goal.remove-requires-clause-chosen
remove-requires-clause-chosen c =
    gate_chosen c.requires.moment.tallied (omega (arith, c.from-m.ensures, c.requires.moment.queued.gates _ c.requires.waiting))
    (rw c.if-waits.true at c.waits.ensures).can c.only_slot-i.ensures c.only_slot-j.ensures

pub returns-then-waits-clause-visited : goal.returns-then-waits-clause-visited
returns-then-waits-clause-visited c =
    let m = c.requires.moment in
    visited_goes c.remove.ensures.removed m.sound m.ready m.tallied m.queued (rw c.if-waits.true at c.waits.ensures) c.from-m.ensures
    c.only_slot-i.ensures c.only_slot-j.ensures refl refl c.requires.waiting m.room
    (omega (arith, c.args.wires.now.few_gates)) (omega (arith, c.args.wires.now.few_gates)) (omega (arith, c.args.wires.now.few_gates)) (omega (arith, c.args.wires.now.few_gates))
    c.remove.ensures.gates_after c.remove.ensures.places_after
