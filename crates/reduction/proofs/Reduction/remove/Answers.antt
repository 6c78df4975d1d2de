-- `reduction::Reduction::remove` meets its contract. Assumes nothing.
use mathlib.Core.Path.{refl}
use native.Mathlib.Omega.{arith}
use Rattle.reduction.proofs.GoingLaws.{chosen_room, some_send}
use Rattle.reduction.proofs.SettleLaws.{ins_settle, outs_settle}
use Rattle.reduction.proofs.Reduction.remove.Goals as goal

pub put_both-requires : goal.put_both-requires
put_both-requires c =
    let m = c.requires.moment in
    let ch = c.requires.chosen in
    (omega (arith, some_send m.ready ch, m.room, c.args.wires.now.few_gates), omega (arith, m.ready.from_below _ ch.in_slot, c.args.wires.now.few_gates), omega (arith, m.ready.to_below _ ch.out_slot, c.args.wires.now.few_gates))

pub take-requires-clause-room : goal.take-requires-clause-room
take-requires-clause-room c = omega (arith, chosen_room c.requires.moment.ready c.requires.chosen)

pub settle-requires-clause-more_bound : goal.settle-requires-clause-more_bound
settle-requires-clause-more_bound c =
    rw c.take.ensures.same.0 (ins_settle c.requires.moment.ready c.requires.chosen c.requires.moment.tallied c.args.wires.now.few_wires c.take.new.self.nodes.count refl c.kept_share-kept.ensures)

pub settle-requires-2-clause-more_bound : goal.settle-requires-2-clause-more_bound
settle-requires-2-clause-more_bound c =
    rw c.take.ensures.same.0 (outs_settle c.requires.moment.ready c.requires.chosen c.requires.moment.tallied c.args.wires.now.few_wires c.take.new.self.nodes.count refl c.kept_share-kept.ensures)
