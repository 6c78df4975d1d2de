-- `network::judge_network` meets its contract: where no order exists some gate reaches itself, and an order leaves no loop.
-- Assumes nothing.
use Rattle.network.proofs.Judgement.{lowest_found, some_block, some_found, sound_judged, ends_judged}
use Rattle.network.proofs.judge_network.Goals as goal

pub unwrap-gate-requires : goal.unwrap-gate-requires
unwrap-gate-requires c =
    let (B, I) = some_block c.args.n c.args.wires.count c.args.wires.sources.now c.args.wires.targets.now in
    some_found B c.args.n c.args.wires.count c.args.wires.sources.now c.args.wires.targets.now I c.requires.lent
    (c.if-not-order_gates.ensures.order_found B I) c.lowest_on_loop.result (c.lowest_on_loop.ensures B I)

pub returns-then-not-order_gates-clause-judged : goal.returns-then-not-order_gates-clause-judged
returns-then-not-order_gates-clause-judged c =
    λ B I. lowest_found B c.args.n c.args.wires.count c.args.wires.sources.now c.args.wires.targets.now I c.requires.lent
    (c.if-not-order_gates.ensures.order_found B I) c.lowest_on_loop.result (c.lowest_on_loop.ensures B I) _ c.unwrap-gate.ensures

pub returns-in-Some-clause-judged : goal.returns-in-Some-clause-judged
returns-in-Some-clause-judged c = λ B I. ends_judged B c.order_gates.new.order (c.if-not-order_gates.ensures.order_found B I) _ (c.in-Some.ensures B I)

pub returns-in-None-clause-judged : goal.returns-in-None-clause-judged
returns-in-None-clause-judged c = λ B I. sound_judged B c.order_gates.new.order (c.if-not-order_gates.ensures.order_found B I) (c.in-None.ensures B I)
