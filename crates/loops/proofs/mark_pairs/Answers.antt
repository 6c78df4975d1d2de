-- `loops::mark_pairs` meets its contract: the marks are those of the wires passed.
-- Assumes nothing.
use Rattle.std.proofs.Common.{◌≡◌, ◌<◌, ◌∙◌, length, get_or, take, rules, arith, length-take, length-append}
use Rattle.std.proofs.lemmas.List.{get_or-take}
use Rattle.std.proofs.lemmas.Slice.Zip.{zip_turn}
use Rattle.model.specs.Limits.{max_gates}
use Rattle.loops.proofs.Pairs.{pairs_marked}
use Rattle.loops.proofs.mark_pairs.Goals as goal

pub bounds-square-source : goal.bounds-square-source
bounds-square-source c =
    let turn = zip_turn (take c.args.wires.count c.args.wires.sources.now) (take c.args.wires.count c.args.wires.targets.now) c.loop-source.yielded _ _ c.next.new.self _ (search rules) (search rules) c.loop-source.yielded_by _ c.in-Some.is c.next.ensures.steps in
    let i = length c.loop-source.yielded in
    let below : i < c.args.wires.count = omega (arith, turn.0, length-take c.args.wires.count c.args.wires.sources.now) in
    let s : c.in-Some.field-0-0.now ≡ get_or c.args.wires.sources.now i 0 = turn.2 0 ∙ get_or-take c.args.wires.count c.args.wires.sources.now i 0 below in
    let t : c.in-Some.field-0-1.now ≡ get_or c.args.wires.targets.now i 0 = turn.3 0 ∙ get_or-take c.args.wires.count c.args.wires.targets.now i 0 below in
    let L = c.requires.lent in
    let source = L.source_is_gate i below in
    let target = L.target_is_gate i below in
    omega arith

pub loop-source-preserved : goal.loop-source-preserved
loop-source-preserved c =
    let turn = zip_turn (take c.args.wires.count c.args.wires.sources.now) (take c.args.wires.count c.args.wires.targets.now) c.loop-source.yielded _ _ c.next.new.self _ (search rules) (search rules) c.loop-source.yielded_by _ c.in-Some.is c.next.ensures.steps in
    let i = length c.loop-source.yielded in
    let below : i < c.args.wires.count = omega (arith, turn.0, length-take c.args.wires.count c.args.wires.sources.now) in
    let s : c.in-Some.field-0-0.now ≡ get_or c.args.wires.sources.now i 0 = turn.2 0 ∙ get_or-take c.args.wires.count c.args.wires.sources.now i 0 below in
    let t : c.in-Some.field-0-1.now ≡ get_or c.args.wires.targets.now i 0 = turn.3 0 ∙ get_or-take c.args.wires.count c.args.wires.targets.now i 0 below in
    let L = c.requires.lent in
    let source = L.source_is_gate i below in
    let target = L.target_is_gate i below in
    rw length-append
    (pairs_marked c.args.wires.sources.now c.args.wires.targets.now i _ _ s t max_gates c.loop-source.square L.gates (omega arith) (omega arith) c.loop-source.invariant)
