-- `loading::load` meets its contract: the file read, then its network judged. Assumes nothing.
use native.Mathlib.Omega.{arith}
use Rattle.std.proofs.lemmas.Result.{err_from_is_err_and}
use Rattle.ranges.proofs.Pairs.{no_marks}
use Rattle.blockfile.specs.Held.{gate_arrays, wire_arrays}
use Rattle.loading.proofs.Loading.{room_kept, lent_read, sound, unsound}
use Rattle.loading.proofs.load.Goals as goal

pub read_block-requires : goal.read_block-requires
read_block-requires c =
    record { gate_room = c.requires.gate_room; wire_room = c.requires.wire_room; pairs_in_bounds = no_marks }

pub judge_network-requires-clause-lent : goal.judge_network-requires-clause-lent
judge_network-requires-clause-lent c =
    lent_read c.args.file.now c.in_ok-head.head (gate_arrays c.read_block.new.delays c.read_block.new.activities c.read_block.new.counts c.read_block.new.step_widths c.read_block.new.drops)
    (wire_arrays c.read_block.new.sources c.read_block.new.targets c.read_block.new.wire_delays) (rw c.in_ok-head.was at c.read_block.ensures)
    (room_kept c.requires.wire_room c.read_block.auto.sources c.read_block.auto.targets c.read_block.auto.wire_delays)

pub judge_network-requires-clause-n_in_bounds : goal.judge_network-requires-clause-n_in_bounds
judge_network-requires-clause-n_in_bounds c = let lent = judge_network-requires-clause-lent c in omega (arith, lent.gates, c.requires.order_room)

pub returns-in_err-judge_network : goal.returns-in_err-judge_network
returns-in_err-judge_network c =
    let p = err_from_is_err_and c.from_residual-in_err-judge_network.result c.from_residual-in_err-judge_network.ensures.1 in
    rw (p.1, p.2)
    (unsound c.args.file.now c.in_ok-head.head (gate_arrays c.read_block.new.delays c.read_block.new.activities c.read_block.new.counts c.read_block.new.step_widths c.read_block.new.drops)
    (wire_arrays c.read_block.new.sources c.read_block.new.targets c.read_block.new.wire_delays) (rw c.in_ok-head.was at c.read_block.ensures)
    c.judge_network.new.order c.in_err-judge_network.field-0.0 (rw c.in_err-judge_network.was at c.judge_network.ensures.judged))

pub returns : goal.returns
returns c =
    let s = sound c.args.file.now c.in_ok-head.head (gate_arrays c.read_block.new.delays c.read_block.new.activities c.read_block.new.counts c.read_block.new.step_widths c.read_block.new.drops)
    (wire_arrays c.read_block.new.sources c.read_block.new.targets c.read_block.new.wire_delays) (rw c.in_ok-head.was at c.read_block.ensures)
    c.judge_network.new.order (rw c.in_ok-judge_network.was at c.judge_network.ensures.judged) in
    (s.0, s.1, c.judge_network.ensures.same_beyond)
