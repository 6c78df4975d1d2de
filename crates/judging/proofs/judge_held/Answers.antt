-- `judging::judge_held` meets its contract: room, the lowest gate that exceeds its widths, then the longest path, then the saving. Assumes nothing.
use native.Mathlib.Omega.{arith}
use Rattle.holding.proofs.HeldLaws.{block, the_limits, some, summable}
use Rattle.judging.proofs.JudgeLaws.{held, widths_lent, short_refused, lowest_refused, lasting, late_refused, in_time_accepted, earnable, saved_is}
use Rattle.judging.proofs.judge_held.Goals as goal

pub returns-then-increases-n : goal.returns-then-increases-n
returns-then-increases-n c = λ file h. short_refused h c.args.increases.now c.if-increases-n.true

pub lowest_exceeding-requires : goal.lowest_exceeding-requires
lowest_exceeding-requires c = (widths_lent c.requires.1, c.if-increases-n.false)

pub returns-in-Some : goal.returns-in-Some
returns-in-Some c =
    λ file h. lowest_refused h c.args.increases.now c.if-increases-n.false c.in-Some.gate (c.in-Some.ensures (block h) c.args.block.now.drops (held h)).0.1

pub longest_with-longest-requires : goal.longest_with-longest-requires
longest_with-longest-requires c =
    lasting c.requires.1 c.args.increases.now c.if-increases-n.false (c.in_default.ensures (block c.requires.1) c.args.block.now.drops (held c.requires.1)).0

pub overflow_add-arrival : goal.overflow_add-arrival
overflow_add-arrival c = omega (arith, c.longest_with-longest.ensures.small, (the_limits c.requires.1).arrival_most)

pub returns-then-block-arrival : goal.returns-then-block-arrival
returns-then-block-arrival c =
    λ file h. late_refused h c.args.increases.now c.if-increases-n.false c.longest_with-longest.result (c.in_default.ensures (block h) c.args.block.now.drops (held h)).0 c.longest_with-longest.ensures c.if-block-arrival.true

pub list_saving-saving-requires : goal.list_saving-saving-requires
list_saving-saving-requires c =
    earnable c.requires.1 c.args.increases.now c.if-increases-n.false c.input_activities_of-inputs.result c.input_activities_of-inputs.ensures.long c.input_activities_of-inputs.ensures.activities

pub returns : goal.returns
returns c =
    λ file h. in_time_accepted h c.args.increases.now c.if-increases-n.false c.longest_with-longest.result c.list_saving-saving.result (c.in_default.ensures (block h) c.args.block.now.drops (held h)).0 c.longest_with-longest.ensures c.if-block-arrival.false (saved_is h c.args.increases.now c.if-increases-n.false c.input_activities_of-inputs.result c.input_activities_of-inputs.ensures.long c.input_activities_of-inputs.ensures.activities c.list_saving-saving.result c.list_saving-saving.ensures)

pub input_activities_of-inputs-requires : goal.input_activities_of-inputs-requires
input_activities_of-inputs-requires c = (c.requires.0, c.args.block.now.arrival, c.args.block.now.deadline, c.requires.1)
