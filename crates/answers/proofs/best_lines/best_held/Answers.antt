-- `answers::best_lines::best_held` meets its contract: the tree is planted, start is measured, and the spare ticks are handed out. Assumes nothing.
use Rattle.std.proofs.lemmas.Result.{err_from_is_err_and}
use Rattle.model.specs.Answer.{fits}
use mathlib.Core.Path.{refl, ◌∙◌, sym}
use native.Mathlib.Omega.{arith}
use lib.Seq.{length-take-le}
use Rattle.holding.proofs.HeldLaws.{block, the_limits, the_lent}
use Rattle.answers.proofs.Plantable.{given, wires_long}
use Rattle.answers.proofs.PlantedLaws.{tree_held}
use Rattle.answers.proofs.Lines.{in_front, late_line, best_line}
use Rattle.answers.proofs.best_lines.best_held.Goals as goal

pub plant_block-requires : goal.plant_block-requires
plant_block-requires c =
    let w = c.wires.ensures in
    record { given = (block c.requires.held.1, rw (w.count, w.sources, w.targets, w.delays) (given c.requires.held.1)); wires_long = rw (w.count, w.sources, w.targets, w.delays) (wires_long c.requires.held.1); nodes_long = omega arith }

pub returns-in_err-plant_block : goal.returns-in_err-plant_block
returns-in_err-plant_block c =
    let w = c.wires.ensures in
    let p = err_from_is_err_and c.from_residual.result c.from_residual.ensures.1 in
    rw (p.1, p.2) (λ file h. fits _ (c.in_err-plant_block.ensures.planted (block h) (rw (w.count, w.sources, w.targets, w.delays) (given h))).0 refl)

pub overflow_add-arrival : goal.overflow_add-arrival
overflow_add-arrival c = omega (arith, (the_limits c.requires.held.1).arrival_most, c.start_of-start.ensures.small)

pub returns-then-deadline-arrival : goal.returns-then-deadline-arrival
returns-then-deadline-arrival c = let w = c.wires.ensures in λ file h. late_line h (c.in_ok-plant_block.ensures.planted (block h) (rw (w.count, w.sources, w.targets, w.delays) (given h))).fits (c.start_of-start.ensures.start _ _) c.if-deadline-arrival.true

pub overflow_add-arrival-2 : goal.overflow_add-arrival-2
overflow_add-arrival-2 c = omega (arith, (the_limits c.requires.held.1).arrival_most, c.start_of-start.ensures.small)

pub overflow_sub-deadline : goal.overflow_sub-deadline
overflow_sub-deadline c = omega (arith, c.if-deadline-arrival.false)

pub overflow_cast-n : goal.overflow_cast-n
overflow_cast-n c = omega (arith, (the_lent c.requires.held.1).gates)

pub slice_bounds-tree_increases-end : goal.slice_bounds-tree_increases-end
slice_bounds-tree_increases-end c = c.requires.room

pub slice_bounds-tree_increases-end-2 : goal.slice_bounds-tree_increases-end-2
slice_bounds-tree_increases-end-2 c = sym (length-take-le _ _ c.requires.room)

pub tree_increases-saving-requires : goal.tree_increases-saving-requires
tree_increases-saving-requires c =
    let w = c.wires.ensures in
    record { tree_held = (block c.requires.held.1, (tree_held c.requires.held.1 (c.in_ok-plant_block.ensures.planted (block c.requires.held.1) (rw (w.count, w.sources, w.targets, w.delays) (given c.requires.held.1))) _ c.input_activities_of-inputs.ensures.long c.input_activities_of-inputs.ensures.activities (c.start_of-start.ensures.start _ _) c.start_of-start.ensures.small)); increases_len = (length-take-le _ _ c.requires.room, omega (arith, (the_limits c.requires.held.1).deadline_most)) }

pub returns : goal.returns
returns c =
    let w = c.wires.ensures in
    λ file h.
    let t = tree_held h (c.in_ok-plant_block.ensures.planted (block h) (rw (w.count, w.sources, w.targets, w.delays) (given h))) _ c.input_activities_of-inputs.ensures.long c.input_activities_of-inputs.ensures.activities (c.start_of-start.ensures.start _ _) c.start_of-start.ensures.small in
    best_line h t.fits (c.start_of-start.ensures.start _ _) c.if-deadline-arrival.false (c.tree_increases-saving.ensures (block h) t) (in_front _ _ _ (c.tree_increases-saving.auto.increases ∙ length-take-le _ _ c.requires.room))

pub shared_ref_as_front-steps : goal.shared_ref_as_front-steps
shared_ref_as_front-steps c = (the_lent c.requires.held.1).gates

pub input_activities_of-inputs-requires : goal.input_activities_of-inputs-requires
input_activities_of-inputs-requires c = (c.requires.held.0, c.args.block.now.arrival, c.args.block.now.deadline, c.requires.held.1)

pub start_of-start-requires : goal.start_of-start-requires
start_of-start-requires c = (c.requires.held.0, c.args.block.now.arrival, c.args.block.now.deadline, c.requires.held.1)
