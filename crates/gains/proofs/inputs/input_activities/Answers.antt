-- `gains::inputs::input_activities` meets its contract: the sums over the wires in, and then the first gate's. Assumes nothing.
use mathlib.Core.Path.{◌∙◌, ap}
use lib.ListN.{length}
use Rattle.lists.proofs.Over.{length_build, length_over}
use Rattle.gains.proofs.Activities.{input_set, cleared}
use Rattle.gains.proofs.inputs.input_activities.Goals as goal

pub returns : goal.returns
returns c =
    let zeros = cleared c.args.n c.args.out.now c.fill.new.self c.requires.0.out_long (c.fill.ensures.after (λ y e. e)) in
    input_set c.args.n c.args.wires.count c.args.wires.sources.now c.args.wires.targets.now c.args.activities.now c.args.first c.args.input c.args.out.now _ c.add_wires.new.out c.requires.1 c.requires.0.out_long
    (c.add_wires.auto.out ∙ ap length zeros ∙ length_over _ _ (rw length_build c.requires.0.out_long)) zeros c.add_wires.ensures
