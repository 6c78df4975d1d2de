-- `blockfile::store::store_steps` meets its contract: one step more is stored.
-- Assumes nothing.
use mathlib.Core.Path.{◌≡◌, refl, ◌∙◌, ap}
use mathlib.Core.List.{[]}
use Prim.Native.Nat.{◌/◌}
use native.Mathlib.Omega.{arith}
use lib.ListN.{length}
use Rattle.model.specs.Block.{Step}
use Rattle.ranges.proofs.Steps.{array_at}
use Rattle.blockfile.proofs.Stores.{steps_none, steps_more, steps_all}
use Rattle.blockfile.proofs.store.store_steps.Goals as goal

pub loop-j-init : goal.loop-j-init
loop-j-init c = steps_none _ _ _ _

pub loop-j-preserved : goal.loop-j-preserved
loop-j-preserved c =
    let a = array_at c.args.steps.now c.requires.steps_len.0 c.loop-j.j [] (omega arith) in
    steps_more c.args.steps.now c.args.gate c.loop-j.j _ _ _ _ _ _ (omega arith) (omega arith) (rw c.as_chunks.ensures.front at c.width_of.ensures ∙ ap (λ (s : Step). s.width) a) (rw c.as_chunks.ensures.front at c.drop_of.ensures ∙ ap (λ (s : Step). s.drop) a) c.loop-j.invariant

pub returns : goal.returns
returns c =
    let e : c.loop-j.j ≡ length c.args.steps.now / 4 = omega arith in
    rw c.as_chunks.ensures.front_len (steps_all c.args.steps.now c.args.gate (length c.args.steps.now / 4) _ _ _ _ c.requires.steps_len.0 c.requires.steps_len.1 refl (rw e at c.loop-j.invariant))
