-- `ordering::marking::mark_keys` meets its contract: the marks are those of the keys passed.
-- Assumes nothing.
use Rattle.std.proofs.Common.{◌≡◌, ◌<◌, refl, arith, length-take}
use Rattle.std.proofs.lemmas.List.{get_or-take}
use Rattle.ordering.proofs.Marks.{among_marked}
use Rattle.ordering.proofs.marking.mark_keys.Goals as goal

pub loop-key-preserved : goal.loop-key-preserved
loop-key-preserved c =
    let below : c.loop-key.key-index < c.args.m = omega (arith, length-take c.args.m c.args.keys.now, c.requires.m_in_bounds) in
    rw (get_or-take c.args.m c.args.keys.now c.loop-key.key-index 0 below)
    (λ n zeros. among_marked c.args.keys.now c.loop-key.key-index n c.loop-key.marks _ refl (omega (arith, c.requires.to_marks c.loop-key.key-index below)) (c.loop-key.invariant n zeros))

pub returns : goal.returns
returns c =
    let e : c.loop-key.key-index ≡ c.args.m = omega (arith, length-take c.args.m c.args.keys.now) in
    rw e at c.loop-key.invariant
