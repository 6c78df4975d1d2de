-- `ordering::chain::chain_wires` meets its contract: the first i wires are chained.
-- Assumes nothing.
use Rattle.std.proofs.Common.{◌<◌, refl, arith, length-take}
use Rattle.std.proofs.lemmas.List.{get_or-take}
use Rattle.ordering.proofs.Chains.{chained_none, chained_more}
use Rattle.ordering.proofs.chain.chain_wires.Goals as goal

pub loop-i-init : goal.loop-i-init
loop-i-init c = chained_none _ _ _ _ c.requires

pub loop-i-preserved : goal.loop-i-preserved
loop-i-preserved c =
    let below : c.loop-i.i < c.args.m = omega (arith, length-take c.args.m c.args.ends.now, c.requires.all_ends) in
    rw (get_or-take c.args.m c.args.ends.now c.loop-i.i 0 below)
    (chained_more c.args.ends.now c.loop-i.i _ c.loop-i.heads c.loop-i.links refl (omega (arith, c.requires.to_gates c.loop-i.i below)) (omega (arith, c.requires.room)) c.loop-i.invariant)
