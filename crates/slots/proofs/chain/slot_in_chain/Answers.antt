-- `slots::chain::slot_in_chain` meets its contract: a walk along the chain of the slots that leave a. The next slot's number falls. Assumes nothing.
use mathlib.Core.Path.{ap}
use native.Mathlib.Omega.{arith}
use Rattle.ordering.specs.Chain.{link_to}
use Rattle.ordering.proofs.Walking.{walking_starts, walking_on, walking_shortens}
use Rattle.slots.proofs.ChainLaws.{none_found}
use Rattle.slots.proofs.chain.slot_in_chain.Goals as goal

pub loop-next-init : goal.loop-next-init
loop-next-init c = walking_starts _ _ _ _ _ _ c.requires.chained _ c.wire_at-next.ensures

pub loop-next-smaller : goal.loop-next-smaller
loop-next-smaller c = walking_shortens _ _ _ _ _ _ c.requires.chained _ _ _ c.loop-next.invariant (ap link_to c.in-Some.is) c.wire_at-next-in-Some.ensures

pub loop-next-preserved : goal.loop-next-preserved
loop-next-preserved c =
    walking_on _ _ _ _ _ _ c.requires.chained _ _ _ c.loop-next.invariant (ap link_to c.in-Some.is) c.wire_at-next-in-Some.ensures (rw c.if-leads.false at c.leads.ensures)

pub returns : goal.returns
returns c = let e = ap link_to c.in_default.is in none_found c.loop-next.invariant (omega (arith, e))
