-- `slots::chain::slot_in_chain` meets its contract: a walk along the chain of the slots that leave a. The next slot's number falls. Assumes nothing.
use Rattle.ordering.specs.Chain.{link_to}
use Rattle.ordering.proofs.Walking.{Walking}
use Rattle.slots.specs.Sought.{Leads}
use Rattle.slots.proofs.chain.slot_in_chain.Given as goal

abbrev pub invariant-loop-next : goal.invariant-loop-next
invariant-loop-next l = Walking l.slots.from.now l.slots.count l.a (Leads l.slots.live.now l.slots.from.now l.slots.to.now l.a l.b) (link_to l.next)

abbrev pub decreases-loop-next : goal.decreases-loop-next
decreases-loop-next l = link_to l.next
