-- `ordering::chain::chain_wires` meets its contract: the first i wires are chained.
-- Assumes nothing.
use Rattle.ordering.specs.Chain.{Chained}
use Rattle.ordering.proofs.chain.chain_wires.Given as goal

abbrev pub invariant-loop-i : goal.invariant-loop-i
invariant-loop-i l = Chained l.ends l.i l.heads l.links
