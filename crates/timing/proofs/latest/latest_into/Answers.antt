-- `timing::latest::latest_into` meets its contract: a walk along the gate's chain of wires. Assumes nothing.
use mathlib.Core.Path.{ap}
use native.Mathlib.Omega.{arith}
use lib.ListN.{get_or}
use Rattle.ordering.specs.Chain.{link_to}
use Rattle.timing.proofs.Walk.{walk_starts, walk_at, walk_goes_on, walk_falls, walk_ends}
use Rattle.timing.proofs.latest.latest_into.Goals as goal

pub loop-next-init : goal.loop-next-init
loop-next-init c = walk_starts _ _ _ _ _ _ _ _ _ _ c.requires.2.chained c.first-next.ensures

pub bounds-times-a : goal.bounds-times-a
bounds-times-a c = omega (arith, c.requires.2.lent.source_is_gate c.in-Some.i (walk_at _ _ _ _ _ _ _ _ _ _ c.loop-next.invariant (ap link_to c.in-Some.is)).0, c.requires.2.times_long)

pub overflow_add-times : goal.overflow_add-times
overflow_add-times c = omega (arith, c.requires.2.bounded (get_or c.args.wires.sources.now c.in-Some.i 0), c.requires.2.of_wire c.in-Some.i (walk_at _ _ _ _ _ _ _ _ _ _ c.loop-next.invariant (ap link_to c.in-Some.is)).0)

pub next-next-requires : goal.next-next-requires
next-next-requires c = omega (arith, (walk_at _ _ _ _ _ _ _ _ _ _ c.loop-next.invariant (ap link_to c.in-Some.is)).0, c.requires.2.lent.wires)

pub loop-next-smaller : goal.loop-next-smaller
loop-next-smaller c = walk_falls _ _ _ _ _ _ _ _ _ _ _ _ _ c.requires.2.chained c.loop-next.invariant (ap link_to c.in-Some.is) c.next-next.ensures

pub loop-next-preserved : goal.loop-next-preserved
loop-next-preserved c = walk_goes_on _ _ _ _ _ _ _ _ _ _ _ _ _ _ c.requires.2.chained c.loop-next.invariant (ap link_to c.in-Some.is) c.max-latest.ensures c.next-next.ensures

pub returns : goal.returns
returns c = walk_ends _ _ _ _ _ _ _ _ _ c.loop-next.invariant (ap link_to c.in_default.is)
