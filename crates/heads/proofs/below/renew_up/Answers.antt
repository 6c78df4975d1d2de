-- `heads::below::renew_up` meets its contract. Assumes nothing.
use mathlib.Core.Path.{refl}
use native.Mathlib.Omega.{arith}
use Rattle.heads.proofs.Renewing.{makes, node_on_way, rises, further, ends, at_top}
use Rattle.heads.proofs.below.renew_up.Goals as goal

pub renew-requires : goal.renew-requires
renew-requires c = makes c.requires c.loop-k.invariant

pub parent_at-k-requires : goal.parent_at-k-requires
parent_at-k-requires c = node_on_way c.requires c.loop-k.invariant

pub loop-k-smaller : goal.loop-k-smaller
loop-k-smaller c = let r = rises c.requires c.loop-k.invariant c.parent_at-k.ensures c.loop-k-test.true in omega arith

pub loop-k-preserved : goal.loop-k-preserved
loop-k-preserved c = further c.requires c.loop-k.invariant c.renew.ensures c.parent_at-k.ensures c.loop-k-test.true

pub renew-requires-2 : goal.renew-requires-2
renew-requires-2 c = let e = at_top c.requires c.loop-k.invariant c.loop-k-test.false in makes c.requires (rw e at c.loop-k.invariant)

pub returns : goal.returns
returns c = let e = at_top c.requires c.loop-k.invariant c.loop-k-test.false in ends c.requires (rw e at c.loop-k.invariant) c.renew-2.ensures refl
