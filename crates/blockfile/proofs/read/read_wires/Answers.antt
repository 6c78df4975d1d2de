-- `blockfile::read::read_wires` meets its contract: one wire more is read, or refused, and then all are; and so it is where the bytes end, or there is no room for more.
-- Assumes nothing.
use native.Mathlib.Omega.{arith}
use Rattle.blockfile.proofs.Judged.{passed_on}
use Rattle.blockfile.proofs.Wires.{so_far_none, so_far_more, so_far_refused, so_far_full, so_far_ended}
use Rattle.blockfile.proofs.read.read_wires.Goals as goal

pub loop-offset-init : goal.loop-offset-init
loop-offset-init c = record { most = omega arith; so_far = so_far_none _ _ _ _ _ _ c.requires.pairs_in_bounds.1 c.requires.start_in_bounds.0 }

pub returns-then-wires-eq-MAX_WIRES : goal.returns-then-wires-eq-MAX_WIRES
returns-then-wires-eq-MAX_WIRES c = so_far_full c.loop-offset.invariant.so_far c.if-wires-eq-MAX_WIRES.true c.loop-offset-test.true

pub returns-in_err-offset : goal.returns-in_err-offset
returns-in_err-offset c = rw (passed_on _ _ c.from_residual.ensures.1) (so_far_refused c.loop-offset.invariant.so_far _ _ c.in_err-offset.field-0.0 (omega arith) c.loop-offset-test.true c.in_err-offset.ensures)

pub loop-offset-preserved : goal.loop-offset-preserved
loop-offset-preserved c = record { most = omega arith; so_far = so_far_more c.loop-offset.invariant.so_far _ _ _ c.loop-offset-test.true c.in_ok-offset.ensures }

pub returns : goal.returns
returns c = so_far_ended c.loop-offset.invariant.so_far c.loop-offset.invariant.most c.loop-offset-test.false
