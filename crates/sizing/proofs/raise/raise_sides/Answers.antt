-- `sizing::raise::raise_sides` meets its contract: each side gets the ticks that it lacks to the other. Assumes nothing.
use native.Mathlib.Omega.{arith}
use Rattle.planting.proofs.RuledOut.{no_parallel}
use Rattle.heads.proofs.Reading.{node_in}
use Rattle.sizing.proofs.Lifting.{raised_already, left_in, right_in, left_lift, right_lift, sides_stand, sides_levelled}
use Rattle.sizing.proofs.raise.raise_sides.Goals as goal

pub kind_at-requires : goal.kind_at-requires
kind_at-requires c = node_in _ _ c.requires.i_bound.0 c.requires.standing.sound.shaped.few_nodes

pub returns-in_default : goal.returns-in_default
returns-in_default c = record { still_standing = c.requires.standing; levelled = raised_already c.requires.standing c.requires.i_bound.0 (rw c.kind_at.ensures.number at (no_parallel _ c.in_default.not-Parallel)) }

pub bounds-lengths-right : goal.bounds-lengths-right
bounds-lengths-right c = omega (arith, right_in c.requires.standing c.requires.i_bound.0 (omega (arith, c.in-Parallel.ensures.number)) c.in-Parallel.ensures.right, c.requires.i_bound.1)

pub bounds-lengths-left : goal.bounds-lengths-left
bounds-lengths-left c = omega (arith, left_in c.requires.standing c.requires.i_bound.0 (omega (arith, c.in-Parallel.ensures.number)) c.in-Parallel.ensures.left, c.requires.i_bound.1)

pub ticks_out-requires : goal.ticks_out-requires
ticks_out-requires c = let r = left_lift c.requires.standing c.requires.i_bound.0 (omega (arith, c.in-Parallel.ensures.number)) c.in-Parallel.ensures.left in record { ready = r.0; steps_held = c.requires.steps_held; i_bound = r.1 }

pub ticks_out-requires-2 : goal.ticks_out-requires-2
ticks_out-requires-2 c = let r = right_lift c.requires.standing c.requires.i_bound.0 (omega (arith, c.in-Parallel.ensures.number)) c.in-Parallel.ensures.left c.ticks_out.ensures c.in-Parallel.ensures.right in record { ready = r.0; steps_held = c.requires.steps_held; i_bound = r.1 }

pub returns : goal.returns
returns c = record { still_standing = sides_stand c.requires.standing c.requires.i_bound.0 (omega (arith, c.in-Parallel.ensures.number)) c.in-Parallel.ensures.left c.ticks_out.ensures c.in-Parallel.ensures.right c.ticks_out-2.ensures; levelled = sides_levelled c.requires.standing c.requires.i_bound.0 (omega (arith, c.in-Parallel.ensures.number)) c.in-Parallel.ensures.left c.ticks_out.ensures c.in-Parallel.ensures.right c.ticks_out-2.ensures c.saturating_sub-more_left.ensures c.saturating_sub-more_right.ensures }
