-- `sizing::ticks::ticks_out` meets its contract: the ticks left lead to the increases that all of them lead to. Assumes nothing.
use mathlib.Core.Path.{sym}
use native.Mathlib.Omega.{arith}
use Rattle.sizing.proofs.Ticking.{run_read, run_fits, run_left, run_done, all_out}
use Rattle.sizing.proofs.ticks.ticks_out.Goals as goal

pub node-requires : goal.node-requires
node-requires c = record { room = c.loop-run.invariant.ready.lent.room _ c.loop-run.invariant.ready.node }

pub series_give_out-requires : goal.series_give_out-requires
series_give_out-requires c = record { ready = c.loop-run.invariant.ready; steps = c.requires.steps_held; fitting = run_fits c.loop-run.invariant (run_read _ c.node.ensures c.in-Some.ensures.1) c.in-Some.ensures.0 }

pub overflow_sub-left : goal.overflow_sub-left
overflow_sub-left c = run_left c.loop-run.invariant (run_read _ c.node.ensures c.in-Some.ensures.1) c.in-Some.ensures.0

pub loop-run-smaller : goal.loop-run-smaller
loop-run-smaller c = omega (arith, run_left c.loop-run.invariant (run_read _ c.node.ensures c.in-Some.ensures.1) c.in-Some.ensures.0, c.in-Some.ensures.0)

pub loop-run-preserved : goal.loop-run-preserved
loop-run-preserved c = run_done c.loop-run.invariant (run_read _ c.node.ensures c.in-Some.ensures.1) c.requires.i_bound c.in-Some.ensures.0 c.series_give_out.ensures.given

pub returns : goal.returns
returns c = all_out c.loop-run.invariant (run_read _ c.node.ensures (sym c.in_default.ensures)) (omega arith)
