-- `sizing::curve::spend_ticks` meets its contract: the runs noted so far, followed by those of the ticks that are left, are all runs. Assumes nothing.
use mathlib.Core.Path.{refl, sym, ◌∙◌, ap}
use native.Mathlib.Omega.{arith}
use Rattle.optimum.specs.Head.{Head}
use Rattle.sizing.proofs.Ticking.{run_read}
use Rattle.sizing.proofs.Spending.{spending_starts, spending_full, spending_ends, run_fits, run_left, widths_fit, spending_on}
use Rattle.sizing.proofs.curve.spend_ticks.Goals as goal

pub loop-k-init : goal.loop-k-init
loop-k-init c = spending_starts c.requires.curvable _ _ _

pub node-head-requires : goal.node-head-requires
node-head-requires c = record { room = c.loop-k.invariant.ready.lent.room _ c.loop-k.invariant.ready.node }

pub returns-in_default : goal.returns-in_default
returns-in_default c = spending_ends c.requires.curvable c.loop-k.invariant (run_read _ c.node-head.ensures (sym c.in_default.ensures)) refl

pub note-count-requires-clause-widths_fit : goal.note-count-requires-clause-widths_fit
note-count-requires-clause-widths_fit c = widths_fit c.requires.curvable c.loop-k.invariant (run_read _ c.node-head.ensures c.in-Some.ensures.1) c.in-Some.ensures.0

pub series_give_out-requires : goal.series_give_out-requires
series_give_out-requires c = record { ready = c.loop-k.invariant.ready; steps = c.requires.steps_held; fitting = run_fits c.requires.curvable c.loop-k.invariant (run_read _ c.node-head.ensures c.in-Some.ensures.1) c.in-Some.ensures.0 }

pub overflow_sub-left : goal.overflow_sub-left
overflow_sub-left c = omega (arith, run_left c.requires.curvable c.loop-k.invariant (run_read _ c.node-head.ensures c.in-Some.ensures.1) c.in-Some.ensures.0)

pub loop-k-preserved : goal.loop-k-preserved
loop-k-preserved c = spending_on c.requires.curvable c.loop-k.invariant (run_read _ c.node-head.ensures c.in-Some.ensures.1) c.in-Some.ensures.0 (c.gain_in.ensures ∙ ap (λ (a : Head). a.gain) c.node-head.ensures) c.note-count.ensures c.loop-k-test.true c.series_give_out.ensures.given

pub returns : goal.returns
returns c = spending_full c.requires.curvable c.loop-k.invariant c.loop-k-test.false
