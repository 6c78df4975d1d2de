-- `heads::gate::gate_head` meets its contract: j steps are passed, and the ticks left lie in the others. Assumes nothing.
use mathlib.Core.Path.{◌∙◌, ap}
use Prim.Native.Nat.{ℕ}
use native.Mathlib.Omega.{arith}
use Rattle.optimum.specs.Head.{rank}
use Rattle.heads.proofs.Stepping.{passed_none, passed_more, found_step, found_none}
use Rattle.heads.proofs.gate.gate_head.Goals as goal

pub loop-j-init : goal.loop-j-init
loop-j-init c = passed_none _ _ _ _ _ _ _ c.requires.0

pub tick_head-requires : goal.tick_head-requires
tick_head-requires c = (rw c.step_drop.ensures (c.requires.1.drop_small c.args.g c.loop-j.j c.requires.0 (rw c.step_count-j-end.ensures at c.loop-j-test.true)), rw c.input_of.ensures (c.requires.1.input_small c.args.g c.requires.0), omega (arith, c.rank.ensures, c.gate_count.ensures, c.requires.0, c.requires.1.gates))

pub returns-then-left-width : goal.returns-then-left-width
returns-then-left-width c = found_step c.loop-j.invariant (rw c.step_count-j-end.ensures at c.loop-j-test.true) c.step_width-width.ensures c.if-left-width.true c.step_drop.ensures c.input_of.ensures (c.rank.ensures ∙ ap (λ (n : ℕ). rank n c.args.g) c.gate_count.ensures) c.tick_head.ensures

pub loop-j-preserved : goal.loop-j-preserved
loop-j-preserved c = passed_more c.loop-j.invariant (rw c.step_count-j-end.ensures at c.loop-j-test.true) c.step_width-width.ensures (omega arith)

pub returns : goal.returns
returns c = c.none.ensures ∙ found_none c.loop-j.invariant (rw c.step_count-j-end.ensures at c.loop-j-test.false)
