-- `loops::close_square` meets its contract: after k turns each gate below k is let through; while k is, the rows above a and the first b marks of row a are whole.
-- Assumes nothing.
use Rattle.std.proofs.Common.{◌≡◌, arith}
use Rattle.loops.proofs.Square.{none_through, gate_begins, row_passed, row_ends, pair_passed, pair_joined}
use Rattle.loops.proofs.close_square.Goals as goal
use Rattle.loops.proofs.close_square.Goals.{then-square-k-ne0, else-square-k-ne0, then-square-a-ne0+else-loop-b-test, else-square-a-ne0}

pub loop-k-init : goal.loop-k-init
loop-k-init c = none_through c.args.square.now c.args.n c.requires

pub loop-a-init : goal.loop-a-init
loop-a-init c = gate_begins c.args.square.now c.args.n c.requires c.loop-k.k c.loop-k.square c.loop-k.invariant

pub loop-b-preserved : goal.loop-b-preserved
loop-b-preserved c =
    let to_k = c.loop-a.invariant.right c.loop-a.a c.loop-k.k c.loop-a-test.true c.loop-k-test.true c.if-square-a-ne0.true in
    elim c.if-square-k-ne0.branch [
      | then-square-k-ne0 w ↦ rw w.square-is
          (pair_joined c.args.square.now c.args.n c.requires c.loop-k.k c.loop-a.a c.loop-a-test.true c.loop-b.b c.loop-b-test.true c.loop-b.square
          c.loop-b.invariant c.loop-k-test.true (omega arith) to_k w.if-square-k-ne0.true)
      | else-square-k-ne0 w ↦ rw w.square-is
          (pair_passed c.args.square.now c.args.n c.requires c.loop-k.k c.loop-a.a c.loop-a-test.true c.loop-b.b c.loop-b-test.true c.loop-b.square
          c.loop-b.invariant c.loop-k-test.true w.if-square-k-ne0.false)
    ]

pub loop-a-preserved : goal.loop-a-preserved
loop-a-preserved c =
    elim c.if-square-a-ne0.branch [
      | then-square-a-ne0+else-loop-b-test w ↦
          let e : w.loop-b.b ≡ c.args.n = omega arith in
          rw w.square-is
          (row_ends c.args.square.now c.args.n c.requires c.loop-k.k c.loop-a.a c.loop-a-test.true w.loop-b.square (rw e at w.loop-b.invariant))
      | else-square-a-ne0 w ↦ rw w.square-is
          (row_passed c.args.square.now c.args.n c.requires c.loop-k.k c.loop-a.a c.loop-a-test.true c.loop-a.square c.loop-a.invariant
          c.loop-k-test.true w.if-square-a-ne0.false)
    ]
