-- `loops::close_square` meets its contract: after k turns each gate below k is let through; while k is, the rows above a and the first b marks of row a are whole.
-- Assumes nothing.
use Rattle.loops.specs.Square.{Closing, Closed}
use Rattle.loops.proofs.close_square.Given as goal

abbrev pub invariant-loop-k : goal.invariant-loop-k
invariant-loop-k l = Closed l.fn.square l.n l.k l.square

abbrev pub invariant-loop-a : goal.invariant-loop-a
invariant-loop-a l = Closing l.fn.square l.n l.k l.a 0 l.square

abbrev pub invariant-loop-b : goal.invariant-loop-b
invariant-loop-b l = Closing l.fn.square l.n l.k l.a l.b l.square
