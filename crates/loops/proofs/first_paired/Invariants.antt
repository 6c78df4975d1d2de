-- `loops::first_paired` meets its contract. The loop's invariant: no gate below g has its pair with itself marked. Assumes nothing.
use Prim.Native.Nat.{ℕ, ◌<◌}
use Rattle.loops.specs.Square.{Paired}
use Rattle.loops.proofs.first_paired.Given as goal

abbrev pub invariant-loop-g : goal.invariant-loop-g
invariant-loop-g l = (q : ℕ) → q < l.g → ¬ (Paired l.square q q)
