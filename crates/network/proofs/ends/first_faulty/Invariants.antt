-- `network::ends::first_faulty` meets its contract. The loop's invariant: no gate below g is at fault. Assumes nothing.
use Prim.Native.Nat.{ℕ, ◌<◌}
use Rattle.network.specs.Misplaced.{Faulty}
use Rattle.network.proofs.ends.first_faulty.Given as goal

abbrev pub invariant-loop-g : goal.invariant-loop-g
invariant-loop-g l = (q : ℕ) → q < l.g → ¬ (Faulty l.n l.ins l.outs q)
