-- `sizing::raise::raise_and_fill` meets its contract: the nodes below i are raised, and their heads are right. Assumes nothing.
use Prim.Native.Nat.{ℕ}
use Rattle.planting.specs.TreeWords.{tree_nodes}
use Rattle.heads.specs.Plan.{plan, node_count}
use Rattle.handout.specs.State.{state}
use Rattle.sizing.specs.Raise.{Lengths, Standing, Lifted}
use Rattle.sizing.proofs.raise.raise_and_fill.Given as goal

abbrev pub invariant-loop-i : goal.invariant-loop-i
invariant-loop-i l =
    record {
      standing : Standing (plan l.block l.tree) (state l.increases l.heads) l.i;
      lifted : (d : ℕ → ℕ) → Lengths (tree_nodes l.tree) d l.lengths (node_count (tree_nodes l.tree)) → Lifted (plan l.block l.tree) d l.increases l.i;
    }
