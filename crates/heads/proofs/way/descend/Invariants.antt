-- `heads::way::descend` meets its contract. Assumes nothing.
use Rattle.planting.specs.TreeWords.{tree_nodes}
use Rattle.heads.specs.Stored.{gate_heads, node_heads}
use Rattle.heads.proofs.Descent.{Walked}
use Rattle.heads.proofs.way.descend.Given as goal

abbrev pub invariant-loop-next : goal.invariant-loop-next
invariant-loop-next l = Walked (tree_nodes l.tree) (gate_heads l.heads) (node_heads l.heads) l.i l.j l.next

abbrev pub decreases-loop-next : goal.decreases-loop-next
decreases-loop-next l = l.j
