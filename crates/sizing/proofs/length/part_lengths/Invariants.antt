-- `sizing::length::part_lengths` meets its contract: the lengths of the nodes below i are right. Assumes nothing.
use Rattle.planting.specs.TreeWords.{tree_nodes}
use Rattle.sizing.specs.Raise.{Lengths, delays_in}
use Rattle.sizing.proofs.length.part_lengths.Given as goal

abbrev pub invariant-loop-i : goal.invariant-loop-i
invariant-loop-i l = Lengths (tree_nodes l.tree) (delays_in l.delays) l.lengths l.i
