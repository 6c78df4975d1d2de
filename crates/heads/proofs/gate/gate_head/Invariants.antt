-- `heads::gate::gate_head` meets its contract: j steps are passed, and the ticks left lie in the others. Assumes nothing.
use Rattle.blockwords.specs.BlockWords.{gates_held, counts_of, widths_of, drops_of, inputs_of}
use Rattle.heads.proofs.Stepping.{Passed}
use Rattle.heads.proofs.gate.gate_head.Given as goal

abbrev pub invariant-loop-j : goal.invariant-loop-j
invariant-loop-j l = Passed (gates_held l.block) (counts_of l.block) (widths_of l.block) (drops_of l.block) (inputs_of l.block) l.g l.k l.j l.left
