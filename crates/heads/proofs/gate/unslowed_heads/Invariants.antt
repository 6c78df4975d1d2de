-- `heads::gate::unslowed_heads` meets its contract: the heads of the gates below g are those without increase. Assumes nothing.
use Rattle.heads.specs.Plan.{heads_of}
use Rattle.heads.specs.GateHeads.{GatesUnslowed}
use Rattle.heads.proofs.gate.unslowed_heads.Given as goal

abbrev pub invariant-loop-g : goal.invariant-loop-g
invariant-loop-g l = GatesUnslowed (heads_of l.block) l.g l.increases l.initial.heads l.heads
