-- `heads::below::head_below` meets its contract. Assumes nothing.
use Rattle.heads.proofs.NodeCalls.{here}
use Rattle.heads.proofs.below.head_below.Goals as goal

pub kind_at-requires : goal.kind_at-requires
kind_at-requires c = here c.requires
