-- `heads::gate::gate_give_out` meets its contract: the increase and the head are stored. Assumes nothing.
use Rattle.ties.proofs.Keys.{rank_below}
use Rattle.heads.proofs.Stepping.{gate_added}
use Rattle.heads.proofs.gate.gate_give_out.Goals as goal

pub returns : goal.returns
returns c = gate_added _ _ _ _ c.gate_head.ensures (rank_below _) c.put_gate.ensures
