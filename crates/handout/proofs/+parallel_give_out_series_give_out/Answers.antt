-- The proof of the cycle of calls {parallel_give_out, series_give_out}. The measure is twice the wires of the part, one more for `series_give_out`, which may hand on the whole part; `parallel_give_out` hands on to parts of fewer wires.
-- Assumes nothing.
use Rattle.planting.proofs.RuledOut.{no_series}
use Rattle.handout.proofs.WordCalls.{node_room, node, walks, nothing_given, item_node, gate_asked, gate_gave, item_falls, item_kind, item_can, item_renewable, item_done, left_falls, left_can, right_falls, right_can, both_done}
use Rattle.handout.specs.State.{GaveOut}
use Rattle.handout.proofs.+parallel_give_out_series_give_out.Goals as goal
use Rattle.handout.proofs.+parallel_give_out_series_give_out.Goals.{series_give_out-in-Series, series_give_out-in_default}

pub parallel_give_out-kind_at-requires : goal.parallel_give_out-kind_at-requires
parallel_give_out-kind_at-requires t c = node c.requires.can_give_out

pub parallel_give_out-series_give_out-requires : goal.parallel_give_out-series_give_out-requires
parallel_give_out-series_give_out-requires t c = (left_falls c.requires.can_give_out c.requires.is_parallel c.in-Parallel.ensures.left c.decreases, left_can c.requires.can_give_out c.requires.is_parallel c.in-Parallel.ensures.left)

pub parallel_give_out-series_give_out-requires-2 : goal.parallel_give_out-series_give_out-requires-2
parallel_give_out-series_give_out-requires-2 t c = (right_falls c.requires.can_give_out c.requires.is_parallel c.in-Parallel.ensures.left c.series_give_out.ensures c.in-Parallel.ensures.right c.decreases, right_can c.requires.can_give_out c.requires.is_parallel c.in-Parallel.ensures.left c.series_give_out.ensures c.in-Parallel.ensures.right)

pub parallel_give_out-returns : goal.parallel_give_out-returns
parallel_give_out-returns t c = both_done c.requires.can_give_out c.requires.is_parallel c.in-Parallel.ensures.left c.series_give_out.ensures c.in-Parallel.ensures.right c.series_give_out-2.ensures

pub series_give_out-node_gain-requires : goal.series_give_out-node_gain-requires
series_give_out-node_gain-requires t c = node_room c.requires

pub series_give_out-returns-then-node_gain-eq0 : goal.series_give_out-returns-then-node_gain-eq0
series_give_out-returns-then-node_gain-eq0 t c = nothing_given c.requires _ c.node_gain.ensures c.if-node_gain-eq0.true

pub series_give_out-descend-j-requires : goal.series_give_out-descend-j-requires
series_give_out-descend-j-requires t c = walks c.requires

pub series_give_out-kind_at-requires : goal.series_give_out-kind_at-requires
series_give_out-kind_at-requires t c = item_node c.requires c.descend-j.ensures

pub series_give_out-gate_give_out-requires : goal.series_give_out-gate_give_out-requires
series_give_out-gate_give_out-requires t c = gate_asked c.requires c.descend-j.ensures c.in-Series.ensures.number c.in-Series.ensures.gate c.node_gain.ensures c.if-node_gain-eq0.false

pub series_give_out-parallel_give_out-requires : goal.series_give_out-parallel_give_out-requires
series_give_out-parallel_give_out-requires t c = (item_falls c.requires c.descend-j.ensures c.decreases, (item_kind c.requires c.descend-j.ensures c.kind_at.ensures.number (no_series _ c.in_default.not-Series) c.node_gain.ensures c.if-node_gain-eq0.false, item_can c.requires c.descend-j.ensures))

pub series_give_out-renew_up-requires : goal.series_give_out-renew_up-requires
series_give_out-renew_up-requires t c =
    let gave : GaveOut c.args.block.now c.args.tree.now c.args.increases.now c.args.heads.now c.match-kind_at.increases c.match-kind_at.heads c.descend-j.result c.args.w c.descend-j.result =
    elim c.match-kind_at.branch [
      | series_give_out-in-Series w ↦ rw (w.increases-is, w.heads-is) (gate_gave c.requires c.descend-j.ensures w.in-Series.ensures.number w.in-Series.ensures.gate w.gate_give_out.ensures)
      | series_give_out-in_default w ↦ rw (w.increases-is, w.heads-is) w.parallel_give_out.ensures
    ] in
    item_renewable c.requires c.descend-j.ensures gave

pub series_give_out-returns : goal.series_give_out-returns
series_give_out-returns t c =
    let gave : GaveOut c.args.block.now c.args.tree.now c.args.increases.now c.args.heads.now c.match-kind_at.increases c.match-kind_at.heads c.descend-j.result c.args.w c.descend-j.result =
    elim c.match-kind_at.branch [
      | series_give_out-in-Series w ↦ rw (w.increases-is, w.heads-is) (gate_gave c.requires c.descend-j.ensures w.in-Series.ensures.number w.in-Series.ensures.gate w.gate_give_out.ensures)
      | series_give_out-in_default w ↦ rw (w.increases-is, w.heads-is) w.parallel_give_out.ensures
    ] in
    item_done c.requires c.descend-j.ensures gave c.renew_up.ensures
