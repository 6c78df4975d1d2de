-- `reduction::Reduction::begin` meets its contract. Assumes nothing.
use native.Mathlib.Omega.{arith}
use Rattle.reduction.proofs.LayLaws.{target_below, laid_moment}
use Rattle.reduction.proofs.Reduction.begin.Goals as goal

pub tally-requires-clause-targets_below : goal.tally-requires-clause-targets_below
tally-requires-clause-targets_below c =
    λ i h. omega (arith, c.lay.ensures.all_to i h, target_below c.requires.given.network c.requires.given.wired i h, c.args.wires.now.few_gates)

pub returns-clause-moment : goal.returns-clause-moment
returns-clause-moment c =
    laid_moment c.requires.given
    (λ i h. record { live = c.lay.ensures.all_live i h; target = c.lay.ensures.all_to i h; top = c.lay.ensures.all_top i h; kind = c.lay-2.ensures.all_leaves i h; delay = c.lay-2.ensures.all_delays i h })
    (record {
      live_room = omega (arith, c.args.wires.now.few_wires, c.lay.ensures.room.0);
      from_room = c.args.wires.now.all_sources;
      to_room = omega (arith, c.args.wires.now.few_wires, c.lay.ensures.room.1);
      top_room = omega (arith, c.args.wires.now.few_wires, c.lay.ensures.room.2);
      kind_room = omega (arith, c.args.wires.now.few_wires, c.args.wires.now.few_gates, c.lay-2.ensures.room.0);
      left_room = omega (arith, c.args.wires.now.few_wires, c.args.wires.now.few_gates, c.lay-2.ensures.room.1);
      gate_room = omega (arith, c.args.wires.now.few_wires, c.args.wires.now.few_gates, c.lay-2.ensures.room.2);
      right_room = omega (arith, c.args.wires.now.few_wires, c.args.wires.now.few_gates, c.lay-2.ensures.room.3);
    })
    c.lay-2.ensures.count_after
    (c.tally.ensures.ins_right c.lay.new.self.live c.lay.ensures.all_live)
    (c.tally.ensures.outs_right c.lay.new.self.live c.lay.ensures.all_live)
    c.line_up.ensures.lined_up c.line_up.ensures.ends
