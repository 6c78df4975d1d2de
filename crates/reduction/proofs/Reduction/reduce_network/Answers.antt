-- `reduction::Reduction::reduce_network` meets its contract: the wires laid out, reduced until no gate can go, and the answer picked. Assumes nothing.
use mathlib.Core.Path.{refl, ◌∙◌}
use Prim.Native.Nat.{◌-◌}
use native.Mathlib.Omega.{arith}
use Rattle.slots.specs.Picked.{Picked}
use Rattle.reduction.specs.Wired.{Wired}
use Rattle.reduction.proofs.LayLaws.{laid_going, source_below}
use Rattle.reduction.proofs.FinishLaws.{lone_answered, picked_answered}
use Rattle.reduction.proofs.Reduction.reduce_network.Goals as goal

pub returns-then-n-eq1 : goal.returns-then-n-eq1
returns-then-n-eq1 c = record { answered = λ N net w. lone_answered net w c.if-n-eq1.true; nodes_long = λ d. absurd (d c.if-n-eq1.true); nodes_few = λ d. absurd (d c.if-n-eq1.true) }

pub new-chained-requires-clause-sources_below : goal.new-chained-requires-clause-sources_below
new-chained-requires-clause-sources_below c = source_below c.requires.given.network c.requires.given.wired

pub returns : goal.returns
returns c = record {
  nodes_long = λ d. c.reduce.ensures.kinds_kept ∙ c.begin.ensures.room;
  nodes_few = λ d. let (gates, count, sources) = c.new-chained.ensures.same in omega (arith, gates, count, c.reduce.ensures.ready.budget);
  answered =
      λ N net w.
      let (gates, count, sources) = c.new-chained.ensures.same in
      let as_wires : Wired N c.new-chained.result.gates c.new-chained.result.count c.new-chained.result.sources.now c.args.wires.targets.now c.args.wires.delays.now = rw (gates, count, sources) w in
      let picked : Picked c.reduce.new.self.slots.live c.reduce.new.self.slots.to c.reduce.new.self.slots.top c.new-chained.result.count (c.new-chained.result.gates - 1) c.pick.result =
      rw (gates, count) c.pick.ensures in
      picked_answered net (laid_going net as_wires _ refl c.begin.ensures.laid) c.reduce.ensures refl (rw gates c.if-n-eq1.false) c.pick.result picked c.map.result c.map.ensures.cases;
}
