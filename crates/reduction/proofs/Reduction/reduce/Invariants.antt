-- `reduction::Reduction::reduce` meets its contract. The loop's invariant: the turns so far keep what holds of the arrays, and tallies and queue are right. The head rises. Assumes nothing.
use Prim.Native.Nat.{◌+◌, ◌-◌}
use Rattle.reduction.specs.State.{state}
use Rattle.reduction.proofs.TurnLaws.{Turning}
use Rattle.reduction.proofs.Reduction.reduce.Given as goal

abbrev pub invariant-loop-self : goal.invariant-loop-self
invariant-loop-self l = Turning l.wires.gates l.wires.count 0 (l.wires.gates - 1) (state l.wires l.initial.self) l.self.nodes.count l.self.queue.head l.self.queue.tail (state l.wires l.self) l.self.tallies.ins l.self.tallies.outs l.self.queue.gates l.self.queue.places

abbrev pub decreases-loop-self : goal.decreases-loop-self
decreases-loop-self l = l.wires.gates + (l.wires.gates + l.wires.gates) - l.self.queue.head
