-- The reduction's state as it stands in its structs.
use Rattle.std.specs.Prelude.{◌+◌, ◌-◌, ◌*◌, ◌≤◌}
use Rattle.parts.specs.Nodes.{Nodes}
use Rattle.slots.specs.declared.nodes.TreeNodes.{TreeNodes}
use Rattle.slots.specs.declared.wires.ChainedWires.{ChainedWires}
use Rattle.reduction.specs.declared.Reduction.{Reduction}
use Rattle.reduction.specs.Arrays.{Arrays, arrays}
use Rattle.reduction.specs.Going.{Sound, Ready, Tallied, Queued, sending}

-- the tree's nodes in their arrays
abbrev pub nodes_in : TreeNodes → Nodes
nodes_in t = record { kinds = t.kind; lefts = t.left; gates = t.gate; rights = t.right }

-- the slots and the nodes in their arrays
abbrev pub state : ChainedWires → Reduction → Arrays
state w R = arrays R.slots.live w.sources.now R.slots.to R.slots.top R.nodes.kind R.nodes.left R.nodes.gate R.nodes.right

-- A moment between two turns of the queue: the arrays hold a moment of the reduction of some network, with room for what may come; the tallies are right, and every gate that can go waits in the queue, which has places for all that may join it.
pub record Moment (w : ChainedWires) (R : Reduction) : Type 0 where
  pub sound : Sound w.gates w.count R.nodes.count (state w R)
  pub ready : Ready w.gates w.count R.nodes.count (state w R)
  pub tallied : Tallied w.gates w.count (state w R) R.tallies.ins R.tallies.outs
  pub queued : Queued w.gates 0 (w.gates - 1) R.tallies.ins R.tallies.outs R.queue.gates R.queue.places R.queue.head R.queue.tail
  pub room : R.queue.tail + 2 * sending w.gates w.count (state w R) ≤ w.gates + (w.gates + w.gates)
