-- `tallies::queue::Queue::line_up` meets its contract. The loop's invariant: the gates below g stand in the queue. Assumes nothing.
use mathlib.Core.Path.{◌≡◌}
use lib.ListN.{length}
use Rattle.model.specs.Limits.{max_gates}
use Rattle.tallies.specs.Queue.{LinedUp, max_turns}
use Rattle.tallies.proofs.queue.Queue.line_up.Given as goal

abbrev pub invariant-loop-g : goal.invariant-loop-g
invariant-loop-g l = (l.self.head ≡ 0) × (l.self.tail ≡ l.g) × (length l.self.gates ≡ max_turns) × (length l.self.places ≡ max_gates) × LinedUp l.g l.self.gates l.self.places
