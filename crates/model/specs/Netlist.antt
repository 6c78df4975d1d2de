-- What a block file says: its numbers as they stand there, and the block that they describe (document 01, "The block file"; document 02, K3).
-- `switching` is the number that the file gives for the switching of a net: of the input, and of a gate's output (Edition says what it is).
use Rattle.std.specs.Prelude.{List, map, ℕ}
use Rattle.model.specs.Block.{Step, Gate, Wire, Block}
use Rattle.model.specs.Edition.{activity_of}

-- A gate field: drawn delay, the number for its output's switching, steps.
pub record DrawnGate : Type 0 where
  pub delay : ℕ
  pub switching : ℕ
  pub steps : List Step

-- A block file: the numbers of its block field but the gate count, its gates and its wires in file order. In edition 1 every wire's delay is 0.
pub record Netlist : Type 0 where
  pub edition : ℕ
  pub arrival : ℕ
  pub deadline : ℕ
  pub switching : ℕ
  pub gates : List DrawnGate
  pub wires : List Wire

-- the gate of a file of an edition, with its net's activity
abbrev pub gate_of : ℕ → DrawnGate → Gate
gate_of edition g = record { delay = g.delay; activity = activity_of edition g.switching; steps = g.steps }

-- the block that the file describes
abbrev pub block_of : Netlist → Block
block_of N =
    record {
      arrival = N.arrival;
      deadline = N.deadline;
      activity = activity_of N.edition N.switching;
      gates = map (gate_of N.edition) N.gates;
      wires = N.wires;
    }
