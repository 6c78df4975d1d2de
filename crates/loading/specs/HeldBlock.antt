-- What the arrays of a held block hold, and what loading a file answers.
use Rattle.std.specs.Prelude.{Result, Ok, Err, List, ℕ}
use Rattle.model.specs.declared.Refusal.{Refusal}
use Rattle.model.specs.Block.{Block}
use Rattle.model.specs.Refusal.{IllFormed}
use Rattle.blockfile.specs.Held.{GateArrays, gate_arrays, WireArrays, wire_arrays}
use Rattle.ordering.specs.Order.{SameBeyond}
use Rattle.loading.specs.declared.block.HeldBlock.{HeldBlock}
use Rattle.loading.specs.Loads.{block_held, number_of, place_of}
use Rattle.loading.specs.HeldFile.{HeldFile}

-- the arrays of its gates, and of its wires
abbrev pub gates_of : HeldBlock → GateArrays
gates_of b = gate_arrays b.delays b.activities b.counts b.step_widths b.drops

abbrev pub wires_of : HeldBlock → WireArrays
wires_of b = wire_arrays b.sources b.targets b.wire_delays

-- the block, with this arrival and deadline; with its own
abbrev pub block_at : ℕ → ℕ → HeldBlock → Block
block_at arrival deadline b = block_held b.gates b.wires arrival deadline b.activity (gates_of b) (wires_of b)

abbrev pub block_in : HeldBlock → Block
block_in b = block_at b.arrival b.deadline b

-- the file is well-formed and the block with this arrival and deadline is its own, with an order of its gates along the wires; the block is its own
abbrev pub HoldsAt : List ℕ → ℕ → ℕ → HeldBlock → Type 0
HoldsAt file arrival deadline b = HeldFile file b.gates b.wires arrival deadline b.activity (gates_of b) (wires_of b) b.order

abbrev pub Holds : List ℕ → HeldBlock → Type 0
Holds file b = HoldsAt file b.arrival b.deadline b

-- The same of its times alone: whatever its activities and its steps, the file's block has its arrival, its deadline, the delays of its gates, and its wires.
pub record HoldsTimes (file : List ℕ) (b : HeldBlock) : Type 0 where
  pub activity : ℕ
  pub activities : List ℕ
  pub counts : List ℕ
  pub step_widths : List ℕ
  pub drops : List ℕ
  pub held : HeldFile file b.gates b.wires b.arrival b.deadline activity (gate_arrays b.delays activities counts step_widths drops) (wires_of b) b.order

-- The file is well-formed and the block is its own, with an order of its gates along the wires in the first elements of `order`, as many as there are gates, whose others are as before; or the refusal is the first of 1 to 9 that fits.
-- Free is what the gate and wire arrays hold beyond the block's gates, steps and wires, and after a refusal what the block holds.
abbrev pub LoadsIn : List ℕ → Result (Unit {0}) Refusal → HeldBlock → HeldBlock → Type 0
LoadsIn file (Ok _) before b = Holds file b × SameBeyond b.gates before.order b.order
LoadsIn file (Err r) before b = IllFormed file (number_of r) (place_of r)
