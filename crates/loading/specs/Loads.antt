-- What loading a file answers, and what it leaves in the arrays.
use Rattle.std.specs.Prelude.{Result, Ok, Err, List, ℕ, get_or}
use Rattle.model.specs.declared.Refusal.{Refusal}
use Rattle.model.specs.Block.{Block}
use Rattle.model.specs.Refusal.{WellFormed, IllFormed}
use Rattle.model.specs.Answer.{refusal_answer}
use Rattle.blockfile.specs.declared.read.BlockHead.{BlockHead}
use Rattle.blockfile.specs.Held.{GateArrays, WireArrays, gates_held, wires_held}
use Rattle.ordering.specs.Wires.{Wired}
use Rattle.ordering.specs.Order.{Order, SameBeyond}

-- the block that the arrays hold
abbrev pub block_held : ℕ → ℕ → ℕ → ℕ → ℕ → GateArrays → WireArrays → Block
block_held n m arrival deadline activity G W =
    record { arrival = arrival; deadline = deadline; activity = activity; gates = gates_held G n; wires = wires_held W m }

-- the number of a refusal, and its place
abbrev pub number_of : Refusal → ℕ
number_of r = (refusal_answer r).number

abbrev pub place_of : Refusal → ℕ
place_of r = get_or (refusal_answer r).values 0 0

-- The file is well-formed and its block is in the arrays, with an order of its gates along the wires in the first elements of `order`, as many as there are gates, whose others are as in `before`; or the refusal is the first of 1 to 9 that fits.
-- Free is what the gate and wire arrays hold beyond the block's gates, steps and wires, and what every array holds after a refusal.
abbrev pub Loads : List ℕ → Result BlockHead Refusal → GateArrays → WireArrays → List ℕ → List ℕ → Type 0
Loads file (Ok h) G W before order =
    WellFormed file (block_held h.gates h.wires h.arrival h.deadline h.activity G W) × Order (Wired h.wires W.sources W.targets) h.gates order × SameBeyond h.gates before order
Loads file (Err r) G W before order = IllFormed file (number_of r) (place_of r)
