-- What the reduction may take for granted of a block: what refusals 4, 6, 8 and 9 of document 01 leave.
use Rattle.std.specs.Prelude.{◌≡◌, ◌≢◌, List, ℕ, ◌≤◌, ◌<◌, length, get_or}
use Rattle.model.specs.Block.{Wire, Block, gate_count, first, last, Joined}
use Rattle.model.specs.Path.{Reaches}

-- the wire of number i
abbrev pub wire_at : List Wire → ℕ → Wire
wire_at ws i = get_or ws i (record { source = 0; target = 0; delay = 0 })

pub record Network (B : Block) : Type 0 where
  pub some_gate : 1 ≤ gate_count B
  -- wires join gates of the block
  pub below : (x y : ℕ) → Joined B.wires x y → (x < gate_count B) × (y < gate_count B)
  -- no wire stands twice
  pub once : (i j : ℕ) → i < length B.wires → j < length B.wires → (wire_at B.wires i).source ≡ (wire_at B.wires j).source → (wire_at B.wires i).target ≡ (wire_at B.wires j).target → i ≡ j
  -- no gate reaches itself
  pub acyclic : (g : ℕ) → ¬ (Reaches B.wires g g)
  -- the first gate has no wire in, every other has one
  pub first_none : (x : ℕ) → ¬ (Joined B.wires x (first B))
  pub wire_into : (g : ℕ) → g < gate_count B → g ≢ first B → (x : ℕ) × Joined B.wires x g
  -- the last gate has no wire out, every other has one
  pub last_none : (y : ℕ) → ¬ (Joined B.wires (last B) y)
  pub wire_from : (g : ℕ) → g < gate_count B → g ≢ last B → (y : ℕ) × Joined B.wires g y
