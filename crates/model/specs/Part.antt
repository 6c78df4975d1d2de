-- Parts, and when a block is series-parallel (document 01, "Gains, paths, building up"; 001, section 2.1).
-- 001's SP3 gives every fork and join a gate of its own; document 01's building rule overrules it and is wider: branches may share both of their ends with a plain wire beside them.
use Rattle.std.specs.Prelude.{◌≡◌, ◌≢◌, ◌⊎◌, ◌↔◌, [], ℕ, ◌<◌}
use Rattle.model.specs.Block.{Block, gate_count, first, last, Joined}

-- How a part is built up: one wire; two parts in series through a middle gate; two parts in parallel.
pub data Shape : Type 0 where
  wire : Shape
  series : Shape → ℕ → Shape → Shape
  parallel : Shape → Shape → Shape

-- g is a gate of the part other than its two ends
abbrev pub Inside : Shape → ℕ → Type 0
Inside wire g = ⊥
Inside (series P m Q) g = Inside P g ⊎ (g ≡ m) ⊎ Inside Q g
Inside (parallel P Q) g = Inside P g ⊎ Inside Q g

-- g is a gate of the part from a to b
abbrev pub HasGate : Shape → ℕ → ℕ → ℕ → Type 0
HasGate P a b g = (g ≡ a) ⊎ (g ≡ b) ⊎ Inside P g

-- the wire from x to y is in the part from a to b
abbrev pub HasWire : Shape → ℕ → ℕ → ℕ → ℕ → Type 0
HasWire wire a b x y = (x ≡ a) × (y ≡ b)
HasWire (series P m Q) a b x y = HasWire P a m x y ⊎ HasWire Q m b x y
HasWire (parallel P Q) a b x y = HasWire P a b x y ⊎ HasWire Q a b x y

-- "A part from gate a to gate b is one wire; or a part from a to m and one from m to b sharing only m, in series; or two parts from a to b sharing only a and b, in parallel." No wire stands twice.
abbrev pub Part : ℕ → ℕ → Shape → Type 0
Part a b wire = a ≢ b
Part a b (series P m Q) = Part a m P × Part m b Q × ((g : ℕ) → HasGate P a m g → HasGate Q m b g → g ≡ m)
Part a b (parallel P Q) =
    Part a b P
    × Part a b Q
    × ((g : ℕ) → HasGate P a b g → HasGate Q a b g → (g ≡ a) ⊎ (g ≡ b))
    × ((x y : ℕ) → HasWire P a b x y → HasWire Q a b x y → ⊥)

-- The part P, from the first gate to the last, is the whole block: its wires are the block's wires, and every gate is in it.
pub record Whole (B : Block) (P : Shape) : Type 0 where
  pub part : Part (first B) (last B) P
  pub wires : (x y : ℕ) → Joined B.wires x y ↔ HasWire P (first B) (last B) x y
  pub gates : (g : ℕ) → g < gate_count B → HasGate P (first B) (last B) g

-- "The block is series-parallel if all its wires and gates form a part from 0 to n − 1, or if it has one gate and no wire."
pub data SeriesParallel (B : Block) : Type 0 where
  lone : gate_count B ≡ 1 → B.wires ≡ [] → SeriesParallel B
  built : (P : Shape) → Whole B P → SeriesParallel B
