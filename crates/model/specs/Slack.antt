-- Source delay, required time, slack, start and spare (document 01, "Gains, paths, building up"; 000, section 2, with the block's own deadline).
-- They are carried from gate to gate along the wires. The number that counts down is how many gates a path may still pass: no path of a block without loops passes more gates than there are.
use Rattle.std.specs.Prelude.{List, [], ◌∷◌, cond, ℕ, zero, suc, ◌+◌, max, eqb, ℤ, pos, ◌-ℤ◌}
use Rattle.std.specs.Int.Signed.{le_z}
use Rattle.model.specs.Block.{Wire, Block, gate_count, last}
use Rattle.model.specs.InTime.{drawn}

-- the latest time at which a wire into gate g has brought its source's signal; `base` where none leads there
unfoldable pub latest_in : List Wire → (ℕ → ℕ) → ℕ → ℕ → ℕ
latest_in [] time base g = base
latest_in (w ∷ ws) time base g =
    cond (eqb w.target g) (max (time w.source + w.delay) (latest_in ws time base g)) (latest_in ws time base g)

-- the latest time at the output of gate g, where gate h takes `d h` and signals start at `base`
unfoldable pub source_by : ℕ → List Wire → (ℕ → ℕ) → ℕ → ℕ → ℕ
source_by zero ws d base g = 0
source_by (suc f) ws d base g = latest_in ws (source_by f ws d base) base g + d g

-- "Source delay is the latest time at the gate's output, arrival included."
unfoldable pub source_delay : Block → ℕ → ℕ
source_delay B = source_by (gate_count B) B.wires (drawn B) B.arrival

-- the lesser of two signed numbers
abbrev pub least : ℤ → ℤ → ℤ
least a b = cond (le_z a b) a b

-- the earliest time by which a wire out of gate g must have its signal; `base` where none leaves it
unfoldable pub least_out : List Wire → (ℕ → ℤ) → ℤ → ℕ → ℤ
least_out [] time base g = base
least_out (w ∷ ws) time base g =
    cond (eqb w.source g) (least (time w.target -ℤ pos w.delay) (least_out ws time base g)) (least_out ws time base g)

-- the time by which the output of gate g must be there, where gate h takes `d h` and the last must be there by `base`
unfoldable pub required_by : ℕ → List Wire → (ℕ → ℕ) → ℤ → ℕ → ℤ
required_by zero ws d base g = base
required_by (suc f) ws d base g = least_out ws (λ (h : ℕ). required_by f ws d base h -ℤ pos (d h)) base g

-- "Required time is set to the deadline at gate n − 1 and carried backwards by the least."
unfoldable pub required_time : Block → ℕ → ℤ
required_time B = required_by (gate_count B) B.wires (drawn B) (pos B.deadline)

-- "Slack is required minus source. It is signed, and negative when late."
unfoldable pub slack : Block → ℕ → ℤ
slack B g = required_time B g -ℤ pos (source_delay B g)

-- "Start is the longest path with no increase": the latest time at the last gate's output where signals start at 0.
unfoldable pub start : Block → ℕ
start B = source_by (gate_count B) B.wires (drawn B) 0 (last B)

-- "Spare is deadline − arrival − start." It is signed, and negative when late.
unfoldable pub spare : Block → ℤ
spare B = pos B.deadline -ℤ pos (B.arrival + start B)
