-- Lists of increases, within a time and in time (document 01, "Gains, paths, building up"; demand 2).
use Rattle.std.specs.Prelude.{◌≡◌, List, ℕ, ◌+◌, ◌≤◌, ◌<◌, length, get_or, replicate}
use Rattle.model.specs.Block.{Block, gate, gate_count, first, last, widths}
use Rattle.model.specs.Path.{Path, Longest}

-- the list that slows none of n gates
abbrev pub no_increase : ℕ → List ℕ
no_increase n = replicate n 0

-- the delay of gate g as drawn
abbrev pub drawn : Block → ℕ → ℕ
drawn B g = (gate B g).delay

-- the delay of gate g under the increases x
abbrev pub slowed : Block → List ℕ → ℕ → ℕ
slowed B x g = (gate B g).delay + get_or x g 0

-- x has an increase for each gate, "each from 0 to the sum of its gate's widths", and the time of every path under x is `ok`.
pub record Sizing (B : Block) (ok : ℕ → Type 0) (x : List ℕ) : Type 0 where
  pub one_each : length x ≡ gate_count B
  pub within_widths : (g : ℕ) → g < gate_count B → get_or x g 0 ≤ widths (gate B g).steps
  pub paths : (t : ℕ) → Path B.wires (slowed B x) (first B) (last B) t → ok t

-- x is a list under which no path lasts more than T
abbrev pub Within : Block → ℕ → List ℕ → Type 0
Within B T = Sizing B (λ (t : ℕ). t ≤ T)

-- x is a list within the widths, however long its paths last
abbrev pub AnyTime : Block → List ℕ → Type 0
AnyTime B = Sizing B (λ (t : ℕ). Unit {0})

-- x is one of the block's lists in time: a path "is in time if arrival plus that sum is at most the deadline"
abbrev pub InTime : Block → List ℕ → Type 0
InTime B = Sizing B (λ (t : ℕ). B.arrival + t ≤ B.deadline)

-- "Start is the longest path with no increase." (`start` of Slack computes it.)
abbrev pub IsStart : Block → ℕ → Type 0
IsStart B = Longest B.wires (drawn B) (first B) (last B)
