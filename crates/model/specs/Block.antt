-- A block: gates, wires, arrival and deadline, with the activity of each net (document 01, "The block file" and "Gains, paths, building up").
-- Everything but the block file's own definitions (Edition, Netlist, File) speaks of blocks alone: no limit, no byte and no probability appears in it.
use mathlib.Core.List.{List, [], Memᴰ}
use Rattle.std.specs.Prelude.{ℕ, ◌-◌, length, get_or}
use Rattle.lists.specs.Sum.{total}

-- A step of a gate: `width` ticks, each of which lowers the capacitance by `drop`.
pub record Step : Type 0 where
  pub width : ℕ
  pub drop : ℕ

-- A gate: its drawn delay, the activity of its output net, and its steps.
pub record Gate : Type 0 where
  pub delay : ℕ
  pub activity : ℕ
  pub steps : List Step

-- A wire leads from one gate to another and takes `delay` ticks, 0 in edition 1.
pub record Wire : Type 0 where
  pub source : ℕ
  pub target : ℕ
  pub delay : ℕ

-- A block. Gates are numbered from 0 in the list's order; `activity` is that of the input net.
pub record Block : Type 0 where
  pub arrival : ℕ
  pub deadline : ℕ
  pub activity : ℕ
  pub gates : List Gate
  pub wires : List Wire

-- the same block with another arrival and another deadline
abbrev pub redated : ℕ → ℕ → Block → Block
redated arrival deadline B =
    record { arrival = arrival; deadline = deadline; activity = B.activity; gates = B.gates; wires = B.wires }

-- A gate that no number names: it takes no time and has no step.
abbrev pub no_gate : Gate
no_gate = record { delay = 0; activity = 0; steps = [] }

abbrev pub gate_count : Block → ℕ
gate_count B = length B.gates

-- the gate of number g
abbrev pub gate : Block → ℕ → Gate
gate B g = get_or B.gates g no_gate

-- the gate at which every path begins
abbrev pub first : Block → ℕ
first B = 0

-- the gate at which every path ends
abbrev pub last : Block → ℕ
last B = gate_count B - 1

-- "the sum of the widths" of a gate: how far it can be slowed
abbrev pub widths : List Step → ℕ
widths = total (λ (s : Step). s.width)

-- a wire from a to b that takes w ticks stands in the list
abbrev pub Stands : List Wire → ℕ → ℕ → ℕ → Type 0
Stands ws a b w = Memᴰ (record { source = a; target = b; delay = w }) ws

-- a wire from a to b stands in the list
abbrev pub Joined : List Wire → ℕ → ℕ → Type 0
Joined ws a b = (w : ℕ) × Stands ws a b w
