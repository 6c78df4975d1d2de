-- What the lent arrays hold, and what a store leaves as it was.
use Rattle.std.specs.Prelude.{◌≡◌, List, ℕ, ◌*◌, ◌<◌, ◌≤◌, length, get_or, drop}
use Rattle.lists.specs.Over.{build}
use Rattle.model.specs.Limits.{max_gates, max_steps, max_wires}
use Rattle.model.specs.Block.{Gate, Wire}
use Rattle.model.specs.Field.{number}
use Rattle.model.specs.File.{steps_in}
use Rattle.model.specs.Arrays.{step_at, gate_at, gates_in, wire_at, wires_in}

-- The arrays of the gates.
pub record GateArrays : Type 0 where
  pub delays : List ℕ
  pub activities : List ℕ
  pub counts : List ℕ
  pub step_widths : List ℕ
  pub drops : List ℕ

abbrev pub gate_arrays : List ℕ → List ℕ → List ℕ → List ℕ → List ℕ → GateArrays
gate_arrays delays activities counts step_widths drops =
    record { delays = delays; activities = activities; counts = counts; step_widths = step_widths; drops = drops }

-- gate g, and the first n gates
abbrev pub gate_held : GateArrays → ℕ → Gate
gate_held A = gate_at A.delays A.activities A.counts A.step_widths A.drops

abbrev pub gates_held : GateArrays → ℕ → List Gate
gates_held A n = gates_in n A.delays A.activities A.counts A.step_widths A.drops

-- there is room for every gate that a file may have
pub record GateRoom (A : GateArrays) : Type 0 where
  pub delays : max_gates ≤ length A.delays
  pub activities : max_gates ≤ length A.activities
  pub counts : max_gates ≤ length A.counts
  pub step_widths : max_gates * max_steps ≤ length A.step_widths
  pub drops : max_gates * max_steps ≤ length A.drops

-- The arrays of the wires.
pub record WireArrays : Type 0 where
  pub sources : List ℕ
  pub targets : List ℕ
  pub delays : List ℕ

abbrev pub wire_arrays : List ℕ → List ℕ → List ℕ → WireArrays
wire_arrays sources targets delays = record { sources = sources; targets = targets; delays = delays }

-- wire i, and the first m wires
abbrev pub wire_held : WireArrays → ℕ → Wire
wire_held A = wire_at A.sources A.targets A.delays

abbrev pub wires_held : WireArrays → ℕ → List Wire
wires_held A m = wires_in m A.sources A.targets A.delays

pub record WireRoom (A : WireArrays) : Type 0 where
  pub sources : max_wires ≤ length A.sources
  pub targets : max_wires ≤ length A.targets
  pub delays : max_wires ≤ length A.delays

-- the elements below n are as they were
abbrev pub Kept : ℕ → List ℕ → List ℕ → Type 0
Kept n old new = (i : ℕ) → i < n → get_or new i 0 ≡ get_or old i 0

-- the gates below g are as they were
pub record GatesKept (g : ℕ) (old new : GateArrays) : Type 0 where
  pub delays : Kept g old.delays new.delays
  pub activities : Kept g old.activities new.activities
  pub counts : Kept g old.counts new.counts
  pub step_widths : Kept (g * max_steps) old.step_widths new.step_widths
  pub drops : Kept (g * max_steps) old.drops new.drops

-- the wires below i are as they were
pub record WiresKept (i : ℕ) (old new : WireArrays) : Type 0 where
  pub sources : Kept i old.sources new.sources
  pub targets : Kept i old.targets new.targets
  pub delays : Kept i old.delays new.delays

-- The steps are stored as those of gate g, `count` of them, and those of the gates below are as they were. What stands above them is free.
pub record StepsStored (steps : List ℕ) (g count : ℕ) (old_widths old_drops new_widths new_drops : List ℕ) : Type 0 where
  pub most : count ≤ max_steps
  pub stored : build count (step_at new_widths new_drops g) ≡ steps_in steps
  pub widths_kept : Kept (g * max_steps) old_widths new_widths
  pub drops_kept : Kept (g * max_steps) old_drops new_drops

-- The body is stored as gate g with its net's activity, and the gates below are as they were. What stands above gate g is free.
pub record GateStored (body : List ℕ) (activity g : ℕ) (old new : GateArrays) : Type 0 where
  pub stored : gate_held new g ≡ record { delay = number body 0; activity = activity; steps = steps_in (drop 4 body) }
  pub kept : GatesKept g old new
