-- A block as the code holds it: numbers in arrays, gate g at place g, wire i at place i, and step j of gate g at place g × 8 + j.
-- The calls' promises do not speak of arrays; the functions between them do.
use Rattle.std.specs.Prelude.{List, ℕ, ◌+◌, ◌*◌, get_or}
use Rattle.lists.specs.Over.{build}
use Rattle.model.specs.Limits.{max_steps}
use Rattle.model.specs.Block.{Step, Gate, Wire}

-- the place of step j of gate g
abbrev pub step_place : ℕ → ℕ → ℕ
step_place g j = g * max_steps + j

-- wire i
abbrev pub wire_at : List ℕ → List ℕ → List ℕ → ℕ → Wire
wire_at sources targets delays i = record { source = get_or sources i 0; target = get_or targets i 0; delay = get_or delays i 0 }

-- the first m wires
abbrev pub wires_in : ℕ → List ℕ → List ℕ → List ℕ → List Wire
wires_in m sources targets delays = build m (wire_at sources targets delays)

-- step j of gate g
abbrev pub step_at : List ℕ → List ℕ → ℕ → ℕ → Step
step_at step_widths drops g j = record { width = get_or step_widths (step_place g j) 0; drop = get_or drops (step_place g j) 0 }

-- gate g, which has as many steps as `counts` says
abbrev pub gate_at : List ℕ → List ℕ → List ℕ → List ℕ → List ℕ → ℕ → Gate
gate_at delays activities counts step_widths drops g =
    record {
      delay = get_or delays g 0;
      activity = get_or activities g 0;
      steps = build (get_or counts g 0) (step_at step_widths drops g);
    }

-- the first n gates
abbrev pub gates_in : ℕ → List ℕ → List ℕ → List ℕ → List ℕ → List ℕ → List Gate
gates_in n delays activities counts step_widths drops = build n (gate_at delays activities counts step_widths drops)
