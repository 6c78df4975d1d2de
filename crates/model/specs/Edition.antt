-- What differs by edition of the block file (document 02, K2 and K3). It stands here and nowhere else: the other definitions only hand the edition on.
use Rattle.std.specs.Prelude.{List, [], Bool, cond, ◌||◌, ℕ, leb, eqb}
use Rattle.model.specs.Limits.{max_probability, max_activity}
use Rattle.model.specs.Activity.{activity}
use Rattle.model.specs.Block.{Wire}
use Rattle.model.specs.Field.{number, two_bytes}

-- WIRES. "Edition 2 of the block file gives each wire a third number, its delay, two bytes"; "edition 1 wires have delay 0" (K2).
abbrev pub has_wire_delays : ℕ → Bool
has_wire_delays edition = leb 2 edition

-- bytes of a wire's body: its two gates and, where it has one, its delay
abbrev pub wire_bytes : ℕ → ℕ
wire_bytes edition = cond (has_wire_delays edition) 4 2

-- the delay of a wire by its body
abbrev pub delay_in : ℕ → List ℕ → ℕ
delay_in edition b = cond (has_wire_delays edition) (number b 2) 0

-- the bytes that a wire's delay takes in its body
abbrev pub delay_bytes : ℕ → ℕ → List ℕ
delay_bytes edition d = cond (has_wire_delays edition) (two_bytes d) []

-- a file of the edition can give the wire its delay
abbrev pub delay_fits : ℕ → Wire → Bool
delay_fits edition w = has_wire_delays edition || eqb w.delay 0

-- SWITCHING. The file gives the input and each gate's output a number for its switching. Up to edition 2 it is the probability p of a 1, in 256ths; "edition 3 is edition 2 with every p replaced by a measured activity: transitions in 65,536 clock cycles, 0 to 65,535" (K3).
abbrev pub has_activities : ℕ → Bool
has_activities edition = leb 3 edition

-- the greatest number for a net's switching
abbrev pub max_switching : ℕ → ℕ
max_switching edition = cond (has_activities edition) max_activity max_probability

-- the activity of a net by that number: "the unit is the table's", so that a measured activity stands for itself; "editions 1 and 2 keep the formula"
abbrev pub activity_of : ℕ → ℕ → ℕ
activity_of edition switching = cond (has_activities edition) switching (activity switching)
