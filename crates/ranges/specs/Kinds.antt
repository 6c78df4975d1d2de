-- What the code's `Due` stands for, and a step by its index.
use Rattle.std.specs.Prelude.{List, [], ℕ, ◌+◌, ◌*◌}
use Rattle.model.specs.Block.{Step}
use Rattle.model.specs.Field.{number}
use Rattle.model.specs.File as File
use Rattle.ranges.specs.declared.limits.Due.{Due}
use Rattle.ranges.specs.declared.limits.Due.TheVariants.{Block, Gate, Wire}

-- The due field as the definitions have it. Tag and length of a wire do not depend on the gate count and the wires before.
abbrev pub kind : Due → File.Due
kind Block = File.block
kind (Gate edition) = File.gate edition
kind (Wire edition) = File.wire edition 0 []

-- step j of the steps written from the front of b on
abbrev pub step_of : List ℕ → ℕ → Step
step_of b j = record { width = number b (4 * j); drop = number b (4 * j + 2) }
