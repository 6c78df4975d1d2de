-- The numbers of the faults, as the definitions of the block file have them.
use Rattle.std.specs.Prelude.{ℕ, Result, Ok, Err}
use Rattle.faults.specs.declared.Fault.{Fault}
use Rattle.faults.specs.declared.Fault.TheVariants.{Short, Tag, Length, Range, Drops, Wire}

-- the refusal's number
abbrev pub number_of : Fault → ℕ
number_of Short = 1
number_of Tag = 2
number_of Length = 3
number_of Range = 4
number_of Drops = 5
number_of Wire = 6

-- the refusal's number, 0 if there is no fault
abbrev pub fault_number : Result (Unit {0}) Fault → ℕ
fault_number (Ok x) = 0
fault_number (Err fault) = number_of fault
