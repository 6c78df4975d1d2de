-- None is found at the end of the chain of the slots that leave a gate.
-- Assumes nothing.
use Rattle.std.specs.Prelude.{None}
use mathlib.Core.List.{List}
use Prim.Native.Nat.{ℕ, ◌≤◌}
use Rattle.ordering.proofs.Walking.{Walking, walking_ends}
use Rattle.slots.specs.Sought.{Found, Leads}

pub none_found : {lives froms tos : List ℕ} {k a b next : ℕ} → Walking froms k a (Leads lives froms tos a b) next → next ≤ 0 → Found (Leads lives froms tos a b) k None
none_found w l q h ld = walking_ends w l q h ld.from ld
