-- The two outcomes of the call that prints: nothing in a slice without room, the printout in one with room; and in both the answer lies within the slice.
-- Assumes nothing.
use mathlib.Core.Path.{refl}
use mathlib.Core.Logic.{⊎_elim}
use mathlib.Core.List.{List}
use Prim.Native.Nat.{ℕ, ◌≤◌, ◌<◌}
use native.Mathlib.Omega.{arith}
use lib.ListN.{length}
use Rattle.lists.proofs.Compare.{le_or_lt}
use Rattle.blocktext.specs.Shown.{printout_room}
use Rattle.printing.specs.PrintoutIn.{Printed, PrintoutIn}

pub nothing_in : {file old : List ℕ} → length old < printout_room → PrintoutIn file old old 0
nothing_in short = record { no_room = λ s. (refl, refl); room = λ l. absurd (omega arith) }

pub printed_in : {file old new : List ℕ} {r : ℕ} → printout_room ≤ length old → Printed file old new r → PrintoutIn file old new r
printed_in long p = record { no_room = λ s. absurd (omega arith); room = λ l. p }

pub answer_within : {file old new : List ℕ} {r : ℕ} → PrintoutIn file old new r → r ≤ length old
answer_within {old = old} p =
    ⊎_elim (λ (l : printout_room ≤ length old). omega (arith, (p.room l).length_is, (p.room l).fits))
    (λ (s : length old < printout_room). omega (arith, (p.no_room s).0))
    (le_or_lt printout_room (length old))
