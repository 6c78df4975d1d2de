-- A file has one printout at most; so the call that prints has one answer, and leaves one thing in the lent slice.
-- The idea: the best increases have one outcome, and a file holds one block.
-- Assumes nothing.
use mathlib.Core.Path.{◌≡◌, sym, ◌∙◌, ap}
use mathlib.Core.Logic.{⊎_elim}
use mathlib.Core.List.{List}
use Prim.Native.Nat.{ℕ, ◌≤◌, ◌<◌}
use native.Mathlib.Omega.{arith}
use lib.ListN.{length, get_or}
use Rattle.lists.specs.Over.{over}
use Rattle.lists.proofs.Compare.{le_or_lt}
use Rattle.model.specs.Limits.{max_gates}
use Rattle.model.specs.Block.{Block}
use Rattle.model.specs.File.{Reading, found}
use Rattle.model.specs.InTime.{no_increase}
use Rattle.model.specs.Answer.{Outcome}
use Rattle.model.specs.Printout.{Printout, refused, printed}
use Rattle.model.proofs.Answer.{answers_best_unique}
use Rattle.blocktext.specs.Shown.{printout_room}
use Rattle.printing.specs.PrintoutIn.{Printed, PrintoutIn}

-- how many values an outcome's answer has: a refusal one, the best increases two
abbrev values_count : Outcome (List ℕ) → ℕ
values_count o = length o.answer.values

same_block : {r : Reading Block} {B C : Block} {o p : ℕ} → r ≡ found B o → r ≡ found C p → B ≡ C
same_block e q = cc

pub printout_unique : {file s t : List ℕ} → Printout file s → Printout file t → s ≡ t
printout_unique {file} (refused k p x a e) (refused l q y b f) =
    let same = answers_best_unique file (no_increase max_gates) _ _ a b in
    let number = ap (λ (o : Outcome (List ℕ)). o.answer.number) same in
    let place = ap (λ (o : Outcome (List ℕ)). get_or o.answer.values 0 0) same in
    cc
printout_unique {file} (refused k p x a e) (printed C y w b f) =
    let n = ap values_count (answers_best_unique file (no_increase max_gates) _ _ a b) in
    absurd (omega (arith, n))
printout_unique {file} (printed B x v a e) (refused l q y b f) =
    let n = ap values_count (answers_best_unique file (no_increase max_gates) _ _ a b) in
    absurd (omega (arith, n))
printout_unique {file} (printed B x v a e) (printed C y w b f) =
    let block = same_block v.reads w.reads in
    let list = ap (λ (o : Outcome (List ℕ)). o.memory) (answers_best_unique file (no_increase max_gates) _ _ a b) in
    cc

printed_unique : {file old new also : List ℕ} {r s : ℕ} → Printed file old new r → Printed file old also s → (r ≡ s) × (new ≡ also)
printed_unique {old = old} a b =
    let same = printout_unique a.is_printout b.is_printout in
    (a.length_is ∙ ap length same ∙ sym b.length_is, a.stands ∙ ap (λ (t : List ℕ). over t old) same ∙ sym b.stands)

-- the answer and every byte afterwards are settled
pub outcome_unique : {file old new also : List ℕ} {r s : ℕ} → PrintoutIn file old new r → PrintoutIn file old also s → (r ≡ s) × (new ≡ also)
outcome_unique {old = old} a b =
    ⊎_elim (λ (h : printout_room ≤ length old). printed_unique (a.room h) (b.room h))
    (λ (h : length old < printout_room). ((a.no_room h).0 ∙ sym (b.no_room h).0, (a.no_room h).1 ∙ sym (b.no_room h).1))
    (le_or_lt printout_room (length old))
