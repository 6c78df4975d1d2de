-- From the fault of a field, and the refusal that it is told as, to what reading it comes to: with a fault it is refused at its own offset, and without one it is what its body says, and ends within the file.
-- Assumes nothing.
use mathlib.Core.Path.{◌≡◌, refl, sym, ◌∙◌, ap}
use mathlib.Core.Bool.{true}
use mathlib.Core.List.{List}
use Prim.Native.Nat.{ℕ, zero, suc, ◌≤◌}
use lib.ListN.{length}
use denote.Ref.{Bor}
use Rattle.lists.proofs.Bool.{is_true}
use Rattle.model.specs.declared.Field.{Field}
use Rattle.model.specs.declared.Refusal.{Refusal}
use Rattle.model.specs.Field.{field_at, body_at, body_to}
use Rattle.model.specs.File.{Due, found, refused, length_fits, says, in_range, fault_of, fault, read_field}
use Rattle.model.specs.Answer.{refusal, refusal_answer}
use Rattle.model.proofs.Fields.{whole}
use Rattle.model.proofs.Fault.{faultless_from_0, read_found, read_refused}
use Rattle.std.specs.Prelude.{Result, Ok, Err}
use Rattle.std.specs.Result.{MatchResult, IsErrAnd}
use Rattle.faults.specs.declared.Fault.{Fault}
use Rattle.faults.specs.Number.{number_of, fault_number}
use Rattle.faults.proofs.Shapes.{not_0}
use Rattle.fields.specs.Behind.{offset_behind}
use Rattle.blockfile.specs.Reads.{refusing}

-- A refusal that is passed on.
pub passed_on : {A : Type 0} (r : Result A Refusal) (x : Refusal) → IsErrAnd r (λ (y : Refusal). y ≡ x) → r ≡ Err x
passed_on (Ok a) x e = absurd e
passed_on (Err y) x e = ap Err e

-- A fault that is told as the refusal of the field at o ..
abbrev Told : Result (Unit {0}) Fault → ℕ → Result (Unit {0}) Refusal → Type 0
Told r o m = MatchResult r (λ u. m ≡ Ok u) (λ (e : Fault). IsErrAnd m (λ (x : Refusal). refusal_answer x ≡ refusal (number_of e) o))

told_as : (P : Fault → Refusal → Type 0) (r : Result (Unit {0}) Fault) (o : ℕ) (m : Result (Unit {0}) Refusal) → MatchResult r (λ u. m ≡ Ok u) (λ (e : Fault). IsErrAnd m (P e)) → ((e : Fault) (x : Refusal) → P e x → refusal_answer x ≡ refusal (number_of e) o) → Told r o m
told_as P (Ok u) o m c f = c
told_as P (Err e) o (Ok u) c f = absurd c
told_as P (Err e) o (Err x) c f = f e x c

-- .. is there where there is a refusal, which has its number, ..
pub record RefusedBy (r : Result (Unit {0}) Fault) (o : ℕ) (x : Refusal) : Type 0 where
  pub is_fault : fault_number r ≡ 0 → ⊥
  pub told : refusal_answer x ≡ refusal (fault_number r) o

refused_by : (r : Result (Unit {0}) Fault) (o : ℕ) (m : Result (Unit {0}) Refusal) (x : Refusal) → m ≡ Err x → Told r o m → RefusedBy r o x
refused_by (Ok u) o m x e t =
    let f : m ≡ Ok u = t in
    absurd (cc)
refused_by (Err f) o (Ok u) x e t = absurd t
refused_by (Err f) o (Err y) x e t =
    let w : y ≡ x = cc in
    record { is_fault = not_0 f; told = ap refusal_answer (sym w) ∙ t }

pub told_refused : {P : Fault → Refusal → Type 0} (r : Result (Unit {0}) Fault) (o : ℕ) {m : Result (Unit {0}) Refusal} (x : Refusal) → MatchResult r (λ u. m ≡ Ok u) (λ (e : Fault). IsErrAnd m (P e)) → ((e : Fault) (y : Refusal) → P e y → refusal_answer y ≡ refusal (number_of e) o) → m ≡ Err x → RefusedBy r o x
told_refused {P} r o {m} x c f e = refused_by r o m x e (told_as P r o m c f)

-- .. and is not where there is none.
pub told_nothing : (P : Fault → Refusal → Type 0) (r : Result (Unit {0}) Fault) (m : Result (Unit {0}) Refusal) (u : Unit {0}) → MatchResult r (λ v. m ≡ Ok v) (λ (e : Fault). IsErrAnd m (P e)) → m ≡ Ok u → fault_number r ≡ 0
told_nothing P (Ok v) m u c e = refl
told_nothing P (Err f) (Ok v) u c e = absurd c
told_nothing P (Err f) (Err x) u c e = cc

-- n is the fault of the field at o, where k is due; b is its body
pub record Judged (k : Due) (s : List ℕ) (o n : ℕ) (b : List ℕ) : Type 0 where
  pub fault_is : n ≡ fault k s o
  pub body_is : b ≡ body_at s o

-- a reader of the file at o handed out the field f and its body b ..
pub judged : (k : Due) {file file' : Bor (List ℕ)} {o o' n : ℕ} {f : Field} {b : List ℕ} → (file' ≡ file) × (o' ≡ o) → f ≡ field_at file'.now o' → b ≡ body_at file'.now o' → n ≡ fault_of k f b → Judged k file.now o n b
unfolding fault
judged k e ef eb en = record { fault_is = en ∙ rw (ef, eb, e.0, e.1); body_is = eb ∙ rw (e.0, e.1) }

-- .. and went on behind it
pub behind_at : {file file' : Bor (List ℕ)} {o o' q : ℕ} → (file' ≡ file) × (o' ≡ o) → q ≡ offset_behind file'.now o' → q ≡ offset_behind file.now o
behind_at e eq = eq ∙ rw (e.0, e.1)

module _ {k : Due} {s : List ℕ} {o n : ℕ} {b : List ℕ} (j : Judged k s o n b) where
  -- a field with a fault is refused
  pub judged_refused : (x : Refusal) → (n ≡ 0 → ⊥) → refusal_answer x ≡ refusal n o → refusing x ≡ read_field k s o
  judged_refused x z e = rw e (by_number n z (sym j.fault_is))
    where
      by_number : (m : ℕ) → (m ≡ 0 → ⊥) → fault k s o ≡ m → refused m o ≡ read_field k s o
      by_number zero z f = absurd (z refl)
      by_number (suc m) z f = sym (read_refused k s o f)

  module _ (z : n ≡ 0) where
    faultless : fault k s o ≡ 0
    faultless = sym j.fault_is ∙ z

    -- a field without a fault ends within the file ..
    judged_end : offset_behind s o ≡ body_to s o
    judged_end = rw (whole s o (faultless_from_0 k s o faultless).inside)

    pub judged_inside : offset_behind s o ≤ length s
    judged_inside = rw judged_end (faultless_from_0 k s o faultless).inside

    -- .. has one of its lengths ..
    pub judged_fits : length_fits k (length b) ≡ true
    judged_fits = rw j.body_is (is_true (length_fits k (length (body_at s o))) (faultless_from_0 k s o faultless).length_due)

    -- .. and is what its body says
    pub judged_found : read_field k s o ≡ found (says k b) (offset_behind s o)
    judged_found = read_found k s o faultless ∙ rw (judged_end, j.body_is)

    -- .. has its numbers in range ..
    pub judged_ranges : in_range k (says k b) ≡ true
    judged_ranges = rw j.body_is (is_true (in_range k (says k (body_at s o))) (faultless_from_0 k s o faultless).ranges)
