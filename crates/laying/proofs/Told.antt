-- Refusals as the numbers that the calls hand back to C: its number and place say a refusal, whatever the values beside them (`refusal_told`), so that what a table allows of the refusal it allows of these numbers (`judged_told`); values of 0 are left unsaid (`unsaid_zeros`), so that an answer is told in one way (`told_unique`).
-- The idea: the number of a refusal is not 0 (`refusal_not_zero`).
-- Assumes nothing.
use mathlib.Core.Path.{◌≡◌, refl, sym, ◌∙◌, ap, subst}
use mathlib.Core.Logic.{◌≢◌}
use mathlib.Core.List.{List}
use Prim.Native.Nat.{ℕ, zero, suc}
use native.Mathlib.Omega.{arith}
use lib.ListN.{length, get_or, replicate}
use lib.Seq.{ext_get_or}
use Rattle.model.specs.declared.Refusal.{Refusal}
use Rattle.model.specs.Block.{Block}
use Rattle.model.specs.Answer.{Answer, refusal_answer, Outcome, Judged}
use Rattle.model.specs.Layout.{told, UnsaidZero}
use Rattle.loading.specs.Loads.{number_of, place_of}
use Rattle.loading.proofs.Refused.{refusal_numbered}
use Rattle.laying.specs.declared.answer.LayoutAnswer.{LayoutAnswer}
use Rattle.laying.specs.Answered.{refused_as}

pub refusal_not_zero : (x : Refusal) → number_of x ≢ 0
refusal_not_zero x none =
    let (k, p, e) = refusal_numbered x in
    let numbered = ap (λ (a : Answer). a.number) e in
    omega arith

refusal_told : (x : Refusal) (values : List ℕ) → told (number_of x) (place_of x) values ≡ refusal_answer x
refusal_told x values =
    let (k, p, e) = refusal_numbered x in
    subst (λ (a : Answer). told a.number (get_or a.values 0 0) values ≡ a) (sym e) refl

pub judged_told : {S : Type 0} {file : List ℕ} {lent after : S} {further : Block → Outcome S → Type 0} (x : Refusal) (r : LayoutAnswer) (values : List ℕ)
    → r ≡ refused_as (number_of x) (place_of x)
    → Judged file lent further (record { answer = refusal_answer x; memory = after })
    → Judged file lent further (record { answer = told r.number r.place values; memory = after })
judged_told x r values e h = rw (e, refusal_told x values) h

get_or_zeros : (n i : ℕ) → ◌≡◌ {A = ℕ} (get_or (replicate n 0) i 0) 0
get_or_zeros zero i = refl
get_or_zeros (suc n) zero = refl
get_or_zeros (suc n) (suc i) = get_or_zeros n i

pub unsaid_zeros : (x : Refusal) (n : ℕ) → UnsaidZero (number_of x) (place_of x) (replicate n 0)
unsaid_zeros x n =
    let (k, p, e) = refusal_numbered x in
    subst (λ (a : Answer). UnsaidZero a.number (get_or a.values 0 0) (replicate n 0)) (sym e) (get_or_zeros n)

-- Two answers that are equal are told in the same numbers, as many values each: what is unsaid is 0.
pub told_unique : (k l p q : ℕ) (vs ws : List ℕ) → length vs ≡ length ws
    → told k p vs ≡ told l q ws
    → UnsaidZero k p vs
    → UnsaidZero l q ws
    → (k ≡ l) × (p ≡ q) × (vs ≡ ws)
told_unique zero zero p q vs ws long e a b = (refl, a ∙ sym b, ap (λ (x : Answer). x.values) e)
told_unique zero (suc l) p q vs ws long e a b = let z = ap (λ (x : Answer). x.number) e in absurd (omega arith)
told_unique (suc k) zero p q vs ws long e a b = let z = ap (λ (x : Answer). x.number) e in absurd (omega arith)
told_unique (suc k) (suc l) p q vs ws long e a b =
    (ap (λ (x : Answer). x.number) e, ap (λ (x : Answer). get_or x.values 0 0) e, ext_get_or 0 vs ws long (λ i l. a i ∙ sym (b i)))
