-- Every number that a call for C hands back is settled by the file, the lent memory and, of the fewest ticks, the wanted saving: of two answers that both meet the call's promise all numbers are equal, and so is the memory afterwards. For each of the five calls, over what its promise says: a table of model (`Answers..`) of the numbers told (`told`, `layout_answer`), and what is 0 in them (`UnsaidZero`, `NoSavingRefused`).
-- The idea: the table allows one outcome (`answers_.._unique` of model), and an answer is told in one way, since what it leaves unsaid is 0.
-- Assumes nothing.
use mathlib.Core.Path.{◌≡◌, refl, sym, ◌∙◌, ap}
use mathlib.Core.List.{List, [], ◌∷◌}
use Prim.Native.Nat.{ℕ, zero, suc}
use native.Mathlib.Omega.{arith}
use lib.IntN.{ℤ}
use lib.ListN.{get_or}
use Rattle.model.specs.Answer.{Answer, Outcome, Slices, AnswersSlacks, AnswersCurve, AnswersJudge, AnswersTicks}
use Rattle.model.specs.Layout.{told, UnsaidZero, layout_answer, NoSavingRefused, AnswersLayout}
use Rattle.model.proofs.Answer.{Unique, answers_slacks_unique, answers_curve_unique, answers_judge_unique, answers_ticks_unique, answers_layout_unique}
use Rattle.laying.proofs.Told.{told_unique}

-- an answer and the memory afterwards, of a table that allows one outcome
one_outcome : {S : Type 0} {allowed : Outcome S → Type 0} {a b : Answer} {m n : S} → Unique allowed
    → allowed (record { answer = a; memory = m })
    → allowed (record { answer = b; memory = n })
    → (a ≡ b) × (m ≡ n)
one_outcome unique x y = let e = unique _ _ x y in (ap (λ o. o.answer) e, ap (λ o. o.memory) e)

-- Equal answers are told in the same numbers (`told_unique` of laying), also where an accepted answer has, in place of a place, how many were written: of the layout editor's call, and of the slacks.
layout_unique : (k l p q s t : ℕ) → NoSavingRefused k s → NoSavingRefused l t → layout_answer k p s ≡ layout_answer l q t → (k ≡ l) × (p ≡ q) × (s ≡ t)
layout_unique zero zero p q s t a b e = (refl, ap (λ (x : Answer). get_or x.values 1 0) e, ap (λ (x : Answer). get_or x.values 0 0) e)
layout_unique zero (suc l) p q s t a b e = let z = ap (λ (x : Answer). x.number) e in absurd (omega arith)
layout_unique (suc k) zero p q s t a b e = let z = ap (λ (x : Answer). x.number) e in absurd (omega arith)
layout_unique (suc k) (suc l) p q s t a b e =
    (ap (λ (x : Answer). x.number) e, ap (λ (x : Answer). get_or x.values 0 0) e, a (λ z. omega arith) ∙ sym (b (λ z. omega arith)))

written_unique : (k l p q : ℕ) → told k p (p ∷ []) ≡ told l q (q ∷ []) → (k ≡ l) × (p ≡ q)
written_unique zero zero p q e = (refl, ap (λ (x : Answer). get_or x.values 0 0) e)
written_unique zero (suc l) p q e = let z = ap (λ (x : Answer). x.number) e in absurd (omega arith)
written_unique (suc k) zero p q e = let z = ap (λ (x : Answer). x.number) e in absurd (omega arith)
written_unique (suc k) (suc l) p q e = (ap (λ (x : Answer). x.number) e, ap (λ (x : Answer). get_or x.values 0 0) e)

-- Of two answers the numbers are k and l, the places p and q; m and n are the memory afterwards.
module _ (file : List ℕ) (k l p q : ℕ) where
  -- the layout editor's call: number, place, saving
  pub layout_told_unique : (lent m n : List ℕ) (s t : ℕ) → NoSavingRefused k s → NoSavingRefused l t
      → AnswersLayout file lent (record { answer = layout_answer k p s; memory = m })
      → AnswersLayout file lent (record { answer = layout_answer l q t; memory = n })
      → (k ≡ l) × (p ≡ q) × (s ≡ t) × (m ≡ n)
  layout_told_unique lent m n s t a b x y =
      let (e, same) = one_outcome (answers_layout_unique file lent) x y in
      let (number, place, saving) = layout_unique k l p q s t a b e in
      (number, place, saving, same)

  -- the slacks: number and place; the saving beside them is 0
  pub slacks_told_unique : (lent m n : List ℤ)
      → AnswersSlacks file lent (record { answer = told k p (p ∷ []); memory = m })
      → AnswersSlacks file lent (record { answer = told l q (q ∷ []); memory = n })
      → (k ≡ l) × (p ≡ q) × (m ≡ n)
  slacks_told_unique lent m n x y =
      let (e, same) = one_outcome (answers_slacks_unique file lent) x y in
      let (number, place) = written_unique k l p q e in
      (number, place, same)

  -- judging: number, place, saving
  pub judge_told_unique : (lent m n : List ℕ) (s t : ℕ) → UnsaidZero k p (s ∷ []) → UnsaidZero l q (t ∷ [])
      → AnswersJudge file lent (record { answer = told k p (s ∷ []); memory = m })
      → AnswersJudge file lent (record { answer = told l q (t ∷ []); memory = n })
      → (k ≡ l) × (p ≡ q) × (s ≡ t) × (m ≡ n)
  judge_told_unique lent m n s t a b x y =
      let (e, same) = one_outcome (answers_judge_unique file lent) x y in
      let (number, place, values) = told_unique k l p q (s ∷ []) (t ∷ []) refl e a b in
      (number, place, cc, same)

  -- the curve: number, place, start, saving at start, pairs
  pub curve_told_unique : (lent m n : Slices) (s t c d i j : ℕ) → UnsaidZero k p (s ∷ c ∷ i ∷ []) → UnsaidZero l q (t ∷ d ∷ j ∷ [])
      → AnswersCurve file lent (record { answer = told k p (s ∷ c ∷ i ∷ []); memory = m })
      → AnswersCurve file lent (record { answer = told l q (t ∷ d ∷ j ∷ []); memory = n })
      → (k ≡ l) × (p ≡ q) × (s ≡ t) × (c ≡ d) × (i ≡ j) × (m ≡ n)
  curve_told_unique lent m n s t c d i j a b x y =
      let (e, same) = one_outcome (answers_curve_unique file lent) x y in
      let (number, place, values) = told_unique k l p q (s ∷ c ∷ i ∷ []) (t ∷ d ∷ j ∷ []) refl e a b in
      (number, place, cc, cc, cc, same)

  -- the fewest ticks: number, place, ticks; nothing but the file is lent
  pub ticks_told_unique : (wanted s t : ℕ) → UnsaidZero k p (s ∷ []) → UnsaidZero l q (t ∷ [])
      → AnswersTicks file wanted (record { answer = told k p (s ∷ []); memory = tt })
      → AnswersTicks file wanted (record { answer = told l q (t ∷ []); memory = tt })
      → (k ≡ l) × (p ≡ q) × (s ≡ t)
  ticks_told_unique wanted s t a b x y =
      let (e, same) = one_outcome (answers_ticks_unique file wanted) x y in
      let (number, place, values) = told_unique k l p q (s ∷ []) (t ∷ []) refl e a b in
      (number, place, cc)
