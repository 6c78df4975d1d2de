-- The steps of a gate's body: the steps of 4k bytes are those at 0 to k − 1, and those of the k arrays of four bytes.
-- Assumes nothing.
use mathlib.Core.Path.{◌≡◌, refl, sym, ◌∙◌, ap}
use mathlib.Core.Bool.{Bool, true, false, ◌&&◌}
use mathlib.Core.List.{List, [], ◌∷◌, map}
use Prim.Native.Nat.{ℕ, zero, suc, ◌*◌, ◌-◌, ◌/◌, ◌%◌, ◌<◌, ◌≤◌}
use native.Mathlib.Numerals.{add-one}
use native.Mathlib.Omega.{arith}
use borrow.Author.Tests.{ltb-true, ltb-false}
use lib.Dec.{ltb}
use lib.ListN.{length, get_or, take, drop, length-drop}
use Rattle.std.proofs.Math.ListN.{get_or-map}
use Rattle.std.specs.Simd.{first_chunks}
use Rattle.std.specs.List.{list_all, IsAllAdjacentAnswer}
use lib.Seq.{take_all}
use Rattle.lists.specs.Over.{build}
use Rattle.lists.proofs.Over.{get_or_build}
use Rattle.model.specs.File.{steps_in, every, step_in_range, falls}
use Rattle.model.specs.Block.{Step}
use Rattle.model.proofs.Every.{every_map}
use Rattle.model.proofs.Steps.{steps_by_index, falls_passes, falls_fails}
use Rattle.ranges.specs.Kinds.{step_of}

module _ (b : List ℕ) (e : length b % 4 ≡ 0) where
  pub by_index : steps_in b ≡ build (length b / 4) (step_of b)
  by_index = steps_by_index b (length b / 4) (omega arith)

  pub drops_pass : ((i : ℕ) → suc i < length b / 4 → (step_of b (suc i)).drop < (step_of b i).drop) → falls (steps_in b) ≡ true
  drops_pass p = rw by_index (falls_passes (length b / 4) (step_of b) p)

  pub drops_fail : (i : ℕ) → suc i < length b / 4 → (step_of b i).drop ≤ (step_of b (suc i)).drop → falls (steps_in b) ≡ false
  drops_fail i h p = rw by_index (falls_fails (length b / 4) (step_of b) i h p)

-- THE STEPS AS ARRAYS of four bytes, as the code takes them.
abbrev pub step_in : List ℕ → Step
step_in four = step_of four 0

steps_mapped : (k : ℕ) (b : List ℕ) → length b ≡ 4 * k → steps_in b ≡ map step_in (first_chunks 4 k b)
unfolding steps_in
steps_mapped zero [] e = refl
steps_mapped (suc k) [] e = absurd (omega arith)
steps_mapped k (a ∷ []) e = absurd (omega arith)
steps_mapped k (a ∷ b ∷ []) e = absurd (omega arith)
steps_mapped k (a ∷ b ∷ c ∷ []) e = absurd (omega arith)
steps_mapped zero (a ∷ b ∷ c ∷ d ∷ rest) e = absurd (omega arith)
steps_mapped (suc k) (a ∷ b ∷ c ∷ d ∷ rest) e = ap (◌∷◌ (step_of (a ∷ b ∷ c ∷ d ∷ []) 0)) (steps_mapped k rest (omega arith))

every_listed : {A : Type 0} (test : A → Bool) (xs : List A) → every test xs ≡ list_all test xs
unfolding every
every_listed test [] = refl
every_listed test (x ∷ xs) = ap (◌&&◌ (test x)) (every_listed test xs)

-- what `is_sorted_by` answers of the drops
abbrev pub DropsAnswer : List (List ℕ) → Bool → Type 0
DropsAnswer fours r = IsAllAdjacentAnswer (λ (x y : List ℕ) (t : Bool). t ≡ ltb (step_in y).drop (step_in x).drop) fours r

module _ (b : List ℕ) (e : length b % 4 ≡ 0) where
  pub steps_as_arrays : steps_in b ≡ map step_in (first_chunks 4 (length b / 4) b)
  steps_as_arrays = steps_mapped (length b / 4) b (omega arith)

  pub ranges_as_arrays : list_all (λ (four : List ℕ). step_in_range (step_in four)) (first_chunks 4 (length b / 4) b) ≡ every step_in_range (steps_in b)
  ranges_as_arrays =
      rw steps_as_arrays (sym (every_map step_in_range step_in (first_chunks 4 (length b / 4) b) ∙ every_listed (λ (four : List ℕ). step_in_range (step_in four)) (first_chunks 4 (length b / 4) b)))

  pub array_at : (i : ℕ) (d : List ℕ) → i < length b / 4 → step_in (get_or (first_chunks 4 (length b / 4) b) i d) ≡ step_of b i
  array_at i d h =
      sym (get_or-map step_in (first_chunks 4 (length b / 4) b) i d)
      ∙ ap (λ (ss : List Step). get_or ss i (step_in d)) (sym steps_as_arrays ∙ by_index b e)
      ∙ get_or_build (length b / 4) (step_of b) i (step_in d) h

  drop_at : (i : ℕ) → i < length b / 4 → (step_in (get_or (first_chunks 4 (length b / 4) b) i [])).drop ≡ (step_of b i).drop
  drop_at i h = ap (λ (s : Step). s.drop) (array_at i [] h)

  pub drops_as_arrays : (r : Bool) → length (first_chunks 4 (length b / 4) b) ≡ length b / 4 → DropsAnswer (first_chunks 4 (length b / 4) b) r → r ≡ falls (steps_in b)
  drops_as_arrays true l a =
      sym (drops_pass b e
      (λ (i : ℕ) (h : suc i < length b / 4).
      let k : i < length b / 4 = omega arith in
      rw (← drop_at i k, ← drop_at (suc i) h) (ltb-true _ _ (sym (rw (add-one i) at (a i [] (omega arith)))))))
  drops_as_arrays false l a =
      let h : suc a.0 < length b / 4 = omega arith in
      let k : a.0 < length b / 4 = omega arith in
      sym (drops_fail b e a.0 h (rw (← drop_at a.0 k, ← drop_at (suc a.0) h) (ltb-false _ _ (sym (rw (add-one a.0) at (a.2 []))))))

-- the bytes of the steps, as a part of the body
pub steps_part : (b : List ℕ) → take (length b - 4) (drop 4 b) ≡ drop 4 b
steps_part b = take_all (length b - 4) (drop 4 b) (omega (arith, length-drop 4 b))
