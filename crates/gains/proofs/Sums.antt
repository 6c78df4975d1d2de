-- Sums: of equal terms, of bounded terms, of two stretches, and a sum over a built list as a sum over its places.
-- Assumes nothing.
use mathlib.Core.Path.{◌≡◌, refl, sym}
use mathlib.Core.List.{List, [], ◌∷◌, ◌++◌}
use Prim.Native.Nat.{ℕ, zero, suc, ◌+◌, ◌*◌, ◌<◌, ◌≤◌}
use native.Mathlib.Numerals.{add-one}
use native.Mathlib.Nat.{zero-mul, suc-mul, zero-add, add-zero, add-suc, add_assoc}
use native.Mathlib.Omega.{arith}
use Rattle.lists.specs.Sum.{sum, total}
use Rattle.lists.specs.Over.{build}

pub sum_more : (n : ℕ) (f : ℕ → ℕ) → sum (n + 1) f ≡ sum n f + f n
unfolding sum
sum_more n f = rw (add-one n)

pub sum_constant : (n : ℕ) (f : ℕ → ℕ) (v : ℕ) → ((i : ℕ) → i < n → f i ≡ v) → sum n f ≡ n * v
unfolding sum
sum_constant zero f v e = sym (zero-mul v)
sum_constant (suc n) f v e = rw (sum_constant n f v (λ (i : ℕ) (h : i < n). e i (omega arith)), e n (omega arith), suc-mul)

pub sum_bounded : (n : ℕ) (f : ℕ → ℕ) (v : ℕ) → ((i : ℕ) → i < n → f i ≤ v) → sum n f ≤ n * v
unfolding sum
sum_bounded zero f v h = omega (arith, zero-mul v)
sum_bounded (suc n) f v h = omega (arith, sum_bounded n f v (λ (i : ℕ) (l : i < n). h i (omega arith)), h n (omega arith), suc-mul n v)

pub sum_stretches : (a b : ℕ) (f : ℕ → ℕ) → sum (a + b) f ≡ sum a f + sum b (λ (i : ℕ). f (a + i))
unfolding sum
sum_stretches a zero f = rw (add-zero a, add-zero (sum a f))
sum_stretches a (suc b) f = rw (add-suc, sum_stretches a b f, add_assoc)

total_append : {A : Type 0} (f : A → ℕ) (xs ys : List A) → total f (xs ++ ys) ≡ total f xs + total f ys
unfolding total
total_append f [] ys = sym (zero-add (total f ys))
total_append f (x ∷ xs) ys = omega (arith, total_append f xs ys)

pub total_build : {A : Type 0} (f : A → ℕ) (n : ℕ) (h : ℕ → A) → total f (build n h) ≡ sum n (λ (i : ℕ). f (h i))
unfolding sum total build
total_build f zero h = refl
total_build f (suc n) h = omega (arith, total_append f (build n h) (h n ∷ []), total_build f n h)
