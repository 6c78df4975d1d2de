-- A list of n increases below B is a number of n digits in base B, gate g's digit at the place `rank`: of two such lists, the one with the smaller number comes first in the order of ties.
-- Assumes nothing.
use mathlib.Core.Path.{◌≡◌, refl, sym, ◌∙◌, ap}
use mathlib.Core.Logic.{◌⊎◌, inl, inr}
use mathlib.Core.List.{List, [], ◌∷◌}
use Prim.Native.Nat.{ℕ, zero, suc, ◌+◌, ◌*◌, ◌^◌, ◌≤◌, ◌<◌}
use native.Mathlib.Nat.{suc-mul, mul-one, mul_comm, mul_assoc, pow-zero, pow-succ', mul-le-mul_right, suc_inj, le_refl, eq-or-lt_of_le}
use native.Mathlib.Decide.{dec_le}
use native.Mathlib.Omega.{arith}
use lib.ListN.{length, get_or}
use Rattle.lists.specs.Sum.{sum}
use Rattle.lists.proofs.Sum.{sum_same}
use Rattle.model.specs.Ties.{Before, behind, here}
use Rattle.optimum.specs.Head.{rank}
use Rattle.optimum.proofs.Sums.{sum_front, sum_mul}

module _ (B : ℕ) where
  -- the number that the list writes
  unfoldable pub number : ℕ → List ℕ → ℕ
  number n x = sum n (λ (g : ℕ). get_or x g 0 * B ^ rank n g)

  -- n digits below B
  pub record Digits (n : ℕ) (x : List ℕ) : Type 0 where
    pub length_is : length x ≡ n
    pub below : (g : ℕ) → g < n → get_or x g 0 < B

  number_cons : (n a : ℕ) (x : List ℕ) → number (suc n) (a ∷ x) ≡ a + number n x * B
  unfolding number
  number_cons n a x =
      let first : rank (suc n) 0 ≡ 0 = omega arith in
      let digit : a * B ^ rank (suc n) 0 ≡ a = ap (λ (r : ℕ). a * B ^ r) first ∙ rw (pow-zero, mul-one) refl in
      omega (arith, sum_front n (λ (g : ℕ). get_or (a ∷ x) g 0 * B ^ rank (suc n) g), digit, others)
    where
      further : (g : ℕ) → get_or x g 0 * B ^ rank (suc n) (suc g) ≡ get_or x g 0 * B ^ rank n g * B
      further g =
          let next : rank (suc n) (suc g) ≡ suc (rank n g) = omega arith in
          ap (λ (r : ℕ). get_or x g 0 * B ^ r) next
          ∙ rw (pow-succ' B (rank n g), mul_comm B (B ^ rank n g)) (sym (mul_assoc (get_or x g 0) (B ^ rank n g) B))

      others : sum n (λ (g : ℕ). get_or x g 0 * B ^ rank (suc n) (suc g)) ≡ sum n (λ (g : ℕ). get_or x g 0 * B ^ rank n g) * B
      others =
          sum_same n _ (λ (g : ℕ). get_or x g 0 * B ^ rank n g * B) (λ g l. further g)
          ∙ sum_mul n B (λ (g : ℕ). get_or x g 0 * B ^ rank n g)

  digits_tail : (n a : ℕ) (x : List ℕ) → Digits (suc n) (a ∷ x) → Digits n x
  digits_tail n a x d = record { length_is = suc_inj d.length_is; below = λ g l. d.below (suc g) (omega arith) }

  pub number_below : (n : ℕ) (x : List ℕ) → Digits n x → number n x < B ^ n
  unfolding number sum
  number_below zero x d = rw pow-zero (le_refl 1)
  number_below (suc n) [] d = absurd (omega (arith, d.length_is))
  number_below (suc n) (a ∷ x) d =
      rw (number_cons n a x, pow-succ' B n, mul_comm B (B ^ n)) (omega (
        arith,
        d.below 0 (omega arith),
        simp suc-mul at (mul-le-mul_right B (number_below n x (digits_tail n a x d))),
      ))

  pub smaller_is_before : (n : ℕ) (x y : List ℕ) → Digits n x → Digits n y → number n x ≤ number n y → (x ≡ y) ⊎ Before x y
  smaller_is_before zero [] [] dx dy l = inl refl
  smaller_is_before zero [] (b ∷ y) dx dy l = absurd (omega (arith, dy.length_is))
  smaller_is_before zero (a ∷ x) y dx dy l = absurd (omega (arith, dx.length_is))
  smaller_is_before (suc n) [] y dx dy l = absurd (omega (arith, dx.length_is))
  smaller_is_before (suc n) (a ∷ x) [] dx dy l = absurd (omega (arith, dy.length_is))
  smaller_is_before (suc n) (a ∷ x) (b ∷ y) dx dy l =
      go (dec_le (number n x) (number n y)) (smaller_is_before n x y (digits_tail n a x dx) (digits_tail n b y dy))
    where
      l' : a + number n x * B ≤ b + number n y * B
      l' = rw (number_cons n a x, number_cons n b y) at l

      last : x ≡ y → (a ≡ b) ⊎ (a < b) → (a ∷ x ≡ b ∷ y) ⊎ Before (a ∷ x) (b ∷ y)
      last e (inl q) = inl (rw (q, e))
      last e (inr k) = inr (rw e (here k))

      next : (x ≡ y) ⊎ Before x y → (a ∷ x ≡ b ∷ y) ⊎ Before (a ∷ x) (b ∷ y)
      next (inl e) = last e (eq-or-lt_of_le (omega (arith, rw e at l')))
      next (inr h) = inr (behind h)

      go : Dec (number n x ≤ number n y) → (number n x ≤ number n y → (x ≡ y) ⊎ Before x y) → (a ∷ x ≡ b ∷ y) ⊎ Before (a ∷ x) (b ∷ y)
      go (yes h) rest = next (rest h)
      go (no h) rest =
          let k : suc (number n y) ≤ number n x = omega arith in
          absurd (omega (arith, l', dy.below 0 (omega arith), simp suc-mul at (mul-le-mul_right B k)))
