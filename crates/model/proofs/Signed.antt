-- Differences of two natural numbers as signed numbers: what they are, how they compare, and the lesser of two.
-- Assumes nothing.
use mathlib.Core.Path.{◌≡◌, sym, ◌∙◌, ap}
use mathlib.Core.Logic.{◌⊎◌, inl, inr}
use mathlib.Core.Bool.{true, false}
use Prim.Native.Nat.{ℕ, zero, suc, ◌+◌, ◌-◌, ◌≤◌, ◌<◌, max}
use native.Mathlib.Omega.{arith}
use lib.IntN.{ℤ, pos, negsuc, neg_ℤ, ◌+ℤ◌, ◌-ℤ◌, +ℤ_assoc, neg_ℤ-+ℤ}
use lib.Signed.{le_z}
use borrow.Author.Tests.{lt-ltb, le-ltb, le-leb, lt-leb}
use Rattle.lists.proofs.Compare.{le_or_lt}
use Rattle.model.specs.Slack.{least}

pub minus_minus : (D a b : ℕ) → pos D -ℤ pos a -ℤ pos b ≡ pos D -ℤ pos (a + b)
minus_minus D a b = +ℤ_assoc (pos D) (neg_ℤ (pos a)) (neg_ℤ (pos b)) ∙ ap (λ (z : ℤ). pos D +ℤ z) (sym (neg_ℤ-+ℤ (pos a) (pos b)))

pub difference_pos : (D a : ℕ) → a ≤ D → pos D -ℤ pos a ≡ pos (D - a)
difference_pos D zero h = ap pos (omega arith)
difference_pos D (suc a) h = rw (le-ltb D (suc a) h)

pub difference_neg : (D a : ℕ) → D < a → pos D -ℤ pos a ≡ negsuc (a - suc D)
difference_neg D zero h = absurd (omega arith)
difference_neg D (suc a) h = rw (lt-ltb D (suc a) h)

-- what is taken away more leaves less
pub difference_le : (D a b : ℕ) → b ≤ a → le_z (pos D -ℤ pos a) (pos D -ℤ pos b) ≡ true
difference_le D a b h = go (le_or_lt a D) (le_or_lt b D)
  where
    go : (a ≤ D) ⊎ (D < a) → (b ≤ D) ⊎ (D < b) → le_z (pos D -ℤ pos a) (pos D -ℤ pos b) ≡ true
    go (inl p) (inl q) = rw (difference_pos D a p, difference_pos D b q) (le-leb (D - a) (D - b) (omega arith))
    go (inl p) (inr q) = absurd (omega arith)
    go (inr p) (inl q) = rw (difference_neg D a p, difference_pos D b q)
    go (inr p) (inr q) = rw (difference_neg D a p, difference_neg D b q) (le-leb (b - suc D) (a - suc D) (omega arith))

pub difference_lt : (D a b : ℕ) → a < b → le_z (pos D -ℤ pos a) (pos D -ℤ pos b) ≡ false
difference_lt D a b h = go (le_or_lt a D) (le_or_lt b D)
  where
    go : (a ≤ D) ⊎ (D < a) → (b ≤ D) ⊎ (D < b) → le_z (pos D -ℤ pos a) (pos D -ℤ pos b) ≡ false
    go (inl p) (inl q) = rw (difference_pos D a p, difference_pos D b q) (lt-leb (D - a) (D - b) (omega arith))
    go (inl p) (inr q) = rw (difference_pos D a p, difference_neg D b q)
    go (inr p) (inl q) = absurd (omega arith)
    go (inr p) (inr q) = rw (difference_neg D a p, difference_neg D b q) (lt-leb (b - suc D) (a - suc D) (omega arith))

pub least_difference : (D a b : ℕ) → least (pos D -ℤ pos a) (pos D -ℤ pos b) ≡ pos D -ℤ pos (max a b)
least_difference D a b = go (le_or_lt b a)
  where
    go : (b ≤ a) ⊎ (a < b) → least (pos D -ℤ pos a) (pos D -ℤ pos b) ≡ pos D -ℤ pos (max a b)
    go (inl h) = let m : max a b ≡ a = omega arith in rw (difference_le D a b h, m)
    go (inr h) = let m : max a b ≡ b = omega arith in rw (difference_lt D a b h, m)
