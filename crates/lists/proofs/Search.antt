-- What a test says (`says_by`); the lowest number of two conditions that say the same (`lowest_alike`); the least of several values, found one value after another (`least_of_none`, `least_more`). Assumes nothing.
use mathlib.Core.Path.{◌≡◌, refl, sym, subst}
use mathlib.Core.Logic.{inl, inr, ⊎_elim, ◌↔◌}
use mathlib.Core.Bool.{Bool, true, false, cond}
use Prim.Native.Nat.{ℕ, ◌+◌, ◌<◌, ◌≤◌}
use native.Mathlib.Decide.{ℕ_discrete}
use native.Mathlib.Omega.{arith}
use borrow.Author.Tests.{ltb-true, ltb-false}
use lib.Dec.{ltb}
use Rattle.lists.specs.Search.{Lowest, Least, lesser, Says}

-- what a test's two outcomes say
pub says_by : (P : Type 0) (b : Bool) → (b ≡ true → P) → (b ≡ false → ¬ P) → Says P b
says_by P true yes_if no_if = yes_if refl
says_by P false yes_if no_if = no_if refl

pub lowest_alike : {P Q : ℕ → Type 0} {r : ℕ} → ((k : ℕ) → P k ↔ Q k) → Lowest P r → Lowest Q r
lowest_alike {r = r} same l = record { holds = (same r).0 l.holds; none_below = λ q b h. l.none_below q b ((same q).1 h) }

pub least_of_none : {P : ℕ → Type 0} {f : ℕ → ℕ} (b : ℕ) → Least 0 P f b b
least_of_none b = record { most = omega arith; none_less = λ i l p. absurd (omega arith); reached = inl refl }

-- the value at k more: it is the least then, or what was the least still is
module _ {k j : ℕ} {P : ℕ → Type 0} {f : ℕ → ℕ} {b g : ℕ} (l : Least k P f b g) (next : j ≡ k + 1) where
  none_less_than : (h : ℕ) → h ≤ g → (P k → h ≤ f k) → (i : ℕ) → i < j → P i → h ≤ f i
  none_less_than h less at i below p = go (ℕ_discrete i k)
    where
      go : Dec (i ≡ k) → h ≤ f i
      go (yes e) = subst (λ (q : ℕ). h ≤ f q) (sym e) (at (subst P e p))
      go (no n) = omega (arith, l.none_less i (omega arith) p)

  lower : P k → f k < g → Least j P f b (f k)
  lower p less =
      record { most = omega (arith, l.most); none_less = none_less_than (f k) (omega arith) (λ q. omega arith); reached = inr (k, omega arith, p, refl) }

  kept : (P k → g ≤ f k) → Least j P f b g
  kept at =
      record { most = l.most; none_less = none_less_than g (omega arith) at; reached = ⊎_elim inl (λ (i, below, p, e). inr (i, omega arith, p, e)) l.reached }

  pub least_more : (passes : Bool) → Says (P k) passes → Least j P f b (lesser passes (f k) g)
  unfolding lesser
  least_more false none = kept (λ p. absurd (none p))
  least_more true some = go (ltb (f k) g) refl
    where
      go : (t : Bool) → ltb (f k) g ≡ t → Least j P f b (cond t (f k) g)
      go true e = lower some (ltb-true (f k) g e)
      go false e = kept (λ p. ltb-false (f k) g e)
