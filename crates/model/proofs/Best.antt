-- A best list is unique, and so is a best saving.
-- Assumes nothing.
use mathlib.Core.Path.{◌≡◌, sym}
use mathlib.Core.Logic.{◌⊎◌, inl, inr}
use mathlib.Core.List.{List, List-discrete}
use Prim.Native.Nat.{ℕ, ◌<◌}
use native.Mathlib.Decide.{ℕ_discrete}
use native.Mathlib.Nat.{le_antisymm}
use native.Mathlib.Omega.{arith}
use Rattle.model.specs.Block.{Block}
use Rattle.model.specs.Best.{BestOf, Best, BestSaving}
use Rattle.model.proofs.Ties.{before_asym}

-- two lists that differ are not both best: each would have to be worth less than the other, or come after it
not_both : {P Q : Type 0} {v w : ℕ} → (P → ¬ Q) → (w < v) ⊎ ((w ≡ v) × P) → (v < w) ⊎ ((v ≡ w) × Q) → ⊥
not_both asym (inl h) (inl k) = omega arith
not_both asym (inl h) (inr k) = let e = k.0 in omega arith
not_both asym (inr h) (inl k) = let e = h.0 in omega arith
not_both asym (inr h) (inr k) = asym h.1 k.1

-- for any set of lists, any worth and any asymmetric order
pub best_of_unique : {ok : List ℕ → Type 0} {worth : List ℕ → ℕ} {before : List ℕ → List ℕ → Type 0}
    → ((x y : List ℕ) → before x y → ¬ (before y x))
    → (x y : List ℕ)
    → BestOf ok worth before x
    → BestOf ok worth before y
    → x ≡ y
best_of_unique asym x y b c = go (List-discrete ℕ_discrete x y)
  where
    go : Dec (x ≡ y) → x ≡ y
    go (yes e) = e
    go (no n) =
        absurd (not_both (asym x y) (b.beats y c.is_ok (λ (e : y ≡ x). n (sym e))) (c.beats x b.is_ok n))

pub best_unique : (B : Block) (x y : List ℕ) → Best B x → Best B y → x ≡ y
best_unique B = best_of_unique (λ (x y : List ℕ). before_asym)

pub best_saving_unique : {B : Block} {T s t : ℕ} → BestSaving B T s → BestSaving B T t → s ≡ t
best_saving_unique {B} {T} {s} {t} a b =
    le_antisymm (rw a.saves at (b.greatest a.list a.within)) (rw b.saves at (a.greatest b.list b.within))
