-- The order of ties by gates: at some gate the smaller increase, at every gate above the same. It is irreflexive, transitive, and total on lists of one length.
-- Assumes nothing.
use mathlib.Core.Path.{◌≡◌, refl, subst, sym, ap}
use mathlib.Core.Logic.{◌⊎◌, inl, inr, ◌↔◌}
use mathlib.Core.List.{List, [], ◌∷◌}
use Prim.Native.Nat.{ℕ, zero, suc, ◌<◌}
use native.Mathlib.Nat.{suc_inj, suc-ne-zero}
use native.Mathlib.Omega.{arith}
use lib.ListN.{length, get_or}
use lib.Seq.{ext_get_or}
use Rattle.lists.proofs.Compare.{compared}
use Rattle.model.specs.Ties.{Before, behind, here}

-- the increases of two lists are the same at every gate above g
abbrev pub SameAbove : List ℕ → List ℕ → ℕ → Type 0
SameAbove xs ys g = (h : ℕ) → g < h → get_or xs h 0 ≡ get_or ys h 0

-- the two lists have an increase for each of the same gates; at some gate that of xs is smaller, and at every gate above they are the same
abbrev pub SmallerAtSome : List ℕ → List ℕ → Type 0
SmallerAtSome xs ys = (length xs ≡ length ys) × (g : ℕ) × (g < length xs) × (get_or xs g 0 < get_or ys g 0) × SameAbove xs ys g

-- one element more in front of both
further : (a b : ℕ) (xs ys : List ℕ) (g : ℕ) → SameAbove xs ys g → SameAbove (a ∷ xs) (b ∷ ys) (suc g)
further a b xs ys g s zero l = absurd (omega arith)
further a b xs ys g s (suc h) l = s h (omega arith)

-- a first element of one list and of another, the same elements behind
same_behind : (a b : ℕ) (xs : List ℕ) → SameAbove (a ∷ xs) (b ∷ xs) 0
same_behind a b xs zero l = absurd (omega arith)
same_behind a b xs (suc h) l = refl

before_then : {xs ys : List ℕ} → Before xs ys → SmallerAtSome xs ys
before_then (here {a} {b} {xs} l) = (refl, 0, omega arith, omega arith, same_behind a b xs)
before_then (behind {xs = xs} {ys = ys} h) =
    let (e, g, within, smaller, s) = before_then h in
    (ap suc e, suc g, omega arith, smaller, further _ _ xs ys g s)

before_if : (xs ys : List ℕ) → length xs ≡ length ys → (g : ℕ) → get_or xs g 0 < get_or ys g 0 → SameAbove xs ys g → Before xs ys
before_if [] [] e g l s = absurd (omega arith)
before_if [] (b ∷ ys) e g l s = absurd (suc-ne-zero (length ys) (sym e))
before_if (a ∷ xs) [] e g l s = absurd (suc-ne-zero (length xs) e)
before_if (a ∷ xs) (b ∷ ys) e zero l s =
    let same : xs ≡ ys = ext_get_or 0 xs ys (suc_inj e) (λ h k. s (suc h) (omega arith)) in
    subst (λ (zs : List ℕ). Before (a ∷ xs) (b ∷ zs)) same (here (omega arith))
before_if (a ∷ xs) (b ∷ ys) e (suc g) l s = behind (before_if xs ys (suc_inj e) g l (λ h k. s (suc h) (omega arith)))

-- what a reader checks the definition by
pub before_exactly : (xs ys : List ℕ) → Before xs ys ↔ SmallerAtSome xs ys
before_exactly xs ys = (before_then, λ (e, g, within, smaller, s). before_if xs ys e g smaller s)

pub before_irrefl : {xs : List ℕ} → ¬ (Before xs xs)
before_irrefl h = let (_, _, _, smaller, _) = before_then h in omega (arith, smaller)

pub before_trans : {xs ys zs : List ℕ} → Before xs ys → Before ys zs → Before xs zs
before_trans (behind h) (behind k) = behind (before_trans h k)
before_trans (behind h) (here k) = behind h
before_trans (here h) (behind k) = behind k
before_trans (here {a} {b} h) (here {b = c} k) = let l : a < c = omega arith in here l

pub before_asym : {xs ys : List ℕ} → Before xs ys → ¬ (Before ys xs)
before_asym h k = before_irrefl (before_trans h k)

-- one of the three holds of two lists
abbrev pub Ordered : List ℕ → List ℕ → Type 0
Ordered xs ys = Before xs ys ⊎ (xs ≡ ys) ⊎ Before ys xs

in_front : {a b : ℕ} {xs ys : List ℕ} → (a < b) ⊎ (a ≡ b) ⊎ (b < a) → Ordered xs ys → Ordered (a ∷ xs) (b ∷ ys)
in_front c (inl h) = inl (behind h)
in_front c (inr (inr h)) = inr (inr (behind h))
in_front {a} {b} {xs} {ys} (inl h) (inr (inl e)) = inl (subst (λ (zs : List ℕ). Before (a ∷ xs) (b ∷ zs)) e (here h))
in_front {a} {b} {xs} {ys} (inr (inl q)) (inr (inl e)) = inr (inl (rw (q, e)))
in_front {a} {b} {xs} {ys} (inr (inr h)) (inr (inl e)) = inr (inr (subst (λ (zs : List ℕ). Before (b ∷ zs) (a ∷ xs)) e (here h)))

pub before_total : (xs ys : List ℕ) → length xs ≡ length ys → Ordered xs ys
before_total [] [] e = inr (inl refl)
before_total [] (b ∷ ys) e = absurd (suc-ne-zero (length ys) (sym e))
before_total (a ∷ xs) [] e = absurd (suc-ne-zero (length xs) e)
before_total (a ∷ xs) (b ∷ ys) e = in_front (compared a b) (before_total xs ys (suc_inj e))
