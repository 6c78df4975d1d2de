-- The three cases of a taking: past the end, within the pair, beyond what is left of it. Whatever holds of each holds of every taking: no more ticks are taken than asked for, the position never goes back, and ticks wanted and pairs ahead become fewer.
-- Assumes nothing.
use mathlib.Core.Path.{◌≡◌, refl}
use mathlib.Core.Logic.{◌⊎◌, inl, inr}
use mathlib.Core.List.{List}
use Prim.Native.Nat.{ℕ, ◌+◌, ◌-◌, ◌≤◌, ◌<◌}
use native.Mathlib.Nat.{min-eq_left, min-eq_right, le_of_lt}
use native.Mathlib.Omega.{arith}
use borrow.Author.Tests.{lt-ltb, le-ltb, le-leb, lt-leb}
use lib.ListN.{length}
use Rattle.lists.proofs.Compare.{le_or_lt}
use Rattle.model.specs.Curve.{Pair}
use Rattle.saving_curve.specs.declared.position.Position.{Position}
use Rattle.saving_curve.specs.declared.position.Taken.{Taken}
use Rattle.saving_curve.specs.Position.{here, left_at, none_at, taken_at}

-- k ticks of a pair, none left over
abbrev pub within_pair : List Pair → Position → ℕ → Taken
within_pair ps p k = record { next = record { pair = p.pair; used = p.used + k }; ticks = k; gain = (here ps p).gain }

-- all that is left of a pair
abbrev pub rest_of_pair : List Pair → Position → Taken
rest_of_pair ps p =
    record { next = record { pair = p.pair + 1; used = 0 }; ticks = left_at ps p; gain = (here ps p).gain }

pub data Taking (ps : List Pair) (p : Position) (k : ℕ) : Taken → Type 0 where
  past : length ps ≤ p.pair → Taking ps p k (none_at p)
  within : p.pair < length ps → k ≤ left_at ps p → Taking ps p k (within_pair ps p k)
  beyond : p.pair < length ps → left_at ps p < k → Taking ps p k (rest_of_pair ps p)

module _ (ps : List Pair) (p : Position) (k : ℕ) where
  pub taken_past : length ps ≤ p.pair → taken_at ps p k ≡ none_at p
  taken_past h = simp (le-ltb _ _ h)

  pub taken_within : p.pair < length ps → k ≤ left_at ps p → taken_at ps p k ≡ within_pair ps p k
  taken_within h l = simp (lt-ltb _ _ h, le-leb _ _ l, min-eq_left l)

  pub taken_beyond : p.pair < length ps → left_at ps p < k → taken_at ps p k ≡ rest_of_pair ps p
  taken_beyond h l = simp (lt-ltb _ _ h, lt-leb _ _ l, min-eq_right (le_of_lt l))

  pub taking : Taking ps p k (taken_at ps p k)
  taking = go (le_or_lt (length ps) p.pair) (le_or_lt k (left_at ps p))
    where
      go : (length ps ≤ p.pair) ⊎ (p.pair < length ps) → (k ≤ left_at ps p) ⊎ (left_at ps p < k) → Taking ps p k (taken_at ps p k)
      go (inl h) d = rw (taken_past h) (past h)
      go (inr h) (inl l) = rw (taken_within h l) (within h l)
      go (inr h) (inr l) = rw (taken_beyond h l) (beyond h l)

pub is_taking : {ps : List Pair} {p : Position} {k : ℕ} {t : Taken} → t ≡ taken_at ps p k → Taking ps p k t
is_taking {ps} {p} {k} e = rw e (taking ps p k)

-- no more ticks are taken than asked for
pub no_more : {ps : List Pair} {p : Position} {k : ℕ} {t : Taken} → Taking ps p k t → t.ticks ≤ k
no_more (past h) = omega arith
no_more (within h l) = omega arith
no_more (beyond h l) = omega arith

-- q is p or further on
abbrev pub Ahead : Position → Position → Type 0
Ahead p q = (p.pair < q.pair) ⊎ ((p.pair ≡ q.pair) × (p.used ≤ q.used))

-- a position never goes back
pub never_back : {ps : List Pair} {p : Position} {k : ℕ} {t : Taken} → Taking ps p k t → Ahead p t.next
never_back (past h) = inr (refl, omega arith)
never_back (within h l) = inr (refl, omega arith)
never_back (beyond h l) = inl (omega arith)

-- ticks wanted and pairs ahead become fewer
pub fewer : {ps : List Pair} {p : Position} {k : ℕ} {t : Taken} → Taking ps p k t → 0 < k → p.pair < length ps → k - t.ticks + (length ps - t.next.pair) < k + (length ps - p.pair)
fewer (past h) l a = absurd (omega arith)
fewer (within h w) l a = omega arith
fewer (beyond h w) l a = omega arith
