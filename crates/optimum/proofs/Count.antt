-- Gates counted in a part: a gate that stands in a part stands in one of its items.
-- Assumes nothing.
use mathlib.Core.Path.{◌≡◌, refl}
use mathlib.Core.Logic.{◌≢◌, ◌⊎◌, inl, inr}
use Prim.Native.Nat.{ℕ, ◌<◌}
use native.Mathlib.Nat.{eq-zero-or-pos}
use native.Mathlib.Decide.{ℕ_discrete}
use native.Mathlib.Omega.{arith}
use borrow.Author.Tests.{eq-eqb, ne_eqb}
use Rattle.optimum.specs.Tree.{series, parallel, Tree, is, count}

pub is_self : (m : ℕ) → is m m ≡ 1
unfolding is
is_self m = rw (eq-eqb m m refl) refl

pub is_other : (m g : ℕ) → g ≢ m → is m g ≡ 0
unfolding is
is_other m g d = rw (ne_eqb g m d) refl

-- a gate of a series part is one of its left part, its own gate or one of its right part
pub in_series : (P : Tree) (m : ℕ) (Q : Tree) (g : ℕ) (C : Type 0) → 0 < count (series P m Q) g → (0 < count P g → C) → (g ≡ m → C)
    → (0 < count Q g → C) → C
in_series P m Q g C l on_left on_gate on_right = go (ℕ_discrete g m) (eq-zero-or-pos (count P g))
  where
    go : Dec (g ≡ m) → (count P g ≡ 0) ⊎ (0 < count P g) → C
    go (yes e) _ = on_gate e
    go (no d) (inl z) = on_right (omega (arith, is_other m g d))
    go (no d) (inr p) = on_left p

-- a gate of a parallel part is one of a side
pub in_parallel : (P Q : Tree) (g : ℕ) (C : Type 0) → 0 < count (parallel P Q) g → (0 < count P g → C) → (0 < count Q g → C) → C
in_parallel P Q g C l on_left on_right = go (eq-zero-or-pos (count P g))
  where
    go : (count P g ≡ 0) ⊎ (0 < count P g) → C
    go (inl z) = on_right (omega arith)
    go (inr p) = on_left p
