-- After k ticks from the raised start a part is worth the most of all lists that last at most k ticks longer than no increase; once nothing is left to gain, of all lists whatever.
-- Assumes nothing.
use mathlib.Core.Path.{◌≡◌}
use mathlib.Core.Logic.{◌⊎◌, inl, inr}
use Prim.Native.Nat.{ℕ, suc, ◌+◌, ◌≤◌}
use native.Mathlib.Nat.{le_refl, mul-le-mul_left, zero-mul}
use native.Mathlib.Omega.{arith}
use Rattle.optimum.specs.Tree.{Tree, St, zeros, longest, worth, next, Run, Raised}
use Rattle.optimum.proofs.Duality.{weak}
use Rattle.optimum.proofs.Raise.{Good, Ran, run_good, raised}

module _ (d : ℕ → ℕ) (v : ℕ → ℕ → ℕ) (falls : (g k : ℕ) → v g (suc k) ≤ v g k) where
  -- For a loop: a good part is worth the most of all lists that last no longer, and of all lists where nothing is left to gain.
  pub finish : (t : Tree) (s y : St t) → Good d v falls t s → (longest d t y ≤ longest d t s) ⊎ (next v t s ≡ 0) → worth v t y ≤ worth v t s
  finish t s y good (inl l) = omega (arith, weak d v falls t s y (next v t s) good, mul-le-mul_left (next v t s) l)
  finish t s y good (inr z) = omega (arith, simp (z, zero-mul) at (weak d v falls t s y (next v t s) good))

  module _ (t : Tree) (k : ℕ) (r s : St t) (start : Raised d v t r) (run : Run v t k r s) where
    ran : Ran d v falls t k r s
    ran = run_good d v falls t k r s ((raised d v falls t r start).priced _ (le_refl _)) run

    -- it lasts exactly k ticks longer than no increase, unless nothing is left to gain
    pub lasts : (longest d t s ≡ longest d t (zeros t) + k) ⊎ (next v t s ≡ 0)
    lasts = go ran.length
      where
        go : (longest d t s ≡ longest d t r + k) ⊎ (next v t s ≡ 0) → (longest d t s ≡ longest d t (zeros t) + k) ⊎ (next v t s ≡ 0)
        go (inl e) = inl (omega (arith, (raised d v falls t r start).length))
        go (inr z) = inr z

    -- it never lasts longer than that
    pub lasts_at_most : longest d t s ≤ longest d t (zeros t) + k
    lasts_at_most = omega (arith, ran.at_most, (raised d v falls t r start).length)

    pub best : (y : St t) → longest d t y ≤ longest d t (zeros t) + k → worth v t y ≤ worth v t s
    best y h = finish t s y ran.good (go lasts)
      where
        go : (longest d t s ≡ longest d t (zeros t) + k) ⊎ (next v t s ≡ 0) → (longest d t y ≤ longest d t s) ⊎ (next v t s ≡ 0)
        go (inl e) = inl (omega arith)
        go (inr z) = inr z
