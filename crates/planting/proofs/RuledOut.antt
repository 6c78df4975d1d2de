-- The number of a kind, where a match has ruled one kind out.
-- Assumes nothing.
use mathlib.Core.Path.{◌≡◌, refl}
use mathlib.Core.Logic.{◌≢◌}
use Prim.Native.Nat.{ℕ, ◌<◌}
use native.Mathlib.Omega.{arith}
use Rattle.planting.specs.declared.tree.Kind.{Kind}
use Rattle.planting.specs.declared.tree.Kind.TheVariants.{Wire, Series, Parallel}
use Rattle.planting.specs.TreeWords.{number_of}

pub no_series : (k : Kind) → ((l g r : ℕ) → k ≡ Series l g r → ⊥) → number_of k ≢ 1
no_series (Wire d) none = λ e. absurd (omega (arith, e))
no_series (Series l g r) none = absurd (none l g r refl)
no_series (Parallel l r) none = λ e. absurd (omega (arith, e))

pub no_parallel : (k : Kind) → ((l r : ℕ) → k ≡ Parallel l r → ⊥) → number_of k < 2
no_parallel (Wire d) none = omega arith
no_parallel (Series l g r) none = omega arith
no_parallel (Parallel l r) none = absurd (none l r refl)
