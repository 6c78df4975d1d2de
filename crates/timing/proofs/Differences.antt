-- The difference of two numbers below 2³¹, as a signed number of 32 bits.
-- Assumes nothing.
use mathlib.Core.Path.{◌≡◌, ◌∙◌}
use mathlib.Core.Logic.{◌⊎◌, inl, inr}
use Prim.Native.Nat.{ℕ, ◌≤◌, ◌<◌}
use native.Mathlib.Omega.{arith}
use lib.IntN.{pos, ◌-ℤ◌}
use mir.Syntax.{w32}
use mir.Val.{SFits, to_z, of_z}
use mir.ValLaws.{to_z_pos, to_z-of_z}
use Rattle.lists.proofs.Compare.{le_or_lt}
use Rattle.model.proofs.Signed.{difference_pos, difference_neg}

module _ (a b : ℕ) (ha : a < 2147483648) (hb : b < 2147483648) where
  fits : SFits w32 (pos a -ℤ pos b)
  fits = by (le_or_lt b a)
    where
      by : (b ≤ a) ⊎ (a < b) → SFits w32 (pos a -ℤ pos b)
      by (inl h) = rw (difference_pos a b h) (record { sfits = omega arith })
      by (inr h) = rw (difference_neg a b h) (record { sfits = omega arith })

  pub difference_fits : SFits w32 (to_z w32 a -ℤ to_z w32 b)
  difference_fits = rw (to_z_pos w32 a ha, to_z_pos w32 b hb) fits

  pub difference_read : to_z w32 (of_z w32 (to_z w32 a -ℤ to_z w32 b)) ≡ pos a -ℤ pos b
  difference_read = to_z-of_z w32 (to_z w32 a -ℤ to_z w32 b) difference_fits ∙ rw (to_z_pos w32 a ha, to_z_pos w32 b hb)
