-- A signed number of 32 bits that needs no sign is its own size.
-- Assumes nothing.
use Rattle.std.proofs.Common.{◌≡◌, ◌∙◌}
use lib.IntN.{ℤ, pos, nat_abs}
use mir.Syntax.{w32}
use mir.Val.{SFits, to_z, of_z}
use mir.ValLaws.{to_z-of_z}
use Rattle.text.specs.Numbers.{Natural}

module _ (z : ℤ) (small : SFits w32 z) (natural : Natural z) where
  -- read back once it is stored
  read : to_z w32 (of_z w32 z) ≡ pos natural.0
  read = to_z-of_z w32 z small ∙ natural.1

  pub natural_read : Natural (to_z w32 (of_z w32 z))
  natural_read = (natural.0, read)

  pub natural_size : z ≡ pos (nat_abs (to_z w32 (of_z w32 z)))
  natural_size = rw read natural.1
