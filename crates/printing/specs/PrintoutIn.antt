-- What the call that prints leaves in a lent slice (document 01, "The printing program"). That it leaves one thing only is a law (proofs/Unique).
use Rattle.std.specs.Prelude.{◌≡◌, List, ℕ, ◌≤◌, ◌<◌, length}
use Rattle.lists.specs.Over.{over}
use Rattle.model.specs.Printout.{Printout}
use Rattle.blocktext.specs.Shown.{printout_room}

-- The printout of the file stands at the front of the slice, the bytes behind it are as before, and r is its length.
pub record Printed (file old new : List ℕ) (r : ℕ) : Type 0 where
  pub text : List ℕ
  pub is_printout : Printout file text
  pub fits : length text ≤ length old
  pub length_is : r ≡ length text
  pub stands : new ≡ over text old

-- A slice with room has the printout in front; a shorter one is as before, and the answer is 0.
pub record PrintoutIn (file old new : List ℕ) (r : ℕ) : Type 0 where
  pub no_room : length old < printout_room → (r ≡ 0) × (new ≡ old)
  pub room : printout_room ≤ length old → Printed file old new r
