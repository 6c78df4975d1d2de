-- What the functions of this crate ask: a block that can be printed, and room for it.
use Rattle.std.specs.Prelude.{◌≡◌, List, ℕ, ◌+◌, ◌≤◌, length, take}
use Rattle.model.specs.Block.{Block}
use Rattle.model.specs.Gain.{saving}
use Rattle.model.specs.Slack.{start}
use Rattle.text.specs.Written.{block_room}

-- The block B of n gates is in time, and the first n elements of the list are increases that save `saved`.
pub record Sized (B : Block) (n saved : ℕ) (increases : List ℕ) : Type 0 where
  pub in_time : B.arrival + start B ≤ B.deadline
  pub long : n ≤ length increases
  pub saves : saving B (take n increases) ≡ saved

-- the bytes that are enough for the printout of any file
abbrev pub printout_room : ℕ
printout_room = block_room
