-- The fewest spare ticks that reach a wanted saving (document 02, K6: "The buyer has a saving in mind and wants the fewest spare ticks that reach it").
-- By lists, as everything else: the curve is how the ticks are found, and that it says the same is a law (proofs/Ticks).
use Rattle.std.specs.Prelude.{List, ℕ, ◌+◌, ◌≤◌}
use Rattle.lists.specs.Search.{Lowest}
use Rattle.model.specs.Block.{Block}
use Rattle.model.specs.Gain.{saving}
use Rattle.model.specs.InTime.{Within}
use Rattle.model.specs.Slack.{start}

-- k spare ticks reach the wanted saving: some list under which no path lasts longer than start and k ticks saves at least as much. Arrival and deadline play no part.
pub record Reached (B : Block) (wanted k : ℕ) : Type 0 where
  pub list : List ℕ
  pub within : Within B (start B + k) list
  pub saves : wanted ≤ saving B list

-- "the fewest spare ticks that reach it": k ticks do, and no fewer. "The saving at start counts", since k may be 0.
abbrev pub Fewest : Block → ℕ → ℕ → Type 0
Fewest B wanted = Lowest (Reached B wanted)

-- "even the whole curve stays below the wanted saving": no number of ticks reaches it.
abbrev pub Unreachable : Block → ℕ → Type 0
Unreachable B wanted = (k : ℕ) → ¬ (Reached B wanted k)
