-- Tallies of gates: how many live slots end at a gate, and the sum of their numbers, in one number. Where only one slot ends there, the tally tells which.
use Rattle.std.specs.Prelude.{◌≡◌, Bool, ◌&&◌, cond, List, ℕ, ◌+◌, ◌-◌, ◌<◌, min, eqb, get_or, set}
use Rattle.lists.specs.Sum.{sum}
use Rattle.model.specs.Limits.{max_wires}

-- slot i is live and ends at gate g
abbrev pub ends_at : List ℕ → List ℕ → ℕ → ℕ → Bool
ends_at lives ends g i = eqb (get_or lives i 0) 1 && eqb (get_or ends i 0) g

-- what slot i adds to the tally of a gate at which it ends
abbrev pub share : ℕ → ℕ
share i = max_wires + i

-- no slot adds as much
abbrev pub most_share : ℕ
most_share = max_wires + max_wires

-- what slot i adds to the tally of gate g
abbrev pub share_at : List ℕ → List ℕ → ℕ → ℕ → ℕ
share_at lives ends g i = cond (ends_at lives ends g i) (share i) 0

-- the tally of gate g by the slots below k
unfoldable pub tally : List ℕ → List ℕ → ℕ → ℕ → ℕ
tally lives ends k g = sum k (share_at lives ends g)

-- how many of the first n gates some live slot below k ends at
unfoldable pub end_gates : List ℕ → List ℕ → ℕ → ℕ → ℕ
end_gates lives ends k n = sum n (λ g. min 1 (tally lives ends k g))

-- slot i is the only one of k slots that is live and ends at g
pub record OnlyAt (lives ends : List ℕ) (k g i : ℕ) : Type 0 where
  pub slot : i < k
  pub live : get_or lives i 0 ≡ 1
  pub end : get_or ends i 0 ≡ g
  pub only : (q : ℕ) → q < k → get_or lives q 0 ≡ 1 → get_or ends q 0 ≡ g → q ≡ i

-- the tallies of the first n gates by the slots below k
abbrev pub TalliedBy : List ℕ → List ℕ → ℕ → ℕ → List ℕ → Type 0
TalliedBy lives ends n k tallies = (g : ℕ) → g < n → get_or tallies g 0 ≡ tally lives ends k g

-- the tallies once gate m is gone: gate v has lost `less` and won `more`
unfoldable pub settled : ℕ → ℕ → ℕ → ℕ → List ℕ → List ℕ
settled m v less more tallies = set (set tallies v (get_or tallies v 0 + more - less)) m 0

-- what slot i adds at its new end: nothing where another slot has taken it up, so that two nodes are new
abbrev pub kept_share : ℕ → ℕ → ℕ → ℕ
kept_share c r i = cond (eqb r (c + 1)) (share i) 0
