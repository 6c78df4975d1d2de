-- What the searches of the reduction look for, and what they promise.
use Rattle.std.specs.Prelude.{◌≡◌, Option, Some, None, List, ℕ, ◌≤◌, ◌<◌, get_or}
use Rattle.lists.specs.Search.{Least, LowestBelow}

-- a number below n with the property, if there is one
abbrev pub Found : (ℕ → Type 0) → ℕ → Option ℕ → Type 0
Found P n (Some r) = (r < n) × P r
Found P n None = (q : ℕ) → q < n → ¬ (P q)

-- slot i is live and leads from a to b
pub record Leads (lives froms tos : List ℕ) (a b i : ℕ) : Type 0 where
  pub live : get_or lives i 0 ≡ 1
  pub from : get_or froms i 0 ≡ a
  pub to : get_or tos i 0 ≡ b

-- the lowest live slot from s on and below k, if there is one
abbrev pub LiveFrom : List ℕ → ℕ → ℕ → Option ℕ → Type 0
LiveFrom lives s = LowestBelow (λ i. (s ≤ i) × (get_or lives i 0 ≡ 1))

-- r is the only live one of k slots
pub record OnlyLiveAt (lives : List ℕ) (k r : ℕ) : Type 0 where
  pub within : r < k
  pub live : get_or lives r 0 ≡ 1
  pub only : (q : ℕ) → q < k → get_or lives q 0 ≡ 1 → q ≡ r

-- the only live one of k slots, if exactly one is live
abbrev pub OnlyLive : List ℕ → ℕ → Option ℕ → Type 0
OnlyLive lives k (Some r) = OnlyLiveAt lives k r
OnlyLive lives k None = (q : ℕ) → q < k → get_or lives q 0 ≡ 1 → ((p : ℕ) → p < k → get_or lives p 0 ≡ 1 → p ≡ q) → ⊥

-- g is the lowest gate to which a live one of k slots leads, or b where none leads to a lower one
abbrev pub LowestLed : List ℕ → List ℕ → ℕ → ℕ → ℕ → Type 0
LowestLed lives tos k = Least k (λ i. get_or lives i 0 ≡ 1) (λ i. get_or tos i 0)
