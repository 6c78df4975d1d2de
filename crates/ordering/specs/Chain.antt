-- The wires at each gate, as chains: each wire names the one before it at the same gate. `ends` holds one end of each wire, its source or its target.
use Rattle.std.specs.Prelude.{◌≡◌, cond, Option, Some, None, List, ℕ, zero, suc, ◌≤◌, ◌<◌, eqb, length, get_or}
use Rattle.model.specs.Limits.{max_wires}

-- one more than the last of the first k wires at gate g, 0 where there is none
unfoldable pub last_before : List ℕ → ℕ → ℕ → ℕ
last_before ends zero g = 0
last_before ends (suc k) g = cond (eqb (get_or ends k 0) g) (suc k) (last_before ends k g)

-- a wire as `heads` and `links` name it: one more than its number, 0 where there is none
abbrev pub link_to : Option ℕ → ℕ
link_to None = 0
link_to (Some i) = suc i

-- `heads` holds the last wire at each gate, and `links`, for each of the first m wires, the one before it at the same gate.
pub record Chained (ends : List ℕ) (m : ℕ) (heads links : List ℕ) : Type 0 where
  pub head : (g : ℕ) → get_or heads g 0 ≡ last_before ends m g
  pub link : (i : ℕ) → i < m → get_or links i 0 ≡ last_before ends i (get_or ends i 0)

-- There is room for the chains of m wires, each at a gate that `heads` has, and no chain is begun.
pub record Chainable (ends : List ℕ) (m : ℕ) (heads links : List ℕ) : Type 0 where
  pub count : m ≤ max_wires
  pub all_ends : m ≤ length ends
  pub room : m ≤ length links
  pub to_gates : (i : ℕ) → i < m → get_or ends i 0 < length heads
  pub begun : (g : ℕ) → get_or heads g 0 ≡ 0
