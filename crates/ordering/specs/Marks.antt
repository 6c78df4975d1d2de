-- Arrays of marks, and what a search answers.
use Rattle.std.specs.Prelude.{◌≡◌, ◌≢◌, List, ℕ, ◌≤◌, ◌<◌, get_or}

-- The first n marks tell for which numbers P holds: those whose mark is not 0.
pub record Marks (P : ℕ → Type 0) (n : ℕ) (marks : List ℕ) : Type 0 where
  pub right : (g : ℕ) → g < n → get_or marks g 0 ≢ 0 → P g
  pub whole : (g : ℕ) → g < n → P g → get_or marks g 0 ≢ 0

-- g stands among the first i keys
pub record Among (keys : List ℕ) (i g : ℕ) : Type 0 where
  pub place : ℕ
  pub below : place < i
  pub key : get_or keys place 0 ≡ g

-- r is the least number below n at which P holds, or n where there is none.
pub record First (P : ℕ → Type 0) (n r : ℕ) : Type 0 where
  pub within : r ≤ n
  pub found : r < n → P r
  pub none_below : (q : ℕ) → q < r → ¬ (P q)
