-- The best list of a set, and the best increases of a block (demand 3).
use Rattle.std.specs.Prelude.{◌≡◌, ◌≢◌, ◌⊎◌, List, ℕ, ◌≤◌, ◌<◌}
use Rattle.model.specs.Block.{Block}
use Rattle.model.specs.Gain.{saving}
use Rattle.model.specs.InTime.{Within, InTime}
use Rattle.model.specs.Ties.{Before}

-- x is in the set `ok`, and every other list of it is worth less, or is worth as much and comes later in the order `before`.
pub record BestOf (ok : List ℕ → Type 0) (worth : List ℕ → ℕ) (before : List ℕ → List ℕ → Type 0) (x : List ℕ) : Type 0 where
  pub is_ok : ok x
  pub beats : (y : List ℕ) → ok y → y ≢ x → (worth y < worth x) ⊎ ((worth y ≡ worth x) × before x y)

-- x is the best list among those under which no path lasts more than T
abbrev pub BestWithin : Block → ℕ → List ℕ → Type 0
BestWithin B T = BestOf (Within B T) (saving B) Before

-- Demand 3: x is in time, "and every other such list saves less, or saves as much and comes later in the order of ties".
abbrev pub Best : Block → List ℕ → Type 0
Best B = BestOf (InTime B) (saving B) Before

-- s is the greatest saving of any list under which no path lasts more than T
pub record BestSaving (B : Block) (T s : ℕ) : Type 0 where
  pub list : List ℕ
  pub within : Within B T list
  pub saves : saving B list ≡ s
  pub greatest : (y : List ℕ) → Within B T y → saving B y ≤ s
