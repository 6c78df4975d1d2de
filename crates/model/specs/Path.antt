-- Paths through a block and the time that they last (document 01, "Gains, paths, building up").
-- Every path counts: no input vectors are held, so none is pruned as false (demand 2).
use Rattle.std.specs.Prelude.{List, ℕ, ◌+◌, ◌≤◌}
use Rattle.model.specs.Block.{Wire, Stands, Joined}

-- `Path ws d a b t`: some path from gate a to gate b along the wires lasts t ticks, where gate g takes `d g`.
pub data Path (ws : List Wire) (d : ℕ → ℕ) : ℕ → ℕ → ℕ → Type 0 where
  stay : {a : ℕ} → Path ws d a a (d a)
  go : {a b c w t : ℕ} → Stands ws a c w → Path ws d c b t → Path ws d a b (d a + w + t)

-- T is the time of a longest path from a to b: some path lasts T, none lasts longer.
pub record Longest (ws : List Wire) (d : ℕ → ℕ) (a b T : ℕ) : Type 0 where
  pub attained : Path ws d a b T
  pub greatest : (t : ℕ) → Path ws d a b t → t ≤ T

-- Gate b can be reached from gate a by one wire or more.
pub data Reaches (ws : List Wire) : ℕ → ℕ → Type 0 where
  step : {a b : ℕ} → Joined ws a b → Reaches ws a b
  on : {a b c : ℕ} → Joined ws a c → Reaches ws c b → Reaches ws a b
