-- What the answer at the end of the reduction says of the slots.
use Rattle.std.specs.Prelude.{◌≡◌, None, Result, Ok, Err, List, ℕ, get_or}
use Rattle.slots.specs.Sought.{OnlyLive, OnlyLiveAt, LowestLed}
use Rattle.slots.specs.declared.NotSeriesParallel.{NotSeriesParallel}

-- the answer picked at the end: the node of the only live slot; or, where not exactly one is live, the lowest gate to which one leads, at most b
abbrev pub Picked : List ℕ → List ℕ → List ℕ → ℕ → ℕ → Result ℕ NotSeriesParallel → Type 0
Picked lives tos tops k b (Ok t) = (i : ℕ) × OnlyLiveAt lives k i × (t ≡ get_or tops i 0)
Picked lives tos tops k b (Err e) = OnlyLive lives k None × LowestLed lives tos k b e.gate
