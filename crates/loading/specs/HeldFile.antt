-- A well-formed file whose block is in the calls' arrays.
use Rattle.std.specs.Prelude.{◌≡◌, List, ℕ, ◌*◌, length}
use Rattle.model.specs.Limits.{max_gates, max_wires, max_steps}
use Rattle.model.specs.Refusal.{WellFormed}
use Rattle.blockfile.specs.Held.{GateArrays, WireArrays}
use Rattle.ordering.specs.Wires.{Wired}
use Rattle.ordering.specs.Order.{Order}
use Rattle.loading.specs.Loads.{block_held}

-- The file is well-formed and its block is in the arrays, with an order of its gates along the wires; the arrays are as long as those of the calls.
pub record HeldFile (file : List ℕ) (n m arrival deadline activity : ℕ) (G : GateArrays) (W : WireArrays) (order : List ℕ) : Type 0 where
  pub well : WellFormed file (block_held n m arrival deadline activity G W)
  pub ordered : Order (Wired m W.sources W.targets) n order
  pub delays_long : length G.delays ≡ max_gates
  pub activities_long : length G.activities ≡ max_gates
  pub counts_long : length G.counts ≡ max_gates
  pub widths_long : length G.step_widths ≡ max_gates * max_steps
  pub drops_long : length G.drops ≡ max_gates * max_steps
  pub sources_long : length W.sources ≡ max_wires
  pub targets_long : length W.targets ≡ max_wires
  pub wire_delays_long : length W.delays ≡ max_wires
  pub order_long : length order ≡ max_gates
