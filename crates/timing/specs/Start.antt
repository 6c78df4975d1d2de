-- What is asked to find the start of a network in arrays, and what it is.
use Rattle.std.specs.Prelude.{◌≡◌, List, ℕ, ◌-◌, ◌≤◌, length, get_or}
use Rattle.model.specs.Slack.{source_by}
use Rattle.model.specs.Arrays.{wires_in}
use Rattle.ordering.specs.Wires.{Lent, Wired}
use Rattle.ordering.specs.Order.{Order}
use Rattle.timing.specs.Times.{Delays, time_bound}

-- The network is at hand with an order of its gates along the wires.
pub record Startable (n m : ℕ) (order sources targets wire_delays gate_delays : List ℕ) : Type 0 where
  pub some : 1 ≤ n
  pub lent : Lent n m sources targets
  pub ordered : Order (Wired m sources targets) n order
  pub order_long : n ≤ length order
  pub delays : Delays n m wire_delays gate_delays

-- r is the latest time at the last gate's output where signals start at 0, as `start` of model has it for a block with these wires and delays.
pub record StartIs (n m : ℕ) (sources targets wire_delays gate_delays : List ℕ) (r : ℕ) : Type 0 where
  pub is : r ≡ source_by n (wires_in m sources targets wire_delays) (λ (h : ℕ). get_or gate_delays h 0) 0 (n - 1)
  pub small : r ≤ time_bound
