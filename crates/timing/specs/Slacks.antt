-- What the slacks of a network in arrays are, and what is asked to find them.
use Rattle.std.specs.Prelude.{◌≡◌, List, ℕ, suc, ◌+◌, ◌-◌, ◌≤◌, ◌<◌, ℤ, pos, ◌-ℤ◌, length, get_or}
use Rattle.model.specs.Limits.{max_time}
use Rattle.model.specs.Slack.{source_by, required_by}
use Rattle.model.specs.Arrays.{wires_in}
use Rattle.ordering.specs.Wires.{Lent, Wired}
use Rattle.ordering.specs.Order.{Order}
use Rattle.timing.specs.Times.{Delays, time_bound}

-- `back` names the first n elements of `order` in the other direction
abbrev pub Reversed : ℕ → List ℕ → List ℕ → Type 0
Reversed n order back = (k : ℕ) → k < n → get_or back k 0 ≡ get_or order (n - suc k) 0

-- the slack of gate g, as `slack` of model has it for a block with these wires and delays
abbrev pub slack_in : ℕ → ℕ → List ℕ → List ℕ → List ℕ → List ℕ → ℕ → ℕ → ℕ → ℤ
slack_in n m sources targets wire_delays gate_delays arrival deadline g =
    required_by n (wires_in m sources targets wire_delays) (λ (h : ℕ). get_or gate_delays h 0) (pos deadline) g
    -ℤ pos (source_by n (wires_in m sources targets wire_delays) (λ (h : ℕ). get_or gate_delays h 0) arrival g)

-- the signed difference that is left of the deadline by the latest time at a gate's output and the longest way on from there
abbrev pub left_at : List ℕ → List ℕ → List ℕ → ℕ → ℕ → ℤ
left_at times tails gate_delays deadline g = pos deadline -ℤ pos (get_or times g 0 + (get_or tails g 0 - get_or gate_delays g 0))

-- The times of n gates are at hand, from the first gate on and back from the last, and `out` has room.
pub record Subtractable (n : ℕ) (times tails gate_delays : List ℕ) (deadline : ℕ) (out : List ℤ) : Type 0 where
  pub times_long : n ≤ length times
  pub tails_long : n ≤ length tails
  pub delays_long : n ≤ length gate_delays
  pub out_long : n ≤ length out
  pub deadline_small : deadline ≤ max_time
  pub times_small : (g : ℕ) → g < n → get_or times g 0 ≤ time_bound
  pub tails_small : (g : ℕ) → g < n → get_or tails g 0 ≤ time_bound
  pub own_delay : (g : ℕ) → g < n → get_or gate_delays g 0 ≤ get_or tails g 0

-- The network is at hand with an order of its gates along the wires, and `out` has room.
pub record Slackable (n m : ℕ) (order sources targets wire_delays gate_delays : List ℕ) (arrival deadline : ℕ) (out : List ℤ) : Type 0 where
  pub lent : Lent n m sources targets
  pub ordered : Order (Wired m sources targets) n order
  pub order_long : n ≤ length order
  pub delays : Delays n m wire_delays gate_delays
  pub arrival_small : arrival ≤ max_time
  pub deadline_small : deadline ≤ max_time
  pub out_long : n ≤ length out
