-- What the functions of this crate ask of the arrays that are lent to them, and what they leave there.
use Rattle.std.specs.Prelude.{◌≡◌, List, ℕ, ◌+◌, ◌*◌, ◌≤◌, ◌<◌, length, get_or}
use Rattle.lists.specs.Over.{build, over}
use Rattle.model.specs.Limits.{max_delay, max_steps, max_width, max_time}
use Rattle.model.specs.Slack.{source_by}
use Rattle.model.specs.Arrays.{wires_in}
use Rattle.ordering.specs.Wires.{Lent, Wired}
use Rattle.ordering.specs.Order.{Order}
use Rattle.ordering.specs.Chain.{Chained}

-- the longest delay of a gate, slowed as far as its steps go
abbrev pub most_delay : ℕ
most_delay = max_delay + max_steps * max_width

-- no time on the way is as long as this
abbrev pub time_bound : ℕ
time_bound = 536870912

-- The delays of m wires and n gates are at hand, none longer than a wire's or a gate's can be.
pub record Delays (n m : ℕ) (wire_delays gate_delays : List ℕ) : Type 0 where
  pub wires_long : m ≤ length wire_delays
  pub gates_long : n ≤ length gate_delays
  pub of_wire : (i : ℕ) → i < m → get_or wire_delays i 0 ≤ max_time
  pub of_gate : (g : ℕ) → g < n → get_or gate_delays g 0 ≤ most_delay

-- The wires are chained by their targets, and the times found so far are no longer than the bound.
pub record Walkable (n m : ℕ) (sources targets wire_delays heads links times : List ℕ) : Type 0 where
  pub lent : Lent n m sources targets
  pub wires_long : m ≤ length wire_delays
  pub of_wire : (i : ℕ) → i < m → get_or wire_delays i 0 ≤ max_time
  pub heads_long : n ≤ length heads
  pub links_long : m ≤ length links
  pub chained : Chained targets m heads links
  pub times_long : n ≤ length times
  pub bounded : (g : ℕ) → get_or times g 0 ≤ time_bound

-- the latest time at each gate's output where signals start at `base`
abbrev pub source_in : ℕ → ℕ → List ℕ → List ℕ → List ℕ → List ℕ → ℕ → ℕ → ℕ
source_in n m sources targets wire_delays gate_delays base =
    source_by n (wires_in m sources targets wire_delays) (λ (h : ℕ). get_or gate_delays h 0) base

-- The first n elements of `times` are the gates' latest times, all others are as in `before`.
abbrev pub LatestTimes : ℕ → ℕ → List ℕ → List ℕ → List ℕ → List ℕ → ℕ → List ℕ → List ℕ → Type 0
LatestTimes n m sources targets wire_delays gate_delays base before times =
    times ≡ over (build n (source_in n m sources targets wire_delays gate_delays base)) before

-- The gates stand in an order along the wires, the wires are chained by their targets, and `times` has room for n times.
pub record Ready (n m : ℕ) (order sources targets wire_delays gate_delays heads links : List ℕ) (base : ℕ) (times : List ℕ) : Type 0 where
  pub ordered : Order (Wired m sources targets) n order
  pub order_long : n ≤ length order
  pub delays : Delays n m wire_delays gate_delays
  pub base_small : base ≤ max_time
  pub walkable : Walkable n m sources targets wire_delays heads links times

-- As `Ready`, with the chains still to be made.
pub record Timeable (n m : ℕ) (order sources targets wire_delays gate_delays : List ℕ) (base : ℕ) (times : List ℕ) : Type 0 where
  pub lent : Lent n m sources targets
  pub ordered : Order (Wired m sources targets) n order
  pub order_long : n ≤ length order
  pub delays : Delays n m wire_delays gate_delays
  pub base_small : base ≤ max_time
  pub times_long : n ≤ length times
  pub bounded : (g : ℕ) → get_or times g 0 ≤ time_bound
