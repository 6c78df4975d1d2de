-- What increases earn, and what is asked to find it.
use Rattle.std.specs.Prelude.{◌≡◌, List, ℕ, ◌*◌, ◌≤◌, ◌<◌, length, get_or, take}
use Rattle.lists.specs.Sum.{sum}
use Rattle.model.specs.Limits.{max_gates, max_steps, max_width, max_drop}
use Rattle.model.specs.Block.{Step, Block}
use Rattle.model.specs.Gain.{drop_of, input_activity, saving}
use Rattle.gains.specs.Steps.{StepsLent, Held}
use Rattle.gains.specs.Activities.{max_input}

-- what the first k ticks earn of a gate with these steps and this input activity
abbrev pub earned : List Step → ℕ → ℕ → ℕ
earned steps activity k = sum k (λ (i : ℕ). drop_of steps i * activity)

-- no step earns more
abbrev pub most_of_step : ℕ
most_of_step = max_width * (max_drop * max_input)

-- no gate earns more
abbrev pub most_of_gate : ℕ
most_of_gate = max_steps * most_of_step

-- r is what the increase of a gate earns
pub record GateSaving (steps : List Step) (activity increase r : ℕ) : Type 0 where
  pub is : r ≡ earned steps activity increase
  pub small : r ≤ most_of_gate

-- The steps, the input activities and the increases of n gates are at hand.
pub record Earnable (n : ℕ) (counts step_widths drops inputs increases : List ℕ) : Type 0 where
  pub gates : n ≤ max_gates
  pub steps : (g : ℕ) → g < n → StepsLent counts step_widths drops g
  pub inputs_long : n ≤ length inputs
  pub input_small : (g : ℕ) → g < n → get_or inputs g 0 ≤ max_input
  pub increases_long : n ≤ length increases

-- r is the saving of the increases, for every block whose gates have these steps and these input activities.
pub record ListSaving (n : ℕ) (counts step_widths drops inputs increases : List ℕ) (r : ℕ) : Type 0 where
  pub small : r ≤ n * most_of_gate
  pub of_front : (B : Block) → Held B n counts step_widths drops → ((g : ℕ) → g < n → get_or inputs g 0 ≡ input_activity B g) → r ≡ saving B (take n increases)
  pub of_all : (B : Block) → Held B n counts step_widths drops → ((g : ℕ) → g < n → get_or inputs g 0 ≡ input_activity B g) → r ≡ saving B increases
