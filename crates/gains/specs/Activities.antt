-- The input activities of gates as the code finds them, and what is asked of the arrays.
use Rattle.std.specs.Prelude.{◌≡◌, cond, List, ℕ, ◌*◌, ◌≤◌, ◌<◌, eqb, length, get_or}
use Rattle.lists.specs.Sum.{sum}
use Rattle.lists.specs.Over.{build, over}
use Rattle.model.specs.Limits.{max_wires, max_activity}
use Rattle.ordering.specs.Wires.{Lent}

-- no input activity is greater
abbrev pub max_input : ℕ
max_input = max_wires * max_activity

-- what the wire at place i brings to gate g: the activity of its source's net where it leads to g
abbrev pub brought : List ℕ → List ℕ → List ℕ → ℕ → ℕ → ℕ
brought sources targets activities g i = cond (eqb (get_or targets i 0) g) (get_or activities (get_or sources i 0) 0) 0

-- what the first m wires bring to gate g
abbrev pub brought_by : ℕ → List ℕ → List ℕ → List ℕ → ℕ → ℕ
brought_by m sources targets activities g = sum m (brought sources targets activities g)

-- the input activity of gate g, where `first` is the gate that has the input's own
abbrev pub input_in : ℕ → List ℕ → List ℕ → List ℕ → ℕ → ℕ → ℕ → ℕ
input_in m sources targets activities first input g = cond (eqb g first) input (brought_by m sources targets activities g)

-- The wires and the activities of n gates are at hand, none greater than a net's can be, and `out` has room.
pub record Summable (n m : ℕ) (sources targets activities out : List ℕ) : Type 0 where
  pub lent : Lent n m sources targets
  pub activities_long : n ≤ length activities
  pub activity_small : (g : ℕ) → g < n → get_or activities g 0 ≤ max_activity
  pub out_long : n ≤ length out

-- The first n elements of `out` are the gates' input activities, all others are as in `before`.
abbrev pub InputActivities : ℕ → ℕ → List ℕ → List ℕ → List ℕ → ℕ → ℕ → List ℕ → List ℕ → Type 0
InputActivities n m sources targets activities first input before out =
    out ≡ over (build n (input_in m sources targets activities first input)) before
