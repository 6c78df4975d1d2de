-- Words of a block filled from an array for each kind of numbers.
use Rattle.std.specs.Prelude.{◌≡◌, ◌≢◌, List, ℕ, ◌+◌, ◌≤◌, ◌<◌, length, get_or, set}
use Rattle.model.specs.Limits.{max_gates, max_steps}
use Rattle.model.specs.Arrays.{step_place}
use Rattle.blockwords.specs.BlockWords.{counts_from, widths_from, drops_from, inputs_from, block_words, gates_held, counts_of, widths_of, drops_of, inputs_of}

-- There is room for the n gates and their steps, and all the words are there.
pub record Gatherable (n : ℕ) (counts block : List ℕ) : Type 0 where
  pub gates : n ≤ max_gates
  pub few : (g : ℕ) → g < n → get_or counts g 0 ≤ max_steps
  pub long : block_words ≤ length block

-- The words hold gate g as the arrays do.
pub record GateHeld (g : ℕ) (counts step_widths drops inputs block : List ℕ) : Type 0 where
  pub count : get_or (counts_of block) g 0 ≡ get_or counts g 0
  pub input : get_or (inputs_of block) g 0 ≡ get_or inputs g 0
  pub width : (j : ℕ) → j < get_or counts g 0 → get_or (widths_of block) (step_place g j) 0 ≡ get_or step_widths (step_place g j) 0
  pub drop : (j : ℕ) → j < get_or counts g 0 → get_or (drops_of block) (step_place g j) 0 ≡ get_or drops (step_place g j) 0

-- The words hold the number n of gates, and the first k gates.
pub record GatheredTo (k n : ℕ) (counts step_widths drops inputs block : List ℕ) : Type 0 where
  pub gates : gates_held block ≡ n
  pub each : (g : ℕ) → g < k → GateHeld g counts step_widths drops inputs block
  pub long : block_words ≤ length block

-- The words hold all n gates.
abbrev pub Gathered : ℕ → List ℕ → List ℕ → List ℕ → List ℕ → List ℕ → Type 0
Gathered n = GatheredTo n n

-- the block with step j of gate g written
abbrev pub with_step : ℕ → ℕ → List ℕ → List ℕ → List ℕ → List ℕ
with_step g j step_widths drops block =
    let p = step_place g j in
    set (set block (p + widths_from) (get_or step_widths p 0)) (p + drops_from) (get_or drops p 0)

-- word p is none of the steps of gate g
abbrev pub BesideSteps : ℕ → ℕ → Type 0
BesideSteps g p = (j : ℕ) → j < max_steps → (p ≢ step_place g j + widths_from) × (p ≢ step_place g j + drops_from)

-- The first `count` steps of gate g are written, and no word beside its steps.
pub record StepsWritten (g count : ℕ) (step_widths drops block block' : List ℕ) : Type 0 where
  pub width : (j : ℕ) → j < count → get_or block' (step_place g j + widths_from) 0 ≡ get_or step_widths (step_place g j) 0
  pub drop : (j : ℕ) → j < count → get_or block' (step_place g j + drops_from) 0 ≡ get_or drops (step_place g j) 0
  pub kept : (p : ℕ) → BesideSteps g p → get_or block' p 0 ≡ get_or block p 0
  pub long : length block' ≡ length block

-- the block with the number of steps and the input activity of gate g written
abbrev pub with_numbers : ℕ → List ℕ → List ℕ → List ℕ → List ℕ
with_numbers g counts inputs block = set (set block (g + counts_from) (get_or counts g 0)) (g + inputs_from) (get_or inputs g 0)

-- word p is none of gate g
abbrev pub BesideGate : ℕ → ℕ → Type 0
BesideGate g p = (j : ℕ) → j < max_steps → (p ≢ g + counts_from) × (p ≢ g + inputs_from) × (p ≢ step_place g j + widths_from) × (p ≢ step_place g j + drops_from)

-- Gate g is written, and no word beside it.
pub record GateWritten (g : ℕ) (counts step_widths drops inputs block block' : List ℕ) : Type 0 where
  pub held : GateHeld g counts step_widths drops inputs block'
  pub kept : (p : ℕ) → BesideGate g p → get_or block' p 0 ≡ get_or block p 0
  pub long : length block' ≡ length block
