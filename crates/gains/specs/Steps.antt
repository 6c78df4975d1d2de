-- The steps of gates as the code holds them, and what is asked of the arrays.
use Rattle.std.specs.Prelude.{◌≡◌, Option, Some, None, List, ℕ, ◌≤◌, ◌<◌, length, get_or}
use Rattle.lists.specs.Sum.{sum}
use Rattle.lists.specs.Over.{build}
use Rattle.lists.specs.Search.{Lowest}
use Rattle.model.specs.Limits.{max_gates, max_steps, max_width, max_drop}
use Rattle.model.specs.Block.{Step, Block}
use Rattle.model.specs.Arrays.{step_place, step_at, gates_in}
use Rattle.model.specs.Answer.{Exceeds}

-- the steps of gate g
abbrev pub steps_in : List ℕ → List ℕ → List ℕ → ℕ → List Step
steps_in counts step_widths drops g = build (get_or counts g 0) (step_at step_widths drops g)

-- the sum of the widths of gate g
abbrev pub widths_in : List ℕ → List ℕ → ℕ → ℕ
widths_in counts step_widths g = sum (get_or counts g 0) (λ (j : ℕ). get_or step_widths (step_place g j) 0)

-- The widths of gate g are at hand, none wider than a step can be.
pub record WidthsLent (counts step_widths : List ℕ) (g : ℕ) : Type 0 where
  pub gate_small : g < max_gates
  pub counted : g < length counts
  pub few : get_or counts g 0 ≤ max_steps
  pub widths_long : step_place g max_steps ≤ length step_widths
  pub width_small : (j : ℕ) → j < get_or counts g 0 → get_or step_widths (step_place g j) 0 ≤ max_width

-- The steps of gate g are at hand, none wider and none with a greater drop than a step can be.
pub record StepsLent (counts step_widths drops : List ℕ) (g : ℕ) : Type 0 where
  pub widths_lent : WidthsLent counts step_widths g
  pub drops_long : step_place g max_steps ≤ length drops
  pub drop_small : (j : ℕ) → j < get_or counts g 0 → get_or drops (step_place g j) 0 ≤ max_drop

-- The arrays hold the steps of the n gates of the block B.
pub record Held (B : Block) (n : ℕ) (counts step_widths drops : List ℕ) : Type 0 where
  pub delays : List ℕ
  pub activities : List ℕ
  pub gates : B.gates ≡ gates_in n delays activities counts step_widths drops

-- the lowest of n gates whose increase exceeds its widths, and the only one that is the lowest; where there is none, no gate's increase does
abbrev pub LowestExceeding : Block → List ℕ → ℕ → Option ℕ → Type 0
LowestExceeding B x n (Some r) = (r < n) × Lowest (Exceeds B x) r × ((g : ℕ) → Lowest (Exceeds B x) g → g ≡ r)
LowestExceeding B x n None = (g : ℕ) → ¬ (Exceeds B x g)
