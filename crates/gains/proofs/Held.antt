-- What the arrays hold of a block: how many gates it has, their steps, and the sums of their widths. Within the limits it is what the code asks of the arrays.
-- Assumes nothing.
use mathlib.Core.Path.{◌≡◌, ◌∙◌, ap, subst}
use mathlib.Core.List.{List}
use Prim.Native.Nat.{ℕ, ◌*◌, ◌≤◌, ◌<◌}
use native.Mathlib.Omega.{arith}
use lib.ListN.{length, get_or}
use Rattle.lists.proofs.Over.{length_build, get_or_build}
use Rattle.model.specs.Limits.{max_steps}
use Rattle.model.specs.Block.{Step, Gate, Block, gate, gate_count, no_gate, widths}
use Rattle.model.specs.Arrays.{step_at, gate_at}
use Rattle.model.proofs.Limited.{StepLimits, BlockLimits}
use Rattle.gains.specs.Steps.{steps_in, widths_in, StepsLent, Held}
use Rattle.gains.proofs.Sums.{total_build}

-- the widths of a gate's steps are summed over their places
pub widths_are : (counts step_widths drops : List ℕ) (g : ℕ) → widths (steps_in counts step_widths drops g) ≡ widths_in counts step_widths g
widths_are counts step_widths drops g = total_build (λ (s : Step). s.width) (get_or counts g 0) (step_at step_widths drops g)

module _ (B : Block) (n : ℕ) (counts step_widths drops : List ℕ) (held : Held B n counts step_widths drops) where
  pub held_count : gate_count B ≡ n
  held_count = ap length held.gates ∙ length_build n (gate_at held.delays held.activities counts step_widths drops)

  pub held_steps : (g : ℕ) → g < n → (gate B g).steps ≡ steps_in counts step_widths drops g
  held_steps g h =
      ap (λ (gs : List Gate). (get_or gs g no_gate).steps) held.gates
      ∙ ap (λ (x : Gate). x.steps) (get_or_build n (gate_at held.delays held.activities counts step_widths drops) g no_gate h)

  pub held_widths : (g : ℕ) → g < n → widths (gate B g).steps ≡ widths_in counts step_widths g
  held_widths g h = ap widths (held_steps g h) ∙ widths_are counts step_widths drops g

  held_step : (g j : ℕ) → g < n → j < get_or counts g 0 → BlockLimits B → StepLimits (step_at step_widths drops g j)
  held_step g j h k limits =
      let s = step_at step_widths drops g j in
      subst StepLimits (ap (λ (ss : List Step). get_or ss j s) (held_steps g h) ∙ get_or_build (get_or counts g 0) (step_at step_widths drops g) j s k)
      ((limits.gate_limits g).step_limits j s (rw (held_steps g h, length_build) k))

  -- the steps of a block within the limits are as small as is asked
  pub held_lent : BlockLimits B → n ≤ length counts → n * max_steps ≤ length step_widths → n * max_steps ≤ length drops → (g : ℕ) → g < n → StepsLent counts step_widths drops g
  held_lent limits counts_long widths_long drops_long g h =
      record {
        widths_lent =
            record {
              gate_small = omega (arith, held_count, limits.gates_most);
              counted = omega arith;
              few = rw (← length_build (get_or counts g 0) (step_at step_widths drops g), ← held_steps g h) (limits.gate_limits g).step_count;
              widths_long = omega arith;
              width_small = λ (j : ℕ) (k : j < get_or counts g 0). (held_step g j h k limits).width_most;
            };
        drops_long = omega arith;
        drop_small = λ (j : ℕ) (k : j < get_or counts g 0). (held_step g j h k limits).drop_most;
      }
