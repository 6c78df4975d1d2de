-- Storing a gate: its steps one after another, then its numbers; the places of the gates below are not touched.
-- Assumes nothing.
use mathlib.Core.Path.{◌≡◌, refl, sym, ◌∙◌}
use mathlib.Core.Logic.{⊎_elim}
use mathlib.Core.List.{List}
use Prim.Native.Nat.{ℕ, ◌+◌, ◌*◌, ◌-◌, ◌/◌, ◌%◌, ◌<◌, ◌≤◌}
use native.Mathlib.Nat.{eq-or-lt_of_le}
use native.Mathlib.Omega.{arith}
use lib.ListN.{length, set, take, drop}
use lib.Seq.{get_or-set_same, get_or-set_other}
use Rattle.lists.proofs.Over.{build_same}
use Rattle.model.specs.Field.{number}
use Rattle.model.specs.Arrays.{step_place, step_at}
use Rattle.blockfile.specs.Held.{Kept, StepsStored, GateStored, gate_arrays}
use Rattle.ranges.specs.Kinds.{step_of}
use Rattle.ranges.proofs.Steps.{by_index, steps_part}

-- nothing is stored yet
pub kept_all : (n : ℕ) (l : List ℕ) → Kept n l l
kept_all n l i h = refl

-- a store at or behind n leaves what is below n
pub kept_set : (n : ℕ) (old l : List ℕ) (p v : ℕ) → n ≤ p → Kept n old l → Kept n old (set l p v)
kept_set n old l p v h k i g = get_or-set_other l p i v 0 (omega arith) ∙ k i g

-- The first j steps are stored as those of gate g, and those of the gates below are as they were.
pub record StepsSoFar (s : List ℕ) (g j : ℕ) (old_widths old_drops widths drops : List ℕ) : Type 0 where
  pub stored : (i : ℕ) → i < j → step_at widths drops g i ≡ step_of s i
  pub widths_kept : Kept (g * 8) old_widths widths
  pub drops_kept : Kept (g * 8) old_drops drops

pub steps_none : (s : List ℕ) (g : ℕ) (w d : List ℕ) → StepsSoFar s g 0 w d w d
steps_none s g w d =
    record { stored = λ (i : ℕ) (h : i < 0). absurd (omega arith); widths_kept = kept_all (g * 8) w; drops_kept = kept_all (g * 8) d }

pub steps_more : (s : List ℕ) (g j : ℕ) (w₀ d₀ w d : List ℕ) (x y : ℕ) → step_place g j < length w → step_place g j < length d
    → x ≡ (step_of s j).width
    → y ≡ (step_of s j).drop
    → StepsSoFar s g j w₀ d₀ w d
    → StepsSoFar s g (j + 1) w₀ d₀ (set w (step_place g j) x) (set d (step_place g j) y)
steps_more s g j w₀ d₀ w d x y hw hd ex ey r =
    record {
      stored = λ (i : ℕ) (h : i < j + 1).
          ⊎_elim
          (λ (e : i ≡ j).
          rw (e, get_or-set_same w (step_place g j) x 0 hw, get_or-set_same d (step_place g j) y 0 hd, ex, ey))
          (λ (l : i < j).
          rw (
            get_or-set_other w (step_place g j) (step_place g i) x 0 (omega arith),
            get_or-set_other d (step_place g j) (step_place g i) y 0 (omega arith),
          )
          (r.stored i l))
          (eq-or-lt_of_le (omega arith));
      widths_kept = kept_set (g * 8) w₀ w (step_place g j) x (omega arith) r.widths_kept;
      drops_kept = kept_set (g * 8) d₀ d (step_place g j) y (omega arith) r.drops_kept;
    }

-- all are stored
pub steps_all : (s : List ℕ) (g j : ℕ) (w₀ d₀ w d : List ℕ) → length s % 4 ≡ 0 → length s ≤ 32 → j ≡ length s / 4 → StepsSoFar s g j w₀ d₀ w d
    → StepsStored s g j w₀ d₀ w d
steps_all s g j w₀ d₀ w d even most e r =
    record {
      most = omega arith;
      stored = build_same j (step_at w d g) (step_of s) r.stored ∙ rw e (sym (by_index s even));
      widths_kept = r.widths_kept;
      drops_kept = r.drops_kept;
    }

-- a gate is stored
pub gate_stored : (b : List ℕ) (g : ℕ) (ds us cs ws ps ws' ps' : List ℕ) (x a k : ℕ) → g < length ds → g < length us → g < length cs
    → x ≡ number b 0
    → StepsStored (take (length b - 4) (drop 4 b)) g k ws ps ws' ps'
    → GateStored b a g (gate_arrays ds us cs ws ps) (gate_arrays (set ds g x) (set us g a) (set cs g k) ws' ps')
gate_stored b g ds us cs ws ps ws' ps' x a k hd ha hc ex r =
    record {
      stored = rw (
        get_or-set_same ds g x 0 hd,
        get_or-set_same us g a 0 ha,
        get_or-set_same cs g k 0 hc,
        ex,
        r.stored,
        steps_part b,
      );
      kept = record {
        delays = kept_set g ds ds g x (omega arith) (kept_all g ds);
        activities = kept_set g us us g a (omega arith) (kept_all g us);
        counts = kept_set g cs cs g k (omega arith) (kept_all g cs);
        step_widths = r.widths_kept;
        drops = r.drops_kept;
      };
    }
