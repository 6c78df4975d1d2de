-- In a block within the limits the wires into a gate come from different gates, none of them the gate itself: so its input activity is at most `max_gates` − 1 times the greatest activity, and no gain is above `max_gain`.
-- The wires are gone through one after another: each one into the gate comes from a source that counted nothing before.
-- Assumes nothing.
use mathlib.Core.Path.{◌≡◌, refl, sym, ◌∙◌}
use mathlib.Core.Logic.{◌≢◌}
use mathlib.Core.Bool.{Bool, true, false, cond, ◌&&◌, ◌||◌}
use mathlib.Core.List.{List, [], ◌∷◌}
use Prim.Native.Nat.{ℕ, suc, ◌+◌, ◌*◌, ◌-◌, ◌<◌, ◌≤◌}
use native.Mathlib.Nat.{mul-le-mul}
use native.Mathlib.Decide.{ℕ_discrete}
use native.Mathlib.Omega.{arith}
use lib.Dec.{eqb, ltb}
use lib.ListN.{length, get_or}
use borrow.Author.Tests.{eq-eqb, ne_eqb, eqb-true}
use Rattle.lists.specs.Sum.{sum, total}
use Rattle.lists.proofs.Sum.{sum_le, sum_grows}
use Rattle.lists.proofs.Bool.{cases}
use Rattle.model.specs.Limits.{max_gates, max_drop, max_activity, max_gain}
use Rattle.model.specs.Block.{Step, Wire, Block, gate, gate_count}
use Rattle.model.specs.Gain.{drop_of, brings, input_activity, gain}
use Rattle.model.proofs.Limited.{StepLimits, WireLimits, BlockLimits}
use Rattle.gains.proofs.Sums.{sum_bounded}
use Rattle.gains.proofs.Activities.{cond_at_most}

-- The wires join gates below n, no gate to itself, and none stands twice.
record Tidy (n : ℕ) (ws : List Wire) : Type 0 where
  limits : (i : ℕ) (d : Wire) → i < length ws → WireLimits n (get_or ws i d)
  once : (i j : ℕ) (d : Wire) → i < j → j < length ws → (get_or ws j d).source ≡ (get_or ws i d).source → (get_or ws j d).target ≢ (get_or ws i d).target

tidy_rest : (n : ℕ) (w : Wire) (ws : List Wire) → Tidy n (w ∷ ws) → Tidy n ws
tidy_rest n w ws t =
    record {
      limits = λ (i : ℕ) (d : Wire) (h : i < length ws). t.limits (suc i) d (omega arith);
      once = λ (i j : ℕ) (d : Wire) (h : i < j) (k : j < length ws). t.once (suc i) (suc j) d (omega arith) (omega arith);
    }

abbrev no_wire : Wire
no_wire = record { source = 0; target = 0; delay = 0 }

more_or_same : (a b : Bool) (v : ℕ) → cond b v 0 ≤ cond (a || b) v 0
more_or_same true true v = omega arith
more_or_same true false v = omega arith
more_or_same false b v = omega arith

module _ (g : ℕ) where
  -- whether a wire leads from h to g
  leads : List Wire → ℕ → Bool
  leads [] h = false
  leads (w ∷ ws) h = (eqb w.source h && eqb w.target g) || leads ws h

  -- the greatest activity where a wire leads from h to g, and else nothing
  most_from : List Wire → ℕ → ℕ
  most_from ws h = cond (leads ws h) max_activity 0

  -- the place of a wire from h to g
  record From (ws : List Wire) (h : ℕ) : Type 0 where
    place : ℕ
    below : place < length ws
    at : (d : Wire) → ((get_or ws place d).source ≡ h) × ((get_or ws place d).target ≡ g)

  further : (w : Wire) (ws : List Wire) (h : ℕ) → From ws h → From (w ∷ ws) h
  further w ws h f = let l = f.below in record { place = suc f.place; below = omega arith; at = f.at }

  from : (ws : List Wire) (h : ℕ) → leads ws h ≡ true → From ws h
  unfolding leads
  from [] h e = absurd (no_true e)
    where
      no_true : false ≡ true → ⊥
      no_true p = let z : ◌≡◌ {A = ℕ} 0 1 = cc in omega arith
  from (w ∷ ws) h e = go (eqb w.source h) (eqb w.target g) refl refl (λ (k : leads ws h ≡ true). further w ws h (from ws h k))
    where
      go : (a b : Bool) → eqb w.source h ≡ a → eqb w.target g ≡ b → (leads ws h ≡ true → From (w ∷ ws) h) → From (w ∷ ws) h
      go true true s t on = record { place = 0; below = omega arith; at = λ d. (eqb-true w.source h s, eqb-true w.target g t) }
      go true false s t on = on (rw (s, t) at e)
      go false b s t on = on (rw s at e)

  not_led : (ws : List Wire) (h : ℕ) → ¬ (From ws h) → leads ws h ≡ false
  not_led ws h none = cases (leads ws h) (λ (e : leads ws h ≡ true). absurd (none (from ws h e))) (λ (e : leads ws h ≡ false). e)

  module _ (B : Block) (n : ℕ) (small : (h : ℕ) → (gate B h).activity ≤ max_activity) where
    brings_at_most : (ws : List Wire) → Tidy n ws → total (brings B g) ws ≤ sum n (most_from ws)
    unfolding total leads most_from
    brings_at_most [] t = omega arith
    brings_at_most (w ∷ ws) t = by (ℕ_discrete w.target g) (brings_at_most ws (tidy_rest n w ws t))
      where
        by : Dec (w.target ≡ g) → total (brings B g) ws ≤ sum n (most_from ws) → brings B g w + total (brings B g) ws ≤ sum n (most_from (w ∷ ws))
        by (yes e) so_far =
            let first_time = not_led ws w.source (λ (f : From ws w.source). t.once 0 (suc f.place) w (omega arith) (let l = f.below in omega arith) (f.at w).0 ((f.at w).1 ∙ sym e)) in
            let grown : sum n (most_from (w ∷ ws)) ≡ sum n (most_from ws) + max_activity =
            sum_grows n (most_from ws) (most_from (w ∷ ws)) w.source max_activity (t.limits 0 w (omega arith)).source_below
            (λ (h : ℕ) (l : h < n) (o : h ≢ w.source). rw (ne_eqb w.source h (λ (s : w.source ≡ h). o (sym s))))
            (rw (eq-eqb w.source w.source refl, eq-eqb w.target g e, first_time)) in
            rw (eq-eqb w.target g e) (omega (arith, small w.source))
        by (no u) so_far =
            let more : sum n (most_from ws) ≤ sum n (most_from (w ∷ ws)) =
            sum_le n (most_from ws) (most_from (w ∷ ws)) (λ (h : ℕ) (l : h < n). more_or_same (eqb w.source h && eqb w.target g) (leads ws h) max_activity) in
            rw (ne_eqb w.target g u) (omega arith)

    -- g itself is no source: one gate less than all
    brought_most : (ws : List Wire) → Tidy n ws → g < n → total (brings B g) ws + max_activity ≤ n * max_activity
    unfolding most_from
    brought_most ws t h =
        let not_itself = not_led ws g (λ (f : From ws g). (t.limits f.place no_wire f.below).apart ((f.at no_wire).0 ∙ sym (f.at no_wire).1)) in
        let with_itself : ℕ → ℕ = λ (k : ℕ). cond (eqb k g) max_activity (most_from ws k) in
        let grown : sum n with_itself ≡ sum n (most_from ws) + max_activity =
        sum_grows n (most_from ws) with_itself g max_activity h
        (λ (k : ℕ) (l : k < n) (o : k ≢ g). rw (ne_eqb k g o))
        (rw (eq-eqb g g refl, not_itself)) in
        omega (
          arith,
          brings_at_most ws t,
          sum_bounded n with_itself max_activity
              (λ (k : ℕ) (l : k < n). cond_at_most (eqb k g) max_activity (most_from ws k) max_activity (omega arith) (cond_at_most (leads ws k) max_activity 0 max_activity (omega arith) (omega arith))),
        )

-- no gate's input activity is above `max_gates` − 1 times the greatest activity
pub input_most : (B : Block) → BlockLimits B → (g : ℕ) → g < gate_count B → input_activity B g ≤ (max_gates - 1) * max_activity
unfolding input_activity
input_most B l g h =
    cond_at_most (eqb g 0) B.activity (total (brings B g) B.wires) ((max_gates - 1) * max_activity) (omega (arith, l.activity_most))
    (omega (
      arith,
      brought_most g B (gate_count B) (λ (k : ℕ). (l.gate_limits k).activity_most) B.wires (record { limits = l.wire_limits; once = l.no_wire_twice }) h,
      l.gates_most,
    ))

drop_most : (ss : List Step) (k : ℕ) → ((j : ℕ) (d : Step) → j < length ss → StepLimits (get_or ss j d)) → drop_of ss k ≤ max_drop
unfolding drop_of
drop_most [] k limits = omega arith
drop_most (s ∷ ss) k limits =
    cond_at_most (ltb k s.width) s.drop (drop_of ss (k - s.width)) max_drop (limits 0 s (omega arith)).drop_most
    (drop_most ss (k - s.width) (λ (j : ℕ) (d : Step) (h : j < length ss). limits (suc j) d (omega arith)))

-- no gain is above `max_gain`
pub gain_most : (B : Block) → BlockLimits B → (g k : ℕ) → g < gate_count B → gain B g k ≤ max_gain
unfolding gain
gain_most B l g k h = mul-le-mul (drop_most (gate B g).steps k (l.gate_limits g).step_limits) (input_most B l g h)
