-- The slacks of a network in arrays: the latest times from the first gate on and, in the turned network, from the last gate back, leave of the deadline what `slack_in` says.
-- Assumes nothing.
use mathlib.Core.Path.{◌≡◌, sym, ◌∙◌, ap}
use mathlib.Core.List.{List}
use Prim.Native.Nat.{ℕ, ◌+◌, ◌-◌, ◌<◌}
use native.Mathlib.Omega.{arith}
use lib.IntN.{ℤ, pos, ◌-ℤ◌}
use lib.ListN.{length, get_or}
use Rattle.lists.specs.Over.{build, over}
use Rattle.lists.proofs.Over.{build_same}
use Rattle.model.specs.Limits.{max_gates}
use Rattle.model.specs.InTime.{no_increase}
use Rattle.model.specs.Slack.{latest_in, source_by, required_by}
use Rattle.model.specs.Arrays.{wires_in}
use Rattle.model.proofs.Signed.{minus_minus}
use Rattle.model.proofs.Slack.{zeros}
use Rattle.model.proofs.Source.{Along, source_equation}
use Rattle.model.proofs.Turned.{required_turned}
use Rattle.ordering.proofs.Front.{front_at}
use Rattle.timing.specs.Times.{Timeable, source_in, LatestTimes}
use Rattle.timing.specs.Slacks.{Reversed, Slackable, Subtractable, left_at, slack_in}
use Rattle.timing.proofs.Found.{along, source_bounded}
use Rattle.timing.proofs.Reversal.{order_reversed, lent_turned, turn_arrays}

module _ (n m : ℕ) (order sources targets wire_delays gate_delays : List ℕ) (arrival deadline : ℕ) (out : List ℤ) (able : Slackable n m order sources targets wire_delays gate_delays arrival deadline out) where
  pub forward_able : Timeable n m order sources targets wire_delays gate_delays arrival (no_increase max_gates)
  forward_able =
      record {
        lent = able.lent;
        ordered = able.ordered;
        order_long = able.order_long;
        delays = able.delays;
        base_small = able.arrival_small;
        times_long = able.lent.gates;
        bounded = λ (g : ℕ). omega (arith, zeros max_gates g);
      }

  pub back_able : (back : List ℕ) → length back ≡ max_gates → Reversed n order back → Timeable n m back targets sources wire_delays gate_delays 0 (no_increase max_gates)
  back_able back long reversed =
      record {
        lent = lent_turned n m sources targets able.lent;
        ordered = order_reversed n m sources targets order back reversed able.ordered able.lent;
        order_long = omega (arith, able.lent.gates);
        delays = able.delays;
        base_small = omega arith;
        times_long = able.lent.gates;
        bounded = λ (g : ℕ). omega (arith, zeros max_gates g);
      }

  module _ (back times tails : List ℕ) (reversed : Reversed n order back) (forth_right : LatestTimes n m sources targets wire_delays gate_delays arrival (no_increase max_gates) times) (back_right : LatestTimes n m targets sources wire_delays gate_delays 0 (no_increase max_gates) tails) where
    abbrev turned_along : Along (wires_in m targets sources wire_delays) n
    turned_along =
        along n m targets sources wire_delays back (lent_turned n m sources targets able.lent)
        (order_reversed n m sources targets order back reversed able.ordered able.lent)

    abbrev delay : ℕ → ℕ
    delay h = get_or gate_delays h 0

    forth_at : (g : ℕ) → g < n → get_or times g 0 ≡ source_in n m sources targets wire_delays gate_delays arrival g
    forth_at = front_at n (source_in n m sources targets wire_delays gate_delays arrival) (no_increase max_gates) times forth_right

    back_at : (g : ℕ) → g < n → get_or tails g 0 ≡ source_in n m targets sources wire_delays gate_delays 0 g
    back_at = front_at n (source_in n m targets sources wire_delays gate_delays 0) (no_increase max_gates) tails back_right

    -- the longest way on from the gate's output
    abbrev tail : ℕ → ℕ
    tail g = latest_in (wires_in m targets sources wire_delays) (source_by n (wires_in m targets sources wire_delays) delay 0) 0 g

    tail_is : (g : ℕ) → g < n → get_or tails g 0 ≡ tail g + delay g
    tail_is g h = back_at g h ∙ source_equation (wires_in m targets sources wire_delays) delay 0 n turned_along g h

    pub subtractable : length times ≡ max_gates → length tails ≡ max_gates → Subtractable n times tails gate_delays deadline out
    subtractable times_long tails_long =
        record {
          times_long = omega (arith, able.lent.gates);
          tails_long = omega (arith, able.lent.gates);
          delays_long = able.delays.gates_long;
          out_long = able.out_long;
          deadline_small = able.deadline_small;
          times_small =
              λ (g : ℕ) (h : g < n).
              omega (
                arith,
                forth_at g h,
                source_bounded n m sources targets wire_delays delay arrival (λ (i : ℕ) (l : i < m). (able.delays.of_wire i l, able.lent.source_is_gate i l)) able.delays.of_gate n g h,
                able.arrival_small,
                able.lent.gates,
              );
          tails_small =
              λ (g : ℕ) (h : g < n).
              omega (
                arith,
                back_at g h,
                source_bounded n m targets sources wire_delays delay 0 (λ (i : ℕ) (l : i < m). (able.delays.of_wire i l, able.lent.target_is_gate i l)) able.delays.of_gate n g h,
                able.lent.gates,
              );
          own_delay = λ (g : ℕ) (h : g < n). omega (arith, tail_is g h);
        }

    left_is_slack : (g : ℕ) → g < n → left_at times tails gate_delays deadline g ≡ slack_in n m sources targets wire_delays gate_delays arrival deadline g
    left_is_slack g h =
        let ws = wires_in m sources targets wire_delays in
        let turned = turn_arrays m sources targets wire_delays in
        let required : required_by n ws delay (pos deadline) g ≡ pos deadline -ℤ pos (tail g) =
        rw turned at (required_turned ws delay deadline n (rw (← turned) at turned_along) n g (turned_along.below g h)) in
        let sum : get_or times g 0 + (get_or tails g 0 - delay g) ≡ tail g + source_by n ws delay arrival g = omega (arith, forth_at g h, tail_is g h) in
        ap (λ (t : ℕ). pos deadline -ℤ pos t) sum
        ∙ sym (minus_minus deadline (tail g) (source_by n ws delay arrival g))
        ∙ ap (λ (z : ℤ). z -ℤ pos (source_by n ws delay arrival g)) (sym required)

    pub slacks_are : over (build n (left_at times tails gate_delays deadline)) out ≡ over (build n (slack_in n m sources targets wire_delays gate_delays arrival deadline)) out
    slacks_are = ap (λ (xs : List ℤ). over xs out) (build_same n (left_at times tails gate_delays deadline) (slack_in n m sources targets wire_delays gate_delays arrival deadline) left_is_slack)
