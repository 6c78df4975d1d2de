-- The start of a network in arrays: the latest time at its last gate.
-- Assumes nothing.
use mathlib.Core.List.{List}
use Prim.Native.Nat.{ℕ, ◌-◌, ◌<◌}
use native.Mathlib.Omega.{arith}
use lib.ListN.{get_or}
use Rattle.model.specs.Limits.{max_gates}
use Rattle.model.specs.InTime.{no_increase}
use Rattle.model.proofs.Slack.{zeros}
use Rattle.ordering.proofs.Front.{front_at}
use Rattle.timing.specs.Times.{Timeable, source_in, LatestTimes}
use Rattle.timing.specs.Start.{Startable, StartIs}
use Rattle.timing.proofs.Found.{source_bounded}

module _ (n m : ℕ) (order sources targets wire_delays gate_delays : List ℕ) (s : Startable n m order sources targets wire_delays gate_delays) where
  pub start_timeable : Timeable n m order sources targets wire_delays gate_delays 0 (no_increase max_gates)
  start_timeable =
      record {
        lent = s.lent;
        ordered = s.ordered;
        order_long = s.order_long;
        delays = s.delays;
        base_small = omega arith;
        times_long = s.lent.gates;
        bounded = λ (g : ℕ). omega (arith, zeros max_gates g);
      }

  pub start_found : (times : List ℕ) → LatestTimes n m sources targets wire_delays gate_delays 0 (no_increase max_gates) times → StartIs n m sources targets wire_delays gate_delays (get_or times (n - 1) 0)
  start_found times right =
      let below : n - 1 < n = omega (arith, s.some) in
      let last = front_at n (source_in n m sources targets wire_delays gate_delays 0) (no_increase max_gates) times right (n - 1) below in
      record {
        is = last;
        small =
            omega (
              arith,
              last,
              source_bounded n m sources targets wire_delays (λ (x : ℕ). get_or gate_delays x 0) 0
                  (λ (i : ℕ) (h : i < m). (s.delays.of_wire i h, s.lent.source_is_gate i h)) s.delays.of_gate n (n - 1) below,
              s.lent.gates,
            );
      }
