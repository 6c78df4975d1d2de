-- What `times_from` makes of the arrays lent to it: fresh chains, and what is asked once they are made.
-- Assumes nothing.
use mathlib.Core.Path.{◌≡◌}
use mathlib.Core.List.{List}
use Prim.Native.Nat.{ℕ}
use native.Mathlib.Omega.{arith}
use lib.ListN.{length}
use Rattle.model.specs.Limits.{max_gates, max_wires}
use Rattle.ordering.specs.Chain.{Chained}
use Rattle.timing.specs.Times.{Timeable, Ready}

module _ (n m : ℕ) (order sources targets wire_delays gate_delays : List ℕ) (base : ℕ) (times : List ℕ) (able : Timeable n m order sources targets wire_delays gate_delays base times) where
  pub once_chained : (heads links : List ℕ)
      → length heads ≡ max_gates
      → length links ≡ max_wires
      → Chained targets m heads links
      → Ready n m order sources targets wire_delays gate_delays heads links base times
  once_chained heads links h l chained =
      record {
        ordered = able.ordered;
        order_long = able.order_long;
        delays = able.delays;
        base_small = able.base_small;
        walkable =
            record {
              lent = able.lent;
              wires_long = able.delays.wires_long;
              of_wire = able.delays.of_wire;
              heads_long = omega (arith, able.lent.gates);
              links_long = omega (arith, able.lent.wires);
              chained = chained;
              times_long = able.times_long;
              bounded = able.bounded;
            };
      }
