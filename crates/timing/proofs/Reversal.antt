-- An order the other way round is an order of the network with its wires turned round.
-- Assumes nothing.
use mathlib.Core.Path.{◌≡◌, refl, ◌∙◌, ap}
use mathlib.Core.List.{List, [], ◌∷◌, ◌++◌}
use Prim.Native.Nat.{ℕ, zero, suc, ◌-◌, ◌<◌}
use native.Mathlib.Omega.{arith}
use lib.ListN.{get_or}
use Rattle.lists.specs.Over.{build}
use Rattle.model.specs.Block.{Wire}
use Rattle.model.specs.Arrays.{wire_at, wires_in}
use Rattle.model.proofs.Turned.{turned, turn}
use Rattle.ordering.specs.Wires.{Lent, Wired}
use Rattle.ordering.specs.Order.{Order}
use Rattle.timing.specs.Slacks.{Reversed}

pub order_reversed : (n m : ℕ) (sources targets order back : List ℕ) → Reversed n order back → Order (Wired m sources targets) n order → Lent n m sources targets → Order (Wired m targets sources) n back
order_reversed n m sources targets order back reversed ordered lent =
    record {
      place = λ (g : ℕ). n - suc (ordered.place g);
      names_gate = λ (k : ℕ) (h : k < n). rw (reversed k h) (ordered.names_gate (n - suc k) (omega arith));
      place_of =
          λ (k : ℕ) (h : k < n).
          rw (reversed k h, ordered.place_of (n - suc k) (omega arith)) (omega arith);
      has_place = λ (g : ℕ) (h : g < n). omega (arith, ordered.has_place g h);
      stands_there =
          λ (g : ℕ) (h : g < n).
          let at : n - suc (n - suc (ordered.place g)) ≡ ordered.place g = omega (arith, ordered.has_place g h) in
          reversed (n - suc (ordered.place g)) (omega (arith, ordered.has_place g h))
          ∙ ap (λ (x : ℕ). get_or order x 0) at
          ∙ ordered.stands_there g h;
      forward =
          λ (a b : ℕ) (w : Wired m targets sources a b).
          let back_wire : Wired m sources targets b a = record { place = w.place; below = w.below; source = w.target; target = w.source } in
          let in_block : a < n = rw w.source at (lent.target_is_gate w.place w.below) in
          omega (arith, ordered.forward b a back_wire, ordered.has_place a in_block);
    }

pub lent_turned : (n m : ℕ) (sources targets : List ℕ) → Lent n m sources targets → Lent n m targets sources
lent_turned n m sources targets lent =
    record {
      gates = lent.gates;
      wires = lent.wires;
      sources_long = lent.targets_long;
      targets_long = lent.sources_long;
      source_is_gate = lent.target_is_gate;
      target_is_gate = lent.source_is_gate;
    }

turn_append : (ws : List Wire) (w : Wire) → turn (ws ++ (w ∷ [])) ≡ turn ws ++ (turned w ∷ [])
unfolding turn
turn_append [] w = refl
turn_append (v ∷ ws) w = ap (λ (rest : List Wire). turned v ∷ rest) (turn_append ws w)

-- the arrays with sources and targets exchanged hold the turned wires
pub turn_arrays : (m : ℕ) (sources targets delays : List ℕ) → turn (wires_in m sources targets delays) ≡ wires_in m targets sources delays
unfolding build turn
turn_arrays zero sources targets delays = refl
turn_arrays (suc m) sources targets delays =
    turn_append (wires_in m sources targets delays) (wire_at sources targets delays m)
    ∙ ap (λ (rest : List Wire). rest ++ (wire_at targets sources delays m ∷ [])) (turn_arrays m sources targets delays)
