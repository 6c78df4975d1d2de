-- From the wires of the arrays to the block that has them: what is found is an order of its gates, or a gate on a loop.
-- Assumes nothing.
use mathlib.Core.Bool.{true, false}
use mathlib.Core.List.{List}
use Prim.Native.Nat.{ℕ}
use lib.Dec.{eqb}
use borrow.Author.Tests.{eqb-true, eqb-false}
use Rattle.lists.proofs.Bool.{cases}
use Rattle.model.specs.Block.{Block}
use Rattle.ordering.specs.Wires.{Lent, Wired, InArrays}
use Rattle.ordering.specs.Order.{Order, OrderFound}
use Rattle.ordering.specs.Counts.{Counted}
use Rattle.ordering.proofs.Reach.{Reach}
use Rattle.ordering.proofs.Passing.{counted_order, counted_loop}
use Rattle.ordering.proofs.Wired.{joined_wired, wired_loop}

module _ (B : Block) (n m : ℕ) (sources targets : List ℕ) (I : InArrays B n m sources targets) where
  order-found : (order : List ℕ) → Order (Wired m sources targets) n order → OrderFound B order true
  order-found order O =
      rw I.gates
      (record {
        place = O.place;
        names_gate = O.names_gate;
        place_of = O.place_of;
        has_place = O.has_place;
        stands_there = O.stands_there;
        forward = λ a b j. O.forward a b (joined_wired B n m sources targets I a b j);
      })

  loop-found : (order : List ℕ) → (g : ℕ) × Reach (Wired m sources targets) g g → OrderFound B order false
  loop-found order r = (r.0, wired_loop B n m sources targets I r.0 r.1)

  -- when every placed gate has had its turn, all gates are placed or there is a loop
  pub order-judged : Lent n m sources targets → {left order : List ℕ} {count : ℕ} → Counted n m sources targets left order count count m → OrderFound B order (eqb count n)
  order-judged L {order = order} {count} C =
      cases (eqb count n)
      (λ p. rw p (order-found order (counted_order L C (eqb-true count n p))))
      (λ p. rw p (loop-found order (counted_loop L C (eqb-false count n p))))
