-- The turn of a gate: the wires out of it are passed one after another along its chain.
-- Assumes nothing.
use mathlib.Core.Path.{◌≡◌, refl, sym, ◌∙◌, ap}
use mathlib.Core.List.{List}
use Prim.Native.Nat.{ℕ, suc, ◌-◌, ◌≤◌, ◌<◌}
use native.Mathlib.Nat.{le_refl}
use native.Mathlib.Omega.{arith}
use lib.ListN.{length, get_or, set}
use lib.Seq.{get_or-set_other}
use Rattle.ordering.specs.Order.{SameBeyond}
use Rattle.ordering.specs.Chain.{last_before}
use Rattle.ordering.specs.Counts.{Visit, waits, placed_now, Linked, Counted}
use Rattle.ordering.proofs.Chains.{last_leads_there, last_at_most}
use Rattle.ordering.proofs.Passing.{counted_chain, can_pass, wire_passed}

-- a visit adds no gate before those placed, and none beyond n
visit_keeps : {n g : ℕ} {left order : List ℕ} {count : ℕ} → count < n → {order⁺ : List ℕ} {count⁺ : ℕ} → Visit g left order count order⁺ count⁺
    → (count ≤ count⁺) × ((k : ℕ) → k < count → get_or order⁺ k 0 ≡ get_or order k 0) × SameBeyond n order order⁺
visit_keeps r (waits d) = (omega arith, λ k h. refl, λ k h. refl)
visit_keeps {n} {g} {left} {order} {count} r (placed_now z) =
    (omega arith, λ k h. get_or-set_other order count k g 0 (λ e. omega arith), λ k h. get_or-set_other order count k g 0 (λ e. omega arith))

-- The turn of the gate at place `done`: `next` is one more than the wire of its chain to pass next, 0 at the chain's end; `order₀` is the list before.
pub record Turn (n m : ℕ) (sources targets order₀ left order : List ℕ) (count done next : ℕ) : Type 0 where
  pub few : done < count
  pub last : ℕ
  pub last_in : last ≤ m
  pub next_is : next ≡ last_before sources last (get_or order done 0)
  pub counted : Counted n m sources targets left order count done next
  pub beyond : SameBeyond n order₀ order

module _ {n m : ℕ} {sources targets heads links : List ℕ} (K : Linked n m sources targets heads links) where
  pub turn_begins : {order₀ left : List ℕ} {count done next : ℕ} → done < count → Counted n m sources targets left order₀ count done m → next ≡ get_or heads (get_or order₀ done 0) 0
      → Turn n m sources targets order₀ left order₀ count done next
  turn_begins {order₀} {done = done} {next} few C e =
      let is : next ≡ last_before sources m (get_or order₀ done 0) = e ∙ K.chained.head (get_or order₀ done 0) in
      record {
        few = few;
        last = m;
        last_in = le_refl m;
        next_is = is;
        counted = rw is (counted_chain K.lent C few (le_refl m));
        beyond = λ k h. refl;
      }

  module _ {order₀ left order : List ℕ} {count done next : ℕ} (T : Turn n m sources targets order₀ left order count done next) where
    module _ {i : ℕ} (more : next ≡ suc i) where
      at_wire : (i < T.last) × (get_or sources i 0 ≡ get_or order done 0)
      at_wire = last_leads_there sources T.last (get_or order done 0) i (sym T.next_is ∙ more)

      pub turn_wire : i < m
      turn_wire = omega (arith, at_wire.0, T.last_in)

      pub turn_falls : {further : ℕ} → further ≡ get_or links i 0 → further < next
      turn_falls e = omega (arith, more, K.chained.link i turn_wire, last_at_most sources i (get_or sources i 0))

      now_counted : Counted n m sources targets left order count done (suc i)
      now_counted = rw more at T.counted

      module _ {g : ℕ} (to : g ≡ get_or targets i 0) where
        pub turn_needs : (g < n) × (0 < get_or left g 0) × (count < n)
        turn_needs = can_pass K.lent now_counted T.few turn_wire at_wire.1 g to

        pub turn_goes_on : n ≤ length left → n ≤ length order → {left⁺ : List ℕ} → left⁺ ≡ set left g (get_or left g 0 - 1)
            → {order⁺ : List ℕ} {count⁺ : ℕ} → Visit g left⁺ order count order⁺ count⁺
            → {further : ℕ} → further ≡ get_or links i 0
            → Turn n m sources targets order₀ left⁺ order⁺ count⁺ done further
        turn_goes_on long fits {left⁺} e {order⁺} {count⁺} visit {further} l =
            let W : Visit g (set left g (get_or left g 0 - 1)) order count order⁺ count⁺ = rw e at visit in
            let C = wire_passed K.lent now_counted T.few turn_wire at_wire.1 g to long fits W in
            let K⁺ = visit_keeps turn_needs.2 W in
            let few : done < count⁺ = let f = T.few in omega (arith, K⁺.0) in
            let wire = turn_wire in
            let same : get_or sources i 0 ≡ get_or order⁺ done 0 = at_wire.1 ∙ sym (K⁺.1 done T.few) in
            let is : further ≡ last_before sources i (get_or order⁺ done 0) = l ∙ K.chained.link i turn_wire ∙ ap (last_before sources i) same in
            record {
              few = few;
              last = i;
              last_in = omega arith;
              next_is = is;
              counted = rw (e, is) (counted_chain K.lent C few (omega arith));
              beyond = λ k h. K⁺.2 k h ∙ T.beyond k h;
            }
