-- The order, gate by gate: one gate more is placed, there is room for it, a full order is an order, and where gates are left that all wait there is a loop.
-- Assumes nothing.
use mathlib.Core.Path.{◌≡◌, sym, ◌∙◌, ap, subst}
use mathlib.Core.Logic.{◌≢◌, ◌⊎◌, inl, inr, ⊎_elim}
use mathlib.Core.List.{List}
use Prim.Native.Nat.{ℕ, zero, suc, ◌+◌, ◌≤◌, ◌<◌}
use native.Mathlib.Nat.{not-suc-le-zero, eq-or-lt_of_le, le_of_suc-le-suc}
use native.Mathlib.Omega.{arith}
use native.Mathlib.Decide.{ℕ_discrete, dec_lt, dec_le}
use lib.ListN.{length, get_or, set}
use lib.Seq.{get_or-set_same, get_or-set_other}
use Rattle.ordering.specs.Order.{Order, Placed}
use Rattle.ordering.proofs.Reach.{Reach}
use Rattle.ordering.proofs.Loop.{loop_in}
use Rattle.ordering.proofs.Pigeonhole.{pigeonhole, room_left}

-- A wire into gate g comes from a gate that is not placed.
pub record Waits (E : ℕ → ℕ → Type 0) (n : ℕ) (place : List ℕ) (g : ℕ) : Type 0 where
  pub source : ℕ
  pub wire : E source g
  pub unplaced : n ≤ get_or place source 0

module _ (E : ℕ → ℕ → Type 0) (n : ℕ) (joins_gates : (a b : ℕ) → E a b → (a < n) × (b < n)) where
  pub none_placed : (place order : List ℕ) → ((g : ℕ) → g < n → n ≤ get_or place g 0) → Placed E n place order 0
  none_placed place order free =
      record {
        within = omega arith;
        names_gate = λ k h. absurd (not-suc-le-zero h);
        place_of = λ k h. absurd (not-suc-le-zero h);
        has_place = λ g h l. let f = free g h in omega arith;
        stands_there = λ g h l. let f = free g h in absurd (omega arith);
        forward = λ a b e l. let f = free b (joins_gates a b e).1 in absurd (omega arith);
      }

  module _ (place order : List ℕ) (count : ℕ) (P : Placed E n place order count) where
    -- while a gate is not placed, there is room
    pub room : (g : ℕ) → g < n → n ≤ get_or place g 0 → count < n
    room g h u =
        room_left count n (λ k. get_or order k 0) (λ x. get_or place x 0)
        (record { below = P.names_gate; back = P.place_of })
        g h
        (λ k l e. let p : get_or place g 0 ≡ k = ap (λ (x : ℕ). get_or place x 0) (sym e) ∙ P.place_of k l in
        let w = P.within in
        omega arith)

    -- Gate g, which is not placed and all of whose predecessors are, is placed next.
    module _ (g : ℕ) (gate : g < n) (unplaced : n ≤ get_or place g 0) (long : g < length place) (fits : count < length order) (preceded : (a : ℕ) → E a g → get_or place a 0 < count) where
      abbrev place⁺ : List ℕ
      place⁺ = set place g count

      abbrev order⁺ : List ℕ
      order⁺ = set order count g

      place_here : (h : ℕ) → h ≡ g → get_or place⁺ h 0 ≡ count
      place_here h e = ap (λ (x : ℕ). get_or place⁺ x 0) e ∙ get_or-set_same place g count 0 long

      place_other : (h : ℕ) → h ≢ g → get_or place⁺ h 0 ≡ get_or place h 0
      place_other h d = get_or-set_other place g h count 0 d

      order_here : (k : ℕ) → k ≡ count → get_or order⁺ k 0 ≡ g
      order_here k e = ap (λ (x : ℕ). get_or order⁺ x 0) e ∙ get_or-set_same order count g 0 fits

      order_other : (k : ℕ) → k ≢ count → get_or order⁺ k 0 ≡ get_or order k 0
      order_other k d = get_or-set_other order count k g 0 d

      -- a gate with a place is another one than g
      other : (h : ℕ) → get_or place h 0 < n → h ≢ g
      other h l e = let same : get_or place h 0 ≡ get_or place g 0 = ap (λ (x : ℕ). get_or place x 0) e in omega arith

      names_gate⁺ : (k : ℕ) → k < count + 1 → Dec (k ≡ count) → get_or order⁺ k 0 < n
      names_gate⁺ k h (yes e) = rw (order_here k e) gate
      names_gate⁺ k h (no d) = rw (order_other k d) (P.names_gate k (omega arith))

      place_of⁺ : (k : ℕ) → k < count + 1 → Dec (k ≡ count) → get_or place⁺ (get_or order⁺ k 0) 0 ≡ k
      place_of⁺ k h (yes e) = place_here (get_or order⁺ k 0) (order_here k e) ∙ sym e
      place_of⁺ k h (no d) =
          let l : k < count = omega arith in
          let p = P.place_of k l in
          let w = P.within in
          rw (order_other k d) (place_other (get_or order k 0) (other (get_or order k 0) (omega arith)) ∙ p)

      has_place⁺ : (h : ℕ) → h < n → Dec (h ≡ g) → get_or place⁺ h 0 < n → get_or place⁺ h 0 < count + 1
      has_place⁺ h b (yes e) l = let p = place_here h e in omega arith
      has_place⁺ h b (no d) l =
          let p = place_other h d in
          let q = P.has_place h b (omega arith) in
          omega arith

      stands_there⁺ : (h : ℕ) → h < n → Dec (h ≡ g) → get_or place⁺ h 0 < n → get_or order⁺ (get_or place⁺ h 0) 0 ≡ h
      stands_there⁺ h b (yes e) l = order_here (get_or place⁺ h 0) (place_here h e) ∙ sym e
      stands_there⁺ h b (no d) l =
          let p = place_other h d in
          let i : get_or place h 0 < n = omega arith in
          let q = P.has_place h b i in
          rw p (order_other (get_or place h 0) (λ x. omega arith) ∙ P.stands_there h b i)

      forward⁺ : (a b : ℕ) → E a b → Dec (b ≡ g) → get_or place⁺ b 0 < n → get_or place⁺ a 0 < get_or place⁺ b 0
      forward⁺ a b e (yes i) l =
          let w = P.within in
          let q = preceded a (subst (E a) i e) in
          let r = place_other a (other a (omega arith)) in
          let p = place_here b i in
          omega arith
      forward⁺ a b e (no d) l =
          let p = place_other b d in
          let q = P.forward a b e (omega arith) in
          let r = place_other a (other a (omega arith)) in
          omega arith

      pub placed_next : Placed E n place⁺ order⁺ (count + 1)
      placed_next =
          record {
            within = let r = room g gate unplaced in omega arith;
            names_gate = λ k h. names_gate⁺ k h (ℕ_discrete k count);
            place_of = λ k h. place_of⁺ k h (ℕ_discrete k count);
            has_place = λ h b. has_place⁺ h b (ℕ_discrete h g);
            stands_there = λ h b. stands_there⁺ h b (ℕ_discrete h g);
            forward = λ a b e. forward⁺ a b e (ℕ_discrete b g);
          }

  -- Every gate has a place once there are n.
  pub whole_order : (place order : List ℕ) → Placed E n place order n → Order E n order
  whole_order place order P =
      record {
        place = λ g. get_or place g 0;
        names_gate = P.names_gate;
        place_of = P.place_of;
        has_place = all;
        stands_there = λ g h. P.stands_there g h (all g h);
        forward = λ a b e. P.forward a b e (all b (joins_gates a b e).1);
      }
    where
      placed_of : (g : ℕ) → g < n → Dec (get_or place g 0 < n) → get_or place g 0 < n
      placed_of g h (yes l) = l
      placed_of g h (no d) = let r = room place order n P g h (omega arith) in absurd (omega arith)

      all : (g : ℕ) → g < n → get_or place g 0 < n
      all g h = placed_of g h (dec_lt (get_or place g 0) n)

  -- the gates below n that are not placed
  abbrev Unplaced : List ℕ → ℕ → Type 0
  Unplaced place g = (g < n) × (n ≤ get_or place g 0)

  unplaced_decided : (place : List ℕ) (g : ℕ) → Dec (g < n) → Dec (n ≤ get_or place g 0) → Dec (Unplaced place g)
  unplaced_decided place g (yes h) (yes u) = yes (h, u)
  unplaced_decided place g (yes h) (no d) = no (λ w. d w.1)
  unplaced_decided place g (no d) u = no (λ w. d w.0)

  module _ (place order : List ℕ) (count : ℕ) (P : Placed E n place order count) where
    -- an unplaced gate below k, or all below k are placed
    some_below : (k : ℕ) → k ≤ n → ((g : ℕ) × Unplaced place g) ⊎ ((g : ℕ) → g < k → get_or place g 0 < n)
    some_below zero h = inr (λ g l. absurd (not-suc-le-zero l))
    some_below (suc k) h = next (some_below k (omega arith)) (dec_lt (get_or place k 0) n)
      where
        next : ((g : ℕ) × Unplaced place g) ⊎ ((g : ℕ) → g < k → get_or place g 0 < n) → Dec (get_or place k 0 < n)
            → ((g : ℕ) × Unplaced place g) ⊎ ((g : ℕ) → g < suc k → get_or place g 0 < n)
        next (inl u) d = inl u
        next (inr all) (yes l) = inr (λ g b. ⊎_elim (λ e. rw e l) (all g) (eq-or-lt_of_le (le_of_suc-le-suc b)))
        next (inr all) (no d) = inl (k, (omega arith, omega arith))

    -- While fewer than n gates are placed, some gate is not.
    some_unplaced : count < n → (g : ℕ) × Unplaced place g
    some_unplaced few = go (some_below n (omega arith))
      where
        go : ((g : ℕ) × Unplaced place g) ⊎ ((g : ℕ) → g < n → get_or place g 0 < n) → (g : ℕ) × Unplaced place g
        go (inl u) = u
        go (inr all) =
            let most = pigeonhole n count (λ g. get_or place g 0) (λ k. get_or order k 0)
            (record { below = λ g h. P.has_place g h (all g h); back = λ g h. P.stands_there g h (all g h) }) in
            absurd (omega arith)

  -- Where gates are left and each of them waits, there is a loop.
  pub stuck_loop : (place order : List ℕ) (count : ℕ) → Placed E n place order count
      → ((g : ℕ) → g < n → n ≤ get_or place g 0 → Waits E n place g)
      → count < n
      → (g : ℕ) × Reach E g g
  stuck_loop place order count P stuck few =
      let u = some_unplaced place order count P few in
      loop_in n E (Unplaced place)
      (record {
        bounded = λ g s. s.0;
        decided = λ g. unplaced_decided place g (dec_lt g n) (dec_le n (get_or place g 0));
        fed = λ g s. let w = stuck g s.0 s.1 in (w.source, ((joins_gates w.source g w.wire).0, w.unplaced), w.wire);
      })
      u.0 u.1
