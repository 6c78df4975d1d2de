-- Wires passed: one wire more, a gate placed, the next gate's turn; and what holds when every placed gate has had its turn: all gates are placed, or some gate reaches itself.
-- Assumes nothing.
use mathlib.Core.Path.{◌≡◌, refl, sym, ◌∙◌, ap}
use mathlib.Core.Logic.{◌≢◌}
use mathlib.Core.Bool.{cond}
use mathlib.Core.List.{List}
use Prim.Native.Nat.{ℕ, suc, ◌-◌, ◌≤◌, ◌<◌}
use native.Mathlib.Nat.{le_refl}
use native.Mathlib.Decide.{ℕ_discrete, dec_lt}
use native.Mathlib.Omega.{arith}
use lib.Dec.{eqb}
use lib.ListN.{length, get_or, set, length-set}
use lib.Seq.{get_or-set_same, get_or-set_other}
use borrow.Author.Tests.{eq-eqb, ne_eqb}
use Rattle.lists.specs.Sum.{sum}
use Rattle.lists.proofs.Sum.{sum_same, sum_grows}
use Rattle.ordering.specs.Wires.{Lent, Wired}
use Rattle.ordering.specs.Order.{Order}
use Rattle.ordering.specs.Chain.{last_before}
use Rattle.ordering.specs.Counts.{into, wires_into, Visit, waits, placed_now, FreePlaced, Passed, Counted}
use Rattle.ordering.proofs.Reach.{Reach}
use Rattle.ordering.proofs.Wired.{wired_gates}
use Rattle.ordering.proofs.Chains.{last_at_most, none_after_last}
use Rattle.ordering.proofs.Placing.{Waits, room, placed_next, whole_order, stuck_loop}
use Rattle.ordering.proofs.Counts.{sum_term, sum_some, into_here, into_other}

-- The wires passed.
none_passed : (m : ℕ) (sources place : List ℕ) → Passed m sources place (λ (i : ℕ). 1) 0 m
none_passed m sources place =
    record {
      at_most = λ i. le_refl 1;
      passed = λ i l z. absurd (omega arith);
      passed_before = λ i l z. absurd (omega arith);
      waiting = λ i l o. omega arith;
      waiting_after = λ i l o h. absurd (omega arith);
    }

module _ {m : ℕ} {sources place : List ℕ} {ahead : ℕ → ℕ} {done next : ℕ} (S : Passed m sources place ahead done next) where
  -- wires from other gates than a, which stands at place `done`, are no part of its turn
  chain_passed : (a : ℕ) → next ≤ m → ((i : ℕ) → i < m → get_or sources i 0 ≢ a → get_or place (get_or sources i 0) 0 ≢ done)
      → Passed m sources place ahead done (last_before sources next a)
  chain_passed a h alone =
      record {
        at_most = S.at_most;
        passed = S.passed;
        passed_before = λ i l z b. S.passed_before i l z (omega (arith, last_at_most sources next a));
        waiting = S.waiting;
        waiting_after = λ i l o b. after i l o b (dec_lt i next);
      }
    where
      after : (i : ℕ) → i < m → ahead i ≡ 1 → last_before sources next a ≤ i → Dec (i < next) → done < get_or place (get_or sources i 0) 0
      after i l o b (yes q) = let d = alone i l (none_after_last sources next a i b q) in let w = S.waiting i l o in omega arith
      after i l o b (no q) = S.waiting_after i l o (omega arith)

  -- a gate placed later has its turn later
  passed_placed : (n g count : ℕ) → n ≤ get_or place g 0 → g < length place → done < count → count < n → Passed m sources (set place g count) ahead done next
  passed_placed n g count u long d c =
      record {
        at_most = S.at_most;
        passed = λ i l z. let p = S.passed i l z in rw (same (get_or sources i 0) (omega arith)) p;
        passed_before = λ i l z h. let p = S.passed_before i l z h in rw (same (get_or sources i 0) (omega arith)) p;
        waiting = λ i l o. later done (omega arith) (get_or sources i 0) (S.waiting i l o) (ℕ_discrete (get_or sources i 0) g);
        waiting_after = λ i l o h. later (suc done) d (get_or sources i 0) (S.waiting_after i l o h) (ℕ_discrete (get_or sources i 0) g);
      }
    where
      same : (x : ℕ) → get_or place x 0 < n → get_or (set place g count) x 0 ≡ get_or place x 0
      same x l = get_or-set_other place g x count 0 (λ e. let s : get_or place x 0 ≡ get_or place g 0 = ap (λ (y : ℕ). get_or place y 0) e in omega arith)

      later : (k : ℕ) → k ≤ count → (x : ℕ) → k ≤ get_or place x 0 → Dec (x ≡ g) → k ≤ get_or (set place g count) x 0
      later k b x l (yes e) = rw (e, get_or-set_same place g count 0 long) b
      later k b x l (no q) = rw (get_or-set_other place g x count 0 q) l

module _ {n m : ℕ} {sources targets : List ℕ} (L : Lent n m sources targets) where
  -- the wires of the arrays
  abbrev E : ℕ → ℕ → Type 0
  E = Wired m sources targets

  abbrev State : List ℕ → List ℕ → ℕ → ℕ → ℕ → Type 0
  State = Counted n m sources targets

  pub counted_begins : {left order₀ order : List ℕ} {count : ℕ} → ((g : ℕ) → get_or left g 0 ≡ wires_into targets m g) → FreePlaced n left order₀ n order count → State left order count 0 m
  counted_begins {left} all F =
      let N = F.numbered in
      record {
        place = F.place;
        long = F.long;
        placed =
            record {
              within = N.within;
              names_gate = N.names_gate;
              place_of = N.place_of;
              has_place = N.has_place;
              stands_there = N.stands_there;
              forward = λ a b w p. absurd (fed a b w p);
            };
        turn = omega arith;
        ahead = λ i. 1;
        so_far = none_passed m sources F.place;
        left_is = λ g h. all g;
        free = F.free;
        only = λ g h p. (F.only g h p).1;
      }
    where
      -- a gate that a wire leads to is not among those placed
      fed : (a b : ℕ) → E a b → get_or F.place b 0 < n → ⊥
      fed a b w p =
          let z = (F.only b (wired_gates L a b w).1 p).1 in
          let t = sum_term m (into targets (λ (i : ℕ). 1) b) w.place w.below in
          let h = into_here targets (λ (i : ℕ). 1) b w.place w.target in
          omega (arith, all b)

  module _ {left order : List ℕ} {count done next : ℕ} (C : State left order count done next) where
    again : (done⁺ next⁺ : ℕ) → done⁺ ≤ count → Passed m sources C.place C.ahead done⁺ next⁺ → State left order count done⁺ next⁺
    again done⁺ next⁺ h S =
        record {
          place = C.place;
          long = C.long;
          placed = C.placed;
          turn = h;
          ahead = C.ahead;
          so_far = S;
          left_is = C.left_is;
          free = C.free;
          only = C.only;
        }

    -- only the wires in the chain of the gate at place `done` are part of its turn
    pub counted_chain : done < count → next ≤ m → State left order count done (last_before sources next (get_or order done 0))
    counted_chain few h =
        again done (last_before sources next (get_or order done 0)) C.turn
        (chain_passed C.so_far (get_or order done 0) h alone)
      where
        alone : (i : ℕ) → i < m → get_or sources i 0 ≢ get_or order done 0 → get_or C.place (get_or sources i 0) 0 ≢ done
        alone i l d e =
            let w = C.placed.within in
            d (sym (C.placed.stands_there (get_or sources i 0) (L.source_is_gate i l) (omega arith)) ∙ ap (λ (k : ℕ). get_or order k 0) e)

  -- Wire i, from the gate at place `done` to gate g, is passed.
  module _ {left order : List ℕ} {count done i : ℕ} (C : State left order count done (suc i)) (few : done < count) (wire : i < m) (from : get_or sources i 0 ≡ get_or order done 0) (g : ℕ) (to : g ≡ get_or targets i 0) where
    abbrev place : List ℕ
    place = C.place

    abbrev ahead : ℕ → ℕ
    ahead = C.ahead

    from_here : get_or place (get_or sources i 0) 0 ≡ done
    from_here = rw from (C.placed.place_of done few)

    is_ahead : ahead i ≡ 1
    is_ahead =
        let d : ahead i ≢ 0 = λ z. let e = from_here in omega (arith, C.so_far.passed_before i wire z (omega arith)) in
        omega (arith, C.so_far.at_most i)

    to_gate : g < n
    to_gate = let t = L.target_is_gate i wire in omega arith

    some_left : 0 < get_or left g 0
    some_left =
        let t = sum_term m (into targets ahead g) i wire in
        let h = into_here targets ahead g i (sym to) in
        let a = is_ahead in
        omega (arith, C.left_is g to_gate)

    unplaced : n ≤ get_or place g 0
    unplaced =
        let d : ¬ (get_or place g 0 < n) = λ p. let s = some_left in omega (arith, C.only g to_gate p) in
        omega arith

    pass_room : count < n
    pass_room = room E n (wired_gates L) place order count C.placed g to_gate unplaced

    -- what the code needs to pass it
    pub can_pass : (g < n) × (0 < get_or left g 0) × (count < n)
    can_pass = (to_gate, some_left, pass_room)

    abbrev left⁺ : List ℕ
    left⁺ = set left g (get_or left g 0 - 1)

    ahead⁺ : ℕ → ℕ
    ahead⁺ j = cond (eqb j i) 0 (ahead j)

    ahead_here : (j : ℕ) → j ≡ i → ahead⁺ j ≡ 0
    unfolding ahead⁺
    ahead_here j e = rw (eq-eqb j i e)

    ahead_other : (j : ℕ) → j ≢ i → ahead⁺ j ≡ ahead j
    unfolding ahead⁺
    ahead_other j d = rw (ne_eqb j i d)

    passed⁺ : Passed m sources place ahead⁺ done i
    passed⁺ =
        record {
          at_most = λ j. at_most⁺ j (ℕ_discrete j i);
          passed = λ j l z. by j l z (ℕ_discrete j i);
          passed_before = λ j l z h. C.so_far.passed_before j l (sym (ahead_other j (λ e. omega arith)) ∙ z) (omega arith);
          waiting = λ j l o. C.so_far.waiting j l (still j o);
          waiting_after = λ j l o h. let d = moved j o in C.so_far.waiting_after j l (still j o) (omega arith);
        }
      where
        at_most⁺ : (j : ℕ) → Dec (j ≡ i) → ahead⁺ j ≤ 1
        at_most⁺ j (yes e) = let z = ahead_here j e in omega arith
        at_most⁺ j (no d) = let s = ahead_other j d in omega (arith, C.so_far.at_most j)

        by : (j : ℕ) → j < m → ahead⁺ j ≡ 0 → Dec (j ≡ i) → get_or place (get_or sources j 0) 0 ≤ done
        by j l z (yes e) = rw e (let p = from_here in omega arith)
        by j l z (no d) = C.so_far.passed j l (sym (ahead_other j d) ∙ z)

        moved : (j : ℕ) → ahead⁺ j ≡ 1 → j ≢ i
        moved j o e = let z = ahead_here j e in omega arith

        still : (j : ℕ) → ahead⁺ j ≡ 1 → ahead j ≡ 1
        still j o = sym (ahead_other j (moved j o)) ∙ o

    module _ (long : n ≤ length left) where
      left_here : get_or left⁺ g 0 ≡ get_or left g 0 - 1
      left_here = let l = to_gate in get_or-set_same left g (get_or left g 0 - 1) 0 (omega arith)

      left_other : (h : ℕ) → h ≢ g → get_or left⁺ h 0 ≡ get_or left h 0
      left_other h d = get_or-set_other left g h (get_or left g 0 - 1) 0 d

      into_kept : (h j : ℕ) → j ≢ i → into targets ahead h j ≡ into targets ahead⁺ h j
      into_kept h j d = ap (λ (x : ℕ). cond (eqb (get_or targets j 0) h) x 0) (sym (ahead_other j d))

      into_elsewhere : (h j : ℕ) → h ≢ g → Dec (j ≡ i) → into targets ahead h j ≡ into targets ahead⁺ h j
      into_elsewhere h j d (no k) = into_kept h j k
      into_elsewhere h j d (yes e) =
          let o : get_or targets j 0 ≢ h = λ q. d (sym q ∙ ap (λ (x : ℕ). get_or targets x 0) e ∙ sym to) in
          into_other targets ahead h j o ∙ sym (into_other targets ahead⁺ h j o)

      left_is⁺ : (h : ℕ) → h < n → Dec (h ≡ g) → get_or left⁺ h 0 ≡ sum m (into targets ahead⁺ h)
      left_is⁺ h l (no d) =
          left_other h d ∙ C.left_is h l ∙ sum_same m (into targets ahead h) (into targets ahead⁺ h) (λ j b. into_elsewhere h j d (ℕ_discrete j i))
      left_is⁺ h l (yes e) =
          let before : into targets ahead g i ≡ 1 = into_here targets ahead g i (sym to) ∙ is_ahead in
          let after : into targets ahead⁺ g i ≡ 0 = into_here targets ahead⁺ g i (sym to) ∙ ahead_here i refl in
          let grows = sum_grows m (into targets ahead⁺ g) (into targets ahead g) i 1 wire (λ j b d. into_kept g j d) (omega arith) in
          rw e (let f = left_here in omega (arith, C.left_is g to_gate))

      -- once none is left, every wire into g comes from a placed gate
      preceded : get_or left⁺ g 0 ≡ 0 → (a : ℕ) → E a g → get_or place a 0 < count
      preceded z a w =
          let t = sum_term m (into targets ahead⁺ g) w.place w.below in
          let h = into_here targets ahead⁺ g w.place w.target in
          let s = left_is⁺ g to_gate (yes refl) in
          let p = passed⁺.passed w.place w.below (omega arith) in
          let q : get_or place a 0 ≤ done = rw w.source at p in
          omega arith

      pub wire_passed : n ≤ length order → {order⁺ : List ℕ} {count⁺ : ℕ} → Visit g left⁺ order count order⁺ count⁺ → State left⁺ order⁺ count⁺ done i
      wire_passed fits (waits d) =
          record {
            place = place;
            long = C.long;
            placed = C.placed;
            turn = C.turn;
            ahead = ahead⁺;
            so_far = passed⁺;
            left_is = λ h l. left_is⁺ h l (ℕ_discrete h g);
            free = λ h l. free⁺ h l (ℕ_discrete h g);
            only = λ h l. only⁺ h l (ℕ_discrete h g);
          }
        where
          free⁺ : (h : ℕ) → h < n → Dec (h ≡ g) → get_or left⁺ h 0 ≡ 0 → get_or place h 0 < n
          free⁺ h l (yes e) z = absurd (d (rw e at z))
          free⁺ h l (no q) z = C.free h l (sym (left_other h q) ∙ z)

          only⁺ : (h : ℕ) → h < n → Dec (h ≡ g) → get_or place h 0 < n → get_or left⁺ h 0 ≡ 0
          only⁺ h l (yes e) p = let u = unplaced in let q : get_or place g 0 < n = rw e at p in absurd (omega arith)
          only⁺ h l (no q) p = left_other h q ∙ C.only h l p
      wire_passed fits (placed_now z) =
          let r = pass_room in
          record {
            place = set place g count;
            long = rw length-set C.long;
            placed = placed_next E n (wired_gates L) place order count C.placed g to_gate unplaced in_place (omega arith) (preceded z);
            turn = let t = C.turn in omega arith;
            ahead = ahead⁺;
            so_far = passed_placed passed⁺ n g count unplaced in_place few pass_room;
            left_is = λ h l. left_is⁺ h l (ℕ_discrete h g);
            free = λ h l. free⁺ h l (ℕ_discrete h g);
            only = λ h l. only⁺ h l (ℕ_discrete h g);
          }
        where
          in_place : g < length place
          in_place = let l = C.long in let t = to_gate in omega arith

          free⁺ : (h : ℕ) → h < n → Dec (h ≡ g) → get_or left⁺ h 0 ≡ 0 → get_or (set place g count) h 0 < n
          free⁺ h l (yes e) y = rw (e, get_or-set_same place g count 0 in_place) pass_room
          free⁺ h l (no q) y = rw (get_or-set_other place g h count 0 q) (C.free h l (sym (left_other h q) ∙ y))

          only⁺ : (h : ℕ) → h < n → Dec (h ≡ g) → get_or (set place g count) h 0 < n → get_or left⁺ h 0 ≡ 0
          only⁺ h l (yes e) p = rw e z
          only⁺ h l (no q) p = left_other h q ∙ C.only h l (rw (get_or-set_other place g h count 0 q) at p)

  -- Every placed gate has had its turn.
  module _ {left order : List ℕ} {count : ℕ} (C : State left order count count m) where
    pub counted_order : count ≡ n → Order E n order
    counted_order e = whole_order E n (wired_gates L) C.place order (rw e at C.placed)

    -- a wire into a gate that is left is not passed
    stuck : (g : ℕ) → g < n → n ≤ get_or C.place g 0 → Waits E n C.place g
    stuck g h u =
        let s = sum_some m (into targets C.ahead g) (λ z. let p = C.free g h (C.left_is g h ∙ z) in omega arith) in
        from s.0 s.1 s.2 (ℕ_discrete (get_or targets s.0 0) g)
      where
        from : (i : ℕ) → i < m → into targets C.ahead g i ≢ 0 → Dec (get_or targets i 0 ≡ g) → Waits E n C.place g
        from i l d (no k) = absurd (d (into_other targets C.ahead g i k))
        from i l d (yes e) =
            let t = into_here targets C.ahead g i e in
            let o = C.so_far.at_most i in
            let w = C.so_far.waiting i l (omega arith) in
            let u : ¬ (get_or C.place (get_or sources i 0) 0 < n) = λ p. omega (arith, C.placed.has_place (get_or sources i 0) (L.source_is_gate i l) p) in
            record {
              source = get_or sources i 0;
              wire = record { place = i; below = l; source = refl; target = e };
              unplaced = omega arith;
            }

    pub counted_loop : count ≢ n → (g : ℕ) × Reach E g g
    counted_loop d = stuck_loop E n (wired_gates L) C.place order count C.placed stuck (let w = C.placed.within in omega arith)
