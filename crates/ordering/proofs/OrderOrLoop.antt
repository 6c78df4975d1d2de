-- Every network of finitely many gates has an order or a loop, and an order exists exactly when no gate reaches itself. By induction on the gates left: a gate whose predecessors are all placed is placed next, and where there is none, every gate left waits.
-- Assumes nothing.
use mathlib.Core.Path.{◌≡◌, subst, ap}
use mathlib.Core.Logic.{◌⊎◌, inl, inr, ⊎_elim, ◌↔◌}
use mathlib.Core.List.Memᴰ
use mathlib.Core.List.{List, [], ◌∷◌}
use Prim.Native.Nat.{ℕ, zero, suc, ◌+◌, ◌≤◌, ◌<◌}
use native.Mathlib.Nat.{lt_irrefl, not-suc-le-zero, eq-or-lt_of_le, le_of_suc-le-suc}
use native.Mathlib.Omega.{arith}
use native.Mathlib.Decide.{dec_le, ℕ_discrete}
use lib.ListN.{length, get_or, set, length-set, replicate, length-replicate, get_or-replicate}
use Rattle.model.specs.Block.{Wire, Block, gate_count, Joined}
use Rattle.model.specs.Refusal.{OnLoop}
use Rattle.ordering.specs.Order.{Order, Placed}
use Rattle.ordering.proofs.Reach.{Reach, from_reaches, to_reaches, place_grows}
use Rattle.ordering.proofs.Placing.{Waits, none_placed, placed_next, whole_order, stuck_loop}

-- an order leaves no loop
pub no_loop : {E : ℕ → ℕ → Type 0} {n : ℕ} {order : List ℕ} → Order E n order → (g : ℕ) → ¬ (Reach E g g)
no_loop O g r = lt_irrefl (O.place g) (place_grows O.place O.forward r)

module _ (E : ℕ → ℕ → Type 0) (n : ℕ) (joins_gates : (a b : ℕ) → E a b → (a < n) × (b < n)) (decided : (a b : ℕ) → Dec (E a b)) where
  -- an order of the gates, or a gate that reaches itself
  abbrev OrderOrLoop : Type 0
  OrderOrLoop = ((order : List ℕ) × Order E n order) ⊎ ((g : ℕ) × Reach E g g)

  module _ (place : List ℕ) where
    -- all wires into g from gates below k come from placed gates
    abbrev Preceded : ℕ → ℕ → Type 0
    Preceded k g = (a : ℕ) → a < k → E a g → get_or place a 0 < n

    waits_or_preceded : (g k : ℕ) → Waits E n place g ⊎ Preceded k g
    waits_or_preceded g zero = inr (λ a h. absurd (not-suc-le-zero h))
    waits_or_preceded g (suc k) = next (waits_or_preceded g k) (decided k g) (dec_le n (get_or place k 0))
      where
        next : Waits E n place g ⊎ Preceded k g → Dec (E k g) → Dec (n ≤ get_or place k 0) → Waits E n place g ⊎ Preceded (suc k) g
        next (inl w) d u = inl w
        next (inr p) (yes e) (yes u) = inl (record { source = k; wire = e; unplaced = u })
        next (inr p) (yes e) (no u) =
            inr (λ a h x. ⊎_elim (λ i. rw i (omega arith)) (λ l. p a l x) (eq-or-lt_of_le (le_of_suc-le-suc h)))
        next (inr p) (no d) u =
            inr (λ a h x. ⊎_elim (λ i. absurd (d (subst (λ (y : ℕ). E y g) i x))) (λ l. p a l x) (eq-or-lt_of_le (le_of_suc-le-suc h)))

    -- a gate that can be placed next
    abbrev Ready : ℕ → Type 0
    Ready g = (g < n) × (n ≤ get_or place g 0) × Preceded n g

    abbrev AllWait : ℕ → Type 0
    AllWait k = (g : ℕ) → g < k → n ≤ get_or place g 0 → Waits E n place g

    ready_or_wait : (k : ℕ) → k ≤ n → ((g : ℕ) × Ready g) ⊎ AllWait k
    ready_or_wait zero h = inr (λ g l. absurd (not-suc-le-zero l))
    ready_or_wait (suc k) h = next (ready_or_wait k (omega arith)) (dec_le n (get_or place k 0)) (waits_or_preceded k n)
      where
        next : ((g : ℕ) × Ready g) ⊎ AllWait k → Dec (n ≤ get_or place k 0) → Waits E n place k ⊎ Preceded n k → ((g : ℕ) × Ready g) ⊎ AllWait (suc k)
        next (inl r) u w = inl r
        next (inr all) (yes u) (inr p) = inl (k, (omega arith, u, p))
        next (inr all) (yes u) (inl w) =
            inr (λ g l v. ⊎_elim (λ i. rw i w) (λ b. all g b v) (eq-or-lt_of_le (le_of_suc-le-suc l)))
        next (inr all) (no d) w =
            inr (λ g l v. ⊎_elim (λ i. absurd (d (rw i at v))) (λ b. all g b v) (eq-or-lt_of_le (le_of_suc-le-suc l)))

  all_placed : (place order : List ℕ) (count : ℕ) → Placed E n place order count → n ≤ count → OrderOrLoop
  all_placed place order count P h =
      let w = P.within in
      let e : count ≡ n = omega arith in
      inl (order, whole_order E n joins_gates place order (rw e at P))

  -- From any state with room for all gates, where at most `left` of them are left.
  abbrev Completes : ℕ → Type 0
  Completes left = (place order : List ℕ) (count : ℕ) → n ≤ count + left → n ≤ length place → n ≤ length order → Placed E n place order count → OrderOrLoop

  complete_next : (left : ℕ) → Completes left → (place order : List ℕ) (count : ℕ) → n ≤ count + suc left → n ≤ length place → n ≤ length order
      → Placed E n place order count
      → Dec (n ≤ count)
      → ((g : ℕ) × Ready place g) ⊎ AllWait place n
      → OrderOrLoop
  complete_next left rest place order count h p o P (yes f) r = all_placed place order count P f
  complete_next left rest place order count h p o P (no d) (inr all) = inr (stuck_loop E n joins_gates place order count P all (omega arith))
  complete_next left rest place order count h p o P (no d) (inl r) =
      rest (set place r.0 count) (set order count r.0) (count + 1) (omega arith) (rw length-set p) (rw length-set o)
      (placed_next E n joins_gates place order count P r.0 r.1.0 r.1.1 (let l = r.1.0 in omega arith) (omega arith)
      (λ a e. let j = joins_gates a r.0 e in P.has_place a j.0 (r.1.2 a j.0 e)))

  complete : (left : ℕ) → Completes left
  complete zero place order count h p o P = all_placed place order count P (omega arith)
  complete (suc left) place order count h p o P =
      complete_next left (complete left) place order count h p o P (dec_le n count) (ready_or_wait place n (omega arith))

  pub order_or_loop : OrderOrLoop
  order_or_loop =
      complete n (replicate n n) (replicate n 0) 0 (omega arith) (rw length-replicate (omega arith)) (rw length-replicate (omega arith))
      (none_placed E n joins_gates (replicate n n) (replicate n 0) (λ g h. rw (get_or-replicate n g n 0 h) (omega arith)))

  -- Where no order exists, some gate reaches itself.
  pub no_order_loop : ¬ ((order : List ℕ) × Order E n order) → (g : ℕ) × Reach E g g
  no_order_loop none = ⊎_elim (λ o. absurd (none o)) (λ l. l) order_or_loop

  -- An order exists exactly when no gate reaches itself.
  pub order_exists : ((order : List ℕ) × Order E n order) ↔ ((g : ℕ) → ¬ (Reach E g g))
  order_exists = (λ o. no_loop o.1, λ none. ⊎_elim (λ o. o) (λ l. absurd (none l.0 l.1)) order_or_loop)

wire_decided : (ws : List Wire) (a b s t w : ℕ) → Dec (Joined ws a b) → Dec (a ≡ s) → Dec (b ≡ t) → Dec (Joined (record { source = s; target = t; delay = w } ∷ ws) a b)
wire_decided ws a b s t w (yes j) d e = yes (j.0, Memᴰ.tail j.1)
wire_decided ws a b s t w (no n) (yes i) (yes k) =
    let e : ◌≡◌ {A = Wire} (record { source = a; target = b; delay = w }) (record { source = s; target = t; delay = w }) = rw (i, k) in
    yes (w, Memᴰ.head e)
wire_decided ws a b s t w (no n) (no d) e = no (λ j. ⊎_elim (λ x. d (ap (λ (v : Wire). v.source) x)) (λ m. n (j.0, m)) (Memᴰ.cases_cons j.1))
wire_decided ws a b s t w (no n) (yes i) (no d) = no (λ j. ⊎_elim (λ x. d (ap (λ (v : Wire). v.target) x)) (λ m. n (j.0, m)) (Memᴰ.cases_cons j.1))

joined_decided : (ws : List Wire) (a b : ℕ) → Dec (Joined ws a b)
joined_decided [] a b = no (λ j. Memᴰ.not-nil j.1)
joined_decided (w ∷ ws) a b =
    wire_decided ws a b w.source w.target w.delay (joined_decided ws a b) (ℕ_discrete a w.source) (ℕ_discrete b w.target)

-- The same of a block, of any size, whose wires join its own gates: its gates have an order along the wires exactly when none is on a loop.
pub block_order : (B : Block) → ((a b : ℕ) → Joined B.wires a b → (a < gate_count B) × (b < gate_count B))
    → ((order : List ℕ) × Order (Joined B.wires) (gate_count B) order) ↔ ((g : ℕ) → ¬ (OnLoop B g))
block_order B joins =
    let t = order_exists (Joined B.wires) (gate_count B) joins (joined_decided B.wires) in
    (λ o g r. t.0 o g (from_reaches r), λ none. t.1 (λ g r. none g (to_reaches r)))
