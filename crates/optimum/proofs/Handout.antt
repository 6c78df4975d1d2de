-- Handing out by heads: a part without a head stays as it is; while w is less than the width of its head a part keeps that head, less w in width, so that w + v ticks at once are w and then v; the gain of the head is the worth of the next tick in plain gains.
-- Assumes nothing.
use mathlib.Core.Path.{◌≡◌, refl, sym, ◌∙◌, ap}
use mathlib.Core.Logic.{inl, inr}
use Prim.Native.Nat.{ℕ, zero, suc, ◌+◌, ◌-◌, ◌≤◌, ◌<◌, max, min}
use native.Mathlib.Nat.{zero-add, suc-add, add_assoc}
use native.Mathlib.Numerals.{add-one}
use native.Mathlib.Omega.{arith}
use Rattle.optimum.specs.Tree.{wire, series, parallel, Tree, St, next}
use Rattle.optimum.specs.Head.{Head, Heads, Item, left, gate, right, item, leads, turn, beside, best_of}
use Rattle.optimum.specs.Handout.{head, give, ticks}
use Rattle.optimum.proofs.Order.{Ahead, Leads, by_turn, both, by_sides, beside_right, beside_left, beside_both}

-- plain gains: what tick k of gate g gains
abbrev pub plain : (ℕ → ℕ → Head) → ℕ → ℕ → ℕ
plain h g k = (h g k).gain

-- the greatest of three gains, by who leads
leading_gain : (a b : Head) → Leads a b → b.gain ≤ a.gain
leading_gain a b (inl l) = omega arith
leading_gain a b (inr (e, r)) = omega arith

ahead_gain : (a b : Head) → Ahead a b → b.gain ≤ a.gain
ahead_gain a b (inl l) = omega arith
ahead_gain a b (inr (e, r)) = omega arith

best_gain : (a b c : Head) → (best_of a b c).gain ≡ max (max a.gain b.gain) c.gain
best_gain a b c =
    by_turn a b c
    (λ (i : Item). (item i a b c).gain ≡ max (max a.gain b.gain) c.gain)
    (λ ab ac. omega (arith, leading_gain a b ab, leading_gain a c ac))
    (λ ba bc. omega (arith, ahead_gain b a ba, leading_gain b c bc))
    (λ ca cb. omega (arith, ahead_gain c a ca, ahead_gain c b cb))

beside_gain : (a b : Head) → (beside a b).gain ≡ a.gain + b.gain
beside_gain a b =
    by_sides a b (λ (r : Head). r.gain ≡ a.gain + b.gain) (λ z. omega arith) (λ p z. omega arith) (λ p q. refl)

-- a less w in width
abbrev pub less : Head → ℕ → Head
less a w = record { width = a.width - w; gain = a.gain; rank = a.rank }

-- the turn does not hang on widths
turn_left : (a b c : Head) (w : ℕ) → turn (less a w) b c ≡ turn a b c
unfolding turn leads
turn_left a b c w = refl

turn_gate : (a b c : Head) (w : ℕ) → turn a (less b w) c ≡ turn a b c
unfolding turn leads
turn_gate a b c w = refl

turn_right : (a b c : Head) (w : ℕ) → turn a b (less c w) ≡ turn a b c
unfolding turn leads
turn_right a b c w = refl

less_both : (a b : Head) (w : ℕ) → both (less a w) (less b w) ≡ less (both a b) w
less_both a b w =
    let e : min (a.width - w) (b.width - w) ≡ min a.width b.width - w = omega arith in
    ap (λ (u : ℕ). record { width = u; gain = a.gain + b.gain; rank = max a.rank b.rank }) e

module _ (h : ℕ → ℕ → Head) where
  -- the heads of the items of a series part
  abbrev pub item_head : (P : Tree) (m : ℕ) (Q : Tree) → St (series P m Q) → Item → Head
  item_head P m Q s i = item i (head h P s.0) (h m s.1) (head h Q s.2)

  -- a series part with w more ticks for one of its items
  abbrev pub item_given : (P : Tree) (m : ℕ) (Q : Tree) → ℕ → St (series P m Q) → Item → St (series P m Q)
  item_given P m Q w s i =
      item i (give h P w s.0, s.1, s.2) (s.0, s.1 + w, s.2) (s.0, s.1, give h Q w s.2)

  -- `by_turn` at the items of a series part
  pub by_item : (P : Tree) (m : ℕ) (Q : Tree) (s : St (series P m Q)) (C : Item → Type 0)
      → (Leads (head h P s.0) (h m s.1) → Leads (head h P s.0) (head h Q s.2) → C left)
      → (Ahead (h m s.1) (head h P s.0) → Leads (h m s.1) (head h Q s.2) → C gate)
      → (Ahead (head h Q s.2) (head h P s.0) → Ahead (head h Q s.2) (h m s.1) → C right)
      → C (turn (head h P s.0) (h m s.1) (head h Q s.2))
  by_item P m Q s = by_turn (head h P s.0) (h m s.1) (head h Q s.2)

  pub head_gain : (t : Tree) (s : St t) → (head h t s).gain ≡ next (plain h) t s
  head_gain (wire w) s = refl
  head_gain (series P m Q) s =
      omega (arith, best_gain (head h P s.0) (h m s.1) (head h Q s.2), head_gain P s.0, head_gain Q s.2)
  head_gain (parallel P Q) s =
      omega (arith, beside_gain (head h P s.0) (head h Q s.1), head_gain P s.0, head_gain Q s.1)

  -- a step further is a step more
  pub ticks_more : (t : Tree) (k : ℕ) (s : St t) → ticks h t (suc k) s ≡ give h t 1 (ticks h t k s)
  ticks_more t zero s = refl
  ticks_more t (suc k) s = ticks_more t k (give h t 1 s)

  -- j + k ticks are j and then k
  pub ticks_add : (t : Tree) (j k : ℕ) (s : St t) → ticks h t (j + k) s ≡ ticks h t k (ticks h t j s)
  ticks_add t zero k s = rw zero-add refl
  ticks_add t (suc j) k s = rw suc-add (ticks_add t j k (give h t 1 s))

module _ (n : ℕ) (h : ℕ → ℕ → Head) (heads : Heads n h) where
  -- a part without a head has no rank
  pub no_rank : (t : Tree) (s : St t) → (head h t s).gain ≡ 0 → (head h t s).rank ≡ 0
  no_rank (wire w) s = λ z. refl
  no_rank (series P m Q) s =
      by_item h P m Q s
      (λ (i : Item). (item_head h P m Q s i).gain ≡ 0 → (item_head h P m Q s i).rank ≡ 0)
      (λ ab ac. no_rank P s.0)
      (λ ba bc. heads.unranked m s.1)
      (λ ca cb. no_rank Q s.2)
  no_rank (parallel P Q) s =
      by_sides (head h P s.0) (head h Q s.1)
      (λ (r : Head). r.gain ≡ 0 → r.rank ≡ 0)
      (λ z. no_rank Q s.1)
      (λ p z. no_rank P s.0)
      (λ p q e. absurd (omega arith))

  -- a head of gain 0 and rank 0 is behind every other
  never_ahead : (a b : Head) → a.gain ≡ 0 → (b.gain ≡ 0 → b.rank ≡ 0) → Ahead a b → ⊥
  never_ahead a b za zb (inl l) = omega arith
  never_ahead a b za zb (inr (e, r)) = omega (arith, zb (omega arith))

  pub give_none : (t : Tree) (w : ℕ) (s : St t) → (head h t s).gain ≡ 0 → give h t w s ≡ s
  give_none (wire l) w s = λ z. refl
  give_none (series P m Q) w s =
      by_item h P m Q s
      (λ (i : Item). (item_head h P m Q s i).gain ≡ 0 → item_given h P m Q w s i ≡ s)
      (λ ab ac z. rw (give_none P w s.0 z) refl)
      (λ ba bc z. absurd (never_ahead (h m s.1) (head h P s.0) z (no_rank P s.0) ba))
      (λ ca cb z. rw (give_none Q w s.2 z) refl)
  give_none (parallel P Q) w s =
      λ z.
      let e = beside_gain (head h P s.0) (head h Q s.1) in
      rw (give_none P w s.0 (omega arith), give_none Q w s.1 (omega arith)) refl

  pub some_width : (t : Tree) (s : St t) → 0 < (head h t s).gain → 0 < (head h t s).width
  some_width (wire l) s = λ pos. absurd (omega arith)
  some_width (series P m Q) s =
      by_item h P m Q s
      (λ (i : Item). 0 < (item_head h P m Q s i).gain → 0 < (item_head h P m Q s i).width)
      (λ ab ac. some_width P s.0)
      (λ ba bc. heads.wide m s.1)
      (λ ca cb. some_width Q s.2)
  some_width (parallel P Q) s =
      by_sides (head h P s.0) (head h Q s.1)
      (λ (r : Head). 0 < r.gain → 0 < r.width)
      (λ z. some_width Q s.1)
      (λ pos z _. some_width P s.0 pos)
      (λ pos pos' _. omega (arith, some_width P s.0 pos, some_width Q s.1 pos'))

  pub ticks_none : (t : Tree) (k : ℕ) (s : St t) → (head h t s).gain ≡ 0 → ticks h t k s ≡ s
  ticks_none t zero s z = refl
  ticks_none t (suc k) s z = ticks_more h t k s ∙ ap (give h t 1) (ticks_none t k s z) ∙ give_none t 1 s z

  pub head_after : (t : Tree) (w : ℕ) (s : St t) → 0 < (head h t s).gain → w < (head h t s).width → head h t (give h t w s) ≡ less (head h t s) w
  head_after (wire l) w s = λ pos. absurd (omega arith)
  head_after (series P m Q) w s =
      let p = head h P s.0 in
      let q = head h Q s.2 in
      by_item h P m Q s
      (λ (i : Item). turn p (h m s.1) q ≡ i → 0 < (item_head h P m Q s i).gain → w < (item_head h P m Q s i).width → head h (series P m Q) (item_given h P m Q w s i) ≡ less (item_head h P m Q s i) w)
      (λ ab ac e pos l. rw (head_after P w s.0 pos l, turn_left p (h m s.1) q w, e) refl)
      (λ ba bc e pos l. rw (heads.goes_on m s.1 w l, turn_gate p (h m s.1) q w, e) refl)
      (λ ca cb e pos l. rw (head_after Q w s.2 pos l, turn_right p (h m s.1) q w, e) refl) refl
  head_after (parallel P Q) w s =
      let p = head h P s.0 in
      let q = head h Q s.1 in
      by_sides p q
      (λ (r : Head). 0 < r.gain → w < r.width → head h (parallel P Q) (give h (parallel P Q) w s) ≡ less r w)
      (λ z pos l. rw (give_none P w s.0 z, head_after Q w s.1 pos l) (beside_right p _ z))
      (λ pos z pos' l. rw (give_none Q w s.1 z, head_after P w s.0 pos l) (beside_left (less p w) q pos z))
      (λ pos pos' _ l. rw (head_after P w s.0 pos (omega arith), head_after Q w s.1 pos' (omega arith))
      (beside_both (less p w) (less q w) pos pos' ∙ less_both p q w))

  pub give_add : (t : Tree) (w u : ℕ) (s : St t) → 0 < u → 0 < (head h t s).gain → w + u ≤ (head h t s).width
      → give h t u (give h t w s) ≡ give h t (w + u) s
  give_add (wire l) w u s p = λ pos l. refl
  give_add (series P m Q) w u s p =
      let a = head h P s.0 in
      let c = head h Q s.2 in
      by_item h P m Q s
      (λ (i : Item). turn a (h m s.1) c ≡ i → 0 < (item_head h P m Q s i).gain → w + u ≤ (item_head h P m Q s i).width → give h (series P m Q) u (item_given h P m Q w s i) ≡ item_given h P m Q (w + u) s i)
      (λ ab ac e pos l. rw (head_after P w s.0 pos (omega arith), turn_left a (h m s.1) c w, e, give_add P w u s.0 p pos l) refl)
      (λ ba bc e pos l. rw (heads.goes_on m s.1 w (omega arith), turn_gate a (h m s.1) c w, e, add_assoc) refl)
      (λ ca cb e pos l. rw (head_after Q w s.2 pos (omega arith), turn_right a (h m s.1) c w, e, give_add Q w u s.2 p pos l) refl)
      refl
  give_add (parallel P Q) w u s p =
      by_sides (head h P s.0) (head h Q s.1)
      (λ (r : Head). 0 < r.gain → w + u ≤ r.width → give h (parallel P Q) u (give h (parallel P Q) w s) ≡ give h (parallel P Q) (w + u) s)
      (λ z pos l. rw (idle P s.0 z, give_add Q w u s.1 p pos l) refl)
      (λ pos z _ l. rw (idle Q s.1 z, give_add P w u s.0 p pos l) refl)
      (λ pos pos' _ l. rw (give_add P w u s.0 p pos (omega arith), give_add Q w u s.1 p pos' (omega arith)) refl)
    where
      idle : (t : Tree) (s : St t) → (head h t s).gain ≡ 0 → give h t u (give h t w s) ≡ give h t (w + u) s
      idle t s z = rw (give_none t w s z, give_none t u s z, give_none t (w + u) s z) refl

  -- w ticks at once are w single ticks, while w is at most the width of the head
  pub give_is_ticks : (t : Tree) (w : ℕ) (s : St t) → 0 < (head h t s).gain → suc w ≤ (head h t s).width → give h t (suc w) s ≡ ticks h t (suc w) s
  give_is_ticks t zero s pos l = refl
  give_is_ticks t (suc w) s pos l =
      sym (ticks_more h t (suc w) s
      ∙ ap (give h t 1) (sym (give_is_ticks t w s pos (omega arith)))
      ∙ give_add t (suc w) 1 s (omega arith) pos (omega arith)
      ∙ ap (λ (k : ℕ). give h t k s) (add-one (suc w)))
