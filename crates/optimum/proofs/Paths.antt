-- A part lasts as long as a longest path through it: a path that enters a part leaves it by its last gate and takes at most the part's length in between, and some path takes exactly that. A path through a series part splits at the middle gate, one through a parallel part stays on its side.
-- Assumes nothing.
use mathlib.Core.Path.{◌≡◌, refl, sym, ◌∙◌, ap}
use mathlib.Core.Logic.{◌↔◌, ◌⊎◌, inl, inr}
use mathlib.Core.Bool.{Bool, true, false, cond}
use mathlib.Core.List.Memᴰ
use mathlib.Core.List.{List, [], ◌∷◌}
use Prim.Native.Nat.{ℕ, ◌+◌, ◌≤◌, max}
use native.Mathlib.Nat.{max-eq_left, max-eq_right}
use native.Mathlib.Decide.{dec_le}
use native.Mathlib.Omega.{arith}
use lib.Dec.{eqb}
use borrow.Author.Tests.{eqb-true, eqb-false}
use lib.ListN.{get_or}
use Rattle.model.specs.Block.{Wire, Stands, Joined}
use Rattle.model.specs.Path.{Path, stay, go, Longest}
use Rattle.model.specs.Part.{Shape, wire, series, parallel, Inside, HasWire, Part}
use Rattle.optimum.specs.Tree.{longest}
use Rattle.optimum.specs.Increases.{read}
use Rattle.optimum.specs.BlockTree.{wire_delay, tree_of, NoneTwice}
use Rattle.optimum.proofs.Parts.{ends, source_gate, none_from_last, Closed, closed_left, closed_right, closed_one, closed_other}

-- the slowest wire, one wire more: a statement holds if it holds with the wire counted, and without
by_wire : (w : Wire) (ws : List Wire) (a b : ℕ) (C : ℕ → Type 0) → (w.source ≡ a → w.target ≡ b → C (max w.delay (wire_delay ws a b)))
    → (((w.source ≡ a) × (w.target ≡ b) → ⊥) → C (wire_delay ws a b)) → C (wire_delay (w ∷ ws) a b)
unfolding wire_delay
by_wire w ws a b C counted other = from (eqb w.source a) (eqb w.target b) refl refl
  where
    from : (s t : Bool) → eqb w.source a ≡ s → eqb w.target b ≡ t
        → C (cond s (cond t (max w.delay (wire_delay ws a b)) (wire_delay ws a b)) (wire_delay ws a b))
    from true true es et = counted (eqb-true _ _ es) (eqb-true _ _ et)
    from true false es et = other (λ h. eqb-false _ _ et h.1)
    from false t es et = other (λ h. eqb-false _ _ es h.0)

-- no wire from a to b is slower than `wire_delay`
delay_most : (ws : List Wire) (a b w : ℕ) → Stands ws a b w → w ≤ wire_delay ws a b
delay_most [] a b w on = absurd (Memᴰ.not-nil on)
delay_most (v ∷ ws) a b w (Memᴰ.head e) =
    by_wire v ws a b
    (λ (r : ℕ). w ≤ r)
    (λ s t. let k : w ≡ v.delay = ap (λ (u : Wire). u.delay) e in omega arith)
    (λ h. absurd (h (sym (ap (λ (u : Wire). u.source) e), sym (ap (λ (u : Wire). u.target) e))))
delay_most (v ∷ ws) a b w (Memᴰ.tail m) =
    by_wire v ws a b (λ (r : ℕ). w ≤ r) (λ s t. omega (arith, delay_most ws a b w m)) (λ h. delay_most ws a b w m)

-- and one is as slow, if there is any
delay_found : (ws : List Wire) (a b : ℕ) → (wire_delay ws a b ≡ 0) ⊎ Stands ws a b (wire_delay ws a b)
unfolding wire_delay
delay_found [] a b = inl refl
delay_found (v ∷ ws) a b =
    by_wire v ws a b
    (λ (r : ℕ). (r ≡ 0) ⊎ Stands (v ∷ ws) a b r)
    (λ s t. slower s t (dec_le (wire_delay ws a b) v.delay) (delay_found ws a b))
    (λ h. further (delay_found ws a b))
  where
    further : (wire_delay ws a b ≡ 0) ⊎ Stands ws a b (wire_delay ws a b) → (wire_delay ws a b ≡ 0) ⊎ Stands (v ∷ ws) a b (wire_delay ws a b)
    further (inl z) = inl z
    further (inr m) = inr (Memᴰ.tail m)

    slower : v.source ≡ a → v.target ≡ b → Dec (wire_delay ws a b ≤ v.delay)
        → (wire_delay ws a b ≡ 0) ⊎ Stands ws a b (wire_delay ws a b)
        → (max v.delay (wire_delay ws a b) ≡ 0) ⊎ Stands (v ∷ ws) a b (max v.delay (wire_delay ws a b))
    slower s t (yes l) rest = rw (max-eq_left l) (inr (Memᴰ.head (λ i. record { source = sym s i; target = sym t i; delay = v.delay })))
    slower s t (no l) rest =
        let l' : v.delay ≤ wire_delay ws a b = omega arith in
        rw (max-eq_right l') (further rest)

pub delay_stands : (ws : List Wire) (a b : ℕ) → Joined ws a b → Stands ws a b (wire_delay ws a b)
delay_stands ws a b (w, m) = from (delay_found ws a b)
  where
    from : (wire_delay ws a b ≡ 0) ⊎ Stands ws a b (wire_delay ws a b) → Stands ws a b (wire_delay ws a b)
    from (inr f) = f
    from (inl z) =
        let k : w ≡ wire_delay ws a b = omega (arith, delay_most ws a b w m) in
        rw k at m

-- where no wire stands twice, it is the delay of the wire
wire_alone : (ws : List Wire) (a b w u : ℕ) → NoneTwice ws → Stands ws a b w → Stands ws a b u → w ≡ u
wire_alone [] a b w u n on _ = absurd (Memᴰ.not-nil on)
wire_alone (v ∷ ws) a b w u n (Memᴰ.head e) (Memᴰ.head k) = ap (λ (x : Wire). x.delay) (e ∙ sym k)
wire_alone (v ∷ ws) a b w u n (Memᴰ.head e) (Memᴰ.tail k) =
    absurd (n.0 (u, rw (ap (λ (x : Wire). x.source) e, ap (λ (x : Wire). x.target) e) at k))
wire_alone (v ∷ ws) a b w u n (Memᴰ.tail m) (Memᴰ.head e) =
    absurd (n.0 (w, rw (ap (λ (x : Wire). x.source) e, ap (λ (x : Wire). x.target) e) at m))
wire_alone (v ∷ ws) a b w u n (Memᴰ.tail m) (Memᴰ.tail k) = wire_alone ws a b w u n.1 m k

pub delay_is : (ws : List Wire) (a b w : ℕ) → NoneTwice ws → Stands ws a b w → wire_delay ws a b ≡ w
delay_is ws a b w n m = wire_alone ws a b (wire_delay ws a b) w n (delay_stands ws a b (w, m)) m

module _ (ws : List Wire) (e : ℕ → ℕ) where
  -- how a path goes on: it ends here, or it takes a wire
  pub record Onward (a z t : ℕ) : Type 0 where
    pub to : ℕ
    pub delay : ℕ
    pub rest : ℕ
    pub along : Stands ws a to delay
    pub path : Path ws e to z rest
    pub time : t ≡ e a + delay + rest

  pub onward : (a z t : ℕ) → Path ws e a z t → ((a ≡ z) × (t ≡ e a)) ⊎ Onward a z t
  onward a z t stay = inl (refl, refl)
  onward a z t (go {c = c} {w = w} {t = r} s p) = inr (record { to = c; delay = w; rest = r; along = s; path = p; time = refl })

module _ (ws : List Wire) (d : ℕ → ℕ) (x : List ℕ) where
  -- the delay of a gate, increase added
  abbrev e : ℕ → ℕ
  e g = d g + get_or x g 0

  abbrev len : Shape → ℕ → ℕ → ℕ
  len P a b = longest d (tree_of ws P a b) (read (tree_of ws P a b) x)

  -- a path as long as the part, with what follows after its last gate
  attained : (P : Shape) (a b : ℕ) → ((u v : ℕ) → HasWire P a b u v → Joined ws u v) → (z t : ℕ) → Path ws e b z t
      → Path ws e a z (e a + len P a b + t)
  attained wire a b joined z t p = go (delay_stands ws a b (joined a b (refl, refl))) p
  attained (series P m Q) a b joined z t p =
      let r = attained P a m (λ u v w. joined u v (inl w)) z _ (attained Q m b (λ u v w. joined u v (inr w)) z t p) in
      let k : e a + len P a m + (e m + len Q m b + t) ≡ e a + len (series P m Q) a b + t = omega arith in
      rw k at r
  attained (parallel P Q) a b joined z t p =
      longer (dec_le (len P a b) (len Q a b)) (attained P a b (λ u v w. joined u v (inl w)) z t p)
      (attained Q a b (λ u v w. joined u v (inr w)) z t p)
    where
      longer : Dec (len P a b ≤ len Q a b) → Path ws e a z (e a + len P a b + t) → Path ws e a z (e a + len Q a b + t)
          → Path ws e a z (e a + len (parallel P Q) a b + t)
      longer (yes l) p q = rw (max-eq_right l) q
      longer (no l) p q =
          let l' : len Q a b ≤ len P a b = omega arith in
          rw (max-eq_left l') p

  -- A path that enters the part from its first gate passes its last gate, and takes at most the part's length in between.
  record Through (P : Shape) (a b z w t : ℕ) : Type 0 where
    rest : ℕ
    path : Path ws e b z rest
    at_most : w + t ≤ len P a b + rest

  -- every path that enters the part passes it
  abbrev Passes : Shape → ℕ → ℕ → Type 0
  Passes P a b = (z : ℕ) → ¬ (Inside P z) → (c w t : ℕ) → HasWire P a b a c → Stands ws a c w → Path ws e c z t → Through P a b z w t

  passes_series : (P : Shape) (m : ℕ) (Q : Shape) (a b : ℕ) → Part a b (series P m Q) → Closed (Joined ws) (series P m Q) a b → Passes P a m
      → Passes Q m b → Passes (series P m Q) a b
  passes_series P m Q a b (p, q, share) closed passP passQ z out c w t = enter
    where
      onto : (r : ℕ) (o : Onward ws e m z r) → HasWire (series P m Q) a b m o.to → Through Q m b z o.delay o.rest
      onto r o (inl h) = absurd (none_from_last P a m o.to (ends P a m p) h)
      onto r o (inr h) = passQ z (λ i. out (inr (inr i))) o.to o.delay o.rest h o.along o.path

      middle : (r : ℕ) → w + t ≤ len P a m + r → ((m ≡ z) × (r ≡ e m)) ⊎ Onward ws e m z r → Through (series P m Q) a b z w t
      middle r l (inl (s, _)) = absurd (out (inr (inl (sym s))))
      middle r l (inr o) =
          let f = onto r o (closed m o.to (inl (inr (inl refl))) (o.delay, o.along)) in
          record { rest = f.rest; path = f.path; at_most = omega (arith, o.time, f.at_most) }

      enter : HasWire (series P m Q) a b a c → Stands ws a c w → Path ws e c z t → Through (series P m Q) a b z w t
      enter (inl h) s path =
          let f = passP z (λ i. out (inl i)) c w t h s path in
          middle f.rest f.at_most (onward ws e m z f.rest f.path)
      enter (inr h) s path = absurd ((ends P a m p).apart (shared (source_gate Q m b a c h)))
        where
          shared : (a ≡ m) ⊎ Inside Q a → a ≡ m
          shared (inl k) = k
          shared (inr j) = share a (inl refl) (inr (inr j))

  passes_parallel : (P Q : Shape) (a b : ℕ) → Passes P a b → Passes Q a b → Passes (parallel P Q) a b
  passes_parallel P Q a b passP passQ z out c w t = enter
    where
      enter : HasWire (parallel P Q) a b a c → Stands ws a c w → Path ws e c z t → Through (parallel P Q) a b z w t
      enter (inl h) s path =
          let f = passP z (λ i. out (inl i)) c w t h s path in
          record { rest = f.rest; path = f.path; at_most = omega (arith, f.at_most) }
      enter (inr h) s path =
          let f = passQ z (λ i. out (inr i)) c w t h s path in
          record { rest = f.rest; path = f.path; at_most = omega (arith, f.at_most) }

  through : (P : Shape) (a b : ℕ) → Part a b P → Closed (Joined ws) P a b → Passes P a b
  through wire a b p closed =
      λ z out c w t h s path.
      let k = h.1 in
      record { rest = t; path = rw k at path; at_most = omega (arith, delay_most ws a b w (rw k at s)) }
  through (series P m Q) a b p closed =
      passes_series P m Q a b p closed (through P a m p.0 (closed_left (Joined ws) P m Q a b p closed))
      (through Q m b p.1 (closed_right (Joined ws) P m Q a b p closed))
  through (parallel P Q) a b p closed =
      passes_parallel P Q a b (through P a b p.0 (closed_one (Joined ws) P Q a b p closed))
      (through Q a b p.1 (closed_other (Joined ws) P Q a b p closed))

  -- A part whose wires are all the wires lasts, its ends counted, as long as a longest path.
  pub part_lasts : (P : Shape) (a b : ℕ) → Part a b P → ((u v : ℕ) → Joined ws u v ↔ HasWire P a b u v) → Longest ws e a b (e a + len P a b + e b)
  part_lasts P a b p wires = record { attained = attained P a b (λ u v. (wires u v).1) b (e b) stay; greatest = greatest }
    where
      closed : Closed (Joined ws) P a b
      closed u v i = (wires u v).0

      ending : (r : ℕ) → ((b ≡ b) × (r ≡ e b)) ⊎ Onward ws e b b r → r ≡ e b
      ending r (inl (_, s)) = s
      ending r (inr o) = absurd (none_from_last P a b o.to (ends P a b p) ((wires b o.to).0 (o.delay, o.along)))

      greatest : (t : ℕ) → Path ws e a b t → t ≤ e a + len P a b + e b
      greatest t path = from (onward ws e a b t path)
        where
          from : ((a ≡ b) × (t ≡ e a)) ⊎ Onward ws e a b t → t ≤ e a + len P a b + e b
          from (inl (s, _)) = absurd ((ends P a b p).apart s)
          from (inr o) =
              let f = through P a b p closed b (ends P a b p).not_last o.to o.delay o.rest ((wires a o.to).0 (o.delay, o.along)) o.along o.path in
              omega (arith, o.time, f.at_most, ending f.rest (onward ws e b b f.rest f.path))
