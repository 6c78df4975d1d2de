-- What is left of a block does not depend on the order in which gates are taken away and doubled wires merged (`same_gates_left`); and what an order of takings leaves that goes on until no gate can go, some order of both steps leaves at its end (`end_of`).
-- The idea: a wire stands at a moment where `Thru` leads, however often it stands; so a taking is a taking of `Diamond`, a merging changes nothing there, and an end is stuck. Conversely a gate that can go is taken, and where it doubles a wire the two are merged. Assumes nothing.
use mathlib.Core.Path.{◌≡◌, refl, sym, ◌∙◌, ap, subst, subst₂}
use mathlib.Core.Logic.{◌≢◌, ◌⊎◌, inl, inr, ◌↔◌, ⊎_elim}
use mathlib.Core.List.Memᴰ
use mathlib.Core.List.{List, [], ◌∷◌, Memᴰ}
use Prim.Native.Nat.{ℕ, suc, ◌+◌, ◌≤◌, ◌<◌}
use native.Mathlib.Decide.{ℕ_discrete, dec_lt}
use native.Mathlib.Omega.{arith}
use lib.ListN.{length}
use Rattle.lists.specs.Sum.{total}
use Rattle.model.specs.Block.{Wire, Block, Joined}
use Rattle.model.specs.Remainder as R
use Rattle.model.proofs.Remainder.{at_pair, off_pair, gone, kept, fewer, wires_stay, counted}
use Rattle.parts.specs.Reduction.{Thru, direct, through, Left, Removable, Stuck, Same, Takes, done, take}
use Rattle.parts.specs.Network.{wire_at, Network}
use Rattle.parts.proofs.Diamond.{thru_taken, left_more, takes_more, removable_same, same_end}
use Rattle.parts.proofs.Start.{loop_free, place_of}

-- a count that is not above 0 is 0
none : (n : ℕ) → (0 < n → ⊥) → n ≡ 0
none n no_wire = go (dec_lt 0 n)
  where
    go : Dec (0 < n) → n ≡ 0
    go (yes p) = absurd (no_wire p)
    go (no q) = omega arith

-- The counts come to one in all exactly where one is above 0, at most 1, and no other is above 0.
alone : {f : ℕ → ℕ} {a : ℕ} → R.OneOf f a → (x : ℕ) → 0 < f x → x ≡ a
alone {f} {a} o x some = go (ℕ_discrete x a)
  where
    go : Dec (x ≡ a) → x ≡ a
    go (yes e) = e
    go (no n) = absurd (omega (arith, o.no_other x n))

one_of : (f : ℕ → ℕ) (a : ℕ) → 0 < f a → f a ≤ 1 → ((x : ℕ) → 0 < f x → x ≡ a) → R.OneOf f a
one_of f a some few only = record { one = omega arith; no_other = λ x n. none (f x) (λ p. n (only x p)) }

-- Where no wire stands twice, each is counted once.
counted_once :
    (ws : List Wire)
    → ((i j : ℕ) → i < length ws → j < length ws → (wire_at ws i).source ≡ (wire_at ws j).source → (wire_at ws i).target ≡ (wire_at ws j).target → i ≡ j)
    → (x y : ℕ)
    → R.wires_between ws x y ≤ 1
unfolding R.wires_between total
counted_once [] once x y = omega arith
counted_once (w ∷ ws) once x y = go (off_pair x y w.source w.target) (counted_once ws (λ i j h k e f. let same = once (suc i) (suc j) (omega arith) (omega arith) e f in omega arith) x y)
  where
    go : ((w.source ≡ x) × (w.target ≡ y)) ⊎ (R.one_at x y w.source w.target ≡ 0) → R.wires_between ws x y ≤ 1 → R.one_at x y w.source w.target + R.wires_between ws x y ≤ 1
    go (inr off) later = omega arith
    go (inl (e, f)) later = omega (arith, at_pair x y w.source w.target e f, none (R.wires_between ws x y) (λ some. other ((counted ws x y).0 some)))
      where
        other : Joined ws x y → ⊥
        other (d, m) =
            let (i, h, v) = place_of m in
            let same : 0 ≡ suc i = once 0 (suc i) (omega arith) (omega arith) (e ∙ ap (λ (u : Wire). u.source) v) (f ∙ ap (λ (u : Wire). u.target) v) in
            omega arith

module _ (B : Block) where
  -- a wire is left between two gates that are there, when the gates S are taken away
  abbrev Across : List ℕ → ℕ → ℕ → Type 0
  Across S x y = Left S x × Left S y × Thru (Joined B.wires) S x y

  -- a wire stands at the moment M where one is left
  abbrev Faithful : R.Moment → Type 0
  Faithful M = (x y : ℕ) → (0 < M.wires x y) ↔ Across M.taken x y

  -- Of a gate with one wire in and one out.
  module _ {M : R.Moment} (s : Faithful M) {m a b : ℕ} (into : R.OneInto M.wires a m) (out : R.OneOutOf M.wires m b) where
    across_in : Across M.taken a m
    across_in = (s a m).0 (omega (arith, into.one))

    across_out : Across M.taken m b
    across_out = (s m b).0 (omega (arith, out.one))

    only_in : (x : ℕ) → Left M.taken x → Thru (Joined B.wires) M.taken x m → x ≡ a
    only_in x l t = alone into x ((s x m).1 (l, across_in.1, t))

    only_out : (y : ℕ) → Left M.taken y → Thru (Joined B.wires) M.taken m y → y ≡ b
    only_out y l t = alone out y ((s m y).1 (across_out.0, l, t))

    removable : Removable (Joined B.wires) M.taken m
    removable =
        record {
          left = across_in.1;
          before = record { value = a; holds = (across_in.0, across_in.2); alone = λ x h. only_in x h.0 h.1 };
          after = record { value = b; holds = (across_out.1, across_out.2); alone = λ y h. only_out y h.0 h.1 };
        }

    -- the joined wire is left
    across_joined : a ≢ m → b ≢ m → Across (m ∷ M.taken) a b
    across_joined n k = (left_more.0 (n, across_in.0), left_more.0 (k, across_out.1), thru_taken.1 (inr (across_in.2, across_out.2)))

    take_faithful : Faithful (record { wires = R.without m a b M.wires; taken = m ∷ M.taken })
    take_faithful x y = (there (ℕ_discrete x m) (ℕ_discrete y m), back)
      where
        there : Dec (x ≡ m) → Dec (y ≡ m) → 0 < R.without m a b M.wires x y → Across (m ∷ M.taken) x y
        there (yes e) f p = absurd (omega (arith, gone M.wires m a b x y (inl e)))
        there (no n) (yes f) p = absurd (omega (arith, gone M.wires m a b x y (inr f)))
        there (no n) (no k) p = on (dec_lt 0 (M.wires x y)) (off_pair a b x y)
          where
            on : Dec (0 < M.wires x y) → ((x ≡ a) × (y ≡ b)) ⊎ (R.one_at a b x y ≡ 0) → Across (m ∷ M.taken) x y
            on (yes q) at = let (u, v, t) = (s x y).0 q in (left_more.0 (n, u), left_more.0 (k, v), thru_taken.1 (inl t))
            on (no q) (inl (e, f)) = subst₂ (Across (m ∷ M.taken)) (sym e) (sym f) (across_joined (λ z. n (e ∙ z)) (λ z. k (f ∙ z)))
            on (no q) (inr off) = absurd (omega (arith, kept M.wires m a b x y n k))

        back : Across (m ∷ M.taken) x y → 0 < R.without m a b M.wires x y
        back (u, v, t) =
            let (n, l) = left_more.1 u in
            let (k, r) = left_more.1 v in
            ⊎_elim (λ d. wires_stay (R.take m a b into out) x y u v ((s x y).1 (l, r, d)))
            (λ d. omega (arith, kept M.wires m a b x y n k, at_pair a b x y (only_in x l d.0) (only_out y r d.1)))
            (thru_taken.0 t)

  merge_faithful : {M : R.Moment} → Faithful M → (a b : ℕ) → 2 ≤ M.wires a b → Faithful (record { wires = R.one_fewer a b M.wires; taken = M.taken })
  merge_faithful {M} s a b h x y =
      (λ p. (s x y).0 (omega (arith, fewer M.wires a b x y)), λ q. wires_stay (R.merge a b h) x y q.0 q.1 ((s x y).1 q))

  begins : Faithful (R.beginning B)
  begins x y = (λ p. (Memᴰ.not-nil, Memᴰ.not-nil, direct ((counted B.wires x y).0 p)), λ q. (counted B.wires x y).1 (only q.2))
    where
      only : Thru (Joined B.wires) [] x y → Joined B.wires x y
      only (direct p) = p
      only (through p m t) = absurd (Memᴰ.not-nil m)

  -- Every order of takings and mergings is an order of takings.
  in_order : {M : R.Moment} → R.Moves (R.beginning B) M → Faithful M × Takes (Joined B.wires) M.taken []
  in_order R.done = (begins, done (λ g. (λ h. h, λ h. h)))
  in_order (R.then ms (R.take m a b i o)) =
      let (s, t) = in_order ms in
      (take_faithful s i o, takes_more t (removable s i o))
  in_order (R.then ms (R.merge a b h)) =
      let (s, t) = in_order ms in
      (merge_faithful s a b h, t)

  -- A gate that can go has one wire in and one out, where no wire stands twice.
  module _ {M : R.Moment} (s : Faithful M) (simple : (x y : ℕ) → M.wires x y ≤ 1) {m : ℕ} (r : Removable (Joined B.wires) M.taken m) where
    one_into : R.OneInto M.wires r.before.value m
    one_into =
        one_of (λ x. M.wires x m) r.before.value ((s _ _).1 (r.before.holds.0, r.left, r.before.holds.1)) (simple _ _)
        (λ x q. let (u, v, t) = (s x m).0 q in r.before.alone x (u, t))

    one_out_of : R.OneOutOf M.wires m r.after.value
    one_out_of =
        one_of (M.wires m) r.after.value ((s _ _).1 (r.left, r.after.holds.0, r.after.holds.1)) (simple _ _)
        (λ y q. let (u, v, t) = (s m y).0 q in r.after.alone y (v, t))

  -- Where neither applies, no gate can go.
  ended_stuck : {M : R.Moment} → Faithful M → ((N : R.Moment) → ¬ (R.Move M N)) → Stuck (Joined B.wires) M.taken
  ended_stuck {M} s over m r = over _ (R.take m r.before.value r.after.value (one_into s simple r) (one_out_of s simple r))
    where
      simple : (x y : ℕ) → M.wires x y ≤ 1
      simple x y = go (dec_lt 1 (M.wires x y))
        where
          go : Dec (1 < M.wires x y) → M.wires x y ≤ 1
          go (yes q) = absurd (over _ (R.merge x y q))
          go (no q) = omega arith

  -- "Show that the gates left don't depend on the order" (document 02, K1).
  pub same_gates_left : (M N : R.Moment) → R.ReducedTo B M → R.ReducedTo B N → (g : ℕ) → Memᴰ g M.taken ↔ Memᴰ g N.taken
  same_gates_left M N e f =
      let (s, t) = in_order e.reached in
      let (u, v) = in_order f.reached in
      same_end t (ended_stuck s e.ended) v (ended_stuck u f.ended)

  -- a moment that some order reaches, at which no wire stands twice and the gates S are taken away
  record Reached (S : List ℕ) : Type 0 where
    pub wires : ℕ → ℕ → ℕ
    pub moves : R.Moves (R.beginning B) (record { wires = wires; taken = S })
    pub simple : (x y : ℕ) → wires x y ≤ 1

  module _ (n : Network B) where
    -- A gate that can go is taken away, and the wire that it doubles is merged.
    one_more : {S : List ℕ} {m : ℕ} → Reached S → Removable (Joined B.wires) S m → Reached (m ∷ S)
    one_more {S} {m} p r = go (dec_lt 0 (p.wires a b))
      where
        a : ℕ
        a = r.before.value

        b : ℕ
        b = r.after.value

        s : Faithful (record { wires = p.wires; taken = S })
        s = (in_order p.moves).0

        after : ℕ → ℕ → ℕ
        after = R.without m a b p.wires

        moved : R.Moves (R.beginning B) (record { wires = after; taken = m ∷ S })
        moved = R.then p.moves (R.take m a b (one_into s p.simple r) (one_out_of s p.simple r))

        few : (x y : ℕ) → after x y ≤ p.wires x y + R.one_at a b x y
        few x y = on (ℕ_discrete x m) (ℕ_discrete y m)
          where
            on : Dec (x ≡ m) → Dec (y ≡ m) → after x y ≤ p.wires x y + R.one_at a b x y
            on (yes e) f = omega (arith, gone p.wires m a b x y (inl e))
            on (no d) (yes f) = omega (arith, gone p.wires m a b x y (inr f))
            on (no d) (no k) = omega (arith, kept p.wires m a b x y d k)

        go : Dec (0 < p.wires a b) → Reached (m ∷ S)
        go (no q) = record { wires = after; moves = moved; simple = λ x y. at x y (off_pair a b x y) }
          where
            at : (x y : ℕ) → ((x ≡ a) × (y ≡ b)) ⊎ (R.one_at a b x y ≡ 0) → after x y ≤ 1
            at x y (inr z) = omega (arith, few x y, p.simple x y)
            at x y (inl (e, f)) =
                let h : p.wires x y ≡ 0 = rw (e, f) (none (p.wires a b) q) in
                omega (arith, few x y, at_pair a b x y e f)
        go (yes q) = record { wires = R.one_fewer a b after; moves = R.then moved (R.merge a b twice); simple = λ x y. at x y (off_pair a b x y) }
          where
            -- no gate reaches itself, so m is neither a nor b
            not_a : a ≢ m
            not_a e = loop_free n S m (subst (λ (z : ℕ). Thru (Joined B.wires) S z m) e r.before.holds.1)

            not_b : b ≢ m
            not_b e = loop_free n S m (subst (λ (z : ℕ). Thru (Joined B.wires) S m z) e r.after.holds.1)

            twice : 2 ≤ after a b
            twice = omega (arith, kept p.wires m a b a b not_a not_b, at_pair a b a b refl refl)

            at : (x y : ℕ) → ((x ≡ a) × (y ≡ b)) ⊎ (R.one_at a b x y ≡ 0) → R.one_fewer a b after x y ≤ 1
            at x y (inr z) = omega (arith, fewer after a b x y, few x y, p.simple x y)
            at x y (inl (e, f)) = omega (arith, fewer after a b x y, few x y, p.simple x y, at_pair a b x y e f)

    all_go : {Z S : List ℕ} → Reached S → Takes (Joined B.wires) Z S → (Y : List ℕ) × Reached Y × Same Y Z
    all_go {S = S} p (done e) = (S, p, e)
    all_go p (take r t) = all_go (one_more p r) t

    -- no wire of the block stands twice
    stands_once : (x y : ℕ) → R.wires_between B.wires x y ≤ 1
    stands_once = counted_once B.wires n.once

    -- What any order of takings leaves that goes on until no gate can go, some order of takings and mergings leaves at its end.
    pub end_of : {Z : List ℕ} → Takes (Joined B.wires) Z [] → Stuck (Joined B.wires) Z → (M : R.Moment) × R.ReducedTo B M × Same M.taken Z
    end_of {Z} t stuck =
        let (Y, p, same) = all_go (record { wires = R.wires_between B.wires; moves = R.done; simple = stands_once }) t in
        (record { wires = p.wires; taken = Y }, record { reached = p.moves; ended = over p same }, same)
      where
        over : {Y : List ℕ} (p : Reached Y) → Same Y Z → (N : R.Moment) → ¬ (R.Move (record { wires = p.wires; taken = Y }) N)
        over p same N (R.take m a b i o) = stuck m (removable_same same (removable (in_order p.moves).0 i o))
        over p same N (R.merge a b h) = let k = p.simple a b in omega arith
