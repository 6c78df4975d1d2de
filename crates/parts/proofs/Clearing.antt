-- A block that has a part can be taken away entirely, by following the part's tree (`cleared`); so every order of takings that ends stuck has taken all gates inside the part (`inside_taken`).
-- A middle gate of a series part, once both sides are cleared, has one predecessor and one successor: the two ends of that part (`one_source`, used forwards and backwards). Assumes nothing.
use mathlib.Core.Path.{◌≡◌, refl, sym, subst}
use mathlib.Core.Logic.{◌⊎◌, inl, inr, ◌↔◌, ⊎_elim}
use mathlib.Core.List.Memᴰ
use mathlib.Core.List.{List, [], ◌∷◌, Memᴰ}
use Prim.Native.Nat.{ℕ}
use Rattle.model.specs.Part.{Shape, wire, series, parallel, Inside, HasGate, HasWire, Part}
use Rattle.parts.specs.Reduction.{Thru, direct, through, Only, Left, Removable, Stuck, Takes, done, take}
use Rattle.parts.proofs.Diamond.{Turned, only_iff, thru_turned, taken_by_all}
use Rattle.parts.proofs.Gates.{wire_ends, wire_gates, Ends, part_ends, enters_none, leaves_none, crossing}

-- R with the gates inside the part put in front, in an order in which they can go
cleared : Shape → List ℕ → List ℕ
cleared wire R = R
cleared (series P m Q) R = m ∷ cleared Q (cleared P R)
cleared (parallel P Q) R = cleared Q (cleared P R)

in_cleared : (P : Shape) (R : List ℕ) (g : ℕ) → Inside P g ⊎ Memᴰ g R → Memᴰ g (cleared P R)
unfolding cleared
in_cleared wire R g = ⊎_elim absurd (λ m. m)
in_cleared (series P m Q) R g =
    ⊎_elim
    (⊎_elim (λ i. Memᴰ.tail (in_cleared Q (cleared P R) g (inr (in_cleared P R g (inl i))))) (⊎_elim Memᴰ.head (λ i. Memᴰ.tail (in_cleared Q (cleared P R) g (inl i)))))
    (λ k. Memᴰ.tail (in_cleared Q (cleared P R) g (inr (in_cleared P R g (inr k)))))
in_cleared (parallel P Q) R g =
    ⊎_elim
    (⊎_elim (λ i. in_cleared Q (cleared P R) g (inr (in_cleared P R g (inl i)))) (λ i. in_cleared Q (cleared P R) g (inl i)))
    (λ k. in_cleared Q (cleared P R) g (inr (in_cleared P R g (inr k))))

of_cleared : (P : Shape) (R : List ℕ) (g : ℕ) → Memᴰ g (cleared P R) → Inside P g ⊎ Memᴰ g R
unfolding cleared
of_cleared wire R g m = inr m
of_cleared (series P m Q) R g k =
    ⊎_elim (λ e. inl (inr (inl e)))
    (λ l. ⊎_elim (λ i. inl (inr (inr i))) (λ n. ⊎_elim (λ i. inl (inl i)) inr (of_cleared P R g n)) (of_cleared Q (cleared P R) g l))
    (Memᴰ.cases_cons k)
of_cleared (parallel P Q) R g k =
    ⊎_elim (λ i. inl (inr i)) (λ n. ⊎_elim (λ i. inl (inl i)) inr (of_cleared P R g n)) (of_cleared Q (cleared P R) g k)

-- If every wire into m or a gate of S comes from a or a gate of S, and of these only a is left, then a is m's one predecessor.
one_source :
    (E : ℕ → ℕ → Type 0) (S : ℕ → Type 0) {R : List ℕ} {a m : ℕ}
    → ((x y : ℕ) → E x y → (y ≡ m) ⊎ S y → (x ≡ a) ⊎ S x)
    → ((g : ℕ) → S g → Memᴰ g R)
    → Left R a
    → Thru E R a m
    → Only (λ x. Left R x × Thru E R x m)
one_source E S {R} {a} {m} from gone la t = record { value = a; holds = (la, t); alone = λ x h. ⊎_elim (λ e. e) (λ s. absurd (h.0 (gone x s))) (source h.1) }
  where
    source_of : {x y : ℕ} → y ≡ m → Thru E R x y → (x ≡ a) ⊎ S x
    source_of {x} {y} e (direct w) = from x y w (inl e)
    source_of {x} e (through {c = c} w k s) = ⊎_elim (λ p. absurd (la (Memᴰ.cast (sym p) k))) (λ i. from x c w (inr i)) (source_of e s)

    source : {x : ℕ} → Thru E R x m → (x ≡ a) ⊎ S x
    source = source_of refl

-- the wires W, with the gates I inside, are all wires of E that touch a gate of I
record Held (E W : ℕ → ℕ → Type 0) (I : ℕ → Type 0) : Type 0 where
  wires : (x y : ℕ) → W x y → E x y
  closed : (x y : ℕ) → E x y → I x ⊎ I y → W x y

-- one of two parts that make up the wires W is held as they are, if no gate inside it is a gate of the other
held_one :
    {E W : ℕ → ℕ → Type 0} {I : ℕ → Type 0} (P Q : Shape) (a b c d : ℕ)
    → Held E W I
    → ((x y : ℕ) → HasWire P a b x y → W x y)
    → ((x y : ℕ) → W x y → HasWire P a b x y ⊎ HasWire Q c d x y)
    → ((g : ℕ) → Inside P g → I g)
    → ((g : ℕ) → Inside P g → HasGate Q c d g → ⊥)
    → Held E (HasWire P a b) (Inside P)
held_one P Q a b c d h sub split inner apart =
    record {
      wires = λ x y k. h.wires x y (sub x y k);
      closed =
          λ x y e i.
          ⊎_elim (λ k. k) (λ k. let g = wire_gates Q c d x y k in absurd (⊎_elim (λ j. apart x j g.0) (λ j. apart y j g.1) i))
          (split x y (h.closed x y e (⊎_elim (λ j. inl (inner x j)) (λ j. inr (inner y j)) i)));
    }

-- Two parts in series, both cleared: the middle gate can go.
module _ {E : ℕ → ℕ → Type 0} (P : Shape) (m : ℕ) (Q : Shape) (a b : ℕ) (p : Part a b (series P m Q)) (h : Held E (HasWire (series P m Q) a b) (Inside (series P m Q))) where
  left_apart : (g : ℕ) → Inside P g → HasGate Q m b g → ⊥
  left_apart g i k = (part_ends P a m p.0).last_outside (subst (Inside P) (p.2 g (inr (inr i)) k) i)

  right_apart : (g : ℕ) → Inside Q g → HasGate P a m g → ⊥
  right_apart g i k = (part_ends Q m b p.1).first_outside (subst (Inside Q) (p.2 g k (inr (inr i))) i)

  left_held : Held E (HasWire P a m) (Inside P)
  left_held = held_one P Q a m m b h (λ x y. inl) (λ x y k. k) (λ g. inl) left_apart

  right_held : Held E (HasWire Q m b) (Inside Q)
  right_held = held_one Q P m b a m h (λ x y. inr) (λ x y. ⊎_elim inr inl) (λ g i. inr (inr i)) right_apart

  -- a wire into m or a gate inside P is a wire of P
  into_left : (x y : ℕ) → E x y → (y ≡ m) ⊎ Inside P y → (x ≡ a) ⊎ Inside P x
  into_left x y e i =
      ⊎_elim (λ k. (wire_ends P a m x y k).0)
      (λ k. absurd (enters_none Q m b x y p.1 k (p.2 y (inr i) (wire_gates Q m b x y k).1)))
      (h.closed x y e (inr (⊎_elim (λ j. inr (inl j)) inl i)))

  -- a wire out of m or a gate inside Q is a wire of Q
  out_of_right : (y x : ℕ) → E x y → (x ≡ m) ⊎ Inside Q x → (y ≡ b) ⊎ Inside Q y
  out_of_right y x e i =
      ⊎_elim (λ k. absurd (leaves_none P a m x y p.0 k (p.2 x (wire_gates P a m x y k).0 (⊎_elim inl (λ j. inr (inr j)) i))))
      (λ k. (wire_ends Q m b x y k).1)
      (h.closed x y e (inl (inr i)))

  middle_removable : {R : List ℕ} → ((g : ℕ) → Inside P g ⊎ Inside Q g → Memᴰ g R) → Left R a → Left R m → Left R b → Removable E R m
  middle_removable gone la lm lb =
      record {
        left = lm;
        before = one_source E (Inside P) into_left (λ g i. gone g (inl i)) la (crossing P a m left_held.wires (λ g i. gone g (inl i)));
        after =
            only_iff (λ x. (λ k. (k.0, thru_turned k.1), λ k. (k.0, thru_turned k.1)))
            (one_source (Turned E) (Inside Q) out_of_right (λ g i. gone g (inr i)) lb (thru_turned (crossing Q m b right_held.wires (λ g i. gone g (inr i)))));
      }

-- The gates inside a part that is held can go one after another, where none of its gates has gone.
clear :
    {E : ℕ → ℕ → Type 0} {Z R : List ℕ} (P : Shape) (a b : ℕ)
    → Part a b P
    → Held E (HasWire P a b) (Inside P)
    → ((g : ℕ) → HasGate P a b g → Left R g)
    → Takes E Z (cleared P R)
    → Takes E Z R
unfolding cleared
clear wire a b p h l t = t
clear {E} {Z} {R} (series P m Q) a b p h l t =
    clear P a m p.0 (left_held P m Q a b p h) (λ g i. l g (⊎_elim inl (⊎_elim (λ e. inr (inr (inr (inl e)))) (λ j. inr (inr (inl j)))) i))
    (clear Q m b p.1 (right_held P m Q a b p h) right_left (take (middle_removable P m Q a b p h gone first_left middle_left last_left) t))
  where
    ends : Ends (series P m Q) a b
    ends = part_ends (series P m Q) a b p

    right_gate : (g : ℕ) → HasGate Q m b g → HasGate (series P m Q) a b g
    right_gate g = ⊎_elim (λ e. inr (inr (inr (inl e)))) (⊎_elim (λ e. inr (inl e)) (λ j. inr (inr (inr (inr j)))))

    right_left : (g : ℕ) → HasGate Q m b g → Left (cleared P R) g
    right_left g i k = ⊎_elim (λ j. left_apart P m Q a b p h g j i) (l g (right_gate g i)) (of_cleared P R g k)

    gone : (g : ℕ) → Inside P g ⊎ Inside Q g → Memᴰ g (cleared Q (cleared P R))
    gone g = ⊎_elim (λ i. in_cleared Q (cleared P R) g (inr (in_cleared P R g (inl i)))) (λ i. in_cleared Q (cleared P R) g (inl i))

    both_left : (g : ℕ) → HasGate (series P m Q) a b g → ¬ (Inside P g) → ¬ (Inside Q g) → Left (cleared Q (cleared P R)) g
    both_left g i np nq k = ⊎_elim nq (λ j. ⊎_elim np (l g i) (of_cleared P R g j)) (of_cleared Q (cleared P R) g k)

    first_left : Left (cleared Q (cleared P R)) a
    first_left = both_left a (inl refl) (λ i. ends.first_outside (inl i)) (λ i. ends.first_outside (inr (inr i)))

    middle_left : Left (cleared Q (cleared P R)) m
    middle_left = both_left m (inr (inr (inr (inl refl)))) (part_ends P a m p.0).last_outside (part_ends Q m b p.1).first_outside

    last_left : Left (cleared Q (cleared P R)) b
    last_left = both_left b (inr (inl refl)) (λ i. ends.last_outside (inl i)) (λ i. ends.last_outside (inr (inr i)))
clear {E} {Z} {R} (parallel P Q) a b p h l t = clear P a b p.0 held_P (λ g i. l g (sub P (λ g. inl) g i)) (clear Q a b p.1 held_Q right_left t)
  where
    sub : (S : Shape) → ((g : ℕ) → Inside S g → Inside (parallel P Q) g) → (g : ℕ) → HasGate S a b g → HasGate (parallel P Q) a b g
    sub S f g = ⊎_elim inl (⊎_elim (λ e. inr (inl e)) (λ j. inr (inr (f g j))))

    apart : (g : ℕ) → Inside (parallel P Q) g → HasGate P a b g → HasGate Q a b g → ⊥
    apart g i k n = ⊎_elim (λ e. ends.first_outside (subst (Inside (parallel P Q)) e i)) (λ e. ends.last_outside (subst (Inside (parallel P Q)) e i)) (p.2 g k n)
      where
        ends : Ends (parallel P Q) a b
        ends = part_ends (parallel P Q) a b p

    held_P : Held E (HasWire P a b) (Inside P)
    held_P = held_one P Q a b a b h (λ x y. inl) (λ x y k. k) (λ g. inl) (λ g i. apart g (inl i) (inr (inr i)))

    held_Q : Held E (HasWire Q a b) (Inside Q)
    held_Q = held_one Q P a b a b h (λ x y. inr) (λ x y. ⊎_elim inr inl) (λ g. inr) (λ g i k. apart g (inr i) k (inr (inr i)))

    right_left : (g : ℕ) → HasGate Q a b g → Left (cleared P R) g
    right_left g i k = ⊎_elim (λ j. apart g (inl j) (inr (inr j)) i) (l g (sub Q (λ g. inr) g i)) (of_cleared P R g k)

-- A part whose wires are all the wires there are can be taken away entirely: some order takes all gates inside.
pub taken_away :
    {E : ℕ → ℕ → Type 0} (P : Shape) (a b : ℕ)
    → Part a b P
    → ((x y : ℕ) → E x y ↔ HasWire P a b x y)
    → (Z : List ℕ) × ((g : ℕ) → Inside P g → Memᴰ g Z) × Takes E Z []
taken_away P a b p w = (
  cleared P [],
  λ g i. in_cleared P [] g (inl i),
  clear P a b p (record { wires = λ x y. (w x y).1; closed = λ x y e i. (w x y).0 e }) (λ g i. Memᴰ.not-nil) (done (λ g. (λ m. m, λ m. m))),
)

-- Completeness: every order of takings that ends stuck has taken all gates inside such a part.
pub inside_taken :
    {E : ℕ → ℕ → Type 0} {Z : List ℕ} (P : Shape) (a b : ℕ)
    → Part a b P
    → ((x y : ℕ) → E x y ↔ HasWire P a b x y)
    → Takes E Z []
    → Stuck E Z
    → (g : ℕ) → Inside P g → Memᴰ g Z
inside_taken P a b p w t stuck g i = let y = taken_away P a b p w in taken_by_all stuck t y.2 g (y.1 g i)
