-- Every order of takings ends with the same gates left (`same_end`). Of two removable gates each is still removable after the other (`diamond`); so a taking can be moved to the front of any order that ends stuck (`taken_first`).
-- Only the wires left matter: taking x away joins each predecessor of x with each successor (`thru_taken`), which reads the same in both directions. No acyclicity is needed. Assumes nothing.
use mathlib.Core.Path.{◌≡◌, ◌∙◌, sym, subst}
use mathlib.Core.Logic.{◌≢◌, ◌⊎◌, inl, inr, ◌↔◌, ⊎_elim}
use mathlib.Core.List.Memᴰ
use mathlib.Core.List.{List, ◌∷◌, Memᴰ}
use Prim.Native.Nat.{ℕ}
use native.Mathlib.Decide.{ℕ_discrete}
use Rattle.parts.specs.Reduction.{Thru, direct, through, Only, Left, Removable, Stuck, Same, Takes, done, take}

-- the relation read from its end
abbrev pub Turned : (ℕ → ℕ → Type 0) → ℕ → ℕ → Type 0
Turned E a b = E b a

pub only_iff : {P Q : ℕ → Type 0} → ((x : ℕ) → P x ↔ Q x) → Only P → Only Q
only_iff e o = record { value = o.value; holds = (e o.value).0 o.holds; alone = λ x q. o.alone x ((e x).1 q) }

-- Wires left.
pub thru_join : {E : ℕ → ℕ → Type 0} {R : List ℕ} {a b c : ℕ} → Thru E R a c → Memᴰ c R → Thru E R c b → Thru E R a b
thru_join (direct e) m t = through e m t
thru_join (through e k s) m t = through e k (thru_join s m t)

pub thru_grown : {E : ℕ → ℕ → Type 0} {R S : List ℕ} {a b : ℕ} → ((g : ℕ) → Memᴰ g R → Memᴰ g S) → Thru E R a b → Thru E S a b
thru_grown f (direct e) = direct e
thru_grown f (through {c = c} e m t) = through e (f c m) (thru_grown f t)

pub thru_turned : {E : ℕ → ℕ → Type 0} {R : List ℕ} {a b : ℕ} → Thru E R a b → Thru (Turned E) R b a
thru_turned (direct e) = direct e
thru_turned (through e m t) = thru_join (thru_turned t) m (direct e)

-- a to b directly, or by way of x
abbrev By : (ℕ → ℕ → Type 0) → ℕ → ℕ → ℕ → Type 0
By T x a b = T a b ⊎ (T a x × T x b)

thru_split : {E : ℕ → ℕ → Type 0} {R : List ℕ} {x a b : ℕ} → Thru E (x ∷ R) a b → By (Thru E R) x a b
thru_split (direct e) = inl (direct e)
thru_split {E} {R} {x} {a} {b} (through {c = c} e m t) = on (Memᴰ.cases_cons m) (thru_split t)
  where
    on : (c ≡ x) ⊎ Memᴰ c R → By (Thru E R) x c b → By (Thru E R) x a b
    on (inl p) (inl s) = inr (direct (subst (E a) p e), subst (λ y. Thru E R y b) p s)
    on (inl p) (inr s) = inr (direct (subst (E a) p e), s.1)
    on (inr k) (inl s) = inl (through e k s)
    on (inr k) (inr s) = inr (through e k s.0, s.1)

-- Taking x away joins its predecessors with its successors, and changes nothing else.
pub thru_taken : {E : ℕ → ℕ → Type 0} {R : List ℕ} {x a b : ℕ} → Thru E (x ∷ R) a b ↔ By (Thru E R) x a b
thru_taken {E} {R} {x} {a} {b} = (thru_split, ⊎_elim old new)
  where
    old : {a b : ℕ} → Thru E R a b → Thru E (x ∷ R) a b
    old = thru_grown (λ g m. Memᴰ.tail m)

    new : Thru E R a x × Thru E R x b → Thru E (x ∷ R) a b
    new p = thru_join (old p.0) (Memᴰ.head (λ i. x)) (old p.1)

-- Over any relation T between gates of which those of K are there: if x has one predecessor and one successor, then y, with one predecessor, still has one when x is gone.
still_only :
    (K : ℕ → Type 0) (T : ℕ → ℕ → Type 0) {x y : ℕ}
    → x ≢ y
    → K x
    → K y
    → Only (λ a. K a × T a x)
    → Only (λ b. K b × T x b)
    → Only (λ a. K a × T a y)
    → Only (λ a. ((a ≢ x) × K a) × By T x a y)
still_only K T {x} {y} ne kx ky px sx py = go (ℕ_discrete x py.value)
  where
    -- y's predecessor was x: now it is x's
    from_x : x ≡ py.value → Only (λ a. ((a ≢ x) × K a) × By T x a y)
    from_x e =
        record {
          value = px.value;
          holds = ((λ p. ne (sx.alone x (kx, subst (λ z. T z x) p px.holds.1) ∙ sym (sx.alone y (ky, xy))), px.holds.0), inr (px.holds.1, xy));
          alone = λ a h. ⊎_elim (λ t. absurd (h.0.0 (py.alone a (h.0.1, t) ∙ sym e))) (λ t. px.alone a (h.0.1, t.0)) h.1;
        }
      where
        xy : T x y
        xy = subst (λ z. T z y) (sym e) py.holds.1

    apart : x ≢ py.value → Only (λ a. ((a ≢ x) × K a) × By T x a y)
    apart n =
        record {
          value = py.value;
          holds = ((λ p. n (sym p), py.holds.0), inl py.holds.1);
          alone = λ a h. ⊎_elim (λ t. py.alone a (h.0.1, t)) (λ t. absurd (n (py.alone x (kx, t.1)))) h.1;
        }

    go : Dec (x ≡ py.value) → Only (λ a. ((a ≢ x) × K a) × By T x a y)
    go (yes e) = from_x e
    go (no n) = apart n

pub left_more : {R : List ℕ} {x g : ℕ} → ((g ≢ x) × Left R g) ↔ Left (x ∷ R) g
left_more = (λ h m. ⊎_elim h.0 h.1 (Memᴰ.cases_cons m), λ h. (λ e. h (Memᴰ.head e), λ m. h (Memᴰ.tail m)))

-- Of two removable gates, each is still removable after the other.
pub diamond : {E : ℕ → ℕ → Type 0} {R : List ℕ} {x y : ℕ} → x ≢ y → Removable E R x → Removable E R y → Removable E (x ∷ R) y
diamond {E} {R} {x} {y} ne rx ry =
    record {
      left = left_more.0 (λ e. ne (sym e), ry.left);
      before =
          only_iff (λ a. (λ h. (left_more.0 h.0, thru_taken.1 h.1), λ h. (left_more.1 h.0, thru_taken.0 h.1)))
          (still_only (Left R) (Thru E R) ne rx.left ry.left rx.before rx.after ry.before);
      after =
          only_iff (λ a. (λ h. (left_more.0 h.0, thru_taken.1 ((swapped a).0 h.1)), λ h. (left_more.1 h.0, (swapped a).1 (thru_taken.0 h.1))))
          (still_only (Left R) (Turned (Thru E R)) ne rx.left ry.left rx.after rx.before ry.after);
    }
  where
    swapped : (a : ℕ) → By (Turned (Thru E R)) x a y ↔ By (Thru E R) x y a
    swapped a = (⊎_elim inl (λ t. inr (t.1, t.0)), ⊎_elim inl (λ t. inr (t.1, t.0)))

-- Lists with the same members.
same_turned : {R S : List ℕ} → Same R S → Same S R
same_turned s g = ((s g).1, (s g).0)

same_more : {R S : List ℕ} {x : ℕ} → Same R S → Same (x ∷ R) (x ∷ S)
same_more {x = x} s g = (λ m. grow (λ k. (s g).0 k) (Memᴰ.cases_cons m), λ m. grow (λ k. (s g).1 k) (Memᴰ.cases_cons m))
  where
    grow : {U W : List ℕ} → (Memᴰ g U → Memᴰ g W) → (g ≡ x) ⊎ Memᴰ g U → Memᴰ g (x ∷ W)
    grow f (inl e) = Memᴰ.head e
    grow f (inr m) = Memᴰ.tail (f m)

same_swapped : {R : List ℕ} {x y : ℕ} → (g : ℕ) → Memᴰ g (x ∷ y ∷ R) → Memᴰ g (y ∷ x ∷ R)
same_swapped {R} {x} {y} g m = ⊎_elim (λ e. Memᴰ.tail (Memᴰ.head e)) (λ k. rest (Memᴰ.cases_cons k)) (Memᴰ.cases_cons m)
  where
    rest : (g ≡ y) ⊎ Memᴰ g R → Memᴰ g (y ∷ x ∷ R)
    rest (inl e) = Memᴰ.head e
    rest (inr k) = Memᴰ.tail (Memᴰ.tail k)

pub removable_same : {E : ℕ → ℕ → Type 0} {R S : List ℕ} {m : ℕ} → Same R S → Removable E R m → Removable E S m
removable_same s r =
    record {
      left = λ k. r.left ((s _).1 k);
      before = only_iff (λ a. (λ h. (λ k. h.0 ((s a).1 k), thru_grown (λ g. (s g).0) h.1), λ h. (λ k. h.0 ((s a).0 k), thru_grown (λ g. (s g).1) h.1))) r.before;
      after = only_iff (λ a. (λ h. (λ k. h.0 ((s a).1 k), thru_grown (λ g. (s g).0) h.1), λ h. (λ k. h.0 ((s a).0 k), thru_grown (λ g. (s g).1) h.1))) r.after;
    }

takes_same : {E : ℕ → ℕ → Type 0} {Z R S : List ℕ} → Same R S → Takes E Z R → Takes E Z S
takes_same s (done e) = done (λ g. (λ m. (e g).0 ((s g).1 m), λ m. (s g).0 ((e g).1 m)))
takes_same s (take r t) = take (removable_same s r) (takes_same (same_more s) t)

takes_keeps : {E : ℕ → ℕ → Type 0} {Z R : List ℕ} → Takes E Z R → (g : ℕ) → Memᴰ g R → Memᴰ g Z
takes_keeps (done e) g m = (e g).0 m
takes_keeps (take r t) g m = takes_keeps t g (Memᴰ.tail m)

-- one more taking at the end
pub takes_more : {E : ℕ → ℕ → Type 0} {Z R : List ℕ} {m : ℕ} → Takes E Z R → Removable E Z m → Takes E (m ∷ Z) R
takes_more (done e) r = take (removable_same (same_turned e) r) (done (same_more e))
takes_more (take r t) k = take r (takes_more t k)

-- Whatever order ends stuck, a gate that can go at first may as well go first.
taken_first : {E : ℕ → ℕ → Type 0} {Z R : List ℕ} {m : ℕ} → Stuck E Z → Takes E Z R → Removable E R m → Takes E Z (m ∷ R)
taken_first stuck (done e) r = absurd (stuck _ (removable_same e r))
taken_first {E} {Z} {R} {m} stuck (take {m = x} rx t) r = go (ℕ_discrete x m) (λ n. taken_first stuck t (diamond n rx r))
  where
    go : Dec (x ≡ m) → (x ≢ m → Takes E Z (m ∷ x ∷ R)) → Takes E Z (m ∷ R)
    go (yes e) below = subst (λ y. Takes E Z (y ∷ R)) e t
    go (no n) below = take (diamond (λ e. n (sym e)) r rx) (takes_same (λ g. (same_swapped g, same_swapped g)) (below n))

-- What any order takes, every order that ends stuck takes.
pub taken_by_all : {E : ℕ → ℕ → Type 0} {Y Z R : List ℕ} → Stuck E Z → Takes E Z R → Takes E Y R → (g : ℕ) → Memᴰ g Y → Memᴰ g Z
taken_by_all stuck z (done f) g m = takes_keeps z g ((f g).1 m)
taken_by_all stuck z (take r t) g m = taken_by_all stuck (taken_first stuck z r) t g m

-- Every order of takings that goes on until no gate can go ends with the same gates taken away, and so with the same gates left.
pub same_end : {E : ℕ → ℕ → Type 0} {Y Z R : List ℕ} → Takes E Y R → Stuck E Y → Takes E Z R → Stuck E Z → Same Y Z
same_end y sy z sz g = (taken_by_all sz z y g, taken_by_all sy y z g)
