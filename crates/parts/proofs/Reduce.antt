-- The computing reduction takes steps until no gate can go (`reduces`), so that its verdict is the definition's (`reducible_verdict`). Assumes nothing.
use mathlib.Core.Path.{◌≡◌, refl, sym, ◌∙◌, ap, subst}
use mathlib.Core.Logic.{◌≢◌, ◌⊎◌, inl, inr, ◌↔◌}
use mathlib.Core.Bool.{Bool, true, ◌&&◌, not, false≢true}
use mathlib.Core.Option.{Option, none, some}
use mathlib.Core.List.{List}
use Prim.Native.Nat.{ℕ, zero, suc, ◌≤◌, ◌<◌}
use native.Mathlib.Decide.{dec_lt}
use native.Mathlib.Omega.{arith}
use borrow.Author.Tests.{eqb-true, eq-eqb, ne_eqb}
use lib.Dec.{eqb}
use lib.ListN.{length, set, length-set, get_or-eq_default}
use lib.Seq.{get_or-set_same, get_or-set_other}
use Rattle.model.specs.Block.{Block, gate_count, first, last, Joined}
use Rattle.model.specs.Part.{Shape, series, SeriesParallel}
use Rattle.parts.specs.Reduction.{Only}
use Rattle.parts.specs.Slots.{Slot, slot, empty, Live, OneIn, OneOut, Between, Step, alone, onto, Finished, slots, wire_slots, initial, live_count, Straight}
use Rattle.parts.specs.Network.{Network}
use Rattle.parts.specs.Reduce.{find, is_some, sole, slot_in, slot_out, slot_between, goes, join, taken_at, taken_away, next, reduce, remainder, reducible}
use Rattle.parts.proofs.Gates.{part_ends}
use Rattle.parts.specs.Invariant.{Reducing}
use Rattle.parts.proofs.State.{LoopFree, live_slot}
use Rattle.parts.proofs.Steps.{step_keeps, step_shrinks, shrinks, bit_le, count_lt}
use Rattle.parts.proofs.Start.{loop_free, initial_live, start}
use Rattle.parts.proofs.Verdict.{one_in_below, answer}
use Rattle.parts.proofs.Search.{and_iff, or_iff, Finds, find_finds, FindsSole, sole_finds}

-- a live slot stands in the list
pub live_inside : (L : List Slot) (i : ℕ) → Live (slots L i) → i < length L
live_inside L i l = go (dec_lt i (length L))
  where
    go : Dec (i < length L) → i < length L
    go (yes h) = h
    go (no n) = absurd (false≢true (ap (λ s. s.live) (sym (get_or-eq_default L empty {n = i} (omega arith))) ∙ l))

test_iff : (b : Bool) (x m : ℕ) → ((b && eqb x m) ≡ true) ↔ ((b ≡ true) × (x ≡ m))
test_iff b x m = (λ h. let (l, e) = (and_iff b (eqb x m)).0 h in (l, eqb-true x m e), λ h. (and_iff b (eqb x m)).1 (h.0, eq-eqb x m h.1))

-- exactly one passes: the search finds it, and conversely
sole_only : (p : ℕ → Bool) (k : ℕ) (P : ℕ → Type 0) → ((i : ℕ) → (p i ≡ true) ↔ P i) → ((i : ℕ) → P i → i < k) → (is_some (sole p k) ≡ true) ↔ Only P
sole_only p k P e inside = (λ h. there (sole p k) (sole_finds p k) h, λ o. back (sole p k) (sole_finds p k) o)
  where
    there : (r : Option ℕ) → FindsSole p k r → is_some r ≡ true → Only P
    there none f h = absurd (false≢true h)
    there (some i) f h = record { value = i; holds = (e i).0 f.1; alone = λ x q. f.2 x (inside x q) ((e x).1 q) }

    back : (r : Option ℕ) → FindsSole p k r → Only P → is_some r ≡ true
    back none f o = absurd (f o.value (inside o.value o.holds) ((e o.value).1 o.holds) (λ j l t. o.alone j ((e j).0 t)))
    back (some i) f o = refl

slot_in_iff : (L : List Slot) (m : ℕ) → (is_some (slot_in L m) ≡ true) ↔ OneIn (slots L) m
unfolding slot_in
slot_in_iff L m = sole_only (λ i. (slots L i).live && eqb (slots L i).target m) (length L) (λ i. Live (slots L i) × ((slots L i).target ≡ m)) (λ i. test_iff (slots L i).live (slots L i).target m) (λ i q. live_inside L i q.0)

slot_out_iff : (L : List Slot) (m : ℕ) → (is_some (slot_out L m) ≡ true) ↔ OneOut (slots L) m
unfolding slot_out
slot_out_iff L m = sole_only (λ i. (slots L i).live && eqb (slots L i).source m) (length L) (λ i. Live (slots L i) × ((slots L i).source ≡ m)) (λ i. test_iff (slots L i).live (slots L i).source m) (λ i q. live_inside L i q.0)

-- Setting slots.
emptied : (L : List Slot) (j : ℕ) → ¬ (Live (slots (set L j empty) j))
emptied L j l =
    let h : j < length L = subst (λ n. j < n) (length-set L j empty) (live_inside (set L j empty) j l) in
    false≢true (ap (λ s. s.live) (sym (get_or-set_same L j empty empty h)) ∙ l)

set_off : (L : List Slot) (i : ℕ) (s : Slot) (k : ℕ) → k ≢ i → slots (set L i s) k ≡ slots L k
set_off L i s k n = get_or-set_other L i k s empty n

set_on : (L : List Slot) (i : ℕ) (s : Slot) → i < length L → slots (set L i s) i ≡ s
set_on L i s h = get_or-set_same L i s empty h

gone_still : {s t : Slot} → s ≡ t → ¬ (Live t) → ¬ (Live s)
gone_still e n l = n (ap (λ s. s.live) (sym e) ∙ l)

pub straight_ends : (S : ℕ → Slot) (k : ℕ) {a b : ℕ} {P : Shape} → Straight S → S k ≡ slot a P b → a ≢ b
straight_ends S k d e h = d k (ap (λ s. s.live) e) (ap (λ s. s.source) e ∙ h ∙ sym (ap (λ s. s.target) e))

abbrev between_test : List Slot → ℕ → ℕ → ℕ → Bool
between_test L a b k = (slots L k).live && (eqb (slots L k).source a && eqb (slots L k).target b)

between_iff : (L : List Slot) (a b k : ℕ) → (between_test L a b k ≡ true) ↔ (Live (slots L k) × ((slots L k).source ≡ a) × ((slots L k).target ≡ b))
between_iff L a b k = (
  λ h.
      let (l, e) = (and_iff (slots L k).live (eqb (slots L k).source a && eqb (slots L k).target b)).0 h in
      let (f, g) = (test_iff (eqb (slots L k).source a) (slots L k).target b).0 e in
      (l, eqb-true (slots L k).source a f, g),
  λ h.
      (and_iff (slots L k).live (eqb (slots L k).source a && eqb (slots L k).target b)).1
      (h.0, (test_iff (eqb (slots L k).source a) (slots L k).target b).1 (eq-eqb (slots L k).source a h.1, h.2)),
)

-- Joining the two slots of a gate is a step.
join_step :
    (L : List Slot) {m i j a b : ℕ} {P Q : Shape}
    → Straight (slots L)
    → Between (slots L) m i j a b P Q
    → (r : Option ℕ)
    → Finds (between_test L a b) (length L) r
    → Step (slots L) m (slots (join L i j a b (series P m Q) r))
join_step L {m} {i} {j} {a} {b} {P} {Q} d c = go
  where
    i_inside : i < length L
    i_inside = live_inside L i (ap (λ s. s.live) c.into)

    i_off_j : i ≢ j
    i_off_j e = straight_ends (slots L) i d c.into (ap (λ s. s.source) (sym c.into ∙ ap (slots L) e ∙ c.out))

    j_off_i : j ≢ i
    j_off_i e = i_off_j (sym e)

    go : (r : Option ℕ) → Finds (between_test L a b) (length L) r → Step (slots L) m (slots (join L i j a b (series P m Q) r))
    go none f =
        alone c (λ k l e h. f k (live_inside L k l) ((between_iff L a b k).1 (l, e, h)))
        (record {
          joined = set_on (set L j empty) i _ (rw length-set i_inside);
          gone = gone_still (set_off (set L j empty) i _ j j_off_i) (emptied L j);
          kept = λ k n o. set_off (set L j empty) i _ k n ∙ set_off L j empty k o;
        })
    go (some l) f =
        onto {l = l} c there (set_on (set (set L j empty) i empty) l _ (rw (length-set, length-set) f.0))
        (gone_still (set_off (set (set L j empty) i empty) l _ i (λ e. l_off_i (sym e))) (emptied (set L j empty) i))
        (gone_still (set_off (set (set L j empty) i empty) l _ j (λ e. l_off_j (sym e)) ∙ set_off (set L j empty) i empty j j_off_i) (emptied L j))
        (λ k n o q. set_off (set (set L j empty) i empty) l _ k q ∙ set_off (set L j empty) i empty k n ∙ set_off L j empty k o)
      where
        joins : Live (slots L l) × ((slots L l).source ≡ a) × ((slots L l).target ≡ b)
        joins = (between_iff L a b l).0 f.1

        there : slots L l ≡ slot a (slots L l).shape b
        there = live_slot (slots L l) joins.0 joins.1 joins.2

        l_off_i : l ≢ i
        l_off_i e = straight_ends (slots L) j d c.out (ap (λ s. s.target) (sym c.into ∙ ap (slots L) (sym e) ∙ there))

        l_off_j : l ≢ j
        l_off_j e = straight_ends (slots L) i d c.into (ap (λ s. s.source) (sym there ∙ ap (slots L) e ∙ c.out))

module _ {E : ℕ → ℕ → Type 0} (free : LoopFree E) where
  -- A gate that goes takes a step.
  taken_step : (L : List Slot) (a b m : ℕ) → Reducing E (slots L) → goes a b L m ≡ true → Step (slots L) m (slots (taken_away L m))
  unfolding goes taken_away slot_in slot_out slot_between
  taken_step L a b m r h =
      let (i, o) = (and_iff (is_some (slot_in L m)) (is_some (slot_out L m))).0 ((and_iff (not (eqb m a) && not (eqb m b)) (is_some (slot_in L m) && is_some (slot_out L m))).0 h).1 in
      go (slot_in L m) (slot_out L m) (sole_finds in_test (length L)) (sole_finds out_test (length L)) i o
    where
      in_test : ℕ → Bool
      in_test i = (slots L i).live && eqb (slots L i).target m

      out_test : ℕ → Bool
      out_test i = (slots L i).live && eqb (slots L i).source m

      straight : Straight (slots L)
      straight k l = (part_ends (slots L k).shape (slots L k).source (slots L k).target (r.reduced.fits k l).part).differ

      go :
          (x y : Option ℕ)
          → FindsSole in_test (length L) x
          → FindsSole out_test (length L) y
          → is_some x ≡ true
          → is_some y ≡ true
          → Step (slots L) m (slots (taken_at L m x y))
      go none y fx fy hx hy = absurd (false≢true hx)
      go (some i) none fx fy hx hy = absurd (false≢true hy)
      go (some i) (some j) fx fy hx hy =
          join_step L straight
          (record {
            into = live_slot (slots L i) ti.0 refl ti.1;
            out = live_slot (slots L j) tj.0 tj.1 refl;
            only_in = λ k l e. fx.2 k (live_inside L k l) ((test_iff (slots L k).live (slots L k).target m).1 (l, e));
            only_out = λ k l e. fy.2 k (live_inside L k l) ((test_iff (slots L k).live (slots L k).source m).1 (l, e));
          })
          (slot_between L (slots L i).source (slots L j).target)
          (find_finds (between_test L (slots L i).source (slots L j).target) (length L))
        where
          ti : Live (slots L i) × ((slots L i).target ≡ m)
          ti = (test_iff (slots L i).live (slots L i).target m).0 fx.1

          tj : Live (slots L j) × ((slots L j).source ≡ m)
          tj = (test_iff (slots L j).live (slots L j).source m).0 fy.1

  -- After so many steps as slots are live, no gate below n but a and b can go.
  reduces :
      (f a b n w : ℕ) (L : List Slot)
      → Reducing E (slots L)
      → ((k : ℕ) → Live (slots L k) → k < w)
      → live_count w (slots L) ≤ f
      → Reducing E (slots (reduce f a b n L)) × ((m : ℕ) → m < n → m ≢ a → m ≢ b → OneIn (slots (reduce f a b n L)) m → OneOut (slots (reduce f a b n L)) m → ⊥)
  unfolding reduce goes
  reduces zero a b n w L r all h = (
    r,
    λ m l d e i o.
        let c = count_lt (slots L) (λ k. empty) w i.value (all i.value i.holds.0) i.holds.0 false≢true (λ k x. absurd (false≢true x)) in
        omega (arith, c),
  )
  reduces (suc f) a b n w L r all h = go (find (goes a b L) n) (find_finds (goes a b L) n) (λ M. reduces f a b n w M)
    where
      End : List Slot → Type 0
      End M = Reducing E (slots M) × ((m : ℕ) → m < n → m ≢ a → m ≢ b → OneIn (slots M) m → OneOut (slots M) m → ⊥)

      passes : (m : ℕ) → m ≢ a → m ≢ b → OneIn (slots L) m → OneOut (slots L) m → goes a b L m ≡ true
      passes m d e i o = (and_iff _ _).1 ((and_iff _ _).1 (ap not (ne_eqb m a d), ap not (ne_eqb m b e)), (and_iff _ _).1 ((slot_in_iff L m).1 i, (slot_out_iff L m).1 o))

      go :
          (x : Option ℕ)
          → Finds (goes a b L) n x
          → ((M : List Slot) → Reducing E (slots M) → ((k : ℕ) → Live (slots M k) → k < w) → live_count w (slots M) ≤ f → End (reduce f a b n M))
          → End (next (reduce f a b n) L x)
      go none g ih = (r, λ m l d e i o. g m l (passes m d e i o))
      go (some m) g ih =
          let t = taken_step L a b m r g.1 in
          ih (taken_away L m) (step_keeps free t r) (λ k l. all k ((shrinks t).none_new k l)) (omega (arith, step_shrinks w all t))

count_bound : (n : ℕ) (S : ℕ → Slot) → live_count n S ≤ n
unfolding live_count
count_bound zero S = omega arith
count_bound (suc n) S = omega (arith, bit_le (S n).live true (λ e. refl), count_bound n S)

-- What is left of a network is a state of the reduction, in which no gate but the two ends can go.
pub left_reduced : {B : Block} → Network B → Reducing (Joined B.wires) (slots (remainder B)) × Finished (slots (remainder B)) (first B) (last B)
unfolding remainder
left_reduced {B} n = (end.0, λ m d e i o. end.1 m (one_in_below n end.0 i) d e i o)
  where
    end : Reducing (Joined B.wires) (slots (remainder B)) × ((m : ℕ) → m < gate_count B → m ≢ first B → m ≢ last B → OneIn (slots (remainder B)) m → OneOut (slots (remainder B)) m → ⊥)
    end = reduces (loop_free n) (length B.wires) (first B) (last B) (gate_count B) (length B.wires) (wire_slots B.wires) (start n) (initial_live B.wires) (count_bound (length B.wires) (initial B.wires))

-- The computing reduction's verdict is the definition's.
pub reducible_verdict : {B : Block} → Network B → (reducible B ≡ true) ↔ SeriesParallel B
unfolding reducible
reducible_verdict {B} n = (λ h. both.0 (there ((or_iff _ _).0 h)), λ p. (or_iff _ _).1 (back (both.1 p)))
  where
    both : ((gate_count B ≡ 1) ⊎ Only (λ i. Live (slots (remainder B) i))) ↔ SeriesParallel B
    both = answer n (left_reduced n).0 (left_reduced n).1

    left_iff : (is_some (sole (λ i. (slots (remainder B) i).live) (length (remainder B))) ≡ true) ↔ Only (λ i. Live (slots (remainder B) i))
    left_iff = sole_only (λ i. (slots (remainder B) i).live) (length (remainder B)) (λ i. Live (slots (remainder B) i)) (λ i. (λ h. h, λ h. h)) (live_inside (remainder B))

    there : (eqb (gate_count B) 1 ≡ true) ⊎ (is_some (sole (λ i. (slots (remainder B) i).live) (length (remainder B))) ≡ true) → (gate_count B ≡ 1) ⊎ Only (λ i. Live (slots (remainder B) i))
    there (inl h) = inl (eqb-true (gate_count B) 1 h)
    there (inr h) = inr (left_iff.0 h)

    back : (gate_count B ≡ 1) ⊎ Only (λ i. Live (slots (remainder B) i)) → (eqb (gate_count B) 1 ≡ true) ⊎ (is_some (sole (λ i. (slots (remainder B) i).live) (length (remainder B))) ≡ true)
    back (inl h) = inl (eq-eqb (gate_count B) 1 h)
    back (inr o) = inr (left_iff.1 o)
