-- Every step keeps what holds of the slots (`step_keeps`), and leaves fewer slots live (`step_shrinks`).
-- A series step and a step onto a slot that is there are both one merging of two slots (`merge`). That no gate reaches itself is used once, for the two ends of a series part to differ. Assumes nothing.
use mathlib.Core.Path.{◌≡◌, refl, sym, ◌∙◌, ap, subst, subst₂}
use mathlib.Core.Logic.{◌≢◌, ◌⊎◌, inl, inr, ◌↔◌, ⊎_elim}
use mathlib.Core.Bool.{Bool, true, false, false≢true, cond}
use mathlib.Core.List.Memᴰ
use mathlib.Core.List.{List, ◌∷◌, Memᴰ}
use Prim.Native.Nat.{ℕ, zero, suc, ◌≤◌, ◌<◌}
use native.Mathlib.Omega.{arith}
use native.Mathlib.Decide.{ℕ_discrete}
use Rattle.model.specs.Part.{Shape, series, parallel, Inside, HasGate, HasWire}
use Rattle.parts.specs.Reduction.{Thru, Left, Removable}
use Rattle.parts.specs.Slots.{Slot, slot, Live, Carries, Between, Merged, Step, alone, onto, live_count}
use Rattle.parts.proofs.Diamond.{left_more, takes_more}
use Rattle.parts.proofs.Gates.{part_ends, crossing}
use Rattle.parts.specs.Invariant.{Fits, Apart, Reduced, Single, Reducing}
use Rattle.parts.proofs.State.{LoopFree, fits_as, apart_as, slots_removable}

apart_turned : {s t : Slot} → Apart s t → Apart t s
apart_turned a = record { no_gate = λ g i j. a.no_gate g j i; no_wire = λ x y h k. a.no_wire x y k h }

-- where a live slot of T comes from
data Origin (S : ℕ → Slot) (i j : ℕ) (s : Slot) (k : ℕ) (t : Slot) : Type 0 where
  joint : k ≡ i → t ≡ s → Origin S i j s k t
  old : k ≢ i → k ≢ j → t ≡ S k → Origin S i j s k t

origin : {S T : ℕ → Slot} {i j : ℕ} {s : Slot} → Merged S i j s T → (k : ℕ) → Live (T k) → Origin S i j s k (T k)
origin {S} {T} {i} {j} {s} m k l = go (ℕ_discrete k i) (ℕ_discrete k j)
  where
    go : Dec (k ≡ i) → Dec (k ≡ j) → Origin S i j s k (T k)
    go (yes e) d = joint e (subst (λ n. T n ≡ s) (sym e) m.joined)
    go (no n) (yes e) = absurd (m.gone (subst (λ z. Live (T z)) e l))
    go (no n) (no o) = old n o (m.kept k n o)

-- Two slots become one whose wires are theirs and whose inside is theirs and gates that were left.
merge :
    {E : ℕ → ℕ → Type 0} {R Q : List ℕ} {S T : ℕ → Slot} {i j : ℕ} {s t u : Slot}
    → Reduced E R S
    → S i ≡ t
    → S j ≡ u
    → Live t
    → Live u
    → Merged S i j s T
    → Live s
    → ((g : ℕ) → Memᴰ g R → Memᴰ g Q)
    → Fits E Q s
    → ((x y : ℕ) → Carries s x y ↔ (Carries t x y ⊎ Carries u x y))
    → ((g : ℕ) → Inside s.shape g → Inside t.shape g ⊎ (Inside u.shape g ⊎ Left R g))
    → ((k : ℕ) → Live (S k) → k ≢ i → k ≢ j → Left Q (S k).source × Left Q (S k).target)
    → Reduced E Q T
merge {E} {R} {Q} {S} {T} {i} {j} {s} {t} {u} r ei ej lt lu m ls grow fit same inner ends =
    record { fits = λ k l. fits k l (origin m k l); covered = λ x y w. covered x y (r.covered x y w); apart = λ k n d lk ln. apart k n d lk ln (origin m k lk) (origin m n ln) }
  where
    live_old : (k : ℕ) {v : Slot} → v ≡ S k → Live v → Live (S k)
    live_old k e l = ap (λ z. z.live) (sym e) ∙ l

    fits : (k : ℕ) → Live (T k) → Origin S i j s k (T k) → Fits E Q (T k)
    fits k l (joint e f) = subst (Fits E Q) (sym f) fit
    fits k l (old n o f) = subst (Fits E Q) (sym f) (record { part = b.part; source_left = c.0; target_left = c.1; inside_gone = λ g h. grow g (b.inside_gone g h); wires = b.wires })
      where
        b : Fits E R (S k)
        b = r.fits k (live_old k f l)

        c : Left Q (S k).source × Left Q (S k).target
        c = ends k (live_old k f l) n o

    at_i : (x y : ℕ) → Carries s x y → (k : ℕ) × Live (T k) × Carries (T k) x y
    at_i x y h = (i, ap (λ z. z.live) m.joined ∙ ls, subst (λ z. Carries z x y) (sym m.joined) h)

    covered : (x y : ℕ) → (k : ℕ) × Live (S k) × Carries (S k) x y → (k : ℕ) × Live (T k) × Carries (T k) x y
    covered x y (k, l, h) = go (ℕ_discrete k i) (ℕ_discrete k j)
      where
        go : Dec (k ≡ i) → Dec (k ≡ j) → (n : ℕ) × Live (T n) × Carries (T n) x y
        go (yes e) d = at_i x y ((same x y).1 (inl (subst (λ z. Carries z x y) (ap S e ∙ ei) h)))
        go (no n) (yes e) = at_i x y ((same x y).1 (inr (subst (λ z. Carries z x y) (ap S e ∙ ej) h)))
        go (no n) (no o) = (k, ap (λ z. z.live) (m.kept k n o) ∙ l, subst (λ z. Carries z x y) (sym (m.kept k n o)) h)

    -- the new slot and an old one
    beside : (k : ℕ) → k ≢ i → k ≢ j → Live (S k) → Apart s (S k)
    beside k n o l =
        record {
          no_gate = λ g h b. ⊎_elim (λ c. at.no_gate g b c) (⊎_elim (λ c. au.no_gate g b c) (λ c. c ((r.fits k l).inside_gone g b))) (inner g h);
          no_wire = λ x y h b. ⊎_elim (λ c. at.no_wire x y b c) (λ c. au.no_wire x y b c) ((same x y).0 h);
        }
      where
        at : Apart (S k) t
        at = apart_as r n refl ei l lt

        au : Apart (S k) u
        au = apart_as r o refl ej l lu

    apart : (k n : ℕ) → k ≢ n → Live (T k) → Live (T n) → Origin S i j s k (T k) → Origin S i j s n (T n) → Apart (T k) (T n)
    apart k n d lk ln (joint e f) (joint o h) = absurd (d (e ∙ sym o))
    apart k n d lk ln (joint e f) (old o q h) = subst₂ Apart (sym f) (sym h) (beside n o q (live_old n h ln))
    apart k n d lk ln (old e q f) (joint o h) = subst₂ Apart (sym f) (sym h) (apart_turned (beside k e q (live_old k f lk)))
    apart k n d lk ln (old e q f) (old o z h) = subst₂ Apart (sym f) (sym h) (r.apart k n d (live_old k f lk) (live_old n h ln))

-- The two slots of a gate that goes make a part in series.
module _ {E : ℕ → ℕ → Type 0} {R : List ℕ} {S : ℕ → Slot} (r : Reduced E R S) (loop_free : LoopFree E) {m i j a b : ℕ} {P Q : Shape} (c : Between S m i j a b P Q) where
  in_fits : Fits E R (slot a P m)
  in_fits = fits_as r c.into refl

  out_fits : Fits E R (slot m Q b)
  out_fits = fits_as r c.out refl

  in_differ : a ≢ m
  in_differ = (part_ends P a m in_fits.part).differ

  out_differ : m ≢ b
  out_differ = (part_ends Q m b out_fits.part).differ

  sides_apart : Apart (slot a P m) (slot m Q b)
  sides_apart = apart_as r (λ e. in_differ (ap (λ s. s.source) (sym c.into ∙ ap S e ∙ c.out))) c.into c.out refl refl

  series_gone : (g : ℕ) → Inside (series P m Q) g → Memᴰ g (m ∷ R)
  series_gone g = ⊎_elim (λ k. Memᴰ.tail (in_fits.inside_gone g k)) (⊎_elim Memᴰ.head (λ k. Memᴰ.tail (out_fits.inside_gone g k)))

  series_wires : (x y : ℕ) → HasWire (series P m Q) a b x y → E x y
  series_wires x y = ⊎_elim (in_fits.wires x y) (out_fits.wires x y)

  -- the one use of acyclicity
  ends_differ : a ≢ b
  ends_differ e = loop_free (m ∷ R) b (subst (λ z. Thru E (m ∷ R) z b) e (crossing (series P m Q) a b series_wires series_gone))

  only_middle : (g : ℕ) → HasGate P a m g → HasGate Q m b g → g ≡ m
  only_middle g (inl e) (inl f) = f
  only_middle g (inl e) (inr (inl f)) = absurd (ends_differ (sym e ∙ f))
  only_middle g (inl e) (inr (inr k)) = absurd (in_fits.source_left (Memᴰ.cast (sym e) (out_fits.inside_gone g k)))
  only_middle g (inr (inl e)) h = e
  only_middle g (inr (inr k)) (inl f) = f
  only_middle g (inr (inr k)) (inr (inl f)) = absurd (out_fits.target_left (Memᴰ.cast (sym f) (in_fits.inside_gone g k)))
  only_middle g (inr (inr k)) (inr (inr n)) = absurd (sides_apart.no_gate g k n)

  series_fits : Fits E (m ∷ R) (slot a (series P m Q) b)
  series_fits =
      record {
        part = (in_fits.part, out_fits.part, only_middle);
        source_left = left_more.0 (in_differ, in_fits.source_left);
        target_left = left_more.0 (λ e. out_differ (sym e), out_fits.target_left);
        inside_gone = series_gone;
        wires = series_wires;
      }

  series_merge : {T : ℕ → Slot} → Merged S i j (slot a (series P m Q) b) T → Reduced E (m ∷ R) T
  series_merge t =
      merge r c.into c.out refl refl t refl (λ g. Memᴰ.tail) series_fits (λ x y. (λ h. h, λ h. h))
      (λ g. ⊎_elim inl (⊎_elim (λ e. inr (inr (λ k. in_fits.target_left (Memᴰ.cast (sym e) k)))) (λ k. inr (inl k))))
      (λ k l n o.
      let f = r.fits k l in
      (left_more.0 (λ e. o (c.only_out k l e), f.source_left), left_more.0 (λ e. n (c.only_in k l e), f.target_left)))

-- Two slots with the same ends make a part in parallel.
parallel_merge :
    {E : ℕ → ℕ → Type 0} {R : List ℕ} {S T : ℕ → Slot} {l i a b : ℕ} {O P : Shape}
    → Reduced E R S
    → l ≢ i
    → S l ≡ slot a O b
    → S i ≡ slot a P b
    → Merged S l i (slot a (parallel O P) b) T
    → Reduced E R T
parallel_merge {E} {R} {S} {T} {l} {i} {a} {b} {O} {P} r d el ei t =
    merge r el ei refl refl t refl (λ g k. k) fits (λ x y. (λ h. h, λ h. h)) (λ g. ⊎_elim inl (λ k. inr (inl k))) (λ k live n o. ((r.fits k live).source_left, (r.fits k live).target_left))
  where
    there : Fits E R (slot a O b)
    there = fits_as r el refl

    come : Fits E R (slot a P b)
    come = fits_as r ei refl

    aside : Apart (slot a O b) (slot a P b)
    aside = apart_as r d el ei refl refl

    only_ends : (g : ℕ) → HasGate O a b g → HasGate P a b g → (g ≡ a) ⊎ (g ≡ b)
    only_ends g (inl e) h = inl e
    only_ends g (inr (inl e)) h = inr e
    only_ends g (inr (inr k)) (inl e) = inl e
    only_ends g (inr (inr k)) (inr (inl e)) = inr e
    only_ends g (inr (inr k)) (inr (inr n)) = absurd (aside.no_gate g k n)

    fits : Fits E R (slot a (parallel O P) b)
    fits =
        record {
          part = (there.part, come.part, only_ends, aside.no_wire);
          source_left = there.source_left;
          target_left = there.target_left;
          inside_gone = λ g. ⊎_elim (there.inside_gone g) (come.inside_gone g);
          wires = λ x y. ⊎_elim (there.wires x y) (come.wires x y);
        }

-- S with slot i put to s
put : ℕ → Slot → (ℕ → Slot) → ℕ → Slot
put i s S k = elim (ℕ_discrete k i) [ yes e ↦ s | no n ↦ S k ]

put_at : (i : ℕ) (s : Slot) (S : ℕ → Slot) → put i s S i ≡ s
unfolding put
put_at i s S = go (ℕ_discrete i i)
  where
    go : (d : Dec (i ≡ i)) → elim d as (λ x. Slot) [ yes e ↦ s | no n ↦ S i ] ≡ s
    go (yes e) = refl
    go (no n) = absurd (n refl)

put_off : (i : ℕ) (s : Slot) (S : ℕ → Slot) (k : ℕ) → k ≢ i → put i s S k ≡ S k
unfolding put
put_off i s S k n = go (ℕ_discrete k i)
  where
    go : (d : Dec (k ≡ i)) → elim d as (λ x. Slot) [ yes e ↦ s | no n ↦ S k ] ≡ S k
    go (yes e) = absurd (n e)
    go (no o) = refl

-- A slot of T from a to b was a slot of S from a to b.
record Was (S : ℕ → Slot) (k : ℕ) (t : Slot) : Type 0 where
  alive : Live (S k)
  from : t.source ≡ (S k).source
  to : t.target ≡ (S k).target

was : {S : ℕ → Slot} {k : ℕ} {t : Slot} → t ≡ S k → Live t → Was S k t
was e l = record { alive = ap (λ s. s.live) (sym e) ∙ l; from = ap (λ s. s.source) e; to = ap (λ s. s.target) e }

single_was : {S T : ℕ → Slot} → ((k : ℕ) → Live (T k) → Was S k (T k)) → Single S → Single T
single_was w single i j li lj e f =
    let wi = w i li in
    let wj = w j lj in
    single i j wi.alive wj.alive (sym wi.from ∙ e ∙ wj.from) (sym wi.to ∙ f ∙ wj.to)

removable : {E : ℕ → ℕ → Type 0} {S : ℕ → Slot} {m i j a b : ℕ} {P Q : Shape} (r : Reducing E S) → Between S m i j a b P Q → Removable E r.taken m
removable {S = S} {m = m} {i = i} {j = j} r c =
    (slots_removable r.reduced r.single (fits_as r.reduced c.into refl).target_left).0 (
      record { value = i; holds = (ap (λ s. s.live) c.into, ap (λ s. s.target) c.into); alone = λ k h. c.only_in k h.0 h.1 },
      record { value = j; holds = (ap (λ s. s.live) c.out, ap (λ s. s.source) c.out); alone = λ k h. c.only_out k h.0 h.1 },
    )

-- Every step keeps what holds of the slots.
pub step_keeps : {E : ℕ → ℕ → Type 0} {S T : ℕ → Slot} {m : ℕ} → LoopFree E → Step S m T → Reducing E S → Reducing E T
step_keeps {E} {S} {T} {m} loop_free (alone {i = i} {j = j} {a = a} {b = b} {P = P} {Q = Q} c none t) r =
    record {
      taken = m ∷ r.taken;
      order = takes_more r.order (removable r c);
      reduced = series_merge r.reduced loop_free c t;
      single = λ k n lk ln e f. single k n (origin t k lk) (origin t n ln) lk ln e f;
    }
  where
    s : Slot
    s = slot a (series P m Q) b

    fresh : (n : ℕ) {t u : Slot} → t ≡ s → u ≡ S n → Live u → t.source ≡ u.source → t.target ≡ u.target → ⊥
    fresh n p q l e f =
        none n (ap (λ s. s.live) (sym q) ∙ l) (ap (λ s. s.source) (sym q) ∙ sym e ∙ ap (λ s. s.source) p)
        (ap (λ s. s.target) (sym q) ∙ sym f ∙ ap (λ s. s.target) p)

    single : (k n : ℕ) → Origin S i j s k (T k) → Origin S i j s n (T n) → Live (T k) → Live (T n) → (T k).source ≡ (T n).source → (T k).target ≡ (T n).target → k ≡ n
    single k n (joint e p) (joint o q) lk ln x y = e ∙ sym o
    single k n (joint e p) (old o z q) lk ln x y = absurd (fresh n p q ln x y)
    single k n (old e z p) (joint o q) lk ln x y = absurd (fresh k q p lk (sym x) (sym y))
    single k n (old e z p) (old o v q) lk ln x y =
        let wk = was {S = S} {k = k} p lk in
        let wn = was {S = S} {k = n} q ln in
        r.single k n wk.alive wn.alive (sym wk.from ∙ x ∙ wn.from) (sym wk.to ∙ y ∙ wn.to)
step_keeps {E} {S} {T} {m} loop_free (onto {i = i} {j = j} {l = l} {a = a} {b = b} {P = P} {Q = Q} {O = O} c there now in_gone out_gone kept) r =
    record {
      taken = m ∷ r.taken;
      order = takes_more r.order (removable r c);
      reduced = parallel_merge (series_merge r.reduced loop_free c first_merged) l_off_i (before l l_off_i l_off_j ∙ there) (put_at i s (put j (T j) S)) then_merged;
      single = single_was (λ k lk. comes k lk (ℕ_discrete k i) (ℕ_discrete k j) (ℕ_discrete k l)) r.single;
    }
  where
    s : Slot
    s = slot a (series P m Q) b

    -- the state between the two mergings
    U : ℕ → Slot
    U = put i s (put j (T j) S)

    before : (k : ℕ) → k ≢ i → k ≢ j → U k ≡ S k
    before k n o = put_off i s (put j (T j) S) k n ∙ put_off j (T j) S k o

    l_off_i : l ≢ i
    l_off_i e = out_differ r.reduced loop_free c (ap (λ s. s.target) (sym c.into ∙ ap S (sym e) ∙ there))

    l_off_j : l ≢ j
    l_off_j e = in_differ r.reduced loop_free c (ap (λ s. s.source) (sym there ∙ ap S e ∙ c.out))

    i_off_j : i ≢ j
    i_off_j e = in_differ r.reduced loop_free c (ap (λ s. s.source) (sym c.into ∙ ap S e ∙ c.out))

    at_j : U j ≡ T j
    at_j = put_off i s (put j (T j) S) j (λ e. i_off_j (sym e)) ∙ put_at j (T j) S

    first_merged : Merged S i j s U
    first_merged = record { joined = put_at i s (put j (T j) S); gone = λ l. out_gone (ap (λ s. s.live) (sym at_j) ∙ l); kept = before }

    then_merged : Merged U l i (slot a (parallel O (series P m Q)) b) T
    then_merged = record { joined = now; gone = in_gone; kept = λ k n o. others k n o (ℕ_discrete k j) }
      where
        others : (k : ℕ) → k ≢ l → k ≢ i → Dec (k ≡ j) → T k ≡ U k
        others k n o (yes e) = ap T e ∙ sym at_j ∙ ap U (sym e)
        others k n o (no p) = kept k o p n ∙ sym (before k o p)

    comes : (k : ℕ) → Live (T k) → Dec (k ≡ i) → Dec (k ≡ j) → Dec (k ≡ l) → Was S k (T k)
    comes k lk (yes e) d f = absurd (in_gone (subst (λ z. Live (T z)) e lk))
    comes k lk (no n) (yes e) f = absurd (out_gone (subst (λ z. Live (T z)) e lk))
    comes k lk (no n) (no o) (no p) = was {S = S} {k = k} (kept k n o p) lk
    comes k lk (no n) (no o) (yes e) = subst (λ z. Was S z (T z)) (sym e) (record { alive = ap (λ s. s.live) there; from = ap (λ s. s.source) now ∙ ap (λ s. s.source) (sym there); to = ap (λ s. s.target) now ∙ ap (λ s. s.target) (sym there) })

-- A step makes no slot live, and one slot dead.
pub record Shrinks (S T : ℕ → Slot) : Type 0 where
  pub none_new : (k : ℕ) → Live (T k) → Live (S k)
  pub lost : ℕ
  pub lost_live : Live (S lost)
  pub lost_gone : ¬ (Live (T lost))

pub shrinks : {S T : ℕ → Slot} {m : ℕ} → Step S m T → Shrinks S T
shrinks {S} {T} {m} (alone {i = i} {j = j} {a = a} {b = b} {P = P} {Q = Q} c none t) =
    record { none_new = λ k l. go k l (origin t k l); lost = j; lost_live = ap (λ s. s.live) c.out; lost_gone = t.gone }
  where
    go : (k : ℕ) → Live (T k) → Origin S i j (slot a (series P m Q) b) k (T k) → Live (S k)
    go k l (joint e p) = ap (λ n. (S n).live) e ∙ ap (λ s. s.live) c.into
    go k l (old n o p) = ap (λ s. s.live) (sym p) ∙ l
shrinks {S} {T} {m} (onto {i = i} {j = j} {l = l} c there now in_gone out_gone kept) =
    record { none_new = λ k lk. go k lk (ℕ_discrete k i) (ℕ_discrete k j) (ℕ_discrete k l); lost = j; lost_live = ap (λ s. s.live) c.out; lost_gone = out_gone }
  where
    go : (k : ℕ) → Live (T k) → Dec (k ≡ i) → Dec (k ≡ j) → Dec (k ≡ l) → Live (S k)
    go k lk (yes e) d f = ap (λ n. (S n).live) e ∙ ap (λ s. s.live) c.into
    go k lk (no n) (yes e) f = ap (λ n. (S n).live) e ∙ ap (λ s. s.live) c.out
    go k lk (no n) (no o) (yes e) = ap (λ n. (S n).live) e ∙ ap (λ s. s.live) there
    go k lk (no n) (no o) (no p) = ap (λ s. s.live) (sym (kept k n o p)) ∙ lk

pub bit_le : (b c : Bool) → (b ≡ true → c ≡ true) → cond {A = ℕ} b 1 0 ≤ cond {A = ℕ} c 1 0
bit_le false c h = omega arith
bit_le true true h = omega arith
bit_le true false h = absurd (false≢true (h refl))

bit_lt : (b c : Bool) → ¬ (b ≡ true) → c ≡ true → cond {A = ℕ} b 1 0 < cond {A = ℕ} c 1 0
bit_lt true c n e = absurd (n refl)
bit_lt false true n e = omega arith
bit_lt false false n e = absurd (false≢true e)

count_le : (S T : ℕ → Slot) (n : ℕ) → ((k : ℕ) → Live (T k) → Live (S k)) → live_count n T ≤ live_count n S
unfolding live_count
count_le S T zero h = omega arith
count_le S T (suc n) h = omega (arith, bit_le (T n).live (S n).live (h n), count_le S T n h)

pub count_lt : (S T : ℕ → Slot) (n j : ℕ) → j < n → Live (S j) → ¬ (Live (T j)) → ((k : ℕ) → Live (T k) → Live (S k)) → live_count n T < live_count n S
unfolding live_count
count_lt S T zero j b l d h = absurd (omega arith)
count_lt S T (suc n) j b l d h = go (ℕ_discrete j n) (λ o. count_lt S T n j o l d h)
  where
    go : Dec (j ≡ n) → (j < n → live_count n T < live_count n S) → live_count (suc n) T < live_count (suc n) S
    go (yes e) below = omega (arith, bit_lt (T n).live (S n).live (λ x. d (ap (λ k. (T k).live) e ∙ x)) (ap (λ k. (S k).live) (sym e) ∙ l), count_le S T n h)
    go (no o) below = omega (arith, bit_le (T n).live (S n).live (h n), below (omega arith))

-- The live slots fall: n counts all of them.
pub step_shrinks : {S T : ℕ → Slot} {m : ℕ} (n : ℕ) → ((k : ℕ) → Live (S k) → k < n) → Step S m T → live_count n T < live_count n S
step_shrinks {S} {T} n all s = let h = shrinks s in count_lt S T n h.lost (all h.lost h.lost_live) h.lost_live h.lost_gone h.none_new
