-- What holds of the slots at every moment of the reduction (`Reducing`). The list of the gates taken away stands in the proofs only; so the order of takings is free.
-- The live slots are the wires left (`thru_slot`, `slot_thru`); so a gate is removable exactly when it has one slot in and one slot out (`slots_removable`). Assumes nothing.
use mathlib.Core.Path.{◌≡◌, sym, ◌∙◌, ap, subst, subst₂}
use mathlib.Core.Logic.{◌≢◌, ◌↔◌, ⊎_elim}
use mathlib.Core.List.Memᴰ
use mathlib.Core.List.{List, Memᴰ}
use Prim.Native.Nat.{ℕ}
use native.Mathlib.Decide.{ℕ_discrete}
use Rattle.model.specs.Part.{Inside}
use Rattle.parts.specs.Reduction.{Thru, direct, through, Only, Left, Removable}
use Rattle.parts.specs.Slots.{Slot, slot, Live, Carries, OneIn, OneOut}
use Rattle.parts.specs.Invariant.{Fits, Apart, Reduced, Single}
use Rattle.parts.proofs.Diamond.{Turned}
use Rattle.parts.proofs.Gates.{wire_ends, crossing}

-- no gate reaches itself
abbrev pub LoopFree : (ℕ → ℕ → Type 0) → Type 0
LoopFree E = (R : List ℕ) (g : ℕ) → Thru E R g g → ⊥

pub live_slot : (t : Slot) {a b : ℕ} → Live t → t.source ≡ a → t.target ≡ b → t ≡ slot a t.shape b
live_slot t l e f = λ i. record { live = l i; source = e i; target = f i; shape = t.shape }

module _ {E : ℕ → ℕ → Type 0} {R : List ℕ} {S : ℕ → Slot} (r : Reduced E R S) where
  pub fits_as : {i : ℕ} {t : Slot} → S i ≡ t → Live t → Fits E R t
  fits_as {i} e l = subst (Fits E R) e (r.fits i (ap (λ s. s.live) e ∙ l))

  pub apart_as : {i j : ℕ} {t u : Slot} → i ≢ j → S i ≡ t → S j ≡ u → Live t → Live u → Apart t u
  apart_as {i} {j} n e f l k = subst₂ Apart e f (r.apart i j n (ap (λ s. s.live) e ∙ l) (ap (λ s. s.live) f ∙ k))

  -- Live slots are the wires left.
  pub slot_thru : (i : ℕ) → Live (S i) → Thru E R (S i).source (S i).target
  slot_thru i l = let f = r.fits i l in crossing (S i).shape (S i).source (S i).target f.wires f.inside_gone

  -- a wire out of a gate inside a slot's part is in that part
  carried_on : {i c d : ℕ} → Live (S i) → Inside (S i).shape c → E c d → Carries (S i) c d
  carried_on {i} {c} {d} l k w = go (r.covered c d w)
    where
      same : (j : ℕ) → Dec (j ≡ i) → Live (S j) → Inside (S j).shape c → Carries (S j) c d → Carries (S i) c d
      same j (yes e) lj kj h = subst (λ n. Carries (S n) c d) e h
      same j (no n) lj kj h = absurd ((r.apart j i n lj l).no_gate c kj k)

      go : (j : ℕ) × Live (S j) × Carries (S j) c d → Carries (S i) c d
      go (j, lj, h) =
          ⊎_elim (λ e. absurd ((r.fits j lj).source_left (Memᴰ.cast (sym e) ((r.fits i l).inside_gone c k))))
          (λ kj. same j (ℕ_discrete j i) lj kj h)
          (wire_ends (S j).shape (S j).source (S j).target c d h).0

  -- a gate of a wire of a slot's part that is left is the slot's own end
  pub meets_end : {i : ℕ} (c d : ℕ) → Live (S i) → Carries (S i) c d → (Left R c → (S i).source ≡ c) × (Left R d → (S i).target ≡ d)
  meets_end {i} c d l h =
      let f = r.fits i l in
      let e = wire_ends (S i).shape (S i).source (S i).target c d h in
      (λ n. ⊎_elim sym (λ k. absurd (n (f.inside_gone c k))) e.0, λ n. ⊎_elim sym (λ k. absurd (n (f.inside_gone d k))) e.1)

  -- a gate that a wire of a slot's part enters and that is taken away is inside
  enters_inside : {i : ℕ} (c d : ℕ) → Live (S i) → Carries (S i) c d → Memᴰ d R → Inside (S i).shape d
  enters_inside {i} c d l h m =
      ⊎_elim (λ e. absurd ((r.fits i l).target_left (Memᴰ.cast (sym e) m))) (λ k. k) (wire_ends (S i).shape (S i).source (S i).target c d h).1

  -- from a gate inside a slot's part, the next gate left is the slot's target
  inside_leads : {i c b : ℕ} → Live (S i) → Inside (S i).shape c → Left R b → Thru E R c b → (S i).target ≡ b
  inside_leads {i} {c} {b} l k n (direct w) = (meets_end c b l (carried_on l k w)).1 n
  inside_leads {i} {c} {b} l k n (through {c = d} w m t) = inside_leads l (enters_inside c d l (carried_on l k w) m) n t

  pub thru_slot : {a b : ℕ} → Left R a → Left R b → Thru E R a b → (i : ℕ) × Live (S i) × ((S i).source ≡ a) × ((S i).target ≡ b)
  thru_slot {a} {b} la lb (direct w) =
      let (i, l, h) = r.covered a b w in
      (i, l, (meets_end a b l h).0 la, (meets_end a b l h).1 lb)
  thru_slot {a} {b} la lb (through {c = c} w m t) =
      let (i, l, h) = r.covered a c w in
      (i, l, (meets_end a c l h).0 la, inside_leads l (enters_inside a c l h m) lb t)

-- One slot at gate m on one side, and one gate left beyond it, are the same. T is "a wire is left" read from that side; `near` and `far` are a slot's ends, `near` the one at m.
one_side :
    (T : ℕ → ℕ → Type 0) (near far : Slot → ℕ) (S : ℕ → Slot) {R : List ℕ} {m : ℕ}
    → ((i : ℕ) → Live (S i) → Left R (far (S i)) × T (far (S i)) (near (S i)))
    → ((a : ℕ) → Left R a → T a m → (i : ℕ) × Live (S i) × (far (S i) ≡ a) × (near (S i) ≡ m))
    → ((i j : ℕ) → Live (S i) → Live (S j) → far (S i) ≡ far (S j) → near (S i) ≡ near (S j) → i ≡ j)
    → Only (λ i. Live (S i) × (near (S i) ≡ m)) ↔ Only (λ a. Left R a × T a m)
one_side T near far S {R} {m} there back single = (gates, slots)
  where
    gates : Only (λ i. Live (S i) × (near (S i) ≡ m)) → Only (λ a. Left R a × T a m)
    gates o =
        let (f, t) = there o.value o.holds.0 in
        record {
          value = far (S o.value);
          holds = (f, subst (T (far (S o.value))) o.holds.1 t);
          alone = λ a h. let (i, l, e, n) = back a h.0 h.1 in sym e ∙ ap (λ k. far (S k)) (o.alone i (l, n));
        }

    slots : Only (λ a. Left R a × T a m) → Only (λ i. Live (S i) × (near (S i) ≡ m))
    slots o =
        let (i, l, e, n) = back o.value o.holds.0 o.holds.1 in
        record {
          value = i;
          holds = (l, n);
          alone = λ j h. let (f, t) = there j h.0 in single j i h.0 l (o.alone (far (S j)) (f, subst (T (far (S j))) h.1 t) ∙ sym e) (h.1 ∙ sym n);
        }

-- A gate that is left is removable exactly when it has one slot in and one slot out.
module _ {E : ℕ → ℕ → Type 0} {R : List ℕ} {S : ℕ → Slot} (r : Reduced E R S) (single : Single S) {m : ℕ} (left : Left R m) where
  one_in : OneIn S m ↔ Only (λ a. Left R a × Thru E R a m)
  one_in = one_side (Thru E R) (λ s. s.target) (λ s. s.source) S (λ i l. ((r.fits i l).source_left, slot_thru r i l)) (λ a la t. thru_slot r la left t) single

  one_out : OneOut S m ↔ Only (λ b. Left R b × Thru E R m b)
  one_out =
      one_side (Turned (Thru E R)) (λ s. s.source) (λ s. s.target) S (λ i l. ((r.fits i l).target_left, slot_thru r i l))
      (λ b lb t. let (i, l, e, n) = thru_slot r left lb t in (i, l, n, e))
      (λ i j l k e n. single i j l k n e)

  pub slots_removable : (OneIn S m × OneOut S m) ↔ Removable E R m
  slots_removable = (
    λ h. record { left = left; before = one_in.0 h.0; after = one_out.0 h.1 },
    λ h. (one_in.1 h.before, one_out.1 h.after),
  )
