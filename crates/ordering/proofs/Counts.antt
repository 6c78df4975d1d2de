-- Wires counted by their targets, and the pass that places the gates to which none leads.
-- Assumes nothing.
use mathlib.Core.Path.{◌≡◌, refl, sym, ◌∙◌}
use mathlib.Core.Logic.{◌≢◌, ⊎_elim}
use mathlib.Core.List.{List}
use Prim.Native.Nat.{ℕ, zero, suc, ◌+◌, ◌≤◌, ◌<◌}
use native.Mathlib.Numerals.{add-one}
use native.Mathlib.Nat.{not-suc-le-zero, le_of_suc-le-suc, eq-or-lt_of_le, le_refl}
use native.Mathlib.Decide.{ℕ_discrete}
use native.Mathlib.Omega.{arith}
use lib.Dec.{eqb}
use lib.ListN.{length, get_or, set, length-set, replicate, length-replicate, get_or-replicate}
use lib.Seq.{get_or-set_same, get_or-set_other}
use borrow.Author.Tests.{eq-eqb, ne_eqb}
use Rattle.lists.specs.Sum.{sum}
use Rattle.lists.proofs.Bool.{cases}
use Rattle.ordering.specs.Counts.{into, wires_into, Visit, waits, placed_now, FreePlaced}
use Rattle.ordering.proofs.Placing.{none_placed, room, placed_next}

pub sum_term : (m : ℕ) (f : ℕ → ℕ) (i : ℕ) → i < m → f i ≤ sum m f
unfolding sum
sum_term zero f i h = absurd (not-suc-le-zero h)
sum_term (suc m) f i h =
    ⊎_elim (λ e. rw e (omega arith)) (λ l. omega (arith, sum_term m f i l)) (eq-or-lt_of_le (le_of_suc-le-suc h))

-- a sum that is not 0 has a term that is not
pub sum_some : (m : ℕ) (f : ℕ → ℕ) → sum m f ≢ 0 → (i : ℕ) × (i < m) × (f i ≢ 0)
unfolding sum
sum_some zero f d = absurd (d refl)
sum_some (suc m) f d = by (sum_some m f) (ℕ_discrete (f m) 0)
  where
    by : (sum m f ≢ 0 → (i : ℕ) × (i < m) × (f i ≢ 0)) → Dec (f m ≡ 0) → (i : ℕ) × (i < suc m) × (f i ≢ 0)
    by rest (yes e) = let r = rest (λ z. d (omega arith)) in (r.0, omega (arith, r.1), r.2)
    by rest (no u) = (m, omega arith, u)

-- a wire to the gate counts
pub into_here : (targets : List ℕ) (ahead : ℕ → ℕ) (g i : ℕ) → get_or targets i 0 ≡ g → into targets ahead g i ≡ ahead i
into_here targets ahead g i e = rw (eq-eqb (get_or targets i 0) g e)

pub into_other : (targets : List ℕ) (ahead : ℕ → ℕ) (g i : ℕ) → get_or targets i 0 ≢ g → into targets ahead g i ≡ 0
into_other targets ahead g i d = rw (ne_eqb (get_or targets i 0) g d)

module _ (targets : List ℕ) where
  pub wires_none : (left : List ℕ) → ((g : ℕ) → get_or left g 0 ≡ 0) → (g : ℕ) → get_or left g 0 ≡ wires_into targets 0 g
  unfolding sum
  wires_none left zeros = zeros

  pub wires_few : (m g : ℕ) → wires_into targets m g ≤ m
  unfolding sum
  wires_few zero g = le_refl 0
  wires_few (suc m) g =
      cases (eqb (get_or targets m 0) g) (λ p. rw p (omega (arith, wires_few m g))) (λ p. rw p (omega (arith, wires_few m g)))

  -- wire i leads to gate t
  pub wires_more : (left : List ℕ) (i t : ℕ) → t ≡ get_or targets i 0 → t < length left
      → ((g : ℕ) → get_or left g 0 ≡ wires_into targets i g)
      → (g : ℕ) → get_or (set left t (get_or left t 0 + 1)) g 0 ≡ wires_into targets (i + 1) g
  unfolding sum
  wires_more left i t e long all g = rw (add-one i) (by (ℕ_discrete g t))
    where
      by : Dec (g ≡ t) → get_or (set left t (get_or left t 0 + 1)) g 0 ≡ wires_into targets (suc i) g
      by (yes s) =
          rw (s, get_or-set_same left t (get_or left t 0 + 1) 0 long, into_here targets (λ (j : ℕ). 1) t i (sym e)) (omega (arith, all t))
      by (no d) =
          rw (get_or-set_other left t g (get_or left t 0 + 1) 0 d, into_other targets (λ (j : ℕ). 1) g i (λ q. d (sym q ∙ sym e)))
          (omega (arith, all g))

-- The pass over all gates that places those with 0 in `left`: none are placed at first.
pub free_none : (n : ℕ) (left order₀ : List ℕ) → FreePlaced n left order₀ 0 order₀ 0
free_none n left order₀ =
    let unplaced : (g : ℕ) → g < n → n ≤ get_or (replicate n n) g 0 = λ g h. rw (get_or-replicate n g n 0 h) (le_refl n) in
    record {
      place = replicate n n;
      long = rw length-replicate (le_refl n);
      numbered = none_placed (λ (a b : ℕ). ⊥) n (λ a b e. absurd e) (replicate n n) order₀ unplaced;
      free = λ h l. absurd (not-suc-le-zero l);
      only = λ h l p. let u = unplaced h l in absurd (omega arith);
      beyond = λ k h. refl;
    }

-- Gate g is visited next.
module _ {n g : ℕ} {left order₀ order : List ℕ} {count : ℕ} (F : FreePlaced n left order₀ g order count) (gate : g < n) where
  abbrev place : List ℕ
  place = F.place

  unplaced : n ≤ get_or place g 0
  unplaced = let d : ¬ (get_or place g 0 < n) = λ p. omega (arith, (F.only g gate p).0) in omega arith

  pub free_room : count < n
  free_room = room (λ (a b : ℕ). ⊥) n (λ a b e. absurd e) place order count F.numbered g gate unplaced

  long : g < length place
  long = let l = F.long in omega arith

  pub free_visited : n ≤ length order → {order⁺ : List ℕ} {count⁺ : ℕ} → Visit g left order count order⁺ count⁺ → FreePlaced n left order₀ (g + 1) order⁺ count⁺
  free_visited fits (waits d) =
      record {
        place = place;
        long = F.long;
        numbered = F.numbered;
        free = λ h l z. ⊎_elim (λ e. absurd (d (rw e at z))) (λ b. F.free h b z) (eq-or-lt_of_le (omega arith));
        only = λ h l p. let o = F.only h l p in (omega (arith, o.0), o.1);
        beyond = F.beyond;
      }
  free_visited fits (placed_now z) =
      let r = free_room in
      record {
        place = set place g count;
        long = rw length-set F.long;
        numbered = placed_next (λ (a b : ℕ). ⊥) n (λ a b e. absurd e) place order count F.numbered g gate unplaced long (omega arith) (λ a e. absurd e);
        free = λ h l. free⁺ h l (ℕ_discrete h g);
        only = λ h l. only⁺ h l (ℕ_discrete h g);
        beyond = λ k h. get_or-set_other order count k g 0 (λ e. omega arith) ∙ F.beyond k h;
      }
    where
      free⁺ : (h : ℕ) → h < g + 1 → Dec (h ≡ g) → get_or left h 0 ≡ 0 → get_or (set place g count) h 0 < n
      free⁺ h l (yes e) q = rw (e, get_or-set_same place g count 0 long) free_room
      free⁺ h l (no d) q = rw (get_or-set_other place g h count 0 d) (F.free h (omega arith) q)

      only⁺ : (h : ℕ) → h < n → Dec (h ≡ g) → get_or (set place g count) h 0 < n → (h < g + 1) × (get_or left h 0 ≡ 0)
      only⁺ h l (yes e) p = (omega arith, rw e z)
      only⁺ h l (no d) p = let o = F.only h l (rw (get_or-set_other place g h count 0 d) at p) in (omega (arith, o.0), o.1)
