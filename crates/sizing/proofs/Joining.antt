-- The curve, pair after pair: one run more at the end of a record of gains widens the last pair of its curve, or follows it.
-- Assumes nothing.
use mathlib.Core.Path.{◌≡◌, refl, sym, ◌∙◌, ap}
use mathlib.Core.Bool.{Bool, true, false}
use mathlib.Core.List.{List, [], ◌∷◌, ◌++◌}
use Prim.Native.Nat.{ℕ, zero, suc, ◌+◌, ◌-◌, ◌≤◌, ◌<◌}
use native.Mathlib.Nat.{add_assoc}
use native.Mathlib.Decide.{ℕ_discrete}
use native.Mathlib.Omega.{arith}
use borrow.Author.Tests.{eq-eqb, ne_eqb, eqb-true}
use lib.Dec.{eqb}
use lib.ListN.{length, get_or, set}
use lib.Seq.{get_or-set_same, get_or-set_other}
use Rattle.lists.specs.Over.{build}
use Rattle.lists.proofs.Over.{build_same}
use Rattle.model.specs.Curve.{Pair}
use Rattle.optimum.specs.Runs.{onto, joined}
use Rattle.sizing.specs.Pairs.{pair, pairs_in, extend, Noted}

-- in front and at the end do not disturb each other
onto_extend : (p q : Pair) (L : List Pair) → onto p (extend L q) ≡ extend (onto p L) q
unfolding onto extend
onto_extend p q [] = refl
onto_extend p q (a ∷ []) = go (eqb a.gain q.gain) (eqb p.gain a.gain) refl refl
  where
    go : (s t : Bool) → eqb a.gain q.gain ≡ s → eqb p.gain a.gain ≡ t → onto p (extend (a ∷ []) q) ≡ extend (onto p (a ∷ [])) q
    go true true e f =
        let w : eqb p.gain q.gain ≡ true = ap (λ (x : ℕ). eqb p.gain x) (sym (eqb-true _ _ e)) ∙ f in
        rw (e, w) (rw f (rw e (rw add_assoc)))
    go true false e f =
        let w : eqb p.gain q.gain ≡ false = ap (λ (x : ℕ). eqb p.gain x) (sym (eqb-true _ _ e)) ∙ f in
        rw (e, w) (rw f (rw e))
    go false true e f = rw e (rw f (rw e))
    go false false e f = rw e (rw f (rw e))
onto_extend p q (a ∷ b ∷ L) = go (eqb p.gain a.gain) refl
  where
    go : (t : Bool) → eqb p.gain a.gain ≡ t → onto p (extend (a ∷ b ∷ L) q) ≡ extend (onto p (a ∷ b ∷ L)) q
    go true f = rw f
    go false f = rw f

pub joined_more : (ps : List Pair) (q : Pair) → joined (ps ++ (q ∷ [])) ≡ extend (joined ps) q
unfolding joined extend onto
joined_more [] q = refl
joined_more (p ∷ ps) q = ap (onto p) (joined_more ps q) ∙ onto_extend p q (joined ps)

-- at the end of a curve with a last pair
extend_same : (A : List Pair) (a q : Pair) → a.gain ≡ q.gain → extend (A ++ (a ∷ [])) q ≡ A ++ (pair (a.width + q.width) q.gain ∷ [])
unfolding extend
extend_same [] a q e = rw (eq-eqb _ _ e)
extend_same (b ∷ []) a q e = ap (λ (L : List Pair). b ∷ L) (extend_same [] a q e)
extend_same (b ∷ c ∷ A) a q e = ap (λ (L : List Pair). b ∷ L) (extend_same (c ∷ A) a q e)

extend_other : (A : List Pair) (a q : Pair) → ¬ (a.gain ≡ q.gain) → extend (A ++ (a ∷ [])) q ≡ (A ++ (a ∷ [])) ++ (q ∷ [])
unfolding extend
extend_other [] a q d = rw (ne_eqb a.gain q.gain d)
extend_other (b ∷ []) a q d = ap (λ (L : List Pair). b ∷ L) (extend_other [] a q d)
extend_other (b ∷ c ∷ A) a q d = ap (λ (L : List Pair). b ∷ L) (extend_other (c ∷ A) a q d)

module _ (widths gains : List ℕ) (w g : ℕ) where
  -- the last pair widened
  pub note_widens : (c : ℕ) → c ≤ length widths → 0 < c → get_or gains (c - 1) 0 ≡ g
      → Noted c c widths gains (set widths (c - 1) (get_or widths (c - 1) 0 + w)) gains w g
  unfolding build
  note_widens zero l p e = absurd (omega arith)
  note_widens (suc m) l p e =
      record {
        pairs = by_last;
        few = omega arith;
        no_fewer = omega arith;
        other_widths = λ i b. get_or-set_other widths (suc m - 1) i _ 0 (λ z. omega arith);
        other_gains = λ i b. refl;
        wide = λ b before i k. grown b before i k (ℕ_discrete i (suc m - 1));
      }
    where
      s : suc m - 1 ≡ m
      s = omega arith

      here : get_or (set widths m (get_or widths m 0 + w)) m 0 ≡ get_or widths m 0 + w
      here = get_or-set_same widths m (get_or widths m 0 + w) 0 (omega arith)

      front : pairs_in m (set widths m (get_or widths m 0 + w)) gains ≡ pairs_in m widths gains
      front =
          build_same m (λ (i : ℕ). pair (get_or (set widths m (get_or widths m 0 + w)) i 0) (get_or gains i 0)) (λ (i : ℕ). pair (get_or widths i 0) (get_or gains i 0))
          (λ i k. ap (λ (v : ℕ). pair v (get_or gains i 0)) (get_or-set_other widths m i _ 0 (λ z. omega arith)))

      by_last : pairs_in (suc m) (set widths (suc m - 1) (get_or widths (suc m - 1) 0 + w)) gains ≡ extend (pairs_in (suc m) widths gains) (pair w g)
      by_last =
          let t : get_or gains m 0 ≡ g = rw s at e in
          rw s (rw (front, here, t) (sym (rw t at (extend_same (pairs_in m widths gains) (pair (get_or widths m 0) (get_or gains m 0)) (pair w g) t))))

      grown : (b : ℕ) → ((i : ℕ) → i < suc m → get_or widths i 0 ≤ b) → (i : ℕ) → i < suc m → Dec (i ≡ suc m - 1)
          → get_or (set widths (suc m - 1) (get_or widths (suc m - 1) 0 + w)) i 0 ≤ b + w
      grown b before i k (yes z) =
          rw (z, get_or-set_same widths (suc m - 1) (get_or widths (suc m - 1) 0 + w) 0 (omega arith)) (omega (arith, before (suc m - 1) (omega arith)))
      grown b before i k (no d) =
          rw (get_or-set_other widths (suc m - 1) i (get_or widths (suc m - 1) 0 + w) 0 d) (omega (arith, before i k))

  -- a pair more
  pub note_follows : (c : ℕ) → c < length widths → c < length gains → ¬ ((0 < c) × (get_or gains (c - 1) 0 ≡ g))
      → Noted c (c + 1) widths gains (set widths c w) (set gains c g) w g
  unfolding build extend
  note_follows c lw lg d =
      record {
        pairs = rw s (ap (λ (L : List Pair). L ++ (pair (get_or (set widths c w) c 0) (get_or (set gains c g) c 0) ∷ [])) front
            ∙ rw (get_or-set_same widths c w 0 lw, get_or-set_same gains c g 0 lg) (sym (behind c d)));
        few = omega arith;
        no_fewer = omega arith;
        other_widths = λ i b. get_or-set_other widths c i w 0 (λ z. omega arith);
        other_gains = λ i b. get_or-set_other gains c i g 0 (λ z. omega arith);
        wide = λ b before i k. grown b before i k (ℕ_discrete i c);
      }
    where
      s : c + 1 ≡ suc c
      s = omega arith

      front : pairs_in c (set widths c w) (set gains c g) ≡ pairs_in c widths gains
      front =
          build_same c (λ (i : ℕ). pair (get_or (set widths c w) i 0) (get_or (set gains c g) i 0)) (λ (i : ℕ). pair (get_or widths i 0) (get_or gains i 0))
          (λ i k. rw (get_or-set_other widths c i w 0 (λ z. omega arith), get_or-set_other gains c i g 0 (λ z. omega arith)))

      behind : (c : ℕ) → ¬ ((0 < c) × (get_or gains (c - 1) 0 ≡ g)) → extend (pairs_in c widths gains) (pair w g) ≡ pairs_in c widths gains ++ (pair w g ∷ [])
      behind zero d = refl
      behind (suc m) d =
          let t : suc m - 1 ≡ m = omega arith in
          extend_other (pairs_in m widths gains) (pair (get_or widths m 0) (get_or gains m 0)) (pair w g) (λ z. d (omega arith, rw t z))

      grown : (b : ℕ) → ((i : ℕ) → i < c → get_or widths i 0 ≤ b) → (i : ℕ) → i < c + 1 → Dec (i ≡ c) → get_or (set widths c w) i 0 ≤ b + w
      grown b before i k (yes z) = rw (z, get_or-set_same widths c w 0 lw) (omega arith)
      grown b before i k (no n) = rw (get_or-set_other widths c i w 0 n) (omega (arith, before i (omega arith)))
