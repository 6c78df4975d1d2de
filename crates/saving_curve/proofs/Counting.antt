-- Takings one after another come to `count_off`: each earns what its ticks earn when they are counted off the pairs from the position on.
-- Assumes nothing.
use mathlib.Core.Path.{◌≡◌, refl, sym, ◌∙◌, ap}
use mathlib.Core.Logic.{◌⊎◌, inl, inr}
use mathlib.Core.List.{List, [], ◌∷◌}
use Prim.Native.Nat.{ℕ, suc, ◌+◌, ◌*◌, ◌-◌, ◌^◌, ◌≤◌, ◌<◌}
use native.Mathlib.Nat.{add-zero, zero-add, sub-zero}
use native.Mathlib.Numerals.{add-one}
use native.Mathlib.Omega.{arith}
use lib.ListN.{length, drop, drop_of_length-le}
use lib.Seq.{drop-cons}
use Rattle.lists.proofs.Over.{length_build}
use Rattle.model.specs.Curve.{Pair, count_off}
use Rattle.model.proofs.Curve.{count_off_none, count_off_within, count_off_beyond}
use Rattle.saving_curve.specs.declared.position.Curve.{Curve}
use Rattle.saving_curve.specs.declared.position.Position.{Position}
use Rattle.saving_curve.specs.declared.position.Taken.{Taken}
use Rattle.saving_curve.specs.Position.{pair_at, pairs_of, no_pair, here, left_at, at_front, taken_at}
use Rattle.saving_curve.proofs.Taking.{Taking, past, within, beyond, is_taking, no_more, fewer}

-- the pairs without the first u ticks of the first
abbrev pub without : ℕ → List Pair → List Pair
without u [] = []
without u (q ∷ qs) = record { width = q.width - u; gain = q.gain } ∷ qs

-- the pairs from a position on
abbrev pub ahead : List Pair → Position → List Pair
ahead ps p = without p.used (drop p.pair ps)

pub without_none : (ps : List Pair) → without 0 ps ≡ ps
without_none [] = refl
without_none (q ∷ qs) = simp sub-zero

pub ahead_past : (ps : List Pair) (p : Position) → length ps ≤ p.pair → ahead ps p ≡ []
ahead_past ps p h = rw (drop_of_length-le ps h)

-- what is left of the pair at a position
abbrev unused : List Pair → Position → Pair
unused ps p = record { width = left_at ps p; gain = (here ps p).gain }

ahead_here : (ps : List Pair) (p : Position) → p.pair < length ps → ahead ps p ≡ unused ps p ∷ drop (suc p.pair) ps
ahead_here ps p h = rw (drop-cons ps p.pair no_pair h)

module _ (ps : List Pair) (p : Position) (inside : p.pair < length ps) where
  -- ticks within what is left of the pair earn its gain ..
  pub within_here : (k : ℕ) → k ≤ left_at ps p → count_off (ahead ps p) k ≡ k * (here ps p).gain
  within_here k l =
      ap (λ (qs : List Pair). count_off qs k) (ahead_here ps p inside) ∙ count_off_within (unused ps p) (drop (suc p.pair) ps) k l

  -- .. and ticks beyond it are counted off from the next pair on
  pub beyond_here : (k : ℕ)
      → count_off (ahead ps p) (left_at ps p + k) ≡ left_at ps p * (here ps p).gain + count_off (ahead ps (record { pair = p.pair + 1; used = 0 })) k
  beyond_here k =
      ap (λ (qs : List Pair). count_off qs (left_at ps p + k)) (ahead_here ps p inside)
      ∙ count_off_beyond (unused ps p) (drop (suc p.pair) ps) k
      ∙ sym (rw (add-one p.pair, without_none (drop (suc p.pair) ps)))

-- what is counted off from a position on is what a taking earns and what is counted off from the next
pub taking_counts : {ps : List Pair} {p : Position} {k : ℕ} {t : Taken} → Taking ps p k t → count_off (ahead ps p) k ≡ t.ticks * t.gain + count_off (ahead ps t.next) (k - t.ticks)
taking_counts {ps} {p} {k} (past h) = rw (sub-zero, zero-add)
taking_counts {ps} {p} {k} (within h l) =
    let none : k - k ≡ 0 = omega arith in
    within_here ps p h k l
    ∙ sym (rw (none, count_off_none (ahead ps (record { pair = p.pair; used = p.used + k }))) (add-zero (k * (here ps p).gain)))
taking_counts {ps} {p} {k} (beyond h l) =
    let all : k ≡ left_at ps p + (k - left_at ps p) = omega arith in
    ap (count_off (ahead ps p)) all ∙ beyond_here ps p h (k - left_at ps p)

-- What a loop has come to that counts k ticks off a curve: it stands at `next`, `left` ticks are still wanted, and what it has earned and what is counted off from there on come to all.
pub record Counted (ps : List Pair) (k : ℕ) (next : Position) (left earned : ℕ) : Type 0 where
  pub all : earned + count_off (ahead ps next) left ≡ count_off ps k

pub counting_starts : (ps : List Pair) (k : ℕ) → Counted ps k at_front k 0
counting_starts ps k = record { all = rw (zero-add, without_none ps) }

-- no ticks wanted, or no pairs ahead: nothing more is counted off
pub counting_ends : (ps : List Pair) (k : ℕ) (next : Position) (left earned : ℕ) → Counted ps k next left earned → (left ≡ 0) ⊎ (length ps ≤ next.pair) → earned ≡ count_off ps k
unfolding count_off
counting_ends ps k next left earned c d = omega (arith, c.all, none d)
  where
    none : (left ≡ 0) ⊎ (length ps ≤ next.pair) → count_off (ahead ps next) left ≡ 0
    none (inl e) = rw e (count_off_none (ahead ps next))
    none (inr h) = rw (ahead_past ps next h)

-- One turn of the loop, on a curve in two slices: t is what is taken of the pair at `next`.
module _ (curve : Curve) (k earned : ℕ) (next : Position) {left : ℕ} {t : Taken} (e : t ≡ taken_at (pairs_of curve) next left) where
  pub turn_takes : t.ticks ≤ left
  turn_takes = no_more (is_taking {ps = pairs_of curve} {p = next} e)

  pub turn_shortens : 0 < left → next.pair < curve.pairs → left - t.ticks + (curve.pairs - t.next.pair) < left + (curve.pairs - next.pair)
  turn_shortens l h = rw (length_build curve.pairs (pair_at curve.widths.now curve.gains.now)) at (fewer (is_taking {ps = pairs_of curve} {p = next} e) l (rw length_build h))

  -- what it earns is a part of all
  pub turn_fits : Counted (pairs_of curve) k next left earned → count_off (pairs_of curve) k < 2 ^ 64 → earned + t.ticks * t.gain < 2 ^ 64
  turn_fits c f = omega (arith, c.all, taking_counts (is_taking {ps = pairs_of curve} {p = next} e))

  pub turn_counts : Counted (pairs_of curve) k next left earned → Counted (pairs_of curve) k t.next (left - t.ticks) (earned + t.ticks * t.gain)
  turn_counts c = record { all = omega (arith, c.all, taking_counts (is_taking {ps = pairs_of curve} {p = next} e)) }
