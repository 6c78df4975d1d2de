-- Takings from a curve that two slices hold: the pair of a position is read off the slices; past the end of the pairs, and past the end of either slice, nothing is earned.
-- Assumes nothing.
use mathlib.Core.Path.{◌≡◌, refl, sym, ◌∙◌, ap}
use mathlib.Core.Logic.{◌⊎◌, inl, inr}
use Prim.Native.Nat.{ℕ, ◌+◌, ◌-◌, ◌≤◌, ◌<◌, min}
use native.Mathlib.Nat.{min-eq_right, le_of_lt}
use native.Mathlib.Omega.{arith}
use lib.ListN.{length, get_or, get_or-eq_default}
use Rattle.lists.proofs.Compare.{le_or_lt}
use Rattle.lists.proofs.Over.{length_build, get_or_build}
use Rattle.model.specs.Curve.{Pair}
use Rattle.saving_curve.specs.declared.position.Curve.{Curve}
use Rattle.saving_curve.specs.declared.position.Position.{Position}
use Rattle.saving_curve.specs.declared.position.Taken.{Taken}
use Rattle.saving_curve.specs.Position.{pair_at, pairs_of, no_pair, here, left_at, none_at, taken_at}
use Rattle.saving_curve.proofs.Taking.{Taking, past, within, beyond, taking, rest_of_pair, taken_past, taken_beyond}

module _ (curve : Curve) (p : Position) where
  -- past the last pair nothing is taken
  pub past_pairs : (k : ℕ) → curve.pairs ≤ p.pair → taken_at (pairs_of curve) p k ≡ none_at p
  past_pairs k h = taken_past (pairs_of curve) p k (rw length_build h)

  pub here_in : p.pair < curve.pairs → here (pairs_of curve) p ≡ pair_at curve.widths.now curve.gains.now p.pair
  here_in h = get_or_build curve.pairs (pair_at curve.widths.now curve.gains.now) p.pair no_pair h

  earns_nothing : (k : ℕ) {t : Taken} → (here (pairs_of curve) p).gain ≡ 0 → Taking (pairs_of curve) p k t → t.gain ≡ 0
  earns_nothing k e (past h) = refl
  earns_nothing k e (within h l) = e
  earns_nothing k e (beyond h l) = e

  takes_nothing : (k : ℕ) {t : Taken} → (here (pairs_of curve) p).width ≡ 0 → Taking (pairs_of curve) p k t → t.ticks ≡ 0
  takes_nothing k e (past h) = refl
  takes_nothing k e (within h l) = omega arith
  takes_nothing k e (beyond h l) = omega arith

  -- past the end of the gains nothing is earned
  pub past_gains : (k : ℕ) → length curve.gains.now ≤ p.pair → (taken_at (pairs_of curve) p k).gain ≡ 0
  past_gains k h = go (le_or_lt curve.pairs p.pair)
    where
      go : (curve.pairs ≤ p.pair) ⊎ (p.pair < curve.pairs) → (taken_at (pairs_of curve) p k).gain ≡ 0
      go (inl l) = rw (past_pairs k l)
      go (inr l) = earns_nothing k (ap (λ (q : Pair). q.gain) (here_in l) ∙ get_or-eq_default curve.gains.now 0 h) (taking (pairs_of curve) p k)

  -- past the end of the widths no tick is taken, and so nothing is earned
  pub past_widths : (k : ℕ) → length curve.widths.now ≤ p.pair → (taken_at (pairs_of curve) p k).ticks ≡ 0
  past_widths k h = go (le_or_lt curve.pairs p.pair)
    where
      go : (curve.pairs ≤ p.pair) ⊎ (p.pair < curve.pairs) → (taken_at (pairs_of curve) p k).ticks ≡ 0
      go (inl l) = rw (past_pairs k l)
      go (inr l) = takes_nothing k (ap (λ (q : Pair). q.width) (here_in l) ∙ get_or-eq_default curve.widths.now 0 h) (taking (pairs_of curve) p k)

  -- all that is left of the pair, which is what one tick more takes
  pub taken_rest : (w left gain : ℕ) → p.pair < curve.pairs → w ≡ get_or curve.widths.now p.pair 0 → left ≡ w - p.used → gain ≡ get_or curve.gains.now p.pair 0
      → record { next = record { pair = p.pair + 1; used = 0 }; ticks = left; gain = gain } ≡ taken_at (pairs_of curve) p (left_at (pairs_of curve) p + 1)
  taken_rest w left gain h ew el eg =
      let left_is : left ≡ left_at (pairs_of curve) p = el ∙ rw (ew, here_in h) in
      let gain_is : gain ≡ (here (pairs_of curve) p).gain = eg ∙ rw (here_in h) in
      rw (left_is, gain_is) (sym (taken_beyond (pairs_of curve) p (left_at (pairs_of curve) p + 1) (rw length_build h) (omega arith)))

  -- where t is all that is left of the pair, and less than the ticks, or no pair is left, the ticks take that
  pub taken_all : (k taken : ℕ) (t : Taken) → t ≡ taken_at (pairs_of curve) p (left_at (pairs_of curve) p + 1) → taken ≡ min k t.ticks → ((p.pair < curve.pairs) × (t.ticks < k)) ⊎ (curve.pairs ≤ p.pair)
      → record { next = t.next; ticks = taken; gain = t.gain } ≡ taken_at (pairs_of curve) p k
  taken_all k taken t e m (inl (h, l)) =
      let is : t ≡ rest_of_pair (pairs_of curve) p = e ∙ taken_beyond (pairs_of curve) p (left_at (pairs_of curve) p + 1) (rw length_build h) (omega arith) in
      let all : taken ≡ left_at (pairs_of curve) p = m ∙ min-eq_right (le_of_lt l) ∙ ap (λ (q : Taken). q.ticks) is in
      rw (all, is) (sym (taken_beyond (pairs_of curve) p k (rw length_build h) (rw is at l)))
  taken_all k taken t e m (inr h) =
      let is : t ≡ none_at p = e ∙ past_pairs (left_at (pairs_of curve) p + 1) h in
      let none : taken ≡ 0 = m ∙ rw is (omega arith) in
      rw (none, is) (sym (past_pairs k h))
