-- Pair after pair towards a wanted saving: whole pairs are passed as long as they earn less than is still needed, and of the pair that earns enough only as many ticks as it takes.
-- The idea: what is still needed is what the wanted saving exceeds the saving at start and the ticks so far by (`counts`), and more ticks earn no less.
-- Assumes nothing.
use mathlib.Core.Path.{◌≡◌, ◌∙◌}
use mathlib.Core.Logic.{⊎_elim}
use mathlib.Core.List.{List}
use Prim.Native.Nat.{ℕ, zero, suc, ◌+◌, ◌*◌, ◌-◌, ◌^◌, ◌≤◌, ◌<◌}
use native.Mathlib.Nat.{add-mul, zero-mul, zero-add, mul-zero}
use native.Mathlib.Omega.{arith}
use lib.ListN.{length}
use Rattle.lists.specs.Search.{Lowest}
use Rattle.lists.proofs.Compare.{le_or_lt}
use Rattle.lists.proofs.Over.{length_build}
use Rattle.model.specs.Curve.{Pair, all_ticks, count_off}
use Rattle.model.proofs.Curve.{count_off_none, count_off_grows, count_off_whole}
use Rattle.saving_curve.specs.declared.position.Curve.{Curve}
use Rattle.saving_curve.specs.declared.position.Position.{Position}
use Rattle.saving_curve.specs.declared.position.Taken.{Taken}
use Rattle.saving_curve.specs.Position.{pairs_of, here, left_at, at_front, taken_at}
use Rattle.saving_curve.proofs.Taking.{rest_of_pair, taken_beyond}
use Rattle.saving_curve.proofs.Counting.{ahead, without_none, ahead_past, within_here, beyond_here}

-- the greatest 32-bit number
abbrev pub greatest : ℕ
greatest = 4294967295

-- `need` is still needed after `ticks` ticks, which have come to the position `next`: with k ticks more, the saving at start, what the ticks earn and the need come to the wanted saving and what the k ticks earn from the position on.
pub record Reaching (ps : List Pair) (at_start wanted : ℕ) (next : Position) (ticks need : ℕ) : Type 0 where
  pub some : 1 ≤ need
  pub few : ticks ≤ next.pair * greatest
  pub counts : (k : ℕ) → at_start + count_off ps (ticks + k) + need ≡ wanted + count_off (ahead ps next) k

-- a wanted saving that the saving at start reaches needs no tick
pub at_start_enough : (ps : List Pair) (at_start wanted : ℕ) → wanted ≤ at_start → Lowest (λ (k : ℕ). wanted ≤ at_start + count_off ps k) 0
at_start_enough ps at_start wanted h = record { holds = omega arith; none_below = λ k l. absurd (omega arith) }

pub reaching_starts : (ps : List Pair) (at_start wanted : ℕ) → at_start < wanted → Reaching ps at_start wanted at_front 0 (wanted - at_start)
reaching_starts ps at_start wanted h =
    record {
      some = omega arith;
      few = omega arith;
      counts = λ k. rw (zero-add, without_none ps) (omega arith);
    }

module _ {ps : List Pair} {at_start wanted : ℕ} {next : Position} {ticks need : ℕ} (r : Reaching ps at_start wanted next ticks need) where
  -- ticks that earn less than is needed do not reach the wanted saving, and neither do fewer
  below_wanted : (j k : ℕ) → j ≤ ticks + k → count_off (ahead ps next) k < need → at_start + count_off ps j < wanted
  below_wanted j k l less = omega (arith, r.counts k, count_off_grows ps j (ticks + k) l)

  -- past the last pair nothing more is earned
  pub nowhere : length ps ≤ next.pair → (k : ℕ) → at_start + count_off ps k < wanted
  unfolding count_off
  nowhere past k = below_wanted k k (omega arith) (rw (ahead_past ps next past) r.some)

  module _ (inside : next.pair < length ps) where
    -- what is left of a pair earns no more than the whole curve
    part_of_all : left_at ps next * (here ps next).gain ≤ count_off ps (all_ticks ps)
    part_of_all =
        omega (arith, r.counts 0, r.counts (left_at ps next), count_off_none (ahead ps next), within_here ps next inside (left_at ps next) (omega arith), count_off_whole ps (ticks + left_at ps next))

    -- a pair that earns less than is needed is passed
    passes_on : left_at ps next ≤ greatest → left_at ps next * (here ps next).gain < need
        → Reaching ps at_start wanted (record { pair = next.pair + 1; used = 0 }) (ticks + left_at ps next) (need - left_at ps next * (here ps next).gain)
    passes_on small less =
        record {
          some = omega arith;
          few = omega (arith, r.few, add-mul next.pair 1 greatest);
          counts = λ k.
              let again : ticks + left_at ps next + k ≡ ticks + (left_at ps next + k) = omega arith in
              rw again (omega (arith, r.counts (left_at ps next + k), beyond_here ps next inside k));
        }

    -- of a pair that earns enough the fewest ticks that do: no more than are left of it
    module _ {k : ℕ} (enough : need ≤ left_at ps next * (here ps next).gain) (fewest : Lowest (λ (j : ℕ). need ≤ j * (here ps next).gain) k) where
      some_left : k ≤ left_at ps next
      some_left = ⊎_elim (λ (l : k ≤ left_at ps next). l) (λ l. absurd (fewest.none_below (left_at ps next) l enough)) (le_or_lt k (left_at ps next))

      none_fewer : (j : ℕ) → j < ticks + k → at_start + count_off ps j < wanted
      none_fewer = go k some_left fewest
        where
          go : (k : ℕ) → k ≤ left_at ps next → Lowest (λ (j : ℕ). need ≤ j * (here ps next).gain) k → (j : ℕ) → j < ticks + k → at_start + count_off ps j < wanted
          go zero l f j b = absurd (omega (arith, f.holds, r.some, zero-mul (here ps next).gain))
          go (suc i) l f j b =
              below_wanted j i (omega arith)
              (⊎_elim (λ (h : need ≤ i * (here ps next).gain). absurd (f.none_below i (omega arith) h))
              (λ (h : i * (here ps next).gain < need). rw (within_here ps next inside i (omega arith)) h)
              (le_or_lt need (i * (here ps next).gain)))

      reaches_here : Lowest (λ (j : ℕ). wanted ≤ at_start + count_off ps j) (ticks + k)
      reaches_here =
          record {
            holds = omega (arith, r.counts k, within_here ps next inside k some_left, fewest.holds);
            none_below = λ j l h. omega (arith, none_fewer j l);
          }

-- One turn of the loop, on a curve in two slices: t is all that is left of the pair at `next`.
module _ (curve : Curve) {at_start wanted : ℕ} {next : Position} {ticks need : ℕ} (r : Reaching (pairs_of curve) at_start wanted next ticks need) (ahead_of_end : next.pair < curve.pairs)
    {t : Taken} (taken : t ≡ taken_at (pairs_of curve) next (left_at (pairs_of curve) next + 1)) where
  inside : next.pair < length (pairs_of curve)
  inside = rw length_build ahead_of_end

  is_rest : t ≡ rest_of_pair (pairs_of curve) next
  is_rest = taken ∙ taken_beyond (pairs_of curve) next (left_at (pairs_of curve) next + 1) inside (omega arith)

  pub turn_fits : count_off (pairs_of curve) (all_ticks (pairs_of curve)) < 2 ^ 64 → t.ticks * t.gain < 2 ^ 64
  turn_fits fits = rw is_rest (omega (arith, part_of_all r inside))

  pub turn_passes : t.ticks ≤ greatest → t.ticks * t.gain < need → Reaching (pairs_of curve) at_start wanted (record { pair = next.pair + 1; used = 0 }) (ticks + t.ticks) (need - t.ticks * t.gain)
  turn_passes small less = rw is_rest (passes_on r inside (rw is_rest at small) (rw is_rest at less))

  module _ (enough : need ≤ t.ticks * t.gain) where
    -- a pair that earns something has a gain
    pub turn_gains : 1 ≤ t.gain
    turn_gains = go t.gain enough
      where
        go : (g : ℕ) → need ≤ t.ticks * g → 1 ≤ g
        go zero l = absurd (omega (arith, r.some, rw (mul-zero t.ticks) at l))
        go (suc i) l = omega arith

    module _ {k : ℕ} (fewest : Lowest (λ (j : ℕ). need ≤ j * t.gain) k) where
      pub turn_reaches : Lowest (λ (j : ℕ). wanted ≤ at_start + count_off (pairs_of curve) j) (ticks + k)
      turn_reaches = reaches_here r inside (rw is_rest at enough) (rw is_rest at fewest)

      pub turn_few : k ≤ t.ticks
      turn_few = rw is_rest (some_left r inside (rw is_rest at enough) (rw is_rest at fewest))
