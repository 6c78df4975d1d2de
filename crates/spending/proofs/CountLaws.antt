-- The curve of a block whose tree is planted: it is no longer and its gains are no greater than document 01 says, and what ticks earn on the runs on which they are spent is what the increases save beyond the start.
-- Assumes nothing.
use mathlib.Core.Path.{◌≡◌, refl, sym, ◌∙◌, ap}
use mathlib.Core.List.{List, Memᴰ}
use Prim.Native.Nat.{ℕ, ◌+◌, ◌-◌, ◌*◌, ◌^◌, ◌≤◌, ◌<◌, max}
use native.Mathlib.Nat.{mul-le-mul_right}
use native.Mathlib.Omega.{arith}
use lib.ListN.{length}
use Rattle.model.specs.Limits.{max_gates, max_pairs, max_gain, max_activity, max_drop, max_time}
use Rattle.model.specs.Block.{Block, gate_count}
use Rattle.model.specs.Curve.{Pair, count_off}
use Rattle.optimum.specs.BlockTree.{block_tree, increases, pairs_of}
use Rattle.optimum.proofs.Curve.{saving_after, pairs_few}
use Rattle.optimum.proofs.Optimum.{pair_range}
use Rattle.gains.specs.Savings.{most_of_gate}
use Rattle.sizing.proofs.Blocks.{heads_are}
use Rattle.sizing.proofs.Spent.{spent_increases, spent_earns}
use Rattle.saving_curve.specs.Position.{pairs_in}
use Rattle.saving_curve.proofs.Earning.{count_off_most}
use Rattle.shaping.proofs.Facts.{join, no_wire_twice, descending, ranges}
use Rattle.spending.specs.declared.tree.TreeCurve.{TreeCurve}
use Rattle.spending.specs.TreeHeld.{TreeArrays, TreeHeld, RunsFound, IncreasesFound}
use Rattle.spending.proofs.TreeLaws.{is_tree, gates_few, saved_is, steps_are, steps_few}

module _ {B : Block} {n : ℕ} {A : TreeArrays} (h : TreeHeld B n A) where
  -- "at least 1,600 pairs, the most there can be" (document 02, K10)
  pub pairs_short : length (pairs_of B (block_tree B h.fits)) ≤ max_pairs
  pairs_short =
      omega (arith, pairs_few B (block_tree B h.fits) (is_tree h) (descending B h.limits), steps_are h, steps_few h)

  -- "A pair's gain is now at most 199 × 65,535 × 1,000"
  pub gains_few : (p : Pair) → Memᴰ p (pairs_of B (block_tree B h.fits)) → p.gain ≤ max_gain
  gains_few p m =
      let few : max 1 (gate_count B - 1) ≤ max_gates - 1 = omega (arith, h.limits.gates_most) in
      omega (
        arith,
        mul-le-mul_right (max_activity * max_drop) few,
        pair_range B h.fits (join B h.limits h.sound) (descending B h.limits) max_activity max_drop (ranges B h.limits)
            (no_wire_twice B h.limits h.sound) p m,
      )

  -- ticks spent from the raised start on
  module _ {after old_ws old_gs ws gs : List ℕ} {ticks counted : ℕ} {r : TreeCurve} (found : RunsFound B h.fits n A ticks after old_ws old_gs ws gs r)
      (off : counted ≡ count_off (pairs_in r.pairs ws gs) ticks) where
    list_after : after ≡ increases B (block_tree B h.fits) ticks
    list_after =
        found.spent.increases
        ∙ rw (h.top, found.at_start, steps_are h, heads_are h.held) (spent_increases B (block_tree B h.fits) (is_tree h) (descending B h.limits) ticks)

    counted_is : counted ≡ count_off (pairs_of B (block_tree B h.fits)) ticks
    counted_is =
        off
        ∙ ap (λ (ps : List Pair). count_off ps ticks) found.spent.pairs
        ∙ rw (h.top, found.at_start, steps_are h, heads_are h.held) (spent_earns B (block_tree B h.fits) (is_tree h) (descending B h.limits) ticks)

    -- the sum fits 64 bits
    pub sum_fits : ticks ≤ max_time → r.saving + counted < 2 ^ 64
    sum_fits few =
        omega (
          arith,
          found.saves.small,
          mul-le-mul_right most_of_gate (gates_few h),
          counted_is,
          count_off_most max_gain (pairs_of B (block_tree B h.fits)) gains_few ticks,
          mul-le-mul_right max_gain few,
        )

    pub increases_found : IncreasesFound B h.fits ticks after (r.saving + counted)
    increases_found =
        record {
          list = list_after;
          saved =
              rw (saved_is h found.saves, found.at_start, counted_is, list_after)
              (sym (saving_after B (block_tree B h.fits) (is_tree h) (descending B h.limits) ticks));
        }

  -- and so does what the ticks earn
  pub earned_fits : {after old_ws old_gs ws gs : List ℕ} {ticks : ℕ} {r : TreeCurve} → RunsFound B h.fits n A ticks after old_ws old_gs ws gs r → ticks ≤ max_time → count_off (pairs_in r.pairs ws gs) ticks < 2 ^ 64
  earned_fits found few = omega (arith, sum_fits found refl few)
