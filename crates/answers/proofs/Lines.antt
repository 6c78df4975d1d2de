-- The lines from 11 on for a held file's block: not series-parallel, late, or what was found of its tree.
-- Assumes nothing.
use mathlib.Core.Path.{◌≡◌, refl, sym, ap}
use mathlib.Core.Logic.{◌↔◌}
use mathlib.Core.List.{List, [], ◌∷◌, ◌++◌, map, Memᴰ}
use Prim.Native.Nat.{ℕ, zero, suc, ◌+◌, ◌-◌, ◌≤◌, ◌<◌}
use native.Mathlib.Omega.{arith}
use lib.ListN.{length, get_or, drop, length-map, get_or-map}
use lib.IntN.{pos}
use lib.Signed.{◌<ℤ◌}
use Rattle.lists.specs.Over.{over}
use Rattle.lists.proofs.Over.{get_or_over_front}
use Rattle.model.specs.Limits.{max_pairs, max_gain}
use Rattle.model.specs.Block.{Block}
use Rattle.model.specs.Part.{SeriesParallel}
use Rattle.model.specs.Curve.{Pair}
use Rattle.model.specs.Slack.{start, spare}
use Rattle.model.specs.Answer.{accepted, refusal, Outcome, fits, passes, well_formed, curve, CurveLines, best, BestLines, AnswersBest}
use Rattle.model.proofs.Slack.{late_is}
use Rattle.blockfile.specs.Held.{GateArrays, WireArrays}
use Rattle.loading.specs.HeldFile.{HeldFile}
use Rattle.holding.proofs.HeldLaws.{block, count, the_limits, along_all, some}
use Rattle.optimum.specs.BlockTree.{block_tree, start_of, pairs_of}
use Rattle.optimum.proofs.Optimum as Optimum
use Rattle.shaping.proofs.Facts.{join, descending}
use Rattle.spending.specs.declared.tree.TreeCurve.{TreeCurve}
use Rattle.spending.specs.TreeHeld.{TreeArrays, TreeHeld, CurveFound, IncreasesFound}
use Rattle.spending.proofs.CountLaws.{pairs_short, gains_few}
use Rattle.answers.proofs.Plantable.{start_same}

-- a list of n elements put in front of what stands behind the first n
pub in_front : (x lent : List ℕ) (n : ℕ) → length x ≡ n → x ++ drop n lent ≡ over x lent
unfolding over
in_front x lent n e = ap (λ (k : ℕ). x ++ drop k lent) (sym e)

-- a slice that is long enough for the gates: the answer is that of the lines from 11 on
pub best_answered : {file : List ℕ} {n m arrival deadline activity : ℕ} {G : GateArrays} {W : WireArrays} {order : List ℕ} (h : HeldFile file n m arrival deadline activity G W order)
    {lent : List ℕ} {o : Outcome (List ℕ)} → n ≤ length lent → BestLines (block h) lent o → AnswersBest file lent o
best_answered h long lines = well_formed (block h) h.well (passes (λ p s. omega (arith, s.1, count h)) lines)

module _ {file : List ℕ} {n m arrival deadline activity : ℕ} {G : GateArrays} {W : WireArrays} {order : List ℕ} (h : HeldFile file n m arrival deadline activity G W order) (sp : SeriesParallel (block h)) where
  late_exactly : (spare (block h) <ℤ pos 0) ↔ (deadline < arrival + start (block h))
  late_exactly = late_is (block h) h.well.network (along_all h) (omega (arith, count h, some h))

  -- 12
  pub late_line : {lent : List ℕ} {r : ℕ} → r ≡ start (block h) → deadline < arrival + r → BestLines (block h) lent (record { answer = refusal 12 0; memory = lent })
  late_line is late = passes (λ p n. n.0 sp) (fits 0 (refl, (sp, late_exactly.1 (omega arith))) refl)

  pub curve_line : {ws gs ws' gs' : List ℕ} {found : TreeCurve} {r : ℕ} → CurveFound (block h) sp ws gs ws' gs' found
      → r ≡ start (block h)
      → CurveLines (block h) (record { for_widths = ws; for_gains = gs })
      (record { answer = accepted (r ∷ found.saving ∷ found.pairs ∷ []); memory = record { for_widths = ws'; for_gains = gs' } })
  curve_line found is =
      passes (λ p n. n.0 sp)
      (curve _ _ _ sp (Optimum.curve (block h) sp (join (block h) (the_limits h) h.well.network) (descending (block h) (the_limits h)))
      (rw (is, start_same h sp, found.saved, found.count, found.widths, found.gains) refl))

  pub best_line : {lent x after : List ℕ} {r saved : ℕ} → r ≡ start (block h) → arrival + r ≤ deadline
      → IncreasesFound (block h) sp (deadline - (arrival + r)) x saved
      → after ≡ over x lent
      → BestLines (block h) lent (record { answer = accepted (saved ∷ n ∷ []); memory = after })
  best_line {lent} {x} {after} {r} {saved} is in_time found e =
      let same = start_same h sp in
      let ticks : deadline - arrival - start_of (block h) (block_tree (block h) sp) ≡ deadline - (arrival + r) = omega arith in
      let b = Optimum.best (block h) sp (join (block h) (the_limits h) h.well.network) (descending (block h) (the_limits h)) (omega arith) in
      passes (λ p n. n.0 sp)
      (passes (λ p l. let late = late_exactly.0 l.1.1 in omega arith)
      (best x sp (rw (found.list, ← ticks) b) (rw (found.saved, e, count h) refl)))

-- an element of a list is a member
member : (ps : List Pair) (i : ℕ) (d : Pair) → i < length ps → Memᴰ (get_or ps i d) ps
member [] i d l = absurd (omega arith)
member (p ∷ ps) zero d l = Memᴰ.head refl
member (p ∷ ps) (suc i) d l = Memᴰ.tail (member ps i d (omega arith))

-- what is found of a curve is within its bounds
pub curve_bounds : {B : Block} {n : ℕ} {A : TreeArrays} (held : TreeHeld B n A) {ws gs ws' gs' : List ℕ} {found : TreeCurve}
    → CurveFound B held.fits ws gs ws' gs' found
    → (found.pairs ≤ max_pairs) × ((i : ℕ) → i < found.pairs → get_or gs' i 0 ≤ max_gain)
curve_bounds {B} held {gs = gs} f = (omega (arith, f.count, pairs_short held), λ i l. rw f.gains (at i (omega (arith, f.count))))
  where
    at : (i : ℕ) → i < length (pairs_of B (block_tree B held.fits)) → get_or (over (map (λ (p : Pair). p.gain) (pairs_of B (block_tree B held.fits))) gs) i 0 ≤ max_gain
    at i l =
        rw (get_or_over_front (map (λ (p : Pair). p.gain) (pairs_of B (block_tree B held.fits))) gs i 0 (rw length-map l), get_or-map (λ (p : Pair). p.gain) (pairs_of B (block_tree B held.fits)) i (record { width = 0; gain = 0 }))
        (gains_few held _ (member (pairs_of B (block_tree B held.fits)) i (record { width = 0; gain = 0 }) l))
