-- The outcome computed for a call is one that its table allows (`sound`), for a file that cannot be read or whose block is ascending.
-- Assumes nothing.
use mathlib.Core.Path.{◌≡◌, refl, sym, ◌∙◌, subst}
use mathlib.Core.Bool.{Bool, true, false, false≢true}
use mathlib.Core.Option.{Option, none, some}
use mathlib.Core.List.{List, [], ◌∷◌}
use Prim.Native.Nat.{ℕ, suc, ◌+◌, ◌≤◌}
use native.Mathlib.Omega.{arith}
use borrow.Author.Tests.{ltb-true, ltb-false, lt-ltb, leb-true, leb-false, le-leb}
use lib.Dec.{ltb}
use lib.IntN.{pos}
use lib.Signed.{◌<ℤ◌}
use lib.ListN.{length, take}
use Rattle.lists.specs.Search.{Lowest, Says}
use Rattle.model.specs.Limits.{max_pairs}
use Rattle.model.specs.Block.{Block, gate, gate_count}
use Rattle.model.specs.Gain.{saving}
use Rattle.model.specs.InTime.{slowed, IsStart}
use Rattle.model.specs.Best.{Best}
use Rattle.model.specs.Curve.{all_ticks, IsCurve}
use Rattle.model.specs.Part.{SeriesParallel}
use Rattle.model.specs.Slack.{start, spare}
use Rattle.model.specs.Ticks.{Fewest}
use Rattle.model.specs.File.{Reading, found, refused, read_block}
use Rattle.model.specs.Refusal.{unread}
use Rattle.model.specs.Answer.{Outcome, Line, fits, passes, At, Judged, ill_formed, well_formed, Gives, Exceeds, PathNotInTime, Slices, curve, CurveLines, best, BestLines, GivesTicks, fewest, UnreachedAt, TicksLines}
use Rattle.model.proofs.Ticks.{fewest_by_curve, unreached_by_curve}
use Rattle.model.proofs.Limited.{read_limits}
use Rattle.model.proofs.Slack.{start_is, late_is}
use Rattle.optimum.specs.Tree.{Tree}
use Rattle.optimum.specs.Gates.{Descending}
use Rattle.optimum.specs.BlockTree.{block_tree, start_of, increases, pairs_of}
use Rattle.optimum.proofs.BlockTree.{block_is_tree}
use Rattle.optimum.proofs.Within.{start_is_start}
use Rattle.optimum.proofs.Optimum as Optimum
use Rattle.parts.specs.Network.{Network}
use Rattle.parts.specs.Ascending.{ascending}
use Rattle.parts.specs.Reduce.{gate_left}
use Rattle.parts.proofs.Ascending.{ascending_network}
use Rattle.parts.proofs.Remains.{gate_left_lowest}
use Rattle.worked.specs.Call.{Call, find_slacks, judge_list, find_curve, find_best, find_ticks, file_of, Allows}
use Rattle.worked.specs.Computed.{tree, lowest, slacks_of, time_under, judged, exceeds, judge_of, curve_by, curve_of, increases_by, best_by, best_of, reaches, ticks_found, ticks_by, by_reading, computed, rises}
use Rattle.worked.proofs.Tree.{Found, tree_found}
use Rattle.worked.proofs.Lines.{line_by, less_says, FindsLowest, lowest_finds, descending, sound_network, along, lasts}

-- lines 1 to 9
by_lines : {S : Type 0} (file : List ℕ) (lent : S) (further : Block → Outcome S → Type 0) (f : Block → S → Outcome S)
    → ((B : Block) (o : ℕ) → read_block file ≡ found B o → ascending B ≡ true → further B (f B lent))
    → rises (read_block file) ≡ true
    → Judged file lent further (by_reading (read_block file) lent f)
by_lines {S} file lent further f each = go (read_block file) refl
  where
    go : (r : Reading Block) → read_block file ≡ r → rises r ≡ true → Judged file lent further (by_reading r lent f)
    go (found B o) e h =
        well_formed B (record { end = o; reads = e; network = sound_network (ascending_network B h) }) (each B o e h)
    go (refused k p) e h = ill_formed k p (unread e) refl

-- the curve by the block's tree
pub curve_by_tree : (B : Block) → ascending B ≡ true → ((g : ℕ) → Descending (gate B g).steps) → (t : Tree) → Found B (some t)
    → IsCurve B (start_of B t) (saving B (increases B t 0)) (pairs_of B t)
curve_by_tree B h falls t (s, e) =
    subst (λ u. IsCurve B (start_of B u) (saving B (increases B u 0)) (pairs_of B u)) e (Optimum.curve B s (ascending_network B h).below falls)

module _ (file : List ℕ) (B : Block) (end : ℕ) (reads : read_block file ≡ found B end) (h : ascending B ≡ true) where
  network : Network B
  network = ascending_network B h

  falls : (g : ℕ) → Descending (gate B g).steps
  falls g = descending (gate B g).steps ((read_limits file reads).gate_limits g).drops_fall

  -- some path is not in time
  late_path : (x : List ℕ) (b : Bool) → ltb B.deadline (B.arrival + time_under B x) ≡ b → Says (PathNotInTime B x) b
  late_path x true e = (time_under B x, (lasts B h (slowed B x)).attained, ltb-true _ _ e)
  late_path x false e =
      λ late. let (t, p, l) = late in omega (arith, (lasts B h (slowed B x)).greatest t p, ltb-false B.deadline (B.arrival + time_under B x) e)

  judge_line : (x lent : List ℕ) (r : Option ℕ) → FindsLowest (exceeds B x) (gate_count B) r
      → Line lent 13 (Lowest (Exceeds B x)) (Line lent 14 (At 0 (PathNotInTime B x)) (Gives (saving B x ∷ []) lent)) (judged B x lent r)
  judge_line x lent (some g) f =
      fits g
      (record {
        holds = (f.0, ltb-true _ _ f.1);
        none_below = λ q l e. false≢true (sym (f.2 q l) ∙ lt-ltb _ _ e.1);
      })
      refl
  judge_line x lent none f =
      passes (λ g e. let (l, k) = e.holds in false≢true (sym (f g l) ∙ lt-ltb _ _ k)) (line_by _ (ltb B.deadline (B.arrival + time_under B x)) (late_path x _ refl) (λ e. refl))

  -- the block is late
  late : SeriesParallel B → (b : Bool) → ltb B.deadline (B.arrival + start B) ≡ b → Says (SeriesParallel B × (spare B <ℤ pos 0)) b
  late s true e = (s, (late_is B (sound_network network) (along B h) network.some_gate).1 (ltb-true _ _ e))
  late s false e =
      λ l. omega (arith, (late_is B (sound_network network) (along B h) network.some_gate).0 l.1, ltb-false B.deadline (B.arrival + start B) e)

  -- the tree's start is the block's
  start_most : (s : SeriesParallel B) → ltb B.deadline (B.arrival + start B) ≡ false → B.arrival + start_of B (block_tree B s) ≤ B.deadline
  start_most s e =
      let t = block_tree B s in
      let path = (start_is_start B t (block_is_tree B s network.below)).attained in
      omega (arith, (start_is B (sound_network network) (along B h) network.some_gate).greatest (start_of B t) path, ltb-false B.deadline (B.arrival + start B) e)

  best_list : (t : Tree) (s : SeriesParallel B) → block_tree B s ≡ t → ltb B.deadline (B.arrival + start B) ≡ false → Best B (increases_by B t)
  best_list t s e l = subst (λ u. Best B (increases_by B u)) e (Optimum.best B s network.below falls (start_most s l))

  best_line : (lent : List ℕ) (r : Option Tree) → Found B r
      → BestLines B lent (best_by B lent r)
  best_line lent none f = fits (gate_left B) (f, gate_left_lowest network f) refl
  best_line lent (some t) (s, e) =
      passes (λ p n. n.0 s) (line_by _ _ (late s _ refl) (λ l. best (increases_by B t) s (best_list t s e l) refl))

  curve_line : (lent : Slices) (r : Option Tree) → Found B r
      → CurveLines B lent (curve_by B lent r)
  curve_line lent none f = fits (gate_left B) (f, gate_left_lowest network f) refl
  curve_line lent (some t) (s, e) =
      passes (λ p n. n.0 s)
      (curve (start_of B t) (saving B (increases B t 0)) (pairs_of B t) s (curve_by_tree B h falls t (s, e)) refl)

  -- the fewest ticks by the curve of the block's tree
  ticks_line : (wanted : ℕ) (r : Option Tree) → Found B r → TicksLines wanted B (ticks_by B wanted r)
  ticks_line wanted none f = fits (gate_left B) (f, gate_left_lowest network f) refl
  ticks_line wanted (some t) (s, e) = passes (λ p n. n.0 s) (by (lowest (reaches B t wanted) (suc (all_ticks (pairs_of B t)))) (lowest_finds (reaches B t wanted) (suc (all_ticks (pairs_of B t)))))
    where
      is_start : IsStart B (start B)
      is_start = start_is B (sound_network network) (along B h) network.some_gate

      is_curve : IsCurve B (start_of B t) (saving B (increases B t 0)) (pairs_of B t)
      is_curve = curve_by_tree B h falls t (s, e)

      by : (r : Option ℕ) → FindsLowest (reaches B t wanted) (suc (all_ticks (pairs_of B t))) r → Line tt 17 (UnreachedAt B wanted) (GivesTicks B wanted) (ticks_found r)
      by none f = fits 0 (refl, (s, (unreached_by_curve is_start is_curve wanted).1 (leb-false wanted _ (f (all_ticks (pairs_of B t)) (omega arith))))) refl
      by (some k) (l, reached, before) =
          let lowest : Fewest B wanted k = (fewest_by_curve is_start is_curve wanted k).1 (record { holds = leb-true _ _ reached; none_below = λ j b w. false≢true (sym (before j b) ∙ le-leb _ _ w) }) in
          passes (λ p u. u.1.1 k lowest.holds) (fewest k s lowest refl)

pub sound : (c : Call) → rises (read_block (file_of c)) ≡ true → Allows c (computed c)
sound (find_slacks file lent) =
    by_lines file lent _ slacks_of (λ B o e h. line_by _ (ltb (length lent) (gate_count B)) (less_says (length lent) (gate_count B)) (λ l. refl))
sound (judge_list file lent) =
    by_lines file lent _ judge_of
    (λ B o e h.
    let x = take (gate_count B) lent in
    line_by _ (ltb (length lent) (gate_count B)) (less_says (length lent) (gate_count B))
    (λ l. judge_line file B o e h x lent (lowest (exceeds B x) (gate_count B)) (lowest_finds (exceeds B x) (gate_count B))))
sound (find_curve file lent) =
    by_lines file lent _ curve_of
    (λ B o e h.
    line_by _ (ltb (length lent.for_widths) max_pairs) (less_says (length lent.for_widths) max_pairs)
    (λ l.
    line_by _ (ltb (length lent.for_gains) max_pairs) (less_says (length lent.for_gains) max_pairs)
    (λ k. curve_line file B o e h lent (tree B) (tree_found B (ascending_network B h)))))
sound (find_best file lent) =
    by_lines file lent _ best_of
    (λ B o e h.
    line_by _ (ltb (length lent) (gate_count B)) (less_says (length lent) (gate_count B))
    (λ l. best_line file B o e h lent (tree B) (tree_found B (ascending_network B h))))
sound (find_ticks file wanted) =
    by_lines file tt _ (λ B lent. ticks_by B wanted (tree B)) (λ B o e h. ticks_line file B o e h wanted (tree B) (tree_found B (ascending_network B h)))
