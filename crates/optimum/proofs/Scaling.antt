-- Finer ticks gain nothing (`finer_ticks`; document 02, K14): the handing-out on a block in finer ticks is the old one with m ticks for one, and the main theorems hold of it as of any block.
-- Assumes nothing.
use mathlib.Core.Path.{◌≡◌, refl, sym, ◌∙◌, ap, subst}
use mathlib.Core.List.{List, [], ◌∷◌, map}
use Prim.Native.Nat.{ℕ, zero, suc, ◌+◌, ◌*◌, ◌-◌, ◌≤◌, ◌<◌}
use native.Mathlib.Nat.{add-zero, sub-zero, mul-zero, zero-mul, add-mul, mul-suc, mul-add, mul-sub, mul_comm, mul-le-mul_left}
use native.Mathlib.Omega.{arith}
use lib.Dec.{eqb}
use lib.ListN.{length, get_or, length-map}
use lib.Seq.{ext_get_or}
use Rattle.lists.specs.Sum.{sum}
use Rattle.lists.proofs.Bool.{cases}
use Rattle.lists.proofs.Compare.{mul_max}
use Rattle.lists.proofs.Sum.{sum_same}
use Rattle.model.specs.Block.{Step, Wire, Block, gate, gate_count, first, last}
use Rattle.model.specs.Gain.{gain, saving}
use Rattle.model.specs.InTime.{drawn}
use Rattle.model.specs.Best.{Best, BestSaving}
use Rattle.model.specs.Curve.{Pair, count_off, IsCurve}
use Rattle.model.specs.Part.{Shape, SeriesParallel, lone, built}
use Rattle.model.specs.Scale.{scaled_step, scaled_wire, scaled, scaled_list, widened, FinerTicks}
use Rattle.model.proofs.Best.{best_unique, best_saving_unique}
use Rattle.model.proofs.Curve.{curve_unique}
use Rattle.model.proofs.Slack.{lasts_start}
use Rattle.model.proofs.Scale.{count_scaled, gate_scaled, get_or_scaled, Lies, inside, behind, lies, same_gains, joined_scaled, drawn_scaled, in_time_scaled, series_parallel_scaled, count_off_divided}
use Rattle.optimum.specs.Tree.{Tree}
use Rattle.optimum.specs.Head.{Heads}
use Rattle.optimum.specs.Handout.{ticks, raise}
use Rattle.optimum.specs.Increases.{read}
use Rattle.optimum.specs.Gates.{room, Descending, gate_head}
use Rattle.optimum.specs.Runs.{joined}
use Rattle.optimum.specs.BlockTree.{wire_delay, tree_of, block_tree, WiresJoinGates, IsTree, start_of, increases, step_count, gains_of, pairs_of}
use Rattle.optimum.proofs.Gates.{gate_heads}
use Rattle.optimum.proofs.Increases.{same_read, length_sized, read_sized}
use Rattle.optimum.proofs.Sums.{sum_mul}
use Rattle.optimum.proofs.Tick.{sum_alike}
use Rattle.optimum.proofs.BlockTree.{block_is_tree}
use Rattle.optimum.proofs.Curve.{gains_read, is_curve}
use Rattle.optimum.proofs.Stretch.{scale, times, Stretches, read_times, joined_widened, start_stretch, runs_stretch, ticks_stretch, raise_stretch}
use Rattle.optimum.proofs.Optimum as Optimum

module _ (m : ℕ) where
  -- the ticks left in a step, from the first of the m ticks of tick k on
  room_scaled : (ss : List Step) (k r : ℕ) → r < m → room (map (scaled_step m) ss) (m * k + r) ≡ m * room ss k - r
  unfolding room
  room_scaled [] k r l = omega (arith, mul-zero m)
  room_scaled (s ∷ ss) k r l = by (lies m k s.width r l) (room_scaled ss (k - s.width) r l)
    where
      by : Lies m k s.width r → room (map (scaled_step m) ss) (m * (k - s.width) + r) ≡ m * room ss (k - s.width) - r
          → room (map (scaled_step m) (s ∷ ss)) (m * k + r) ≡ m * room (s ∷ ss) k - r
      by (inside h old new) rest = rw (old, new) (omega (arith, mul-sub m s.width k))
      by (behind old new left) rest = rw (old, new, left) rest

  same_descent : (ss : List Step) → Descending ss → Descending (map (scaled_step m) ss)
  same_descent [] falls = tt
  same_descent (s ∷ []) falls = falls
  same_descent (s ∷ r ∷ ss) (l, falls) = (l, same_descent (r ∷ ss) falls)

  pub descending_scaled : (B : Block) → ((g : ℕ) → Descending (gate B g).steps) → (g : ℕ) → Descending (gate (scaled m B) g).steps
  descending_scaled B falls g = rw (gate_scaled m B g) (same_descent (gate B g).steps (falls g))

  wire_delay_scaled : (ws : List Wire) (a b : ℕ) → wire_delay (map (scaled_wire m) ws) a b ≡ m * wire_delay ws a b
  unfolding wire_delay
  wire_delay_scaled [] a b = sym (mul-zero m)
  wire_delay_scaled (w ∷ ws) a b =
      cases (eqb w.source a)
      (λ s.
      cases (eqb w.target b)
      (λ t. rw (s, t, wire_delay_scaled ws a b) (mul_max m w.delay (wire_delay ws a b)))
      (λ t. rw (s, t) (wire_delay_scaled ws a b)))
      (λ s. rw s (wire_delay_scaled ws a b))

  tree_scaled : (ws : List Wire) (P : Shape) (a b : ℕ) → tree_of (map (scaled_wire m) ws) P a b ≡ scale m (tree_of ws P a b)
  tree_scaled ws Shape.wire a b = rw (wire_delay_scaled ws a b) refl
  tree_scaled ws (Shape.series P g Q) a b = rw (tree_scaled ws P a g, tree_scaled ws Q g b) refl
  tree_scaled ws (Shape.parallel P Q) a b = rw (tree_scaled ws P a b, tree_scaled ws Q a b) refl

  block_tree_scaled : (B : Block) (sp : SeriesParallel B) → block_tree (scaled m B) (series_parallel_scaled m B sp) ≡ scale m (block_tree B sp)
  block_tree_scaled B (lone single no_wire) = rw mul-zero refl
  block_tree_scaled B (built P whole) = rw (count_scaled m B, tree_scaled B.wires P (first B) (last B), mul-zero) refl

  steps_scaled : (B : Block) → step_count (scaled m B) ≡ step_count B
  unfolding step_count
  steps_scaled B =
      rw (count_scaled m B)
      (sum_same (gate_count B) _ _ (λ g l. rw (gate_scaled m B g) (length-map (gate B g).steps (scaled_step m))))

module _ (B : Block) (m : ℕ) where
  heads_stretch : 1 ≤ m → Stretches m (gate_head B) (gate_head (scaled m B))
  unfolding gate_head
  heads_stretch some g k =
      let same = rw add-zero at (same_gains m B g k 0 some) in
      let wider = rw (add-zero, sub-zero) at (room_scaled m (gate B g).steps k 0 some) in
      cases (eqb (gain B g k) 0)
      (λ z. rw (same, z, mul-zero) refl)
      (λ p. rw (same, p, gate_scaled m B g, wider) refl)

  -- m ticks of one gain for each tick
  ticks_gain : (g a : ℕ) → sum (m * a) (gain (scaled m B) g) ≡ sum a (gain B g) * m
  unfolding sum
  ticks_gain g zero = rw (mul-zero, zero-mul) refl
  ticks_gain g (suc a) =
      rw (mul-suc m a) (omega (
        arith,
        ticks_gain g a,
        sum_alike (gain (scaled m B) g) (m * a) m (gain B g a) (λ i l. same_gains m B g a i l),
      ))

  -- a list in finer ticks saves m times what it saved
  saving_scaled : (x : List ℕ) → saving (scaled m B) (scaled_list m x) ≡ m * saving B x
  unfolding saving
  saving_scaled x =
      rw (count_scaled m B)
      (sum_same (gate_count B) _ (λ (g : ℕ). sum (get_or x g 0) (gain B g) * m) (λ g l. rw (get_or_scaled m x g) (ticks_gain g (get_or x g 0)))
      ∙ sum_mul (gate_count B) m (λ (g : ℕ). sum (get_or x g 0) (gain B g))
      ∙ mul_comm _ m)

-- What is asked of the block besides: `join`, "from-gate, to-gate (.. below n)" (document 01, tag 3); `descending`, "Drops fall strictly" (tag 2), of which it is enough that they do not rise. Every block that a file holds has both (`finer_ticks_gain_nothing` of demands); no limit of a file is asked for.
module _ (B : Block) (m : ℕ) (some : 1 ≤ m) (sp : SeriesParallel B) (join : WiresJoinGates B) (descending : (g : ℕ) → Descending (gate B g).steps) where
  abbrev finer : Block
  finer = scaled m B

  -- the tree of the block
  abbrev t : Tree
  t = block_tree B sp

  tree : IsTree B t
  tree = block_is_tree B sp join

  abbrev finer_sp : SeriesParallel finer
  finer_sp = series_parallel_scaled m B sp

  finer_join : WiresJoinGates finer
  finer_join u v j = rw (count_scaled m B) (join u v ((joined_scaled m B.wires u v).1 j))

  finer_descending : (g : ℕ) → Descending (gate finer g).steps
  finer_descending = descending_scaled m B descending

  finer_tree : IsTree finer (scale m t)
  finer_tree = subst (IsTree finer) (block_tree_scaled m B sp) (block_is_tree finer finer_sp finer_join)

  finer_start : start_of finer (scale m t) ≡ m * start_of B t
  finer_start = start_stretch m (drawn B) (drawn finer) (drawn_scaled m B) t

  heads : Heads (gate_count B) (gate_head B)
  heads = gate_heads B descending

  finer_heads : Heads (gate_count B) (gate_head finer)
  finer_heads = subst (λ (n : ℕ). Heads n (gate_head finer)) (count_scaled m B) (gate_heads finer finer_descending)

  -- after m × k ticks the increases are m times those after k ticks
  finer_read : (k : ℕ) → read (scale m t) (increases finer (scale m t) (m * k)) ≡ times m t (read t (increases B t k))
  finer_read k =
      read_sized (gate_head finer) (drawn finer) (scale m t) (gate_count finer) (m * k) finer_tree.once finer_tree.below
      ∙ ap (ticks (gate_head finer) (scale m t) (m * k))
      (raise_stretch m (gate_head B) (gate_head finer) (heads_stretch B m some) (gate_count B) heads finer_heads some (drawn B) (drawn finer) (drawn_scaled m B) t)
      ∙ ticks_stretch m (gate_head B) (gate_head finer) (heads_stretch B m some) (gate_count B) heads finer_heads some t k (raise (drawn B) (gate_head B) t)
      ∙ ap (times m t) (sym (read_sized (gate_head B) (drawn B) t (gate_count B) k tree.once tree.below))

  finer_increases : (k : ℕ) → increases finer (scale m t) (m * k) ≡ scaled_list m (increases B t k)
  finer_increases k = ext_get_or 0 (increases finer (scale m t) (m * k)) (scaled_list m (increases B t k)) (is_length ∙ sym old_length) each
    where
      is_length : length (increases finer (scale m t) (m * k)) ≡ gate_count B
      is_length = length_sized (gate_head finer) (drawn finer) (scale m t) (gate_count finer) (m * k) ∙ count_scaled m B

      old_length : length (scaled_list m (increases B t k)) ≡ gate_count B
      old_length = length-map (increases B t k) (λ (a : ℕ). m * a) ∙ length_sized (gate_head B) (drawn B) t (gate_count B) k

      each : (g : ℕ) → g < length (increases finer (scale m t) (m * k)) → get_or (increases finer (scale m t) (m * k)) g 0 ≡ get_or (scaled_list m (increases B t k)) g 0
      each g l =
          let inside : g < gate_count finer = omega (arith, is_length, count_scaled m B) in
          same_read (scale m t) _ _ (finer_read k ∙ sym (read_times m t (increases B t k))) g (omega (arith, finer_tree.all g inside))

  finer_pairs : pairs_of finer (scale m t) ≡ widened m (pairs_of B t)
  finer_pairs =
      let none = finer_read 0 in
      ap joined
      (gains_read finer (scale m t) finer_tree finer_descending
      ∙ rw (steps_scaled m B, rw mul-zero at none) (runs_stretch m (gate_head B) (gate_head finer) (heads_stretch B m some) t (step_count B) (read t (increases B t 0)))
      ∙ ap (widened m) (sym (gains_read B t tree descending)))
      ∙ joined_widened m (gains_of B t)

  finer_at_start : saving finer (increases finer (scale m t) 0) ≡ m * saving B (increases B t 0)
  finer_at_start =
      let none = finer_increases 0 in
      ap (saving finer) (rw mul-zero at none) ∙ saving_scaled B m (increases B t 0)

  old_curve : IsCurve B (start_of B t) (saving B (increases B t 0)) (pairs_of B t)
  old_curve = is_curve B t tree descending

  curve : (start at_start : ℕ) (pairs : List Pair) → IsCurve B start at_start pairs → IsCurve finer (m * start) (m * at_start) (widened m pairs)
  curve start at_start pairs c =
      let (s, a, p) = curve_unique B _ _ _ _ _ _ c old_curve in
      rw (s, a, p, ← finer_start, ← finer_at_start, ← finer_pairs) (is_curve finer (scale m t) finer_tree finer_descending)

  -- what the block saves at best with k ticks behind the start
  abbrev saved : ℕ → ℕ
  saved k = saving B (increases B t 0) + count_off (pairs_of B t) k

  -- A time that some list keeps is the start or later: what holds of what the curve tells holds of every best saving.
  by_curve : (T s : ℕ) → BestSaving B T s → (C : ℕ → ℕ → Type 0) → ((k : ℕ) → C (start_of B t + k) (saved k)) → C T s
  by_curve T s b C each =
      let (u, within, longer) = lasts_start B old_curve.starts b.within in
      let k = T - start_of B t in
      let time : start_of B t + k ≡ T = omega arith in
      let is = best_saving_unique b (rw time at (old_curve.best k)) in
      subst (λ (x : ℕ). C x s) time (subst (C (start_of B t + k)) (sym is) (each k))

  -- counted off the new curve: k old ticks, and r of the m ticks of the next
  counted : (k q r : ℕ) → q + r ≡ m → BestSaving finer (m * (start_of B t + k) + r) (q * saved k + r * saved (suc k))
  counted k q r parts =
      let a = saving B (increases B t 0) in
      let ps = pairs_of B t in
      let time : m * start_of B t + (m * k + r) ≡ m * (start_of B t + k) + r = omega (arith, mul-add m (start_of B t) k) in
      let at_start : m * a ≡ q * a + r * a = ap (λ (n : ℕ). n * a) (sym parts) ∙ add-mul q r a in
      let divided = subst (λ (n : ℕ). count_off (widened n ps) (n * k + r) ≡ q * count_off ps k + r * count_off ps (suc k)) parts (count_off_divided q r ps k) in
      let all : m * a + count_off (widened m ps) (m * k + r) ≡ q * saved k + r * saved (suc k) =
      omega (arith, mul-add q a (count_off ps k), mul-add r a (count_off ps (suc k))) in
      rw (← time, ← all) ((curve (start_of B t) a ps old_curve).best (m * k + r))

  best_saving : (T s : ℕ) → BestSaving B T s → BestSaving finer (m * T) (m * s)
  best_saving T s b =
      by_curve T s b
      (λ (T s : ℕ). BestSaving finer (m * T) (m * s))
      (λ k. rw (zero-mul, add-zero (m * (start_of B t + k)), add-zero (m * saved k)) at (counted k m 0 (add-zero m)))

  between : (T s s' q r : ℕ) → q + r ≡ m → BestSaving B T s → BestSaving B (suc T) s' → BestSaving finer (m * T + r) (q * s + r * s')
  between T s s' q r parts b =
      by_curve T s b
      (λ (T s : ℕ). BestSaving B (suc T) s' → BestSaving finer (m * T + r) (q * s + r * s'))
      (λ k b'.
      let next : start_of B t + suc k ≡ suc (start_of B t + k) = omega arith in
      rw (best_saving_unique b' (rw next at (old_curve.best (suc k)))) (counted k q r parts))

  list : (x : List ℕ) → Best B x → Best finer (scaled_list m x)
  list x b =
      let (u, in_time, longer) = lasts_start B old_curve.starts b.is_ok in
      let k = B.deadline - B.arrival - start_of B t in
      let early : B.arrival + start_of B t ≤ B.deadline = omega arith in
      let same_tree = block_tree_scaled m B sp in
      let same_start = ap (start_of finer) same_tree ∙ finer_start in
      let finer_early : finer.arrival + start_of finer (block_tree finer finer_sp) ≤ finer.deadline =
      omega (arith, mul-le-mul_left m early, mul-add m B.arrival (start_of B t)) in
      let new =
      subst (λ (v : Tree). Best finer (increases finer v (finer.deadline - finer.arrival - start_of finer v))) same_tree
      (Optimum.best finer finer_sp finer_join finer_descending finer_early)
      in
      let spare : finer.deadline - finer.arrival - start_of finer (scale m t) ≡ m * k =
      omega (arith, finer_start, mul-sub m B.deadline B.arrival, mul-sub m (B.deadline - B.arrival) (start_of B t)) in
      rw (best_unique B x _ b (Optimum.best B sp join descending early)) (rw (spare, finer_increases k) at new)

  pub finer_ticks : FinerTicks m B
  finer_ticks =
      record {
        series_parallel = finer_sp;
        in_time = in_time_scaled m some B;
        saves = λ x y b c. ap (saving finer) (best_unique finer y (scaled_list m x) c (list x b)) ∙ saving_scaled B m x;
        list = list;
        best_saving = best_saving;
        between = between;
        curve = curve;
      }
