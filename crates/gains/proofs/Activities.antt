-- Input activities summed wire after wire: the sums of the first i wires stand in the array, and one wire more changes the sum of its target alone.
-- For a block that the arrays hold they are its gates' input activities, and none is greater than all wires at the greatest activity.
-- Assumes nothing.
use mathlib.Core.Path.{◌≡◌, sym, ◌∙◌, ap}
use mathlib.Core.Bool.{Bool, true, false, cond}
use mathlib.Core.List.{List, ◌++◌}
use Prim.Native.Nat.{ℕ, ◌+◌, ◌*◌, ◌<◌, ◌≤◌}
use native.Mathlib.Numerals.{add-one}
use native.Mathlib.Nat.{add-zero}
use native.Mathlib.Decide.{ℕ_discrete}
use native.Mathlib.Omega.{arith}
use lib.Dec.{eqb}
use lib.ListN.{length, get_or, set, take, drop, replicate, length-set, length-replicate, get_or-replicate}
use lib.Seq.{get_or-set_same, get_or-set_other, length-take-le, ext_get_or}
use borrow.Author.Tests.{eq-eqb, ne_eqb}
use Rattle.lists.specs.Sum.{sum, total}
use Rattle.lists.proofs.Sum.{sum_same}
use Rattle.lists.specs.Over.{build, over}
use Rattle.lists.proofs.Over.{length_build, get_or_build}
use Rattle.model.specs.Limits.{max_activity}
use Rattle.model.specs.Block.{Gate, Block, gate, no_gate}
use Rattle.model.specs.Gain.{brings, input_activity}
use Rattle.model.specs.Arrays.{wire_at, wires_in, gate_at, gates_in}
use Rattle.ordering.specs.Wires.{Lent}
use Rattle.ordering.proofs.Front.{set_beyond, front_at, front_beyond, front_written}
use Rattle.gains.specs.Activities.{max_input, brought, brought_by, input_in, Summable, InputActivities}
use Rattle.gains.proofs.Sums.{sum_bounded, total_build}

pub cond_at_most : (b : Bool) (x y most : ℕ) → x ≤ most → y ≤ most → cond b x y ≤ most
cond_at_most true x y most h k = h
cond_at_most false x y most h k = k

module _ (n m : ℕ) (sources targets activities : List ℕ) (lent : Lent n m sources targets) (small : (g : ℕ) → g < n → get_or activities g 0 ≤ max_activity) where
  pub brought_bounded : (i g : ℕ) → i ≤ m → brought_by i sources targets activities g ≤ i * max_activity
  brought_bounded i g h =
      sum_bounded i (brought sources targets activities g) max_activity
      (λ (k : ℕ) (l : k < i).
      cond_at_most (eqb (get_or targets k 0) g) (get_or activities (get_or sources k 0) 0) 0 max_activity
      (small (get_or sources k 0) (lent.source_is_gate k (omega arith)))
      (omega arith))

  -- no input activity is greater than all wires at the greatest activity
  pub input_bounded : (first input g : ℕ) → input ≤ max_input → input_in m sources targets activities first input g ≤ max_input
  input_bounded first input g h =
      cond_at_most (eqb g first) input (brought_by m sources targets activities g) max_input h
      (omega (arith, brought_bounded m g (omega arith), lent.wires))

-- WIRE AFTER WIRE
-- the first n elements of `out` are sums over the first i wires in
abbrev pub Brought : ℕ → ℕ → List ℕ → List ℕ → List ℕ → List ℕ → Type 0
Brought n i sources targets activities out = (g : ℕ) → g < n → get_or out g 0 ≡ brought_by i sources targets activities g

-- the next sum fits
pub sum_fits : (n m : ℕ) (sources targets activities lent_out : List ℕ)
    → Summable n m sources targets activities lent_out
    → (i source target : ℕ) (out : List ℕ)
    → i < m
    → source ≡ get_or sources i 0
    → target ≡ get_or targets i 0
    → Brought n i sources targets activities out
    → get_or out target 0 + get_or activities source 0 ≤ max_input
sum_fits n m sources targets activities lent_out s i source target out h e f so_far =
    let below : target < n = rw f (s.lent.target_is_gate i h) in
    let small : get_or activities source 0 ≤ max_activity = rw e (s.activity_small (get_or sources i 0) (s.lent.source_is_gate i h)) in
    omega (
      arith,
      so_far target below,
      brought_bounded n m sources targets activities s.lent s.activity_small i target (omega arith),
      s.lent.wires,
    )

module _ (n i : ℕ) (sources targets activities out : List ℕ) (so_far : Brought n i sources targets activities out) where
  -- one wire more
  pub brought_more : (source target : ℕ)
      → source ≡ get_or sources i 0
      → target ≡ get_or targets i 0
      → target < n
      → target < length out
      → Brought n (i + 1) sources targets activities (set out target (get_or out target 0 + get_or activities source 0))
  unfolding sum
  brought_more source target e f below long g h = by (ℕ_discrete g target)
    where
      new : ℕ
      new = get_or out target 0 + get_or activities source 0

      by : Dec (g ≡ target) → get_or (set out target (get_or out target 0 + get_or activities source 0)) g 0 ≡ sum (i + 1) (brought sources targets activities g)
      by (yes s) =
          rw (add-one i, s, get_or-set_same out target (get_or out target 0 + get_or activities source 0) 0 long, eq-eqb (get_or targets i 0) target (sym f), so_far target below, e)
      by (no u) =
          rw (add-one i, get_or-set_other out target g (get_or out target 0 + get_or activities source 0) 0 u, ne_eqb (get_or targets i 0) g (λ (t : get_or targets i 0 ≡ g). u (sym t ∙ sym f)), so_far g h, add-zero)

-- CLEARING
-- n zeros in front, and behind them what stood there before
pub cleared : (n : ℕ) (before zeros : List ℕ) → n ≤ length before → zeros ≡ replicate (length (take n before)) 0 → zeros ++ drop n before ≡ over (build n (λ (g : ℕ). 0)) before
unfolding over
cleared n before zeros h e =
    let long : length (take n before) ≡ n = length-take-le n before h in
    let same : replicate n 0 ≡ build n (λ (g : ℕ). 0) =
    ext_get_or 0 (replicate n 0) (build n (λ (g : ℕ). 0)) (length-replicate {A = ℕ} n 0 ∙ sym (length_build {A = ℕ} n (λ (g : ℕ). 0)))
    (λ (g : ℕ) (l : g < length (replicate n 0)).
    let below : g < n = omega (arith, length-replicate {A = ℕ} n 0) in
    get_or-replicate n g 0 0 below ∙ sym (get_or_build n (λ (g : ℕ). 0) g 0 below)) in
    rw (e, long, same, length_build {A = ℕ} n (λ (g : ℕ). 0))

pub brought_none : (n : ℕ) (sources targets activities out : List ℕ) → ((g : ℕ) → g < n → get_or out g 0 ≡ 0) → Brought n 0 sources targets activities out
unfolding sum
brought_none n sources targets activities out zeros = zeros

-- the first gate's is the input's own
pub input_set : (n m : ℕ) (sources targets activities : List ℕ) (first input : ℕ) (before cleared out : List ℕ)
    → first < n
    → n ≤ length before
    → length out ≡ length before
    → cleared ≡ over (build n (λ (g : ℕ). 0)) before
    → out ≡ over (build n (brought_by m sources targets activities)) cleared
    → InputActivities n m sources targets activities first input before (set out first input)
input_set n m sources targets activities first input before cleared out below room long zeros sums =
    front_written n (input_in m sources targets activities first input) before (set out first input) room (length-set out first input ∙ long)
    (λ (g : ℕ) (h : g < n). by g h (ℕ_discrete g first))
    (set_beyond n first input before out below
    (λ (i : ℕ) (h : n ≤ i). front_beyond n (brought_by m sources targets activities) cleared out sums i h ∙ front_beyond n (λ (g : ℕ). 0) before cleared zeros i h))
  where
    by : (g : ℕ) → g < n → Dec (g ≡ first) → get_or (set out first input) g 0 ≡ input_in m sources targets activities first input g
    by g h (yes s) = rw (eq-eqb g first s, s, get_or-set_same out first input 0 (omega arith))
    by g h (no u) =
        rw (ne_eqb g first u, get_or-set_other out first g input 0 u) (front_at n (brought_by m sources targets activities) cleared out sums g h)

-- the arrays' input activities are those of the block that they hold
module _ (B : Block) (n m : ℕ) (sources targets wire_delays delays activities counts step_widths drops : List ℕ)
    (gates : B.gates ≡ gates_in n delays activities counts step_widths drops)
    (wires : B.wires ≡ wires_in m sources targets wire_delays)
    (lent : Lent n m sources targets) where
  pub held_activity : (g : ℕ) → g < n → (gate B g).activity ≡ get_or activities g 0
  held_activity g h =
      ap (λ (gs : List Gate). (get_or gs g no_gate).activity) gates
      ∙ ap (λ (x : Gate). x.activity) (get_or_build n (gate_at delays activities counts step_widths drops) g no_gate h)

  brought_is : (g : ℕ) → brought_by m sources targets activities g ≡ total (brings B g) B.wires
  brought_is g =
      sum_same m (brought sources targets activities g) (λ (i : ℕ). brings B g (wire_at sources targets wire_delays i))
      (λ (i : ℕ) (h : i < m). rw (held_activity (get_or sources i 0) (lent.source_is_gate i h)))
      ∙ sym (total_build (brings B g) m (wire_at sources targets wire_delays))
      ∙ ap (total (brings B g)) (sym wires)

  pub input_is : (g : ℕ) → input_in m sources targets activities 0 B.activity g ≡ input_activity B g
  unfolding input_activity
  input_is g = ap (cond (eqb g 0) B.activity) (brought_is g)
