-- Increases that exceed their gate's widths: a search over the arrays, said of the block that they hold.
-- Assumes nothing.
use mathlib.Core.Path.{◌≡◌, refl, ◌∙◌, ap}
use mathlib.Core.Logic.{◌⊎◌}
use mathlib.Core.List.{List, [], ◌∷◌, ◌++◌}
use Prim.Native.Nat.{ℕ, zero, suc, ◌+◌, ◌-◌, ◌<◌, ◌≤◌}
use native.Mathlib.Nat.{add-zero}
use native.Mathlib.Omega.{arith}
use lib.ListN.{length, get_or, take, drop}
use lib.Seq.{get_or-take, take-suc}
use Rattle.std.specs.Prelude.{Option, Some, None}
use Rattle.std.specs.List.{sum as sum_of}
use Rattle.std.specs.Option.{MatchOption}
use Rattle.std.proofs.lemmas.List.{length-drop, get_or-drop}
use Rattle.std.proofs.lemmas.List.Sums.{sum_by_push}
use Rattle.lists.specs.Sum.{sum}
use Rattle.lists.specs.Search.{Lowest, LowestBelow}
use Rattle.lists.proofs.Compare.{compared}
use Rattle.model.specs.Limits.{max_width}
use Rattle.model.specs.Block.{Block, gate_count}
use Rattle.model.specs.Arrays.{step_place}
use Rattle.model.specs.Answer.{Exceeds}
use Rattle.gains.specs.Steps.{widths_in, WidthsLent, Held, LowestExceeding}
use Rattle.gains.proofs.Sums.{sum_bounded}
use Rattle.gains.proofs.Held.{held_count, held_widths}

-- THE SUM OF THE WIDTHS
-- a stretch of a list is summed over its places
stretch_sum : (xs : List ℕ) (a k : ℕ) → a + k ≤ length xs → sum_of (take k (drop a xs)) ≡ sum k (λ (i : ℕ). get_or xs (a + i) 0)
unfolding sum
stretch_sum xs a zero h = refl
stretch_sum xs a (suc k) h =
    let more : take (suc k) (drop a xs) ≡ take k (drop a xs) ++ (get_or (drop a xs) k 0 ∷ []) = take-suc (drop a xs) k 0 (omega (arith, length-drop a xs)) in
    rw (more, get_or-drop a xs k 0)
    (sum_by_push (λ (x : ℕ). x) (take k (drop a xs)) (get_or xs (a + k) 0) ∙ ap (λ (s : ℕ). s + get_or xs (a + k) 0) (stretch_sum xs a k (omega arith)))

module _ (counts step_widths : List ℕ) (g first : ℕ) (lent : WidthsLent counts step_widths g) (e : first ≡ step_place g 0) where
  -- the steps' widths stand in one stretch: its sum is that of the gate's widths
  pub widths_sum : sum_of (take (first + get_or counts g 0 - first) (drop first step_widths)) ≡ widths_in counts step_widths g
  widths_sum =
      let count : first + get_or counts g 0 - first ≡ get_or counts g 0 = omega arith in
      rw (count, e) (stretch_sum step_widths (step_place g 0) (get_or counts g 0) (omega (arith, lent.few, lent.widths_long)) ∙ simp add-zero)

  -- and it fits
  pub widths_fit : sum_of (take (first + get_or counts g 0 - first) (drop first step_widths)) < 4294967296
  widths_fit =
      omega (
        arith,
        widths_sum,
        sum_bounded (get_or counts g 0) (λ (j : ℕ). get_or step_widths (step_place g j) 0) max_width lent.width_small,
        lent.few,
      )

-- the increase of gate g exceeds the widths in the arrays
abbrev pub Over : List ℕ → List ℕ → List ℕ → ℕ → Type 0
Over counts step_widths increases g = widths_in counts step_widths g < get_or increases g 0

-- the answer of a search from 0 up to n
pub found_below : (P : ℕ → Type 0) (n : ℕ) (r : Option ℕ) → MatchOption r ((g : ℕ) → 0 ≤ g → g < n → ¬ (P g)) (λ i. (0 ≤ i) × (i < n) × P i × ((g : ℕ) → 0 ≤ g → g < i → ¬ (P g))) → LowestBelow P n r
found_below P n None h = λ g l. h g (omega arith) l
found_below P n (Some i) h = (h.1, record { holds = h.2; none_below = λ g l. h.3 g (omega arith) l })

-- what a search over gates finds is the lowest that exceeds
found_lowest : (B : Block) (x : List ℕ) (n : ℕ) (r : Option ℕ) → gate_count B ≡ n → LowestBelow (Exceeds B x) n r → LowestExceeding B x n r
found_lowest B x n None e none = λ g p. none g (omega (arith, p.0)) p
found_lowest B x n (Some r) e (h, l) = (h, l, only)
  where
    only : (g : ℕ) → Lowest (Exceeds B x) g → g ≡ r
    only g m = go (compared g r)
      where
        go : (g < r) ⊎ (g ≡ r) ⊎ (r < g) → g ≡ r
        go (◌⊎◌.inl below) = absurd (l.none_below g below m.holds)
        go (◌⊎◌.inr (◌⊎◌.inl same)) = same
        go (◌⊎◌.inr (◌⊎◌.inr above)) = absurd (m.none_below r above l.holds)

-- a search for P is one for Q where the two agree below n
below_same : (P Q : ℕ → Type 0) (n : ℕ) (r : Option ℕ) → ((g : ℕ) → g < n → P g → Q g) → ((g : ℕ) → g < n → Q g → P g) → LowestBelow P n r → LowestBelow Q n r
below_same P Q n None to from none = λ g h q. none g h (from g h q)
below_same P Q n (Some r) to from (h, l) = (h, record { holds = to r h l.holds; none_below = λ g b q. l.none_below g b (from g (omega arith) q) })

module _ (n : ℕ) (counts step_widths increases : List ℕ) (r : Option ℕ) (f : LowestBelow (Over counts step_widths increases) n r) (B : Block) (drops : List ℕ) (held : Held B n counts step_widths drops) where
  of_list : (x : List ℕ) → ((g : ℕ) → g < n → get_or x g 0 ≡ get_or increases g 0) → LowestExceeding B x n r
  of_list x same =
      found_lowest B x n r (held_count B n counts step_widths drops held)
      (below_same (Over counts step_widths increases) (Exceeds B x) n r
      (λ (g : ℕ) (h : g < n) (o : Over counts step_widths increases g).
      (omega (arith, held_count B n counts step_widths drops held), omega (arith, held_widths B n counts step_widths drops held g h, same g h)))
      (λ (g : ℕ) (h : g < n) (p : Exceeds B x g). omega (arith, p.1, held_widths B n counts step_widths drops held g h, same g h))
      f)

  pub lowest_exceeding : LowestExceeding B (take n increases) n r × LowestExceeding B increases n r
  lowest_exceeding = (of_list (take n increases) (λ (g : ℕ) (h : g < n). get_or-take n increases g 0 h), of_list increases (λ (g : ℕ) (h : g < n). refl))
