-- Ties: the list after k ticks from the raised start is the best of all lists that last at most k ticks longer than no increase. Every other one saves less, or saves as much and comes later in the order of ties; it may slow gates without gain too.
-- The worth of a list is M times what it saves less the number that its gaining ticks write in base B, so that worth settles saving first and the order of ties next.
-- Assumes nothing.
use mathlib.Core.Path.{◌≡◌, refl, sym, ◌∙◌, ap}
use mathlib.Core.Logic.{◌≢◌, ◌⊎◌, inl, inr}
use mathlib.Core.List.{List}
use Prim.Native.Nat.{ℕ, zero, suc, ◌+◌, ◌*◌, ◌^◌, ◌≤◌, ◌<◌, min}
use native.Mathlib.Nat.{suc-mul, mul-le-mul_right, eq-zero-or-pos, eq-or-lt_of_le, zero-mul}
use native.Mathlib.Decide.{dec_lt}
use native.Mathlib.Omega.{arith}
use lib.ListN.{get_or}
use Rattle.lists.specs.Sum.{sum}
use Rattle.lists.proofs.Sum.{sum_same}
use Rattle.model.specs.Ties.{Before}
use Rattle.optimum.specs.Tree.{wire, series, parallel, Tree, count, St, zeros, longest, next, worth, Raised, Run}
use Rattle.optimum.specs.Head.{Head, Heads, rank}
use Rattle.optimum.specs.Handout.{head, ticks, raise}
use Rattle.optimum.specs.Increases.{read, sized}
use Rattle.optimum.proofs.Count.{in_series, in_parallel}
use Rattle.optimum.proofs.Best.{best, lasts, lasts_at_most}
use Rattle.optimum.proofs.Handout.{plain}
use Rattle.optimum.proofs.Value.{value, Proper, some_worth}
use Rattle.optimum.proofs.Handed.{value_falls, run_by_heads, raised_by_heads}
use Rattle.optimum.proofs.Earning.{Earning, run_earning, raised_earning}
use Rattle.optimum.proofs.Increases.{length_sized, read_sized}
use Rattle.optimum.proofs.Sums.{sum_constant, across_gates, earned, earned_add, earned_mul, earned_same, earned_at_most}
use Rattle.optimum.proofs.Digits.{number, Digits, smaller_is_before, number_below}

-- y is worth less than x, or as much and comes later
abbrev pub Later : (List ℕ → ℕ) → List ℕ → List ℕ → Type 0
Later worth x y = (worth y < worth x) ⊎ ((worth y ≡ worth x) × Before x y)

-- every tick of a gate of the part is worth something
earning_at : (v : ℕ → ℕ → ℕ) (t : Tree) (x : List ℕ) → Earning v t (read t x) → (g : ℕ) → 0 < count t g → (i : ℕ) → i < get_or x g 0 → 0 < v g i
earning_at v (wire w) x e g l = absurd (omega arith)
earning_at v (series P m Q) x e g l =
    in_series P m Q g ((i : ℕ) → i < get_or x g 0 → 0 < v g i) l (earning_at v P x e.0 g)
    (λ s. rw s e.1) (earning_at v Q x e.2 g)
earning_at v (parallel P Q) x e g l =
    in_parallel P Q g ((i : ℕ) → i < get_or x g 0 → 0 < v g i) l (earning_at v P x e.0 g) (earning_at v Q x e.1 g)

-- The worth w, saving s and number c of two lists: more worth is more saving, or as much and a smaller number.
settled : (M w w' s s' c c' : ℕ) → w + c ≡ s * M → w' + c' ≡ s' * M → w' ≤ w → c' < M → (s' < s) ⊎ ((s' ≡ s) × (c ≤ c'))
settled M w w' s s' c c' e e' l b = go (dec_lt s' s)
  where
    equal : (s ≡ s') ⊎ (s < s') → s ≡ s'
    equal (inl q) = q
    equal (inr q) = absurd (omega (arith, simp suc-mul at (mul-le-mul_right M q)))

    go : Dec (s' < s) → (s' < s) ⊎ ((s' ≡ s) × (c ≤ c'))
    go (yes h) = inl h
    go (no h) =
        let q = equal (eq-or-lt_of_le (omega arith)) in
        inr (sym q, omega (arith, rw q at e))

module _ (B n : ℕ) (positive : 0 < B) (h : ℕ → ℕ → Head) (heads : Heads n h) (bounded : (g k : ℕ) → 0 < (h g k).gain → suc k < B) (d : ℕ → ℕ) (t : Tree) (proper : Proper B n t) (all : (g : ℕ) → g < n → count t g ≡ 1) where
  v : ℕ → ℕ → ℕ
  v = value B n h

  -- what a tick's value falls short of its gain's worth
  short : ℕ → ℕ → ℕ
  short g k = min ((h g k).gain * B ^ n) (B ^ rank n g)

  worth_saving : (y : List ℕ) → worth v t (read t y) + earned short n y ≡ earned (plain h) n y * B ^ n
  unfolding v short
  worth_saving y =
      ap (λ (w : ℕ). w + earned short n y) (across_gates (λ (g k : ℕ). sum k (v g)) n t y proper.below all)
      ∙ sym (earned_add n y v short)
      ∙ earned_same n y _ (λ (g k : ℕ). plain h g k * B ^ n) (λ g l i l'. omega arith)
      ∙ earned_mul n y (plain h) (B ^ n)

  -- the number of a list, as what its ticks earn
  number_earned : (y : List ℕ) → earned (λ (g k : ℕ). B ^ rank n g) n y ≡ number B n y
  unfolding number
  number_earned y = sum_same n _ _ (λ g l. sum_constant (get_or y g 0) (B ^ rank n g))

  short_at_most : (y : List ℕ) → earned short n y ≤ number B n y
  unfolding short
  short_at_most y = omega (arith, number_earned y, earned_at_most n y short (λ (g k : ℕ). B ^ rank n g) (λ g i. omega arith))

  module _ (k : ℕ) where
    start : Raised d v t (raise d h t)
    unfolding v
    start = raised_by_heads B n positive h heads d t proper

    run : Run v t k (raise d h t) (ticks h t k (raise d h t))
    unfolding v
    run = run_by_heads B n positive h heads t k (raise d h t) proper

    read_x : read t (sized d h t n k) ≡ ticks h t k (raise d h t)
    read_x = read_sized h d t n k proper.once proper.below

    earns : (g : ℕ) → g < n → (i : ℕ) → i < get_or (sized d h t n k) g 0 → 0 < v g i
    earns g l =
        earning_at v t (sized d h t n k) (rw read_x
        (run_earning v t k (raise d h t) (ticks h t k (raise d h t)) (raised_earning v d t (raise d h t) start) run)) g
        (omega (arith, all g l))

    -- every tick of the list gains
    pub sized_gains : (g : ℕ) → g < n → (i : ℕ) → i < get_or (sized d h t n k) g 0 → 0 < (h g i).gain
    unfolding v
    sized_gains g l i below = go (eq-zero-or-pos (h g i).gain)
      where
        go : ((h g i).gain ≡ 0) ⊎ (0 < (h g i).gain) → 0 < (h g i).gain
        go (inl z) = absurd (omega (arith, simp (z, zero-mul) at (earns g l i below)))
        go (inr p) = p

    pub sized_lasts : longest d t (read t (sized d h t n k)) ≤ longest d t (zeros t) + k
    unfolding v
    sized_lasts =
        rw read_x (lasts_at_most d v (value_falls B n positive h heads) t k (raise d h t) (ticks h t k (raise d h t)) start run)

    -- it lasts exactly so long, unless nothing is left to gain
    pub sized_lasts_exactly : (longest d t (read t (sized d h t n k)) ≡ longest d t (zeros t) + k) ⊎ ((head h t (read t (sized d h t n k))).gain ≡ 0)
    unfolding v
    sized_lasts_exactly =
        rw read_x (from (lasts d v (value_falls B n positive h heads) t k (raise d h t) (ticks h t k (raise d h t)) start run)
        (eq-zero-or-pos (head h t (ticks h t k (raise d h t))).gain))
      where
        s : St t
        s = ticks h t k (raise d h t)

        from : (longest d t s ≡ longest d t (zeros t) + k) ⊎ (next v t s ≡ 0) → ((head h t s).gain ≡ 0) ⊎ (0 < (head h t s).gain)
            → (longest d t s ≡ longest d t (zeros t) + k) ⊎ ((head h t s).gain ≡ 0)
        from (inl e) _ = inl e
        from (inr z) (inl e) = inr e
        from (inr z) (inr p) = absurd (omega (arith, some_worth B n positive h heads t s proper p))

    digits : Digits B n (sized d h t n k)
    digits = record { length_is = length_sized h d t n k; below = λ g l. go g l (get_or (sized d h t n k) g 0) refl }
      where
        go : (g : ℕ) → g < n → (a : ℕ) → get_or (sized d h t n k) g 0 ≡ a → a < B
        go g l zero e = positive
        go g l (suc a) e = bounded g a (sized_gains g l a (omega arith))

    -- its ticks all gain, so nothing is short of its number
    all_short : earned short n (sized d h t n k) ≡ number B n (sized d h t n k)
    unfolding v short
    all_short =
        earned_same n (sized d h t n k) short (λ (g i : ℕ). B ^ rank n g) (λ g l i below. omega (arith, earns g l i below))
        ∙ number_earned (sized d h t n k)

    at_least_as_worthy : (y : List ℕ) → longest d t (read t y) ≤ longest d t (zeros t) + k
        → worth v t (read t y) ≤ worth v t (read t (sized d h t n k))
    unfolding v
    at_least_as_worthy y l =
        rw read_x (best d v (value_falls B n positive h heads) t k (raise d h t) (ticks h t k (raise d h t)) start run (read t y) l)

    pub sized_beats : (y : List ℕ) → Digits B n y → longest d t (read t y) ≤ longest d t (zeros t) + k → y ≢ sized d h t n k
        → Later (earned (plain h) n) (sized d h t n k) y
    sized_beats y dy l other =
        later (settled (B ^ n) _ _ _ _ _ _ (worth_saving x) (worth_saving y) (at_least_as_worthy y l)
        (omega (arith, short_at_most y, number_below B n y dy)))
      where
        x : List ℕ
        x = sized d h t n k

        before : (x ≡ y) ⊎ Before x y → Before x y
        before (inl e) = absurd (other (sym e))
        before (inr b) = b

        later : (earned (plain h) n y < earned (plain h) n x)
            ⊎ ((earned (plain h) n y ≡ earned (plain h) n x) × (earned short n x ≤ earned short n y)) → Later (earned (plain h) n) x y
        later (inl less) = inl less
        later (inr (same, less)) =
            inr (same, before (smaller_is_before B n x y digits dy (omega (arith, all_short, short_at_most y))))
