-- Sums over numbers, and the sum over the gates of a part as a sum over gate numbers: each gate counts as often as it stands in the part.
-- Assumes nothing.
use mathlib.Core.Path.{◌≡◌, refl, sym, ◌∙◌}
use mathlib.Core.Logic.{◌≢◌, ◌⊎◌, inl, inr}
use mathlib.Core.List.{List}
use Prim.Native.Nat.{ℕ, zero, suc, ◌+◌, ◌*◌, ◌≤◌, ◌<◌}
use native.Mathlib.Nat.{add-mul, zero-mul, one-mul, suc-mul, eq-or-lt_of_le}
use native.Mathlib.Omega.{arith}
use lib.ListN.{get_or}
use Rattle.lists.specs.Sum.{sum}
use Rattle.lists.proofs.Sum.{sum_same, sum_le}
use Rattle.optimum.specs.Tree.{wire, series, parallel, Tree, is, count, Below, across}
use Rattle.optimum.specs.Increases.{read}
use Rattle.optimum.proofs.Count.{is_self, is_other}

pub sum_add : (n : ℕ) (f e : ℕ → ℕ) → sum n (λ (i : ℕ). f i + e i) ≡ sum n f + sum n e
unfolding sum
sum_add zero f e = refl
sum_add (suc n) f e = omega (arith, sum_add n f e)

pub sum_mul : (n m : ℕ) (f : ℕ → ℕ) → sum n (λ (i : ℕ). f i * m) ≡ sum n f * m
unfolding sum
sum_mul zero m f = sym (zero-mul m)
sum_mul (suc n) m f = simp add-mul (omega (arith, sum_mul n m f))

pub sum_constant : (n c : ℕ) → sum n (λ (i : ℕ). c) ≡ n * c
unfolding sum
sum_constant zero c = sym (zero-mul c)
sum_constant (suc n) c = simp suc-mul (omega (arith, sum_constant n c))

pub sum_front : (n : ℕ) (f : ℕ → ℕ) → sum (suc n) f ≡ f 0 + sum n (λ (i : ℕ). f (suc i))
unfolding sum
sum_front zero f = omega arith
sum_front (suc n) f = omega (arith, sum_front n f)

pub sum_member : (n : ℕ) (f : ℕ → ℕ) (m : ℕ) → m < n → f m ≤ sum n f
unfolding sum
sum_member zero f m l = absurd (omega arith)
sum_member (suc n) f m l = go (eq-or-lt_of_le l) (sum_member n f m)
  where
    go : (suc m ≡ suc n) ⊎ (suc m < suc n) → (m < n → f m ≤ sum n f) → f m ≤ sum n f + f n
    go (inl e) below =
        let s : m ≡ n = omega arith in
        rw s (omega arith)
    go (inr k) below = omega (arith, below (omega arith))

pub sum_none : (n : ℕ) → sum n (λ (i : ℕ). 0) ≡ 0
unfolding sum
sum_none zero = refl
sum_none (suc n) = omega (arith, sum_none n)

-- one gate among n
pub sum_one : (m n : ℕ) (f : ℕ → ℕ) → m < n → sum n (λ (i : ℕ). is m i * f i) ≡ f m
unfolding sum
sum_one m zero f l = absurd (omega arith)
sum_one m (suc n) f l = go (eq-or-lt_of_le l) (sum_one m n f)
  where
    none : (i : ℕ) → i ≢ m → is m i * f i ≡ 0
    none i d = rw (is_other m i d, zero-mul) refl

    go : (suc m ≡ suc n) ⊎ (suc m < suc n) → (m < n → sum n (λ (i : ℕ). is m i * f i) ≡ f m) → sum n (λ (i : ℕ). is m i * f i) + is m n * f n ≡ f m
    go (inl e) before =
        let same : n ≡ m = omega arith in
        let z = sum_same n (λ (i : ℕ). is m i * f i) (λ (i : ℕ). 0) (λ i l. none i (λ k. omega arith)) ∙ sum_none n in
        let o : is m n * f n ≡ f m = rw (same, is_self m, one-mul) refl in
        omega arith
    go (inr k) before = omega (arith, before (omega arith), none n (λ e. omega arith))

module _ (f : ℕ → ℕ → ℕ) (n : ℕ) where
  pub across_count : (t : Tree) (x : List ℕ) → Below n t → across f t (read t x) ≡ sum n (λ (g : ℕ). count t g * f g (get_or x g 0))
  across_count (wire w) x b = sym (sum_same n _ (λ (i : ℕ). 0) (λ i l. zero-mul _) ∙ sum_none n)
  across_count (series P m Q) x b =
      let F : ℕ → ℕ = λ g. f g (get_or x g 0) in
      omega (
        arith,
        sum_same n (λ (g : ℕ). count (series P m Q) g * F g) (λ (g : ℕ). count P g * F g + is m g * F g + count Q g * F g) (λ g l. simp add-mul refl),
        sum_add n (λ (g : ℕ). count P g * F g + is m g * F g) (λ (g : ℕ). count Q g * F g),
        sum_add n (λ (g : ℕ). count P g * F g) (λ (g : ℕ). is m g * F g),
        sum_one m n F (b m (omega (arith, is_self m))),
        across_count P x (λ g l. b g (omega arith)),
        across_count Q x (λ g l. b g (omega arith)),
      )
  across_count (parallel P Q) x b =
      let F : ℕ → ℕ = λ g. f g (get_or x g 0) in
      omega (
        arith,
        sum_same n (λ (g : ℕ). count (parallel P Q) g * F g) (λ (g : ℕ). count P g * F g + count Q g * F g) (λ g l. add-mul _ _ _),
        sum_add n (λ (g : ℕ). count P g * F g) (λ (g : ℕ). count Q g * F g),
        across_count P x (λ g l. b g (omega arith)),
        across_count Q x (λ g l. b g (omega arith)),
      )

  -- where every gate below n stands once
  pub across_gates : (t : Tree) (x : List ℕ) → Below n t → ((g : ℕ) → g < n → count t g ≡ 1)
      → across f t (read t x) ≡ sum n (λ (g : ℕ). f g (get_or x g 0))
  across_gates t x b all = across_count t x b ∙ sum_same n _ _ (λ g l. rw (all g l, one-mul) refl)

-- what the ticks of a list are worth, over n gates
abbrev pub earned : (ℕ → ℕ → ℕ) → ℕ → List ℕ → ℕ
earned v n y = sum n (λ (g : ℕ). sum (get_or y g 0) (v g))

module _ (n : ℕ) (y : List ℕ) where
  pub earned_add : (v u : ℕ → ℕ → ℕ) → earned (λ (g k : ℕ). v g k + u g k) n y ≡ earned v n y + earned u n y
  earned_add v u =
      sum_same n _ (λ (g : ℕ). sum (get_or y g 0) (v g) + sum (get_or y g 0) (u g)) (λ g l. sum_add (get_or y g 0) (v g) (u g))
      ∙ sum_add n (λ (g : ℕ). sum (get_or y g 0) (v g)) (λ (g : ℕ). sum (get_or y g 0) (u g))

  pub earned_mul : (v : ℕ → ℕ → ℕ) (m : ℕ) → earned (λ (g k : ℕ). v g k * m) n y ≡ earned v n y * m
  earned_mul v m =
      sum_same n _ (λ (g : ℕ). sum (get_or y g 0) (v g) * m) (λ g l. sum_mul (get_or y g 0) m (v g))
      ∙ sum_mul n m (λ (g : ℕ). sum (get_or y g 0) (v g))

  pub earned_same : (v u : ℕ → ℕ → ℕ) → ((g : ℕ) → g < n → (i : ℕ) → i < get_or y g 0 → v g i ≡ u g i) → earned v n y ≡ earned u n y
  earned_same v u h = sum_same n _ _ (λ g l. sum_same (get_or y g 0) (v g) (u g) (h g l))

  pub earned_at_most : (v u : ℕ → ℕ → ℕ) → ((g i : ℕ) → v g i ≤ u g i) → earned v n y ≤ earned u n y
  earned_at_most v u h = sum_le n _ _ (λ g l. sum_le (get_or y g 0) (v g) (u g) (λ i l'. h g i))
