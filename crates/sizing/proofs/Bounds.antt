-- Limits of the heads made from arrays: no gain is above the greatest, no head is wider than a step can be, and no increase can reach beyond the sum of the widths.
-- Assumes nothing.
use mathlib.Core.Path.{◌≡◌}
use mathlib.Core.Logic.{◌⊎◌, inl, inr}
use mathlib.Core.List.{List}
use Prim.Native.Nat.{ℕ, zero, suc, ◌+◌, ◌-◌, ◌*◌, ◌^◌, ◌≤◌, ◌<◌}
use native.Mathlib.Nat.{eq-zero-or-pos, mul-le-mul, suc-mul, zero-mul}
use native.Mathlib.Omega.{arith}
use borrow.Author.Tests.{lt-ltb, le-ltb, eq-eqb, ne_eqb}
use lib.ListN.{get_or}
use Rattle.lists.proofs.Compare.{le_or_lt}
use Rattle.model.specs.Limits.{max_steps, max_width, max_drop}
use Rattle.model.specs.Block.{Step}
use Rattle.model.specs.Gain.{drop_of}
use Rattle.model.specs.Arrays.{step_at}
use Rattle.optimum.specs.Head.{Head, no_head, rank}
use Rattle.optimum.specs.Gates.{room}
use Rattle.heads.specs.Plan.{most_gain, step_head, heads_in, StepsLent}
use Rattle.heads.proofs.Stepping.{from, all_from}

module _ (f : ℕ → Step) where
  drop_at_most : (D m j k : ℕ) → ((i : ℕ) → i < j + m → (f i).drop ≤ D) → drop_of (from f m j) k ≤ D
  unfolding drop_of from
  drop_at_most D zero j k b = omega arith
  drop_at_most D (suc m) j k b =
      go (le_or_lt (f j).width k) (drop_at_most D m (suc j) (k - (f j).width) (λ i l. b i (omega arith)))
    where
      go : ((f j).width ≤ k) ⊎ (k < (f j).width) → drop_of (from f m (suc j)) (k - (f j).width) ≤ D → drop_of (from f (suc m) j) k ≤ D
      go (inl l) rest = rw (le-ltb k (f j).width l) rest
      go (inr l) rest = rw (lt-ltb k (f j).width l) (b j (omega arith))

  room_at_most : (W m j k : ℕ) → ((i : ℕ) → i < j + m → (f i).width ≤ W) → room (from f m j) k ≤ W
  unfolding room from
  room_at_most W zero j k b = omega arith
  room_at_most W (suc m) j k b =
      go (le_or_lt (f j).width k) (room_at_most W m (suc j) (k - (f j).width) (λ i l. b i (omega arith)))
    where
      go : ((f j).width ≤ k) ⊎ (k < (f j).width) → room (from f m (suc j)) (k - (f j).width) ≤ W → room (from f (suc m) j) k ≤ W
      go (inl l) rest = rw (le-ltb k (f j).width l) rest
      go (inr l) rest = rw (lt-ltb k (f j).width l) (omega (arith, b j (omega arith)))

  reach_at_most : (W m j k : ℕ) → ((i : ℕ) → i < j + m → (f i).width ≤ W) → 0 < drop_of (from f m j) k → k + room (from f m j) k ≤ m * W
  unfolding room drop_of from
  reach_at_most W zero j k b = λ p. absurd (omega arith)
  reach_at_most W (suc m) j k b =
      go (le_or_lt (f j).width k) (reach_at_most W m (suc j) (k - (f j).width) (λ i l. b i (omega arith)))
    where
      own : (f j).width ≤ W
      own = b j (omega arith)

      go : ((f j).width ≤ k) ⊎ (k < (f j).width)
          → (0 < drop_of (from f m (suc j)) (k - (f j).width) → k - (f j).width + room (from f m (suc j)) (k - (f j).width) ≤ m * W)
          → 0 < drop_of (from f (suc m) j) k → k + room (from f (suc m) j) k ≤ suc m * W
      go (inl l) rest = rw (le-ltb k (f j).width l) (λ p. rw (suc-mul m W) (omega (arith, rest p, own)))
      go (inr l) rest = rw (lt-ltb k (f j).width l) (λ p. rw (suc-mul m W) (omega (arith, own)))

-- a product is positive only if its first factor is
first_positive : (a b : ℕ) → 0 < a * b → 0 < a
first_positive a b p = go (eq-zero-or-pos a)
  where
    go : (a ≡ 0) ⊎ (0 < a) → 0 < a
    go (inl z) = absurd (omega (arith, simp (z, zero-mul) at p))
    go (inr q) = q

-- a statement about the head of a tick, with a gain and without
by_gain : (r a width drop : ℕ) (C : Head → Type 0) → C no_head → (0 < drop * a → C (record { width = width; gain = drop * a; rank = r })) → C (step_head r a width drop)
unfolding step_head
by_gain r a width drop C none some = go (eq-zero-or-pos (drop * a))
  where
    go : (drop * a ≡ 0) ⊎ (0 < drop * a) → C (step_head r a width drop)
    go (inl z) = rw (eq-eqb (drop * a) 0 z) none
    go (inr p) = rw (ne_eqb (drop * a) 0 (λ e. omega arith)) (some p)

module _ {n : ℕ} {counts step_widths drops inputs : List ℕ} (lent : StepsLent n counts step_widths drops inputs) where
  -- a statement about the heads from the arrays, by the steps of the gate
  by_steps : (g k : ℕ) (C : Head → Type 0) → C no_head
      → (g < n → C (step_head (rank n g) (get_or inputs g 0) (room (from (step_at step_widths drops g) (get_or counts g 0) 0) k)
      (drop_of (from (step_at step_widths drops g) (get_or counts g 0) 0) k)))
      → C (heads_in n counts step_widths drops inputs g k)
  unfolding heads_in
  by_steps g k C none some = go (le_or_lt n g)
    where
      go : (n ≤ g) ⊎ (g < n) → C (heads_in n counts step_widths drops inputs g k)
      go (inl l) = rw (le-ltb g n l) none
      go (inr l) = rw (lt-ltb g n l, all_from (step_at step_widths drops g) (get_or counts g 0)) (some l)

  pub gains_small : (g k : ℕ) → (heads_in n counts step_widths drops inputs g k).gain ≤ most_gain
  gains_small g k =
      by_steps g k (λ (a : Head). a.gain ≤ most_gain) (omega arith)
      (λ l. by_gain (rank n g) (get_or inputs g 0) _ _ (λ (a : Head). a.gain ≤ most_gain) (omega arith)
      (λ p. omega (
        arith,
        mul-le-mul (drop_at_most (step_at step_widths drops g) max_drop (get_or counts g 0) 0 k (λ j b. lent.drop_small g j l (omega arith)))
            (lent.input_small g l),
      )))

  module _ (narrow : (g j : ℕ) → g < n → j < get_or counts g 0 → get_or step_widths (g * max_steps + j) 0 ≤ max_width) where
    pub widths_small : (g k : ℕ) → (heads_in n counts step_widths drops inputs g k).width ≤ max_width
    widths_small g k =
        by_steps g k (λ (a : Head). a.width ≤ max_width) (omega arith)
        (λ l. by_gain (rank n g) (get_or inputs g 0) _ _ (λ (a : Head). a.width ≤ max_width) (omega arith)
        (λ p. room_at_most (step_at step_widths drops g) max_width (get_or counts g 0) 0 k (λ j b. narrow g j l (omega arith))))

    -- no increase reaches too far
    pub reach_small : (g k : ℕ) → 0 < (heads_in n counts step_widths drops inputs g k).gain → k + (heads_in n counts step_widths drops inputs g k).width < 2 ^ 32
    reach_small g k =
        by_steps g k (λ (a : Head). 0 < a.gain → k + a.width < 2 ^ 32) (λ p. absurd (omega arith))
        (λ l. by_gain (rank n g) (get_or inputs g 0) _ _ (λ (a : Head). 0 < a.gain → k + a.width < 2 ^ 32) (λ p. absurd (omega arith))
        (λ p _. near g k l p))
      where
        near : (g k : ℕ) → g < n → 0 < drop_of (from (step_at step_widths drops g) (get_or counts g 0) 0) k * get_or inputs g 0
            → k + room (from (step_at step_widths drops g) (get_or counts g 0) 0) k < 2 ^ 32
        near g k l p =
            omega (
              arith,
              reach_at_most (step_at step_widths drops g) max_width (get_or counts g 0) 0 k (λ j b. narrow g j l (omega arith)) (first_positive _ _ p),
              lent.few g l,
            )
