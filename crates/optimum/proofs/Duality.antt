-- Duality: a list priced at c is worth as much, beside any other list, as c for each tick that it lasts longer. Series and parallel add up the inequalities of their items.
-- Assumes nothing.
use mathlib.Core.Path.{◌≡◌}
use mathlib.Core.Logic.{◌⊎◌, inl, inr}
use Prim.Native.Nat.{ℕ, suc, ◌+◌, ◌*◌, ◌≤◌, ◌<◌}
use native.Mathlib.Nat.{mul-suc, mul-add, add-mul, le_refl, le_trans, le-max_left, le-max_right, mul-le-mul_left}
use native.Mathlib.Decide.{le_ind, dec_le}
use native.Mathlib.Omega.{arith}
use Rattle.lists.specs.Sum.{sum}
use Rattle.optimum.specs.Tree.{wire, series, parallel, Tree, St, longest, worth, Priced}

module _ (f : ℕ → ℕ) (falls : (k : ℕ) → f (suc k) ≤ f k) where
  pub later_is_less : (i j : ℕ) → i ≤ j → f j ≤ f i
  later_is_less i j h = le_ind (λ (n : ℕ). f n ≤ f i) (le_refl _) (λ n l e. le_trans (falls n) e) j h

-- ticks beyond the k-th earn at most c each, where tick k does
more_ticks : (f : ℕ → ℕ) → ((k : ℕ) → f (suc k) ≤ f k) → (c k n : ℕ) → f k ≤ c → k ≤ n → sum n f + c * k ≤ sum k f + c * n
unfolding sum
more_ticks f falls c k n h l =
    le_ind
    (λ (i : ℕ). sum i f + c * k ≤ sum k f + c * i) (le_refl _)
    (λ (i : ℕ) (l : k ≤ i) e. simp mul-suc (omega (arith, e, later_is_less f falls k i l))) n l

-- the last ticks up to the k-th earn at least c each, where all of them do
fewer_ticks : (f : ℕ → ℕ) (c k n : ℕ) → ((i : ℕ) → i < k → c ≤ f i) → n ≤ k → sum n f + c * k ≤ sum k f + c * n
unfolding sum
fewer_ticks f c k n h l =
    le_ind
    (λ (j : ℕ). ((i : ℕ) → i < j → c ≤ f i) → sum n f + c * j ≤ sum j f + c * n)
    (λ p. le_refl _)
    (λ j l e p. simp mul-suc (omega (arith, e (λ i q. p i (omega arith)), p j (le_refl _)))) k l h

module _ (d : ℕ → ℕ) (v : ℕ → ℕ → ℕ) (falls : (g k : ℕ) → v g (suc k) ≤ v g k) where
  gate_weak : (g c k n : ℕ) → v g k ≤ c → ((i : ℕ) → i < k → c ≤ v g i) → sum n (v g) + c * k ≤ sum k (v g) + c * n
  gate_weak g c k n h p = go (dec_le k n)
    where
      go : Dec (k ≤ n) → sum n (v g) + c * k ≤ sum k (v g) + c * n
      go (yes l) = more_ticks (v g) (falls g) c k n h l
      go (no l) = fewer_ticks (v g) c k n p (omega arith)

  -- a share counts only on a side that is as long as the whole
  share_weak : (a own whole : ℕ) → (whole ≤ own) ⊎ (a ≡ 0) → a * whole ≤ a * own
  share_weak a own whole (inl h) = mul-le-mul_left a h
  share_weak a own whole (inr e) = rw e (omega arith)

  pub weak : (t : Tree) (x y : St t) (c : ℕ) → Priced d v t x c → worth v t y + c * longest d t x ≤ worth v t x + c * longest d t y
  weak (wire w) x y c h = le_refl _
  weak (series P m Q) x y c h =
      simp mul-add (omega (arith, weak P x.0 y.0 c h.0, gate_weak m c x.1 y.1 h.1 h.2, weak Q x.2 y.2 c h.3))
  weak (parallel P Q) x y c (a, b, e, p, q, onP, onQ) =
      rw (← e) (simp add-mul (omega (
        arith,
        weak P x.0 y.0 a p,
        weak Q x.1 y.1 b q,
        share_weak a (longest d P x.0) (longest d (parallel P Q) x) onP,
        share_weak b (longest d Q x.1) (longest d (parallel P Q) x) onQ,
        mul-le-mul_left a (le-max_left (longest d P y.0) (longest d Q y.1)),
        mul-le-mul_left b (le-max_right (longest d P y.0) (longest d Q y.1)),
      )))
