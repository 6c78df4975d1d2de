-- Ticks keep the price: a part priced at the worth c > 0 of its next tick is, after w ticks handed out at once, still priced at c, lasts w longer and is worth w times c more. Before that, lowering: a price can fall to any number down to what the next tick is worth.
-- Assumes nothing.
use mathlib.Core.Path.{◌≡◌, refl}
use mathlib.Core.Logic.{◌⊎◌, inl, inr}
use Prim.Native.Nat.{ℕ, zero, suc, ◌+◌, ◌*◌, ◌-◌, ◌≤◌, ◌<◌, max, min}
use native.Mathlib.Nat.{add-zero, add-suc, suc-mul, zero-mul, mul-add, le_refl, le_trans}
use native.Mathlib.Decide.{dec_lt}
use native.Mathlib.Omega.{arith}
use Rattle.lists.specs.Sum.{sum}
use Rattle.optimum.specs.Tree.{wire, series, parallel, Tree, St, longest, worth, next, to_left, to_gate, to_right, Side, stays, gets, Given, Priced}
use Rattle.optimum.proofs.Duality.{later_is_less}

-- w ticks of one worth more
pub sum_alike : (f : ℕ → ℕ) (k w c : ℕ) → ((i : ℕ) → i < w → f (k + i) ≡ c) → sum (k + w) f ≡ sum k f + w * c
unfolding sum
sum_alike f k zero c h = simp (add-zero, zero-mul, add-zero)
sum_alike f k (suc w) c h =
    simp (add-suc, suc-mul) (omega (arith, sum_alike f k w c (λ i l. h i (omega arith)), h w (le_refl _)))

-- w ticks of worth c more leave every tick given worth c or more
all_above : (f : ℕ → ℕ) (k w c : ℕ) → ((i : ℕ) → i < k → c ≤ f i) → ((i : ℕ) → i < w → f (k + i) ≡ c) → (i : ℕ) → i < k + w → c ≤ f i
all_above f k w c before after i l = go (dec_lt i k)
  where
    go : Dec (i < k) → c ≤ f i
    go (yes h) = before i h
    go (no h) =
        let e : k + (i - k) ≡ i = omega arith in
        let m : f (k + (i - k)) ≡ c = after (i - k) (omega arith) in
        let n : f i ≡ c = rw e at m in
        omega arith

-- a part of a parallel part's share that is no greater
lower_share : (a a' : ℕ) {Long : Type 0} → a' ≤ a → Long ⊎ (a ≡ 0) → Long ⊎ (a' ≡ 0)
lower_share a a' h (inl l) = inl l
lower_share a a' h (inr e) = inr (omega arith)

-- how a side of a parallel part with the share a went on
data Went (a w l l' : ℕ) : Type 0 where
  on : 0 < a → l' ≡ l + w → Went a w l l'
  rested : a ≡ 0 → l' ≡ l → Went a w l l'

-- with a share above 0 a side is longest
is_long : (a : ℕ) {Long : Type 0} → 0 < a → Long ⊎ (a ≡ 0) → Long
is_long a h (inl l) = l
is_long a h (inr e) = absurd (omega arith)

-- both sides went on: so did the whole, and the sides with a share are still longest
record Joint (a b w p q p' q' : ℕ) : Type 0 where
  longer : max p' q' ≡ max p q + w
  on_left : (max p' q' ≤ p') ⊎ (a ≡ 0)
  on_right : (max p' q' ≤ q') ⊎ (b ≡ 0)

joint : (a b w p q p' q' : ℕ) → 0 < a + b → (max p q ≤ p) ⊎ (a ≡ 0) → (max p q ≤ q) ⊎ (b ≡ 0) → Went a w p p' → Went b w q q' → Joint a b w p q p' q'
joint a b w p q p' q' pos onP onQ (on ha ea) (on hb eb) =
    let lp = is_long a ha onP in
    let lq = is_long b hb onQ in
    record { longer = omega arith; on_left = inl (omega arith); on_right = inl (omega arith) }
joint a b w p q p' q' pos onP onQ (on ha ea) (rested hb eb) =
    let lp = is_long a ha onP in
    record { longer = omega arith; on_left = inl (omega arith); on_right = inr hb }
joint a b w p q p' q' pos onP onQ (rested ha ea) (on hb eb) =
    let lq = is_long b hb onQ in
    record { longer = omega arith; on_left = inr ha; on_right = inl (omega arith) }
joint a b w p q p' q' pos onP onQ (rested ha ea) (rested hb eb) = absurd (omega arith)

module _ (d : ℕ → ℕ) (v : ℕ → ℕ → ℕ) where
  pub next_at_most_price : (t : Tree) (s : St t) (c : ℕ) → Priced d v t s c → next v t s ≤ c
  next_at_most_price (wire w) s c h = omega arith
  next_at_most_price (series P m Q) s c h =
      omega (arith, next_at_most_price P s.0 c h.0, h.1, next_at_most_price Q s.2 c h.3)
  next_at_most_price (parallel P Q) s c (a, b, e, p, q, onP, onQ) =
      omega (arith, next_at_most_price P s.0 a p, next_at_most_price Q s.1 b q)

  pub lower : (t : Tree) (s : St t) (c c' : ℕ) → Priced d v t s c → next v t s ≤ c' → c' ≤ c → Priced d v t s c'
  lower (wire w) s c c' h n l = tt
  lower (series P m Q) s c c' h n l = (
    lower P s.0 c c' h.0 (omega arith) l,
    omega arith,
    λ i below. le_trans l (h.2 i below),
    lower Q s.2 c c' h.3 (omega arith) l,
  )
  lower (parallel P Q) s c c' (a, b, e, p, q, onP, onQ) n l =
      let np = next_at_most_price P s.0 a p in
      let nq = next_at_most_price Q s.1 b q in
      let a' : ℕ = min a (c' - next v Q s.1) in (
        a',
        c' - a',
        omega arith,
        lower P s.0 a a' p (omega arith) (omega arith),
        lower Q s.1 b (c' - a') q (omega arith) (omega arith),
        lower_share a a' (omega arith) onP,
        lower_share b (c' - a') (omega arith) onQ,
      )

  -- what w ticks of worth c at once do to a part
  pub record Ticked (t : Tree) (w : ℕ) (s s' : St t) (c : ℕ) : Type 0 where
    pub priced : Priced d v t s' c
    pub longer : longest d t s' ≡ longest d t s + w
    pub worthier : worth v t s' ≡ worth v t s + w * c

  -- the same for a side of a parallel part, which may have rested
  record Moved (t : Tree) (w : ℕ) (s s' : St t) (a : ℕ) : Type 0 where
    priced : Priced d v t s' a
    went : Went a w (longest d t s) (longest d t s')
    worthier : worth v t s' ≡ worth v t s + w * a

  moved : (t : Tree) (w : ℕ) (s s' : St t) (a : ℕ) → next v t s ≡ a → Priced d v t s a → (0 < a → Given v t w s s' → Ticked t w s s' a)
      → Side (next v t s) (s' ≡ s) (Given v t w s s') → Moved t w s s' a
  moved t w s s' a e h tick (stays z same) =
      let z' : a ≡ 0 = omega arith in
      record { priced = rw same h; went = rested z' (rw same refl); worthier = rw (same, z') (omega arith) }
  moved t w s s' a e h tick (gets pos g) =
      let r = tick (omega arith) g in
      record { priced = r.priced; went = on (omega arith) r.longer; worthier = r.worthier }

module _ (d : ℕ → ℕ) (v : ℕ → ℕ → ℕ) (falls : (g k : ℕ) → v g (suc k) ≤ v g k) where
  pub ticked : (t : Tree) (w : ℕ) (s s' : St t) (c : ℕ) → next v t s ≡ c → 0 < c → Priced d v t s c → Given v t w s s' → Ticked d v t w s s' c
  ticked (wire l) w s s' c e pos h g = absurd (omega arith)
  ticked (series P m Q) w s s' c e pos h (to_left mp qp (g, em, eq)) =
      let r = ticked P w s.0 s'.0 c (omega arith) pos h.0 g in
      record {
        priced = (r.priced, rw em h.1, rw em h.2, rw eq h.3);
        longer = rw (em, eq) (omega (arith, r.longer));
        worthier = rw (em, eq) (omega (arith, r.worthier));
      }
  ticked (series P m Q) w s s' c e pos h (to_gate pm qm (ep, em, eq, alike)) =
      let same : (i : ℕ) → i < w → v m (s.1 + i) ≡ c = λ i l. omega (arith, alike i l) in
      record {
        priced = (
          rw ep h.0,
          rw em (le_trans (later_is_less (v m) (falls m) s.1 (s.1 + w) (omega arith)) h.1),
          rw em (all_above (v m) s.1 w c h.2 same),
          rw eq h.3,
        );
        longer = rw (ep, em, eq) (omega arith);
        worthier = rw (ep, em, eq) (omega (arith, sum_alike (v m) s.1 w c same));
      }
  ticked (series P m Q) w s s' c e pos h (to_right pq mq (ep, em, g)) =
      let r = ticked Q w s.2 s'.2 c (omega arith) pos h.3 g in
      record {
        priced = (rw ep h.0, rw em h.1, rw em h.2, r.priced);
        longer = rw (ep, em) (omega (arith, r.longer));
        worthier = rw (ep, em) (omega (arith, r.worthier));
      }
  ticked (parallel P Q) w s s' c e pos (a, b, both, p, q, onP, onQ) (gp, gq) =
      let np = next_at_most_price d v P s.0 a p in
      let nq = next_at_most_price d v Q s.1 b q in
      let ea : next v P s.0 ≡ a = omega arith in
      let eb : next v Q s.1 ≡ b = omega arith in
      let left = moved d v P w s.0 s'.0 a ea p (λ h. ticked P w s.0 s'.0 a ea h p) gp in
      let right = moved d v Q w s.1 s'.1 b eb q (λ h. ticked Q w s.1 s'.1 b eb h q) gq in
      let j = joint a b w _ _ _ _ (omega arith) onP onQ left.went right.went in
      record {
        priced = (a, b, both, left.priced, right.priced, j.on_left, j.on_right);
        longer = j.longer;
        worthier = rw (← both) (simp mul-add (omega (arith, left.worthier, right.worthier)));
      }
