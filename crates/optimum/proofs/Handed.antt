-- What heads hand out is handed out by values: `give` is one of the ways that `Given` allows, so the theory of prices holds of it. The price theory is used at the values of `Value`, and so settles gains and ties at once.
-- Assumes nothing.
use mathlib.Core.Path.{◌≡◌, refl}
use mathlib.Core.Logic.{◌⊎◌, inl, inr}
use Prim.Native.Nat.{ℕ, zero, suc, ◌+◌, ◌-◌, ◌^◌, ◌≤◌, ◌<◌}
use native.Mathlib.Nat.{mul-le-mul_right, eq-zero-or-pos}
use native.Mathlib.Omega.{arith}
use Rattle.optimum.specs.Tree.{wire, series, parallel, Tree, St, zeros, longest, next, to_left, to_gate, to_right, Side, stays, gets, Given, Run, done, ended, more, Raised}
use Rattle.optimum.specs.Head.{Head, Heads, Item}
use Rattle.optimum.specs.Handout.{head, give, ticks, raise}
use Rattle.optimum.proofs.Order.{by_sides}
use Rattle.optimum.proofs.Handout.{item_head, item_given, by_item, give_none, some_width, ticks_none}
use Rattle.optimum.proofs.Value.{value, Proper, series_left, series_right, parallel_left, parallel_right, ranked, lined, ranked_gate, gate_below, no_worth, some_worth}

module _ (B n : ℕ) (positive : 0 < B) (h : ℕ → ℕ → Head) (heads : Heads n h) where
  pub value_falls : (g k : ℕ) → value B n h g (suc k) ≤ value B n h g k
  value_falls g k = omega (arith, mul-le-mul_right (B ^ n) (heads.falls g k))

  -- the ticks of a gate's head are all of one value
  value_goes_on : (g k w : ℕ) → w ≤ (h g k).width → (i : ℕ) → i < w → value B n h g (k + i) ≡ value B n h g k
  value_goes_on g k w l i l' = rw (heads.goes_on g k i (omega arith)) refl

  -- a side gets what it is given
  side : (t : Tree) (w : ℕ) (s : St t) → Proper B n t → (0 < (head h t s).gain → Given (value B n h) t w s (give h t w s))
      → Side (next (value B n h) t s) (give h t w s ≡ s) (Given (value B n h) t w s (give h t w s))
  side t w s p given = go (eq-zero-or-pos (head h t s).gain)
    where
      go : ((head h t s).gain ≡ 0) ⊎ (0 < (head h t s).gain)
          → Side (next (value B n h) t s) (give h t w s ≡ s) (Given (value B n h) t w s (give h t w s))
      go (inl z) = stays (no_worth B n positive h heads t s p z) (give_none n h heads t w s z)
      go (inr pos) = gets (some_worth B n positive h heads t s p pos) (given pos)

  pub given_by_heads : (t : Tree) (w : ℕ) (s : St t) → Proper B n t → 0 < (head h t s).gain → w ≤ (head h t s).width
      → Given (value B n h) t w s (give h t w s)
  given_by_heads (wire l) w s p = λ pos l. tt
  given_by_heads (series P m Q) w s p =
      let a = head h P s.0 in
      let b = h m s.1 in
      let c = head h Q s.2 in
      let pp = series_left B n P m Q p in
      let pq = series_right B n P m Q p in
      let line =
      lined B n positive h heads P m Q a b c _ _ _ _ _ p.once (ranked B n positive h heads P s.0 pp)
      (ranked_gate B n positive h heads m s.1 (gate_below B n positive h heads P m Q p) (omega (arith, p.small)))
      (ranked B n positive h heads Q s.2 pq)
      in
      by_item h P m Q s
      (λ (i : Item). 0 < (item_head h P m Q s i).gain → w ≤ (item_head h P m Q s i).width → Given (value B n h) (series P m Q) w s (item_given h P m Q w s i))
      (λ ab ac pos l.
      let o = line.to_left ab ac in
      to_left o.0 o.1 (given_by_heads P w s.0 pp pos l, refl, refl))
      (λ ba bc pos l.
      let o = line.to_gate ba bc in
      to_gate o.0 o.1 (refl, refl, refl, value_goes_on m s.1 w l))
      (λ ca cb pos l.
      let o = line.to_right ca cb in
      to_right o.0 o.1 (refl, refl, given_by_heads Q w s.2 pq pos l))
  given_by_heads (parallel P Q) w s p =
      let pp = parallel_left B n P Q p in
      let pq = parallel_right B n P Q p in
      by_sides (head h P s.0) (head h Q s.1)
      (λ (r : Head). 0 < r.gain → w ≤ r.width → Given (value B n h) (parallel P Q) w s (give h (parallel P Q) w s))
      (λ z pos l. (side P w s.0 pp (λ pos'. absurd (omega arith)), side Q w s.1 pq (λ pos'. given_by_heads Q w s.1 pq pos' l)))
      (λ pos z _ l. (side P w s.0 pp (λ pos'. given_by_heads P w s.0 pp pos' l), side Q w s.1 pq (λ pos'. absurd (omega arith))))
      (λ pos pos' _ l. (
        side P w s.0 pp (λ _. given_by_heads P w s.0 pp pos (omega arith)),
        side Q w s.1 pq (λ _. given_by_heads Q w s.1 pq pos' (omega arith)),
      ))

  pub run_by_heads : (t : Tree) (k : ℕ) (s : St t) → Proper B n t → Run (value B n h) t k s (ticks h t k s)
  run_by_heads t zero s p = done
  run_by_heads t (suc k) s p = go (eq-zero-or-pos (head h t s).gain) (run_by_heads t k (give h t 1 s) p)
    where
      go : ((head h t s).gain ≡ 0) ⊎ (0 < (head h t s).gain) → Run (value B n h) t k (give h t 1 s) (ticks h t k (give h t 1 s))
          → Run (value B n h) t (suc k) s (ticks h t (suc k) s)
      go (inl z) rest = rw (ticks_none n h heads t (suc k) s z) (ended (no_worth B n positive h heads t s p z))
      go (inr pos) rest =
          let e : 1 + k ≡ suc k = omega arith in
          rw (← e) (more 1 (omega arith) (some_worth B n positive h heads t s p pos)
          (given_by_heads t 1 s p pos (some_width n h heads t s pos)) rest)

  pub raised_by_heads : (d : ℕ → ℕ) (t : Tree) → Proper B n t → Raised d (value B n h) t (raise d h t)
  raised_by_heads d (wire w) p = tt
  raised_by_heads d (series P m Q) p = (
    raised_by_heads d P (series_left B n P m Q p),
    refl,
    raised_by_heads d Q (series_right B n P m Q p),
  )
  raised_by_heads d (parallel P Q) p =
      let pp = parallel_left B n P Q p in
      let pq = parallel_right B n P Q p in (
        raise d h P,
        raise d h Q,
        raised_by_heads d P pp,
        raised_by_heads d Q pq,
        run_by_heads P (longest d Q (zeros Q) - longest d P (zeros P)) (raise d h P) pp,
        run_by_heads Q (longest d P (zeros P) - longest d Q (zeros Q)) (raise d h Q) pq,
      )
