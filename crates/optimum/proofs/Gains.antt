-- Plain gains along the ticks: they fall, and what w ticks add to the saving is w times the gain of the head.
-- Assumes nothing.
use mathlib.Core.Path.{◌≡◌, refl, ap}
use Prim.Native.Nat.{ℕ, ◌+◌, ◌*◌, ◌≤◌, ◌<◌}
use native.Mathlib.Nat.{mul-add}
use native.Mathlib.Omega.{arith}
use Rattle.optimum.specs.Tree.{wire, series, parallel, Tree, St, next, worth}
use Rattle.optimum.specs.Head.{Head, Heads, Item}
use Rattle.optimum.specs.Handout.{head, give}
use Rattle.optimum.proofs.Duality.{later_is_less}
use Rattle.optimum.proofs.Tick.{sum_alike}
use Rattle.optimum.proofs.Order.{by_sides}
use Rattle.optimum.proofs.Handout.{item_head, item_given, by_item, plain, head_gain, give_none}

module _ (n : ℕ) (h : ℕ → ℕ → Head) (heads : Heads n h) where
  next_falls : (t : Tree) (w : ℕ) (s : St t) → next (plain h) t (give h t w s) ≤ next (plain h) t s
  next_falls (wire l) w s = omega arith
  next_falls (series P m Q) w s =
      by_item h P m Q s
      (λ (i : Item). next (plain h) (series P m Q) (item_given h P m Q w s i) ≤ next (plain h) (series P m Q) s)
      (λ ab ac. omega (arith, next_falls P w s.0))
      (λ ba bc. omega (arith, later_is_less (plain h m) (heads.falls m) s.1 (s.1 + w) (omega arith)))
      (λ ca cb. omega (arith, next_falls Q w s.2))
  next_falls (parallel P Q) w s = omega (arith, next_falls P w s.0, next_falls Q w s.1)

  pub gain_falls : (t : Tree) (w : ℕ) (s : St t) → (head h t (give h t w s)).gain ≤ (head h t s).gain
  gain_falls t w s = omega (arith, head_gain h t s, head_gain h t (give h t w s), next_falls t w s)

  idle_adds : (t : Tree) (w : ℕ) (s : St t) → (head h t s).gain ≡ 0 → worth (plain h) t (give h t w s) ≡ worth (plain h) t s
  idle_adds t w s z = rw (give_none n h heads t w s z) refl

  pub give_adds : (t : Tree) (w : ℕ) (s : St t) → w ≤ (head h t s).width → 0 < (head h t s).gain
      → worth (plain h) t (give h t w s) ≡ worth (plain h) t s + w * (head h t s).gain
  give_adds (wire l) w s = λ l pos. absurd (omega arith)
  give_adds (series P m Q) w s =
      let b = h m s.1 in
      by_item h P m Q s
      (λ (i : Item). w ≤ (item_head h P m Q s i).width → 0 < (item_head h P m Q s i).gain → worth (plain h) (series P m Q) (item_given h P m Q w s i) ≡ worth (plain h) (series P m Q) s + w * (item_head h P m Q s i).gain)
      (λ ab ac l pos. omega (arith, give_adds P w s.0 l pos))
      (λ ba bc l pos. omega (
        arith,
        sum_alike (plain h m) s.1 w b.gain (λ i l'. ap (λ (r : Head). r.gain) (heads.goes_on m s.1 i (omega arith))),
      ))
      (λ ca cb l pos. omega (arith, give_adds Q w s.2 l pos))
  give_adds (parallel P Q) w s =
      let a = head h P s.0 in
      let b = head h Q s.1 in
      by_sides a b
      (λ (r : Head). w ≤ r.width → 0 < r.gain → worth (plain h) (parallel P Q) (give h (parallel P Q) w s) ≡ worth (plain h) (parallel P Q) s + w * r.gain)
      (λ z l pos. omega (arith, idle_adds P w s.0 z, give_adds Q w s.1 l pos))
      (λ pos z l _. omega (arith, give_adds P w s.0 l pos, idle_adds Q w s.1 z))
      (λ pos pos' l _. simp mul-add (omega (arith, give_adds P w s.0 (omega arith) pos, give_adds Q w s.1 (omega arith) pos')))
