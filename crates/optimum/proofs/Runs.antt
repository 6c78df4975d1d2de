-- The record of gains: its gains do not rise, its first k ticks gain what k single ticks add to the saving, and it has no more runs than there are steps; joining neighbours of one gain keeps what the ticks earn and makes the gains fall strictly.
-- Assumes nothing.
use mathlib.Core.Path.{◌≡◌, refl, sym, ◌∙◌, ap}
use mathlib.Core.Logic.{◌⊎◌, inl, inr}
use mathlib.Core.Bool.{Bool, true, false, cond}
use mathlib.Core.List.Memᴰ
use mathlib.Core.List.{List, [], ◌∷◌, Memᴰ}
use Prim.Native.Nat.{ℕ, zero, suc, ◌+◌, ◌*◌, ◌-◌, ◌≤◌, ◌<◌, min}
use native.Mathlib.Nat.{add-mul, zero-mul, le_refl, le_trans, eq-zero-or-pos}
use native.Mathlib.Decide.{dec_le}
use native.Mathlib.Omega.{arith}
use lib.Dec.{eqb}
use Rattle.lists.proofs.Compare.{le_or_lt}
use borrow.Author.Tests.{eqb-true, eqb-false}
use lib.ListN.{length}
use Rattle.model.specs.Curve.{Pair, first_gain, Falling, count_off}
use Rattle.model.proofs.Curve.{count_off_within, count_off_beyond}
use Rattle.optimum.specs.Tree.{wire, series, parallel, Tree, St, across, worth}
use Rattle.optimum.specs.Head.{Head, Heads, Item}
use Rattle.optimum.specs.Handout.{head, give, ticks}
use Rattle.optimum.specs.Runs.{pair_of, runs, onto, joined}
use Rattle.optimum.proofs.Order.{by_sides}
use Rattle.optimum.proofs.Handout.{item_head, item_given, by_item, plain, ticks_add, give_is_ticks, some_width, ticks_none}
use Rattle.optimum.proofs.Gains.{gain_falls, give_adds}

-- pairs of some width and gain, whose gains do not rise
abbrev pub Sinking : List Pair → Type 0
Sinking [] = Unit {0}
Sinking (p ∷ ps) = (1 ≤ p.width) × (0 < p.gain) × (first_gain ps ≤ p.gain) × Sinking ps

by_onto : (p q : Pair) (qs : List Pair) (C : List Pair → Type 0)
    → (p.gain ≡ q.gain → C (record { width = p.width + q.width; gain = q.gain } ∷ qs)) → (¬ (p.gain ≡ q.gain) → C (p ∷ q ∷ qs))
    → C (onto p (q ∷ qs))
unfolding onto
by_onto p q qs C same other = from (eqb p.gain q.gain) refl
  where
    from : (b : Bool) → eqb p.gain q.gain ≡ b → C (cond b (record { width = p.width + q.width; gain = q.gain } ∷ qs) (p ∷ q ∷ qs))
    from true e = same (eqb-true _ _ e)
    from false e = other (eqb-false _ _ e)

onto_counts : (p : Pair) (ps : List Pair) (k : ℕ) → count_off (onto p ps) k ≡ count_off (p ∷ ps) k
unfolding count_off onto
onto_counts p [] k = refl
onto_counts p (q ∷ qs) k =
    by_onto p q qs
    (λ (r : List Pair). count_off r k ≡ count_off (p ∷ q ∷ qs) k)
    (λ e.
    let a : min k (p.width + q.width) ≡ min k p.width + min (k - p.width) q.width = omega arith in
    let b : k - (p.width + q.width) ≡ k - p.width - q.width = omega arith in
    rw (a, b, e, add-mul) (omega arith))
    (λ d. refl)

pub joined_counts : (ps : List Pair) (k : ℕ) → count_off (joined ps) k ≡ count_off ps k
unfolding count_off joined
joined_counts [] k = refl
joined_counts (p ∷ ps) k =
    onto_counts p (joined ps) k
    ∙ ap (λ (r : ℕ). min k p.width * p.gain + r) (joined_counts ps (k - p.width))

onto_first : (p : Pair) (ps : List Pair) → first_gain (onto p ps) ≡ p.gain
unfolding onto
onto_first p [] = refl
onto_first p (q ∷ qs) = by_onto p q qs (λ (r : List Pair). first_gain r ≡ p.gain) (λ e. sym e) (λ d. refl)

pub joined_first : (ps : List Pair) → first_gain (joined ps) ≡ first_gain ps
unfolding joined
joined_first [] = refl
joined_first (p ∷ ps) = onto_first p (joined ps)

onto_falls : (p : Pair) (ps : List Pair) → 1 ≤ p.width → 0 < p.gain → first_gain ps ≤ p.gain → Falling ps → Falling (onto p ps)
unfolding onto
onto_falls p [] w g l f = (w, g, tt)
onto_falls p (q ∷ qs) w g l f =
    by_onto p q qs Falling
    (λ e. (omega arith, f.1, f.2))
    (λ d. (w, omega arith, f))

-- no gain of a curve is above its first
pub first_is_most : (ps : List Pair) (p : Pair) → Falling ps → Memᴰ p ps → p.gain ≤ first_gain ps
first_is_most [] p f on = absurd (Memᴰ.not-nil on)
first_is_most (q ∷ qs) p f (Memᴰ.head e) = rw e (le_refl _)
first_is_most (q ∷ qs) p f (Memᴰ.tail m) = omega (arith, first_is_most qs p f.2 m, f.1)

pub joined_falls : (ps : List Pair) → Sinking ps → Falling (joined ps)
unfolding joined
joined_falls [] s = tt
joined_falls (p ∷ ps) (w, g, l, s) =
    onto_falls p (joined ps) w g (omega (arith, joined_first ps)) (joined_falls ps s)

-- joining makes no more pairs
onto_few : (p : Pair) (ps : List Pair) → length (onto p ps) ≤ suc (length ps)
unfolding onto
onto_few p [] = le_refl _
onto_few p (q ∷ qs) =
    by_onto p q qs (λ (r : List Pair). length r ≤ suc (length (q ∷ qs))) (λ e. omega arith) (λ d. le_refl _)

pub joined_few : (ps : List Pair) → length (joined ps) ≤ length ps
unfolding joined
joined_few [] = le_refl _
joined_few (p ∷ ps) = omega (arith, onto_few p (joined ps), joined_few ps)

-- `left g k` counts the steps of gate g that are not ended at the increase k
pub record Steps (h : ℕ → ℕ → Head) (left : ℕ → ℕ → ℕ) : Type 0 where
  pub only_ends : (g k i : ℕ) → left g (k + i) ≤ left g k
  pub run_ends : (g k : ℕ) → 0 < (h g k).gain → left g (k + (h g k).width) < left g k

module _ (n : ℕ) (h : ℕ → ℕ → Head) (heads : Heads n h) where
  -- a statement about the runs holds if it holds of none, where there is no head, and of the head's with those behind it
  by_runs : (t : Tree) (f : ℕ) (s : St t) (C : List Pair → Type 0) → ((head h t s).gain ≡ 0 → C [])
      → (0 < (head h t s).gain → C (pair_of (head h t s) ∷ runs h t f (give h t (head h t s).width s))) → C (runs h t (suc f) s)
  unfolding runs
  by_runs t f s C none some = from (eqb (head h t s).gain 0) refl
    where
      from : (b : Bool) → eqb (head h t s).gain 0 ≡ b → C (cond b [] (pair_of (head h t s) ∷ runs h t f (give h t (head h t s).width s)))
      from true e = none (eqb-true _ _ e)
      from false e = some (omega (arith, eqb-false (head h t s).gain 0 e))

  pub runs_first : (t : Tree) (f : ℕ) (s : St t) → first_gain (runs h t f s) ≤ (head h t s).gain
  unfolding runs
  runs_first t zero s = omega arith
  runs_first t (suc f) s = by_runs t f s (λ (ps : List Pair). first_gain ps ≤ (head h t s).gain) (λ z. omega arith) (λ p. le_refl _)

  pub runs_sink : (t : Tree) (f : ℕ) (s : St t) → Sinking (runs h t f s)
  unfolding runs
  runs_sink t zero s = tt
  runs_sink t (suc f) s =
      by_runs t f s Sinking
      (λ z. tt)
      (λ p.
      let s' = give h t (head h t s).width s in (
        some_width n h heads t s p,
        p,
        le_trans (runs_first t f s') (gain_falls n h heads t (head h t s).width s),
        runs_sink t f s',
      ))

  -- ticks within a run
  ticks_in_run : (t : Tree) (k : ℕ) (s : St t) → 0 < (head h t s).gain → k ≤ (head h t s).width
      → worth (plain h) t (ticks h t k s) ≡ worth (plain h) t s + k * (head h t s).gain
  ticks_in_run t zero s p l = rw zero-mul (omega arith)
  ticks_in_run t (suc k) s p l = rw (← give_is_ticks n h heads t k s p l) (give_adds n h heads t (suc k) s l p)

  run_is_ticks : (t : Tree) (w : ℕ) (s : St t) → 0 < (head h t s).gain → 0 < w → w ≤ (head h t s).width → ticks h t w s ≡ give h t w s
  run_is_ticks t zero s p q l = absurd (omega arith)
  run_is_ticks t (suc w) s p q l = sym (give_is_ticks n h heads t w s p l)

  -- a run, or a part of it, and what follows
  run_then : (t : Tree) (s : St t) → 0 < (head h t s).gain → (ps : List Pair) (k : ℕ)
      → ((j : ℕ) → worth (plain h) t (ticks h t j (give h t (head h t s).width s)) ≡ worth (plain h) t (give h t (head h t s).width s) + count_off ps j)
      → worth (plain h) t (ticks h t k s) ≡ worth (plain h) t s + count_off (pair_of (head h t s) ∷ ps) k
  run_then t s p ps k rest = from (le_or_lt k w)
    where
      w : ℕ
      w = (head h t s).width

      from : (k ≤ w) ⊎ (w < k) → worth (plain h) t (ticks h t k s) ≡ worth (plain h) t s + count_off (pair_of (head h t s) ∷ ps) k
      from (inl l) = rw (count_off_within (pair_of (head h t s)) ps k l) (ticks_in_run t k s p l)
      from (inr l) =
          let e : k ≡ w + (k - w) = omega arith in
          let run = run_is_ticks t w s p (some_width n h heads t s p) (le_refl w) in
          rw (e, ticks_add h t w (k - w) s, run, count_off_beyond (pair_of (head h t s)) ps (k - w))
          (omega (arith, rest (k - w), give_adds n h heads t w s (le_refl w) p))

  module _ (left : ℕ → ℕ → ℕ) (steps : Steps h left) where
    give_ends : (t : Tree) (w : ℕ) (s : St t) → across left t (give h t w s) ≤ across left t s
    give_ends (wire l) w s = le_refl _
    give_ends (series P m Q) w s =
        by_item h P m Q s
        (λ (i : Item). across left (series P m Q) (item_given h P m Q w s i) ≤ across left (series P m Q) s)
        (λ ab ac. omega (arith, give_ends P w s.0))
        (λ ba bc. omega (arith, steps.only_ends m s.1 w))
        (λ ca cb. omega (arith, give_ends Q w s.2))
    give_ends (parallel P Q) w s = omega (arith, give_ends P w s.0, give_ends Q w s.1)

    -- a whole run ends some gate's step
    pub run_ends_step : (t : Tree) (w : ℕ) (s : St t) → w ≡ (head h t s).width → 0 < (head h t s).gain → across left t (give h t w s) < across left t s
    run_ends_step (wire l) w s = λ e pos. absurd (omega arith)
    run_ends_step (series P m Q) w s =
        by_item h P m Q s
        (λ (i : Item). w ≡ (item_head h P m Q s i).width → 0 < (item_head h P m Q s i).gain → across left (series P m Q) (item_given h P m Q w s i) < across left (series P m Q) s)
        (λ ab ac e pos. omega (arith, run_ends_step P w s.0 e pos))
        (λ ba bc e pos. rw e (omega (arith, steps.run_ends m s.1 pos)))
        (λ ca cb e pos. omega (arith, run_ends_step Q w s.2 e pos))
    run_ends_step (parallel P Q) w s =
        by_sides (head h P s.0) (head h Q s.1)
        (λ (r : Head). w ≡ r.width → 0 < r.gain → across left (parallel P Q) (give h (parallel P Q) w s) < across left (parallel P Q) s)
        (λ z e pos. omega (arith, give_ends P w s.0, run_ends_step Q w s.1 e pos))
        (λ pos z e _. omega (arith, run_ends_step P w s.0 e pos, give_ends Q w s.1))
        (λ pos pos' e _. narrower (dec_le (head h P s.0).width (head h Q s.1).width)
        (λ e'. run_ends_step P w s.0 e' pos)
        (λ e'. run_ends_step Q w s.1 e' pos') (give_ends P w s.0) (give_ends Q w s.1) e)
      where
        narrower : {p q p' q' a b : ℕ} → Dec (a ≤ b) → (w ≡ a → p' < p) → (w ≡ b → q' < q) → p' ≤ p → q' ≤ q → w ≡ min a b → p' + q' < p + q
        narrower (yes l) onP onQ lp lq e = omega (arith, onP (omega arith))
        narrower (no l) onP onQ lp lq e = omega (arith, onQ (omega arith))

    -- there are no more runs than steps
    pub runs_few : (t : Tree) (f : ℕ) (s : St t) → length (runs h t f s) ≤ across left t s
    unfolding runs
    runs_few t zero s = omega arith
    runs_few t (suc f) s =
        by_runs t f s
        (λ (ps : List Pair). length ps ≤ across left t s)
        (λ z. omega arith)
        (λ p. omega (
          arith,
          runs_few t f (give h t (head h t s).width s),
          run_ends_step t (head h t s).width s refl p,
        ))

    -- without a step left there is no head
    pub no_steps : (t : Tree) (s : St t) → across left t s ≤ 0 → (head h t s).gain ≡ 0
    no_steps t s l = from (eq-zero-or-pos (head h t s).gain)
      where
        from : ((head h t s).gain ≡ 0) ⊎ (0 < (head h t s).gain) → (head h t s).gain ≡ 0
        from (inl z) = z
        from (inr p) = absurd (omega (arith, run_ends_step t (head h t s).width s refl p))

    -- with room for as many runs as there are steps, k ticks add what the first k ticks of the record earn
    pub ticks_earn : (t : Tree) (f : ℕ) (s : St t) → across left t s ≤ f → (k : ℕ)
        → worth (plain h) t (ticks h t k s) ≡ worth (plain h) t s + count_off (runs h t f s) k
    unfolding runs count_off
    ticks_earn t zero s l k = rw (ticks_none n h heads t k s (no_steps t s l)) (omega arith)
    ticks_earn t (suc f) s l k =
        by_runs t f s
        (λ (ps : List Pair). worth (plain h) t (ticks h t k s) ≡ worth (plain h) t s + count_off ps k)
        (λ z. rw (ticks_none n h heads t k s z) (omega arith))
        (λ p.
        let w = (head h t s).width in
        let s' = give h t w s in
        run_then t s p (runs h t f s') k (ticks_earn t f s' (omega (arith, run_ends_step t w s refl p))))
