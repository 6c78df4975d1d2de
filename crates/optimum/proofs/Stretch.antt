-- Handing out in finer ticks: where every head is m times as wide, with the same gain and rank, m ticks do what one did. So the raised start, the increases after m × k ticks and the runs are m times the old, runs with the same gains.
-- Assumes nothing.
use mathlib.Core.Path.{◌≡◌, refl, sym, ◌∙◌, ap}
use mathlib.Core.Logic.{◌⊎◌, inl, inr}
use mathlib.Core.List.{List, [], ◌∷◌}
use Prim.Native.Nat.{ℕ, zero, suc, ◌+◌, ◌*◌, ◌-◌, ◌≤◌, ◌<◌}
use native.Mathlib.Nat.{mul-zero, mul-add, mul-suc, mul-one, mul-sub, mul-le-mul_left, eq-zero-or-pos}
use native.Mathlib.Omega.{arith}
use lib.Dec.{eqb}
use Rattle.lists.proofs.Bool.{cases}
use Rattle.lists.proofs.Compare.{mul_max, mul_min}
use Rattle.model.specs.Curve.{Pair}
use Rattle.model.specs.Scale.{scaled_list, widened}
use Rattle.model.proofs.Scale.{get_or_scaled}
use Rattle.optimum.specs.Tree.{wire, series, parallel, Tree, St, zeros, longest}
use Rattle.optimum.specs.Head.{Head, Heads, Item, left, gate, right, item, leads, turn, beside, best_of}
use Rattle.optimum.specs.Handout.{head, give, ticks, raise}
use Rattle.optimum.specs.Increases.{read}
use Rattle.optimum.specs.Runs.{runs, onto, joined}
use Rattle.optimum.proofs.Order.{by_sides, beside_right, beside_left, beside_both}
use Rattle.optimum.proofs.Handout.{ticks_add, give_is_ticks, some_width, ticks_none, give_none}

-- a tree with wires that take m times as long
abbrev pub scale : ℕ → Tree → Tree
scale m (wire w) = wire (m * w)
scale m (series P g Q) = series (scale m P) g (scale m Q)
scale m (parallel P Q) = parallel (scale m P) (scale m Q)

-- m times the increases
abbrev pub times : (m : ℕ) (t : Tree) → St t → St (scale m t)
times m (wire w) s = tt
times m (series P g Q) s = (times m P s.0, m * s.1, times m Q s.2)
times m (parallel P Q) s = (times m P s.0, times m Q s.1)

-- a head m times as wide
abbrev pub stretch : ℕ → Head → Head
stretch m a = record { width = m * a.width; gain = a.gain; rank = a.rank }

-- the heads e are those of h in ticks m times as fine
abbrev pub Stretches : ℕ → (ℕ → ℕ → Head) → (ℕ → ℕ → Head) → Type 0
Stretches m h e = (g k : ℕ) → e g (m * k) ≡ stretch m (h g k)

module _ (m : ℕ) where
  -- neither the turn of an item nor which side has a head hangs on widths
  turn_stretch : (a b c : Head) → turn (stretch m a) (stretch m b) (stretch m c) ≡ turn a b c
  unfolding turn leads
  turn_stretch a b c = refl

  item_stretch : (i : Item) (a b c : Head) → item i (stretch m a) (stretch m b) (stretch m c) ≡ stretch m (item i a b c)
  item_stretch left a b c = refl
  item_stretch gate a b c = refl
  item_stretch right a b c = refl

  best_stretch : (a b c : Head) → best_of (stretch m a) (stretch m b) (stretch m c) ≡ stretch m (best_of a b c)
  best_stretch a b c = rw (turn_stretch a b c) (item_stretch (turn a b c) a b c)

  beside_stretch : (a b : Head) → beside (stretch m a) (stretch m b) ≡ stretch m (beside a b)
  beside_stretch a b =
      by_sides a b
      (λ (r : Head). beside (stretch m a) (stretch m b) ≡ stretch m r)
      (λ z. beside_right (stretch m a) (stretch m b) z)
      (λ p z. beside_left (stretch m a) (stretch m b) p z)
      (λ p q. beside_both (stretch m a) (stretch m b) p q ∙ rw (mul_min m a.width b.width) refl)

  zeros_times : (t : Tree) → zeros (scale m t) ≡ times m t (zeros t)
  zeros_times (wire w) = refl
  zeros_times (series P g Q) = rw (zeros_times P, zeros_times Q, mul-zero) refl
  zeros_times (parallel P Q) = rw (zeros_times P, zeros_times Q) refl

  pub read_times : (t : Tree) (x : List ℕ) → read (scale m t) (scaled_list m x) ≡ times m t (read t x)
  read_times (wire w) x = refl
  read_times (series P g Q) x = rw (read_times P x, get_or_scaled m x g, read_times Q x) refl
  read_times (parallel P Q) x = rw (read_times P x, read_times Q x) refl

  onto_widened : (p : Pair) (ps : List Pair) → onto (record { width = m * p.width; gain = p.gain }) (widened m ps) ≡ widened m (onto p ps)
  unfolding onto
  onto_widened p [] = refl
  onto_widened p (q ∷ qs) =
      cases (eqb p.gain q.gain) (λ e. rw (e, mul-add m p.width q.width) refl) (λ e. rw e refl)

  pub joined_widened : (ps : List Pair) → joined (widened m ps) ≡ widened m (joined ps)
  unfolding joined
  joined_widened [] = refl
  joined_widened (p ∷ ps) = rw (joined_widened ps) (onto_widened p (joined ps))

  module _ (d e : ℕ → ℕ) (slower : (g : ℕ) → e g ≡ m * d g) where
    longest_stretch : (t : Tree) (s : St t) → longest e (scale m t) (times m t s) ≡ m * longest d t s
    longest_stretch (wire w) s = refl
    longest_stretch (series P g Q) s = rw (longest_stretch P s.0, longest_stretch Q s.2, slower g) (simp mul-add refl)
    longest_stretch (parallel P Q) s = rw (longest_stretch P s.0, longest_stretch Q s.1) (mul_max m _ _)

    pub start_stretch : (t : Tree) → longest e (scale m t) (zeros (scale m t)) ≡ m * longest d t (zeros t)
    start_stretch t = ap (longest e (scale m t)) (zeros_times t) ∙ longest_stretch t (zeros t)

  module _ (h e : ℕ → ℕ → Head) (finer : Stretches m h e) where
    head_stretch : (t : Tree) (s : St t) → head e (scale m t) (times m t s) ≡ stretch m (head h t s)
    head_stretch (wire w) s = rw mul-zero refl
    head_stretch (series P g Q) s =
        rw (head_stretch P s.0, finer g s.1, head_stretch Q s.2) (best_stretch (head h P s.0) (h g s.1) (head h Q s.2))
    head_stretch (parallel P Q) s =
        rw (head_stretch P s.0, head_stretch Q s.1) (beside_stretch (head h P s.0) (head h Q s.1))

    give_stretch : (t : Tree) (w : ℕ) (s : St t) → give e (scale m t) (m * w) (times m t s) ≡ times m t (give h t w s)
    give_stretch (wire l) w s = refl
    give_stretch (series P g Q) w s =
        rw (head_stretch P s.0, finer g s.1, head_stretch Q s.2, turn_stretch (head h P s.0) (h g s.1) (head h Q s.2))
        (on (turn (head h P s.0) (h g s.1) (head h Q s.2)) (give_stretch P w s.0) (give_stretch Q w s.2))
      where
        on : (i : Item) → give e (scale m P) (m * w) (times m P s.0) ≡ times m P (give h P w s.0)
            → give e (scale m Q) (m * w) (times m Q s.2) ≡ times m Q (give h Q w s.2)
            → item i (give e (scale m P) (m * w) (times m P s.0), m * s.1, times m Q s.2) (times m P s.0, m * s.1 + m * w, times m Q s.2)
            (times m P s.0, m * s.1, give e (scale m Q) (m * w) (times m Q s.2))
            ≡ times m (series P g Q) (item i (give h P w s.0, s.1, s.2) (s.0, s.1 + w, s.2) (s.0, s.1, give h Q w s.2))
        on left p q = rw p refl
        on gate p q = rw (mul-add m s.1 w) refl
        on right p q = rw q refl
    give_stretch (parallel P Q) w s = rw (give_stretch P w s.0, give_stretch Q w s.1) refl

    pub runs_stretch : (t : Tree) (f : ℕ) (s : St t) → runs e (scale m t) f (times m t s) ≡ widened m (runs h t f s)
    unfolding runs
    runs_stretch t zero s = refl
    runs_stretch t (suc f) s =
        let w = (head h t s).width in
        rw (head_stretch t s, give_stretch t w s, runs_stretch t f (give h t w s))
        (cases (eqb (head h t s).gain 0) (λ z. rw z refl) (λ p. rw p refl))

    module _ (n : ℕ) (heads : Heads n h) (finer_heads : Heads n e) (some : 1 ≤ m) where
      -- one old tick is m new ones
      tick_stretch : (t : Tree) (s : St t) → ticks e (scale m t) m (times m t s) ≡ times m t (give h t 1 s)
      tick_stretch t s = go (eq-zero-or-pos (head h t s).gain)
        where
          same_gain : (head e (scale m t) (times m t s)).gain ≡ (head h t s).gain
          same_gain = ap (λ (a : Head). a.gain) (head_stretch t s)

          go : ((head h t s).gain ≡ 0) ⊎ (0 < (head h t s).gain) → ticks e (scale m t) m (times m t s) ≡ times m t (give h t 1 s)
          go (inl z) =
              ticks_none n e finer_heads (scale m t) m (times m t s) (same_gain ∙ z)
              ∙ ap (times m t) (sym (give_none n h heads t 1 s z))
          go (inr p) =
              let same_width_lem = ap (λ (a : Head). a.width) (head_stretch t s) in
              let wide = mul-le-mul_left m (some_width n h heads t s p) in
              let k : suc (m - 1) ≡ m = omega arith in
              let all =
              give_is_ticks n e finer_heads (scale m t) (m - 1) (times m t s) (omega (arith, same_gain)) (omega (arith, mul-one m))
              in
              sym (rw k at all)
              ∙ ap (λ (w : ℕ). give e (scale m t) w (times m t s)) (sym (mul-one m))
              ∙ give_stretch t 1 s

      pub ticks_stretch : (t : Tree) (k : ℕ) (s : St t) → ticks e (scale m t) (m * k) (times m t s) ≡ times m t (ticks h t k s)
      ticks_stretch t zero s = rw mul-zero refl
      ticks_stretch t (suc k) s =
          let more : m * suc k ≡ m + m * k = omega (arith, mul-suc m k) in
          rw more (ticks_add e (scale m t) m (m * k) (times m t s) ∙ rw (tick_stretch t s) (ticks_stretch t k (give h t 1 s)))

      pub raise_stretch : (d b : ℕ → ℕ) → ((g : ℕ) → b g ≡ m * d g) → (t : Tree) → raise b e (scale m t) ≡ times m t (raise d h t)
      raise_stretch d b slower (wire w) = refl
      raise_stretch d b slower (series P g Q) = rw (raise_stretch d b slower P, raise_stretch d b slower Q, mul-zero) refl
      raise_stretch d b slower (parallel P Q) =
          let p = longest d P (zeros P) in
          let q = longest d Q (zeros Q) in
          rw (
            raise_stretch d b slower P,
            raise_stretch d b slower Q,
            start_stretch d b slower P,
            start_stretch d b slower Q,
            ← mul-sub m q p,
            ← mul-sub m p q,
            ticks_stretch P (q - p) (raise d h P),
            ticks_stretch Q (p - q) (raise d h Q),
          )
          refl
