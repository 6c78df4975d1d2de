-- The heads of a block's gates are heads: gains fall where the drops of every gate's steps do not rise, a gain lasts to the end of its step, and a tick that gains lies within the widths.
-- Assumes nothing.
use mathlib.Core.Path.{◌≡◌, refl, sym, ◌∙◌, ap}
use mathlib.Core.Logic.{◌⊎◌, inl, inr}
use mathlib.Core.Bool.{Bool, true, false, cond}
use mathlib.Core.List.{List, [], ◌∷◌}
use Prim.Native.Nat.{ℕ, suc, ◌+◌, ◌*◌, ◌-◌, ◌≤◌, ◌<◌}
use native.Mathlib.Nat.{zero-mul, mul-le-mul_right, le_refl, eq-zero-or-pos}
use native.Mathlib.Omega.{arith}
use lib.Dec.{ltb}
use borrow.Author.Tests.{ltb-true, ltb-false, lt-ltb, le-ltb, eq-eqb, ne_eqb}
use lib.ListN.{length}
use Rattle.lists.proofs.Compare.{le_or_lt}
use Rattle.model.specs.Block.{Step, Block, gate, gate_count, widths}
use Rattle.model.specs.Gain.{drop_of, input_activity, gain}
use Rattle.model.proofs.Gain.{gain_beyond}
use Rattle.optimum.specs.Head.{no_head, rank, Heads}
use Rattle.optimum.specs.Gates.{room, first_drop, Descending, gate_head}
use Rattle.optimum.proofs.Runs.{Steps}

-- a tick lies in the first step, or behind it
in_step : (k w : ℕ) (C : Type 0) → (k < w → ltb k w ≡ true → C) → (w ≤ k → ltb k w ≡ false → C) → C
in_step k w C inside behind = go (ltb k w) refl
  where
    go : (b : Bool) → ltb k w ≡ b → C
    go true e = inside (ltb-true k w e) e
    go false e = behind (ltb-false k w e) e

-- no drop is above the first
drop_at_most_first : (ss : List Step) → Descending ss → (k : ℕ) → drop_of ss k ≤ first_drop ss
unfolding drop_of
drop_at_most_first [] h k = le_refl _
drop_at_most_first (s ∷ ss) (h, hs) k =
    in_step k s.width _ (λ l e. rw e (le_refl _)) (λ l e. rw e (omega (arith, drop_at_most_first ss hs (k - s.width))))

drop_falls : (ss : List Step) → Descending ss → (k : ℕ) → drop_of ss (suc k) ≤ drop_of ss k
unfolding drop_of
drop_falls [] h k = le_refl _
drop_falls (s ∷ ss) (h, hs) k =
    in_step k s.width _
    (λ l e. rw e (drop_at_most_first (s ∷ ss) (h, hs) (suc k)))
    (λ l e.
    let m : s.width ≤ suc k = omega arith in
    let n : suc k - s.width ≡ suc (k - s.width) = omega arith in
    rw (e, le-ltb (suc k) s.width m, n) (drop_falls ss hs (k - s.width)))

-- the drop and the room along a step
goes_on : (ss : List Step) (k i : ℕ) → i < room ss k → (drop_of ss (k + i) ≡ drop_of ss k) × (room ss (k + i) ≡ room ss k - i)
unfolding drop_of room
goes_on [] k i = λ r. absurd (omega arith)
goes_on (s ∷ ss) k i =
    in_step k s.width
    (i < room (s ∷ ss) k → (drop_of (s ∷ ss) (k + i) ≡ drop_of (s ∷ ss) k) × (room (s ∷ ss) (k + i) ≡ room (s ∷ ss) k - i))
    (λ l e. rw e
    (λ r.
    let m : k + i < s.width = omega arith in
    rw (lt-ltb (k + i) s.width m) (refl, omega arith)))
    (λ l e. rw e
    (λ r.
    let m : s.width ≤ k + i = omega arith in
    let n : k + i - s.width ≡ k - s.width + i = omega arith in
    rw (le-ltb (k + i) s.width m, n) (goes_on ss (k - s.width) i r)))

-- a tick with a drop has room
dropping : (ss : List Step) (k : ℕ) → 0 < drop_of ss k → 0 < room ss k
unfolding drop_of room
dropping [] k = λ p. absurd (omega arith)
dropping (s ∷ ss) k =
    in_step k s.width (0 < drop_of (s ∷ ss) k → 0 < room (s ∷ ss) k)
    (λ l e. rw e (λ p. omega arith))
    (λ l e. rw e (dropping ss (k - s.width)))

module _ (B : Block) where
  -- what the head of a gate is, with a gain and without
  no_gain : (g k : ℕ) → gain B g k ≡ 0 → gate_head B g k ≡ no_head
  unfolding gate_head
  no_gain g k z = rw (eq-eqb (gain B g k) 0 z) refl

  some_gain : (g k : ℕ) → 0 < gain B g k
      → gate_head B g k ≡ record { width = room (gate B g).steps k; gain = gain B g k; rank = rank (gate_count B) g }
  unfolding gate_head
  some_gain g k p = rw (ne_eqb (gain B g k) 0 (λ e. omega arith)) refl

  pub gate_gain : (g k : ℕ) → (gate_head B g k).gain ≡ gain B g k
  gate_gain g k = go (eq-zero-or-pos (gain B g k))
    where
      go : (gain B g k ≡ 0) ⊎ (0 < gain B g k) → (gate_head B g k).gain ≡ gain B g k
      go (inl z) = rw (no_gain g k z) (sym z)
      go (inr p) = rw (some_gain g k p) refl

  gain_drops : (g k : ℕ) → 0 < gain B g k → 0 < drop_of (gate B g).steps k
  unfolding gain
  gain_drops g k p = go (eq-zero-or-pos (drop_of (gate B g).steps k))
    where
      go : (drop_of (gate B g).steps k ≡ 0) ⊎ (0 < drop_of (gate B g).steps k) → 0 < drop_of (gate B g).steps k
      go (inl z) = absurd (omega (arith, simp (z, zero-mul) at p))
      go (inr d) = d

  -- a tick that gains lies within the widths
  pub within_widths : (g k : ℕ) → 0 < (gate_head B g k).gain → k < widths (gate B g).steps
  within_widths g k p = from (le_or_lt (widths (gate B g).steps) k)
    where
      from : (widths (gate B g).steps ≤ k) ⊎ (k < widths (gate B g).steps) → k < widths (gate B g).steps
      from (inl l) = absurd (omega (arith, gate_gain g k, gain_beyond B g k l))
      from (inr l) = l

  pub gate_heads : ((g : ℕ) → Descending (gate B g).steps) → Heads (gate_count B) (gate_head B)
  unfolding gain
  gate_heads descending =
      record {
        falls = λ g k.
            omega (
              arith,
              gate_gain g k,
              gate_gain g (suc k),
              mul-le-mul_right (input_activity B g) (drop_falls (gate B g).steps (descending g) k),
            );
        ranked = λ g k p. rw (some_gain g k (omega (arith, gate_gain g k))) refl;
        unranked = λ g k z. rw (no_gain g k (omega (arith, gate_gain g k))) refl;
        wide = λ g k p.
            let q : 0 < gain B g k = omega (arith, gate_gain g k) in
            rw (some_gain g k q) (dropping (gate B g).steps k (gain_drops g k q));
        goes_on = λ g k i. along g k i (eq-zero-or-pos (gain B g k));
      }
    where
      along : (g k i : ℕ) → (gain B g k ≡ 0) ⊎ (0 < gain B g k) → i < (gate_head B g k).width
          → gate_head B g (k + i) ≡ record { width = (gate_head B g k).width - i; gain = (gate_head B g k).gain; rank = (gate_head B g k).rank }
      along g k i (inl z) = rw (no_gain g k z) (λ l. absurd (omega arith))
      along g k i (inr p) =
          rw (some_gain g k p)
          (λ l.
          let r = goes_on (gate B g).steps k i l in
          let e : gain B g (k + i) ≡ gain B g k = ap (λ (c : ℕ). c * input_activity B g) r.0 in
          some_gain g (k + i) (omega arith) ∙ rw (e, r.1) refl)

-- the steps that are not ended at the increase k
pub steps_left : List Step → ℕ → ℕ
steps_left [] k = 0
steps_left (s ∷ ss) k = cond (ltb k s.width) (suc (length ss)) (steps_left ss (k - s.width))

left_at_most : (ss : List Step) (k : ℕ) → steps_left ss k ≤ length ss
unfolding steps_left
left_at_most [] k = le_refl _
left_at_most (s ∷ ss) k =
    in_step k s.width _ (λ l e. rw e (le_refl _)) (λ l e. rw e (omega (arith, left_at_most ss (k - s.width))))

left_falls : (ss : List Step) (k i : ℕ) → steps_left ss (k + i) ≤ steps_left ss k
unfolding steps_left
left_falls [] k i = le_refl _
left_falls (s ∷ ss) k i =
    in_step k s.width _
    (λ l e. rw e (left_at_most (s ∷ ss) (k + i)))
    (λ l e.
    let m : s.width ≤ k + i = omega arith in
    let n : k + i - s.width ≡ k - s.width + i = omega arith in
    rw (e, le-ltb (k + i) s.width m, n) (left_falls ss (k - s.width) i))

-- the rest of a step, used up, ends it
room_ends : (ss : List Step) (k : ℕ) → 0 < room ss k → steps_left ss (k + room ss k) < steps_left ss k
unfolding steps_left room
room_ends [] k = λ p. absurd (omega arith)
room_ends (s ∷ ss) k =
    in_step k s.width (0 < room (s ∷ ss) k → steps_left (s ∷ ss) (k + room (s ∷ ss) k) < steps_left (s ∷ ss) k)
    (λ l e. rw e
    (λ p.
    let m : s.width ≤ k + (s.width - k) = omega arith in
    rw (le-ltb (k + (s.width - k)) s.width m) (omega (arith, left_at_most ss (k + (s.width - k) - s.width)))))
    (λ l e. rw e
    (λ p.
    let r = room ss (k - s.width) in
    let m : s.width ≤ k + r = omega arith in
    let n : k + r - s.width ≡ k - s.width + r = omega arith in
    rw (le-ltb (k + r) s.width m, n) (room_ends ss (k - s.width) p)))

module _ (B : Block) where
  -- the steps that gate g has left
  abbrev pub gate_left : ℕ → ℕ → ℕ
  gate_left g = steps_left (gate B g).steps

  pub gate_left_at_most : (g k : ℕ) → gate_left g k ≤ length (gate B g).steps
  gate_left_at_most g k = left_at_most (gate B g).steps k

  pub gate_steps : Steps (gate_head B) gate_left
  gate_steps =
      record {
        only_ends = λ g k i. left_falls (gate B g).steps k i;
        run_ends = λ g k p.
            let q : 0 < gain B g k = omega (arith, gate_gain B g k) in
            rw (some_gain B g k q) (room_ends (gate B g).steps k (dropping (gate B g).steps k (gain_drops B g k q)));
      }
