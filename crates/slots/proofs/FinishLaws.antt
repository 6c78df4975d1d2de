-- The searches for the only live slot and for the lowest gate to which a live slot leads. Assumes nothing.
use mathlib.Core.Path.{◌≡◌, sym, ◌∙◌, subst}
use Rattle.std.specs.Prelude.{Some, None}
use mathlib.Core.Bool.{cond}
use mathlib.Core.List.{List}
use Prim.Native.Nat.{ℕ, ◌+◌, ◌<◌, min}
use native.Mathlib.Decide.{ℕ_discrete, dec_lt}
use native.Mathlib.Omega.{arith}
use borrow.Author.Tests.{eqb-true, eqb-false, eq-eqb, ne_eqb, lt-ltb, le-ltb}
use lib.Dec.{eqb, ltb}
use lib.ListN.{get_or}
use Rattle.lists.specs.Search.{lesser}
use Rattle.lists.proofs.Search.{says_by, least_more}
use Rattle.slots.specs.Sought.{LiveFrom, OnlyLive, LowestLed}

pub only_none : (lives : List ℕ) (k : ℕ) → LiveFrom lives 0 k None → OnlyLive lives k None
only_none lives k f q l v p = f q l (omega arith, v)

pub only_one : (lives : List ℕ) (k i : ℕ) → LiveFrom lives 0 k (Some i) → LiveFrom lives (i + 1) k None → OnlyLive lives k (Some i)
only_one lives k i (below, low) g = record { within = below; live = low.holds.1; only = λ q h v. same q h v (ℕ_discrete q i) }
  where
    same : (q : ℕ) → q < k → get_or lives q 0 ≡ 1 → Dec (q ≡ i) → q ≡ i
    same q h v (yes p) = p
    same q h v (no o) = apart (dec_lt q i)
      where
        apart : Dec (q < i) → q ≡ i
        apart (yes l) = absurd (low.none_below q l (omega arith, v))
        apart (no m) = absurd (g q h (omega arith, v))

pub only_two : (lives : List ℕ) (k i j : ℕ) → LiveFrom lives 0 k (Some i) → LiveFrom lives (i + 1) k (Some j) → OnlyLive lives k None
only_two lives k i j (l, f) (m, g) q h v p =
    let e : i ≡ j = p i l f.holds.1 ∙ sym (p j m g.holds.1) in
    let later = g.holds.0 in
    omega arith

-- the lesser of g and the gate of a slot, by what is known of the slot
pub dead_kept : (l v g : ℕ) → ¬ (l ≡ 1) → g ≡ lesser (eqb l 1) v g
unfolding lesser
dead_kept l v g n = rw (ne_eqb l 1 n)

pub live_lesser : (l v g r : ℕ) → l ≡ 1 → r ≡ min g v → r ≡ lesser (eqb l 1) v g
unfolding lesser
live_lesser l v g r e m = rw (eq-eqb l 1 e) (go (dec_lt v g))
  where
    go : Dec (v < g) → r ≡ cond (ltb v g) v g
    go (yes h) = rw (lt-ltb v g h) (omega arith)
    go (no n) = rw (le-ltb v g (omega arith)) (omega arith)

-- one slot more
pub led_more : (lives tos : List ℕ) (k b g r : ℕ) → LowestLed lives tos k b g → r ≡ lesser (eqb (get_or lives k 0) 1) (get_or tos k 0) g → LowestLed lives tos (k + 1) b r
led_more lives tos k b g r l e =
    let live = get_or lives k 0 in
    subst (LowestLed lives tos (k + 1) b) (sym e) (least_more l (omega arith) (eqb live 1) (says_by (live ≡ 1) (eqb live 1) (eqb-true live 1) (eqb-false live 1)))
