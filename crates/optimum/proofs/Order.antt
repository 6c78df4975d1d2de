-- The comparison of heads and their sum, by the reasons behind them: what `turn` and `beside` answer, taken apart by cases.
-- Assumes nothing.
use mathlib.Core.Path.{◌≡◌, refl}
use mathlib.Core.Logic.{◌⊎◌, inl, inr}
use mathlib.Core.Bool.{Bool, true, false, cond}
use Prim.Native.Nat.{◌+◌, ◌≤◌, ◌<◌, max, min}
use native.Mathlib.Omega.{arith}
use lib.Dec.{ltb, eqb}
use borrow.Author.Tests.{ltb-true, ltb-false, eqb-true, eqb-false, eq-eqb, ne_eqb}
use Rattle.optimum.specs.Head.{Head, leads, Item, left, gate, right, turn, beside}

-- a comes before b
abbrev pub Ahead : Head → Head → Type 0
Ahead a b = (b.gain < a.gain) ⊎ ((a.gain ≡ b.gain) × (a.rank < b.rank))

-- b does not come before a
abbrev pub Leads : Head → Head → Type 0
Leads a b = (b.gain < a.gain) ⊎ ((a.gain ≡ b.gain) × (a.rank ≤ b.rank))

pub ahead_leads : (a b : Head) → Ahead a b → Leads a b
ahead_leads a b (inl g) = inl g
ahead_leads a b (inr (e, r)) = inr (e, omega arith)

-- ahead of what leads a head is ahead of that head
ahead_over : (a b c : Head) → Ahead a b → Leads b c → Ahead a c
ahead_over a b c (inl g) (inl g') = inl (omega arith)
ahead_over a b c (inl g) (inr (e, r)) = inl (omega arith)
ahead_over a b c (inr (e, r)) (inl g) = inl (omega arith)
ahead_over a b c (inr (e, r)) (inr (e', r')) = inr (omega arith, omega arith)

-- what the answer of `leads` says
data Answer (a b : Head) : Bool → Type 0 where
  ahead : Ahead a b → Answer a b true
  behind : Leads b a → Answer a b false

answer : (a b : Head) → Answer a b (leads a b)
unfolding leads
answer a b = greater (ltb b.gain a.gain) refl
  where
    smaller_rank : (t : Bool) → ltb a.rank b.rank ≡ t → a.gain ≡ b.gain → Answer a b t
    smaller_rank true e g = ahead (inr (g, ltb-true _ _ e))
    smaller_rank false e g = behind (inr (omega arith, ltb-false _ _ e))

    equal : (t : Bool) → eqb a.gain b.gain ≡ t → a.gain ≤ b.gain → Answer a b (cond t (ltb a.rank b.rank) false)
    equal true e g = smaller_rank _ refl (eqb-true _ _ e)
    equal false e g = behind (inl (omega (arith, eqb-false a.gain b.gain e)))

    greater : (t : Bool) → ltb b.gain a.gain ≡ t → Answer a b (cond t true (cond (eqb a.gain b.gain) (ltb a.rank b.rank) false))
    greater true e = ahead (inl (ltb-true _ _ e))
    greater false e = equal _ refl (ltb-false _ _ e)

-- A statement about the turn of a series part holds if it holds of each item for the reason that it has the turn.
pub by_turn : (a b c : Head) (C : Item → Type 0) → (Leads a b → Leads a c → C left) → (Ahead b a → Leads b c → C gate)
    → (Ahead c a → Ahead c b → C right) → C (turn a b c)
unfolding turn
by_turn a b c C on_left on_gate on_right = go (leads b a) (leads c b) (leads c a) (answer b a) (answer c b) (answer c a)
  where
    go : (p q r : Bool) → Answer b a p → Answer c b q → Answer c a r → C (cond p (cond q right gate) (cond r right left))
    go true true r (ahead ba) (ahead cb) _ = on_right (ahead_over c b a cb (ahead_leads b a ba)) cb
    go true false r (ahead ba) (behind cb) _ = on_gate ba cb
    go false q true (behind ba) _ (ahead ca) = on_right ca (ahead_over c a b ca ba)
    go false q false (behind ba) _ (behind ca) = on_left ba ca

-- the two heads side by side where both sides have one
abbrev pub both : Head → Head → Head
both a b = record { width = min a.width b.width; gain = a.gain + b.gain; rank = max a.rank b.rank }

-- A statement about two heads side by side holds if it holds for each case of sides that have one.
pub by_sides : (a b : Head) (C : Head → Type 0) → (a.gain ≡ 0 → C b) → (0 < a.gain → b.gain ≡ 0 → C a)
    → (0 < a.gain → 0 < b.gain → C (both a b)) → C (beside a b)
unfolding beside
by_sides a b C on_right on_left on_both = go (eqb a.gain 0) (eqb b.gain 0) refl refl
  where
    go : (p q : Bool) → eqb a.gain 0 ≡ p → eqb b.gain 0 ≡ q → C (cond p b (cond q a (both a b)))
    go true q ea eb = on_right (eqb-true _ _ ea)
    go false true ea eb = on_left (omega (arith, eqb-false a.gain 0 ea)) (eqb-true _ _ eb)
    go false false ea eb = on_both (omega (arith, eqb-false a.gain 0 ea)) (omega (arith, eqb-false b.gain 0 eb))

-- side by side, by who has a head
pub beside_right : (a b : Head) → a.gain ≡ 0 → beside a b ≡ b
unfolding beside
beside_right a b z = rw (eq-eqb _ _ z) refl

pub beside_left : (a b : Head) → 0 < a.gain → b.gain ≡ 0 → beside a b ≡ a
unfolding beside
beside_left a b p z = rw (ne_eqb a.gain 0 (λ e. omega arith), eq-eqb _ _ z) refl

pub beside_both : (a b : Head) → 0 < a.gain → 0 < b.gain → beside a b ≡ both a b
unfolding beside
beside_both a b p q = rw (ne_eqb a.gain 0 (λ e. omega arith), ne_eqb b.gain 0 (λ e. omega arith)) refl
