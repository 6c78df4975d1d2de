-- The table of joined pairs: empty at first, and one pair more after each wire. Two pairs of gates within the limit have different places.
-- Assumes nothing.
use mathlib.Core.Path.{◌≡◌, refl, sym, subst}
use mathlib.Core.Logic.{◌≢◌}
use mathlib.Core.Bool.{Bool, true, false, not, ◌&&◌, ◌||◌}
use mathlib.Core.List.{List, [], ◌∷◌}
use Prim.Native.Nat.{ℕ, ◌<◌, ◌≤◌}
use native.Mathlib.Nat.{le_refl}
use native.Mathlib.Omega.{arith}
use borrow.Author.Tests.{eq-eqb, eqb-true}
use lib.Dec.{T, eqb}
use lib.ListN.{length, get_or, set, replicate, length-replicate, get_or-replicate}
use lib.Seq.{get_or-set_same, get_or-set_other}
use Rattle.model.specs.Limits.{max_gates}
use Rattle.lists.proofs.Bool.{cases}
use Rattle.model.specs.Block.{Wire}
use Rattle.model.specs.File.{wire, in_range, some, same_ends}
use Rattle.model.proofs.Limited.{wire_ranges}
use Rattle.ranges.specs.Seen.{pairs, pair_place, between, Marks}

-- a cleared table
pub marks_none : (table : List ℕ) → ((i : ℕ) → i < pairs → get_or table i 0 ≡ 0) → Marks table []
unfolding some
marks_none table p =
    record { at_pair = λ (a b v : ℕ) (h : a < max_gates) (k : b < max_gates). eq-eqb (get_or table (pair_place a b) 0) 0 (p (pair_place a b) (omega arith)) }

-- a table of zeros, as it is made
pub no_marks : (pairs ≤ length (replicate {A = ℕ} pairs 0)) × Marks (replicate pairs 0) []
no_marks = (rw length-replicate (le_refl pairs), marks_none (replicate pairs 0) (λ (i : ℕ) (h : i < pairs). get_or-replicate pairs i 0 0 h))

both : (x y : Bool) → x && y ≡ true → (x ≡ true) × (y ≡ true)
both true y e = (refl, e)
both false y e =
    let z : ◌≡◌ {A = ℕ} 0 1 = cc in
    absurd (omega arith)

-- the place of one pair is that of no other
apart : (a b c d : ℕ) → b < max_gates → d < max_gates → eqb a c && eqb b d ≡ false → pair_place a b ≢ pair_place c d
apart a b c d k l n e =
    let x : a ≡ c = omega arith in
    let y : b ≡ d = omega arith in
    let t : eqb a c && eqb b d ≡ true = rw (eq-eqb a c x, eq-eqb b d y) in
    let z : ◌≡◌ {A = ℕ} 0 1 = cc in
    omega arith

-- one wire more
pub marks_more : (table : List ℕ) (ws : List Wire) (c d u : ℕ) → pairs ≤ length table → c < max_gates → d < max_gates → Marks table ws
    → Marks (set table (pair_place c d) 1) (between c d u ∷ ws)
unfolding some
marks_more table ws c d u long g l m = record { at_pair = at }
  where
    at : (a b v : ℕ) → a < max_gates → b < max_gates → eqb (get_or (set table (pair_place c d) 1) (pair_place a b) 0) 0
        ≡ not (same_ends (between a b v) (between c d u) || some (same_ends (between a b v)) ws)
    at a b v h k =
        cases (eqb a c && eqb b d)
        (λ (t : eqb a c && eqb b d ≡ true).
        let e = both (eqb a c) (eqb b d) t in
        let x : a ≡ c = eqb-true a c e.0 in
        let y : b ≡ d = eqb-true b d e.1 in
        rw (t, x, y, get_or-set_same table (pair_place c d) 1 0 (omega arith)))
        (λ (t : eqb a c && eqb b d ≡ false).
        rw (t, get_or-set_other table (pair_place c d) (pair_place a b) 1 0 (apart a b c d k l t)) (m.at_pair a b v h k))

-- the ends of a wire that is in range
pub ends_below : (ed n : ℕ) (w : Wire) → in_range (wire ed n []) w ≡ true → (w.source < n) × (w.target < n)
ends_below ed n w e =
    let r = wire_ranges ed n [] w (subst T (sym e) tt) in
    (r.0, r.1)
