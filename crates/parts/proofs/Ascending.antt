-- A block that passes the test `ascending` is a network (`ascending_network`): along its wires gate numbers rise. Assumes nothing.
use mathlib.Core.Path.{◌≡◌, refl, sym, ◌∙◌, ap, subst}
use mathlib.Core.Logic.{⊎_elim}
use mathlib.Core.Bool.{Bool, true, false, ◌&&◌, not, false≢true}
use mathlib.Core.Option.{Option, none, some}
use mathlib.Core.List.{List}
use Prim.Native.Nat.{ℕ, ◌≤◌, ◌<◌}
use native.Mathlib.Decide.{dec_lt}
use native.Mathlib.Omega.{arith}
use borrow.Author.Tests.{ltb-true, leb-true, eqb-true, eq-eqb, not-true}
use lib.Dec.{eqb, leb, ltb}
use lib.ListN.{length}
use Rattle.model.specs.Block.{Wire, Block, gate_count, first, last, Joined}
use Rattle.model.specs.Path.{Reaches, step, on}
use Rattle.parts.specs.Network.{wire_at, Network}
use Rattle.parts.specs.Reduce.{find, is_some}
use Rattle.parts.specs.Ascending.{some_below, every_below, from_of, to_of, rising, fresh, entered, left, ascending}
use Rattle.parts.proofs.Start.{stands_at, place_of}
use Rattle.parts.proofs.Search.{and_iff, or_iff, Finds, find_finds}

some_holds : (p : ℕ → Bool) (k : ℕ) → some_below p k ≡ true → (i : ℕ) × (i < k) × (p i ≡ true)
unfolding some_below
some_holds p k = go (find p k) (find_finds p k)
  where
    go : (r : Option ℕ) → Finds p k r → is_some r ≡ true → (i : ℕ) × (i < k) × (p i ≡ true)
    go none f h = absurd (false≢true h)
    go (some i) f h = (i, f.0, f.1)

every_holds : (p : ℕ → Bool) (k : ℕ) → every_below p k ≡ true → (i : ℕ) → i < k → p i ≡ true
unfolding every_below
every_holds p k = go (find (λ i. not (p i)) k) (find_finds (λ i. not (p i)) k)
  where
    passes : (b : Bool) → ¬ (not b ≡ true) → b ≡ true
    passes true n = refl
    passes false n = absurd (n refl)

    go : (r : Option ℕ) → Finds (λ i. not (p i)) k r → not (is_some r) ≡ true → (i : ℕ) → i < k → p i ≡ true
    go none f h i l = passes (p i) (f i l)
    go (some j) f h i l = absurd (false≢true h)

rises : {ws : List Wire} {a b : ℕ} → ((x y : ℕ) → Joined ws x y → x < y) → Reaches ws a b → a < b
rises {a = a} {b = b} f (step w) = f a b w
rises {a = a} f (on {c = c} w r) = omega (arith, f a c w, rises f r)

-- The five tests, passed.
record Tested (B : Block) : Type 0 where
  gates : 1 ≤ gate_count B
  rises_all : (i : ℕ) → i < length B.wires → rising B i ≡ true
  fresh_all : (i : ℕ) → i < length B.wires → fresh B i ≡ true
  entered_all : (g : ℕ) → g < gate_count B → entered B g ≡ true
  left_all : (g : ℕ) → g < gate_count B → left B g ≡ true

tested : (B : Block) → ascending B ≡ true → Tested B
unfolding ascending
tested B h =
    let (g, h₁) = (and_iff (leb 1 (gate_count B)) (every_below (rising B) (length B.wires) && (every_below (fresh B) (length B.wires) && (every_below (entered B) (gate_count B) && every_below (left B) (gate_count B))))).0 h in
    let (r, h₂) = (and_iff (every_below (rising B) (length B.wires)) (every_below (fresh B) (length B.wires) && (every_below (entered B) (gate_count B) && every_below (left B) (gate_count B)))).0 h₁ in
    let (f, h₃) = (and_iff (every_below (fresh B) (length B.wires)) (every_below (entered B) (gate_count B) && every_below (left B) (gate_count B))).0 h₂ in
    let (e, l) = (and_iff (every_below (entered B) (gate_count B)) (every_below (left B) (gate_count B))).0 h₃ in
    record {
      gates = leb-true 1 (gate_count B) g;
      rises_all = every_holds (rising B) (length B.wires) r;
      fresh_all = every_holds (fresh B) (length B.wires) f;
      entered_all = every_holds (entered B) (gate_count B) e;
      left_all = every_holds (left B) (gate_count B) l;
    }

-- every wire of such a block leads to a higher gate of the block
pub ascending_rises : (B : Block) → ascending B ≡ true → (x y : ℕ) → Joined B.wires x y → (x < y) × (y < gate_count B)
ascending_rises B h x y (w, m) =
    let (i, l, e) = place_of m in
    let (a, b) = (and_iff (ltb (from_of B i) (to_of B i)) (ltb (to_of B i) (gate_count B))).0 ((tested B h).rises_all i l) in
    let p : x ≡ from_of B i = ap (λ v. v.source) e in
    let q : y ≡ to_of B i = ap (λ v. v.target) e in
    (omega (arith, ltb-true (from_of B i) (to_of B i) a), omega (arith, ltb-true (to_of B i) (gate_count B) b))

pub ascending_network : (B : Block) → ascending B ≡ true → Network B
ascending_network B h =
    record {
      some_gate = t.gates;
      below = λ x y w. let (l, u) = higher x y w in (omega arith, u);
      once = once;
      acyclic = λ g r. let l : g < g = rises (λ x y w. (higher x y w).0) r in omega arith;
      first_none = λ x w. let (l, u) = higher x (first B) w in omega arith;
      wire_into = λ g l d. ⊎_elim (λ e. absurd (d (eqb-true g (first B) e))) (into g) ((or_iff (eqb g (first B)) (some_below (λ i. eqb (to_of B i) g) (length B.wires))).0 (t.entered_all g l));
      last_none = λ y w. let (l, u) = higher (last B) y w in omega arith;
      wire_from = λ g l d. ⊎_elim (λ e. absurd (d (eqb-true g (last B) e))) (from g) ((or_iff (eqb g (last B)) (some_below (λ i. eqb (from_of B i) g) (length B.wires))).0 (t.left_all g l));
    }
  where
    t : Tested B
    t = tested B h

    higher : (x y : ℕ) → Joined B.wires x y → (x < y) × (y < gate_count B)
    higher = ascending_rises B h

    joined : (i : ℕ) → i < length B.wires → Joined B.wires (from_of B i) (to_of B i)
    joined i l = ((wire_at B.wires i).delay, stands_at B.wires i l)

    into : (g : ℕ) → some_below (λ i. eqb (to_of B i) g) (length B.wires) ≡ true → (x : ℕ) × Joined B.wires x g
    into g k = let (i, l, e) = some_holds (λ i. eqb (to_of B i) g) (length B.wires) k in (from_of B i, subst (Joined B.wires (from_of B i)) (eqb-true (to_of B i) g e) (joined i l))

    from : (g : ℕ) → some_below (λ i. eqb (from_of B i) g) (length B.wires) ≡ true → (y : ℕ) × Joined B.wires g y
    from g k = let (i, l, e) = some_holds (λ i. eqb (from_of B i) g) (length B.wires) k in (to_of B i, subst (λ x. Joined B.wires x (to_of B i)) (eqb-true (from_of B i) g e) (joined i l))

    -- no earlier wire is the same
    differs : (i j : ℕ) → i < length B.wires → j < i → from_of B i ≡ from_of B j → to_of B i ≡ to_of B j → ⊥
    differs i j l k e f =
        let same = (and_iff (eqb (from_of B i) (from_of B j)) (eqb (to_of B i) (to_of B j))).1 (eq-eqb (from_of B i) (from_of B j) e, eq-eqb (to_of B i) (to_of B j) f) in
        let other = every_holds (λ j. not (eqb (from_of B i) (from_of B j) && eqb (to_of B i) (to_of B j))) i (t.fresh_all i l) j k in
        false≢true (sym (not-true (eqb (from_of B i) (from_of B j) && eqb (to_of B i) (to_of B j)) other) ∙ same)

    once : (i j : ℕ) → i < length B.wires → j < length B.wires → from_of B i ≡ from_of B j → to_of B i ≡ to_of B j → i ≡ j
    once i j li lj e f = go (dec_lt i j) (dec_lt j i)
      where
        go : Dec (i < j) → Dec (j < i) → i ≡ j
        go (yes l) k = absurd (differs j i lj l (sym e) (sym f))
        go (no n) (yes l) = absurd (differs i j li l e f)
        go (no n) (no o) = omega arith
