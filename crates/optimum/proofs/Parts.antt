-- The gates of a part: its ends are not inside, a wire of it leads from its first gate or one inside, and every gate inside stands once in its tree.
-- Assumes nothing.
use mathlib.Core.Path.{◌≡◌, refl, sym}
use mathlib.Core.Logic.{◌≢◌, ◌⊎◌, inl, inr}
use mathlib.Core.List.{List}
use Prim.Native.Nat.{ℕ, ◌+◌, ◌≤◌, ◌<◌}
use native.Mathlib.Nat.{eq-zero-or-pos}
use native.Mathlib.Decide.{ℕ_discrete}
use native.Mathlib.Omega.{arith}
use Rattle.model.specs.Block.{Wire}
use Rattle.model.specs.Part.{Shape, wire, series, parallel, Inside, HasGate, HasWire, Part}
use Rattle.optimum.specs.Tree.{Tree, is, count, Once}
use Rattle.optimum.specs.BlockTree.{tree_of}
use Rattle.optimum.proofs.Count.{is_self, is_other, in_series, in_parallel}

-- the two ends of a part are two gates, and not inside
pub record Ends (P : Shape) (a b : ℕ) : Type 0 where
  pub apart : a ≢ b
  pub not_first : ¬ (Inside P a)
  pub not_last : ¬ (Inside P b)

pub ends : (P : Shape) (a b : ℕ) → Part a b P → Ends P a b
ends wire a b p = record { apart = p; not_first = λ i. i; not_last = λ i. i }
ends (series P m Q) a b (p, q, share) =
    let eP = ends P a m p in
    let eQ = ends Q m b q in
    record {
      apart = λ e. eP.apart (share a (inl refl) (inr (inl e)));
      not_first = first eP eQ;
      not_last = last eP eQ;
    }
  where
    first : Ends P a m → Ends Q m b → Inside P a ⊎ (a ≡ m) ⊎ Inside Q a → ⊥
    first eP eQ (inl i) = eP.not_first i
    first eP eQ (inr (inl e)) = eP.apart e
    first eP eQ (inr (inr i)) = eP.apart (share a (inl refl) (inr (inr i)))

    last : Ends P a m → Ends Q m b → Inside P b ⊎ (b ≡ m) ⊎ Inside Q b → ⊥
    last eP eQ (inl i) = eQ.apart (sym (share b (inr (inr i)) (inr (inl refl))))
    last eP eQ (inr (inl e)) = eQ.apart (sym e)
    last eP eQ (inr (inr i)) = eQ.not_last i
ends (parallel P Q) a b (p, q, share, wires) =
    let eP = ends P a b p in
    let eQ = ends Q a b q in
    record { apart = eP.apart; not_first = either eP.not_first eQ.not_first; not_last = either eP.not_last eQ.not_last }
  where
    either : {A C : Type 0} → ¬ A → ¬ C → A ⊎ C → ⊥
    either f e (inl h) = f h
    either f e (inr h) = e h

-- the second of two cases, made wider
or_else : {A C D : Type 0} → (C → D) → A ⊎ C → A ⊎ D
or_else f (inl a) = inl a
or_else f (inr c) = inr (f c)

-- a wire of a part leads from its first gate or from one inside
pub source_gate : (P : Shape) (a b u v : ℕ) → HasWire P a b u v → (u ≡ a) ⊎ Inside P u
source_gate wire a b u v (e, k) = inl e
source_gate (series P m Q) a b u v (inl w) = or_else (λ i. inl i) (source_gate P a m u v w)
source_gate (series P m Q) a b u v (inr w) = inr (inr (source_gate Q m b u v w))
source_gate (parallel P Q) a b u v (inl w) = or_else (λ i. inl i) (source_gate P a b u v w)
source_gate (parallel P Q) a b u v (inr w) = or_else (λ i. inr i) (source_gate Q a b u v w)

-- and leads to its last gate or to one inside
pub target_gate : (P : Shape) (a b u v : ℕ) → HasWire P a b u v → (v ≡ b) ⊎ Inside P v
target_gate wire a b u v (e, k) = inl k
target_gate (series P m Q) a b u v (inl w) = inr (at_middle (target_gate P a m u v w))
  where
    at_middle : (v ≡ m) ⊎ Inside P v → Inside P v ⊎ (v ≡ m) ⊎ Inside Q v
    at_middle (inl e) = inr (inl e)
    at_middle (inr i) = inl i
target_gate (series P m Q) a b u v (inr w) = or_else (λ i. inr (inr i)) (target_gate Q m b u v w)
target_gate (parallel P Q) a b u v (inl w) = or_else (λ i. inl i) (target_gate P a b u v w)
target_gate (parallel P Q) a b u v (inr w) = or_else (λ i. inr i) (target_gate Q a b u v w)

-- no wire of a part leads from its last gate
pub none_from_last : (P : Shape) (a b v : ℕ) → Ends P a b → HasWire P a b b v → ⊥
none_from_last P a b v e w = go (source_gate P a b b v w)
  where
    go : (b ≡ a) ⊎ Inside P b → ⊥
    go (inl s) = e.apart (sym s)
    go (inr i) = e.not_last i

-- no wire of a part leads to its first gate
pub none_to_first : (P : Shape) (a b u : ℕ) → Ends P a b → HasWire P a b u a → ⊥
none_to_first P a b u e w = go (target_gate P a b u a w)
  where
    go : (a ≡ b) ⊎ Inside P a → ⊥
    go (inl s) = e.apart s
    go (inr i) = e.not_first i

-- a wire of a part leads to its last gate, and one to each gate inside
wire_to_last : (P : Shape) (a b : ℕ) → (u : ℕ) × HasWire P a b u b
wire_to_last wire a b = (a, (refl, refl))
wire_to_last (series P m Q) a b = let w = wire_to_last Q m b in (w.0, inr w.1)
wire_to_last (parallel P Q) a b = let w = wire_to_last P a b in (w.0, inl w.1)

pub wire_to : (P : Shape) (a b g : ℕ) → Inside P g → (u : ℕ) × HasWire P a b u g
wire_to wire a b g i = absurd i
wire_to (series P m Q) a b g (inl i) = let w = wire_to P a m g i in (w.0, inl w.1)
wire_to (series P m Q) a b g (inr (inl e)) = let w = wire_to_last P a m in (w.0, inl (rw e w.1))
wire_to (series P m Q) a b g (inr (inr i)) = let w = wire_to Q m b g i in (w.0, inr w.1)
wire_to (parallel P Q) a b g (inl i) = let w = wire_to P a b g i in (w.0, inl w.1)
wire_to (parallel P Q) a b g (inr i) = let w = wire_to Q a b g i in (w.0, inr w.1)

-- The parts of a whole, told by where its wires are. `E u v` says that there is a wire from u to v.
module _ (E : ℕ → ℕ → Type 0) where
  -- the wires at gates inside are wires of the part
  abbrev pub Closed : Shape → ℕ → ℕ → Type 0
  Closed P a b = (u v : ℕ) → Inside P u ⊎ Inside P v → E u v → HasWire P a b u v

  -- where a part and another share no gate inside the part, the wires at gates inside are not the other's
  own_wires : (P Q : Shape) (a b c d : ℕ) → ((g : ℕ) → Inside P g → HasGate Q c d g → ⊥)
      → ((u v : ℕ) → Inside P u ⊎ Inside P v → E u v → HasWire P a b u v ⊎ HasWire Q c d u v) → Closed P a b
  own_wires P Q a b c d alone wires u v i e = from i (wires u v i e)
    where
      source : (u ≡ c) ⊎ Inside Q u → HasGate Q c d u
      source (inl s) = inl s
      source (inr j) = inr (inr j)

      target : (v ≡ d) ⊎ Inside Q v → HasGate Q c d v
      target (inl s) = inr (inl s)
      target (inr j) = inr (inr j)

      from : Inside P u ⊎ Inside P v → HasWire P a b u v ⊎ HasWire Q c d u v → HasWire P a b u v
      from i (inl h) = h
      from (inl i) (inr h) = absurd (alone u i (source (source_gate Q c d u v h)))
      from (inr i) (inr h) = absurd (alone v i (target (target_gate Q c d u v h)))

  -- which side of a sum a gate is on
  widen : {A C D F : Type 0} → (A → D) → (C → F) → A ⊎ C → D ⊎ F
  widen f e (inl a) = inl (f a)
  widen f e (inr c) = inr (e c)

  other_way : {A C : Type 0} → A ⊎ C → C ⊎ A
  other_way (inl a) = inr a
  other_way (inr c) = inl c

  pub closed_left : (P : Shape) (m : ℕ) (Q : Shape) (a b : ℕ) → Part a b (series P m Q) → Closed (series P m Q) a b → Closed P a m
  closed_left P m Q a b (p, q, share) closed =
      own_wires P Q a m m b
      (λ g i h. (ends P a m p).not_last (rw (share g (inr (inr i)) h) at i))
      (λ u v i. closed u v (widen (λ j. inl j) (λ j. inl j) i))

  pub closed_right : (P : Shape) (m : ℕ) (Q : Shape) (a b : ℕ) → Part a b (series P m Q) → Closed (series P m Q) a b → Closed Q m b
  closed_right P m Q a b (p, q, share) closed =
      own_wires Q P m b a m
      (λ g i h. (ends Q m b q).not_first (rw (share g h (inr (inr i))) at i))
      (λ u v i e. other_way (closed u v (widen (λ j. inr (inr j)) (λ j. inr (inr j)) i) e))

  -- an end of a side is not inside it
  at_end : (P : Shape) (a b g : ℕ) → Ends P a b → Inside P g → (g ≡ a) ⊎ (g ≡ b) → ⊥
  at_end P a b g e i (inl s) = e.not_first (rw s at i)
  at_end P a b g e i (inr s) = e.not_last (rw s at i)

  pub closed_one : (P Q : Shape) (a b : ℕ) → Part a b (parallel P Q) → Closed (parallel P Q) a b → Closed P a b
  closed_one P Q a b (p, q, share, _) closed =
      own_wires P Q a b a b
      (λ g i h. at_end P a b g (ends P a b p) i (share g (inr (inr i)) h))
      (λ u v i. closed u v (widen (λ j. inl j) (λ j. inl j) i))

  pub closed_other : (P Q : Shape) (a b : ℕ) → Part a b (parallel P Q) → Closed (parallel P Q) a b → Closed Q a b
  closed_other P Q a b (p, q, share, _) closed =
      own_wires Q P a b a b
      (λ g i h. at_end Q a b g (ends Q a b q) i (share g h (inr (inr i))))
      (λ u v i e. other_way (closed u v (widen (λ j. inr j) (λ j. inr j) i) e))

-- numbers up to 1 of which not both are 1
exclusive : (p q : ℕ) → p ≤ 1 → q ≤ 1 → (0 < p → 0 < q → ⊥) → p + q ≤ 1
exclusive p q hp hq not_both = go (eq-zero-or-pos p) (eq-zero-or-pos q)
  where
    go : (p ≡ 0) ⊎ (0 < p) → (q ≡ 0) ⊎ (0 < q) → p + q ≤ 1
    go (inl z) _ = omega arith
    go (inr l) (inl z) = omega arith
    go (inr l) (inr l') = absurd (not_both l l')

-- a series part has each gate once where its parts have, share none, and do not have its own
pub once_series : (T : Tree) (m : ℕ) (U : Tree) → Once T → Once U → ((g : ℕ) → 0 < count T g → 0 < count U g → ⊥) → ¬ (0 < count T m)
    → ¬ (0 < count U m) → Once (Tree.series T m U)
once_series T m U oT oU apart noT noU g = go (ℕ_discrete g m)
  where
    go : Dec (g ≡ m) → count T g + is m g + count U g ≤ 1
    go (yes e) = rw e (omega (arith, is_self m))
    go (no d) = omega (arith, is_other m g d, exclusive (count T g) (count U g) (oT g) (oU g) (apart g))

module _ (ws : List Wire) where
  pub inside_stands : (P : Shape) (a b g : ℕ) → Inside P g → 0 < count (tree_of ws P a b) g
  inside_stands wire a b g i = absurd i
  inside_stands (series P m Q) a b g (inl i) = omega (arith, inside_stands P a m g i)
  inside_stands (series P m Q) a b g (inr (inl e)) = rw e (omega (arith, is_self m))
  inside_stands (series P m Q) a b g (inr (inr i)) = omega (arith, inside_stands Q m b g i)
  inside_stands (parallel P Q) a b g (inl i) = omega (arith, inside_stands P a b g i)
  inside_stands (parallel P Q) a b g (inr i) = omega (arith, inside_stands Q a b g i)

  pub stands_inside : (P : Shape) (a b g : ℕ) → 0 < count (tree_of ws P a b) g → Inside P g
  stands_inside wire a b g l = absurd (omega arith)
  stands_inside (series P m Q) a b g l =
      in_series (tree_of ws P a m) m (tree_of ws Q m b) g (Inside (series P m Q) g) l
      (λ i. inl (stands_inside P a m g i))
      (λ e. inr (inl e))
      (λ i. inr (inr (stands_inside Q m b g i)))
  stands_inside (parallel P Q) a b g l =
      in_parallel (tree_of ws P a b) (tree_of ws Q a b) g (Inside (parallel P Q) g) l
      (λ i. inl (stands_inside P a b g i))
      (λ i. inr (stands_inside Q a b g i))

  pub stands_once : (P : Shape) (a b : ℕ) → Part a b P → Once (tree_of ws P a b)
  stands_once wire a b p = λ g. omega arith
  stands_once (series P m Q) a b (p, q, share) =
      once_series (tree_of ws P a m) m (tree_of ws Q m b) (stands_once P a m p) (stands_once Q m b q)
      (λ g l k. noP (rw (share g (inr (inr (stands_inside P a m g l))) (inr (inr (stands_inside Q m b g k)))) at l)) noP
      (λ l. (ends Q m b q).not_first (stands_inside Q m b m l))
    where
      noP : ¬ (0 < count (tree_of ws P a m) m)
      noP l = (ends P a m p).not_last (stands_inside P a m m l)
  stands_once (parallel P Q) a b (p, q, share, wires) =
      λ g. exclusive _ _ (stands_once P a b p g) (stands_once Q a b q g) (λ l k. apart g (stands_inside P a b g l) (stands_inside Q a b g k))
    where
      apart : (g : ℕ) → Inside P g → Inside Q g → ⊥
      apart g i j = go (share g (inr (inr i)) (inr (inr j)))
        where
          go : (g ≡ a) ⊎ (g ≡ b) → ⊥
          go (inl e) = (ends P a b p).not_first (rw e at i)
          go (inr e) = (ends P a b p).not_last (rw e at i)
