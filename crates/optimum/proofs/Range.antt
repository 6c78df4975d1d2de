-- The range of gains: a part's gain is at most the number of gates inside it, times the greatest activity, times the greatest drop. For the wires into the middle gate of a series part come from different gates, its first gate or one inside its left part, so they are no more than the gates of that part and one.
-- Assumes nothing.
use mathlib.Core.Path.{◌≡◌, refl, sym, ◌∙◌}
use mathlib.Core.Logic.{◌≢◌, ◌⊎◌, inl, inr}
use mathlib.Core.Bool.{Bool, true, false, cond}
use mathlib.Core.List.Memᴰ
use mathlib.Core.List.{List, [], ◌∷◌}
use Prim.Native.Nat.{ℕ, ◌+◌, ◌*◌, ◌-◌, ◌≤◌, ◌<◌, max}
use native.Mathlib.Nat.{add-mul, one-mul, mul-one, mul-zero, zero-mul, mul-le-mul, mul-le-mul_right, le_trans, le_of_eq, eq-zero-or-pos, mul_comm, mul_assoc}
use native.Mathlib.Decide.{ℕ_discrete}
use native.Mathlib.Omega.{arith}
use lib.Dec.{eqb}
use borrow.Author.Tests.{ne_eqb}
use Rattle.lists.specs.Sum.{sum, total}
use Rattle.lists.proofs.Sum.{sum_same, sum_le}
use Rattle.model.specs.Block.{Block, Wire, gate, gate_count, first, last, Joined}
use Rattle.model.specs.Gain.{brings, input_activity, gain}
use Rattle.model.specs.Part.{Shape, wire, series, parallel, Inside, HasWire, Part, Whole, SeriesParallel, lone, built}
use Rattle.optimum.specs.Tree.{Tree, is, count, size, Below, St, across, next}
use Rattle.optimum.specs.Increases.{read}
use Rattle.optimum.specs.Handout.{head}
use Rattle.optimum.specs.Gates.{gate_head}
use Rattle.optimum.specs.BlockTree.{tree_of, whole_tree, block_tree, WiresJoinGates, NoneTwice, IsTree, Ranges}
use Rattle.optimum.proofs.Count.{is_self, is_other}
use Rattle.optimum.proofs.Handout.{plain, head_gain}
use Rattle.optimum.proofs.Gates.{gate_gain}
use Rattle.optimum.proofs.BlockTree.{whole_is_tree}
use Rattle.optimum.proofs.Parts.{Ends, ends, source_gate, none_to_first, inside_stands, Closed, closed_left, closed_right, closed_one, closed_other}
use Rattle.optimum.proofs.Sums.{sum_add, sum_constant, sum_one, sum_none, across_count}

-- the wires into gate g
into : List Wire → ℕ → ℕ
into ws g = total (λ (w : Wire). is g w.target) ws

-- the wires from gate u to gate g
between : List Wire → ℕ → ℕ → ℕ
between ws u g = total (λ (w : Wire). is w.source u * is g w.target) ws

-- a wire leads from u to g, or counts for nothing
by_match : (w : Wire) (u g : ℕ) (C : ℕ → Type 0) → (u ≡ w.source → w.target ≡ g → C 1) → C 0 → C (is w.source u * is g w.target)
by_match w u g C matches other = from (ℕ_discrete u w.source) (ℕ_discrete w.target g)
  where
    from : Dec (u ≡ w.source) → Dec (w.target ≡ g) → C (is w.source u * is g w.target)
    from (yes s) (yes t) = rw (s, t, is_self w.source, is_self g) (matches s t)
    from (yes s) (no d) = rw (is_other g w.target d, mul-zero) other
    from (no d) _ = rw (is_other w.source u d, zero-mul) other

-- the wires into a gate, by where they come from
into_by_source : (ws : List Wire) (N g : ℕ) → ((u v : ℕ) → Joined ws u v → u < N) → into ws g ≡ sum N (λ (u : ℕ). between ws u g)
unfolding into between total
into_by_source [] N g b = sym (sum_none N)
into_by_source (w ∷ ws) N g b =
    omega (
      arith,
      sum_add N (λ (u : ℕ). is w.source u * is g w.target) (λ (u : ℕ). between ws u g),
      sum_one w.source N (λ (u : ℕ). is g w.target) (b w.source w.target (w.delay, Memᴰ.head refl)),
      into_by_source ws N g (λ u v j. b u v (j.0, Memᴰ.tail j.1)),
    )

-- where wires are counted, there is one
between_joined : (ws : List Wire) (u g : ℕ) → 0 < between ws u g → Joined ws u g
unfolding between total
between_joined [] u g = λ l. absurd (omega arith)
between_joined (w ∷ ws) u g =
    by_match w u g
    (λ (c : ℕ). 0 < c + between ws u g → Joined (w ∷ ws) u g)
    (λ s t l. (w.delay, Memᴰ.head (λ i. record { source = s i; target = sym t i; delay = w.delay })))
    (λ l. let j = between_joined ws u g (omega arith) in (j.0, Memᴰ.tail j.1))

between_once : (ws : List Wire) (u g : ℕ) → NoneTwice ws → between ws u g ≤ 1
unfolding between total
between_once [] u g n = omega arith
between_once (w ∷ ws) u g (fresh, n) =
    by_match w u g
    (λ (c : ℕ). c + between ws u g ≤ 1)
    (λ s t. none s t (eq-zero-or-pos (between ws u g))) (omega (arith, between_once ws u g n))
  where
    none : u ≡ w.source → w.target ≡ g → (between ws u g ≡ 0) ⊎ (0 < between ws u g) → 1 + between ws u g ≤ 1
    none s t (inl z) = omega arith
    none s t (inr l) = absurd (fresh (rw (s, ← t) at (between_joined ws u g l)))

-- the number of gates of a part, as a sum over gate numbers
size_across : (t : Tree) (s : St t) → across (λ (g k : ℕ). 1) t s ≡ size t
size_across (Tree.wire w) s = refl
size_across (Tree.series P m Q) s = omega (arith, size_across P s.0, size_across Q s.2)
size_across (Tree.parallel P Q) s = omega (arith, size_across P s.0, size_across Q s.1)

size_counts : (n : ℕ) (t : Tree) → Below n t → sum n (count t) ≡ size t
size_counts n t b =
    sum_same n (count t) (λ (g : ℕ). count t g * 1) (λ g l. sym (mul-one (count t g)))
    ∙ sym (across_count (λ (g k : ℕ). 1) n t [] b)
    ∙ size_across t (read t [])

-- a tree of a block has as many gates as the block
pub tree_size : (B : Block) (t : Tree) → IsTree B t → size t ≡ gate_count B
tree_size B t tree =
    sym (size_counts (gate_count B) t tree.below)
    ∙ sum_same (gate_count B) (count t) (λ (g : ℕ). 1) tree.all
    ∙ sum_constant (gate_count B) 1
    ∙ mul-one (gate_count B)

-- Wires that come from the first gate of a part or from gates inside are no more than these gates.
into_few : (ws : List Wire) (N : ℕ) (P : Shape) (a m : ℕ) → ((u v : ℕ) → Joined ws u v → u < N) → NoneTwice ws → a < N
    → Below N (tree_of ws P a m) → ((u : ℕ) → Joined ws u m → (u ≡ a) ⊎ Inside P u) → into ws m ≤ 1 + size (tree_of ws P a m)
into_few ws N P a m sources once la below from =
    let T = tree_of ws P a m in
    omega (
      arith,
      into_by_source ws N m sources,
      sum_le N (λ (u : ℕ). between ws u m) (λ (u : ℕ). is a u * 1 + count T u) (λ u l. at_most u (eq-zero-or-pos (between ws u m))),
      sum_add N (λ (u : ℕ). is a u * 1) (count T),
      sum_one a N (λ (u : ℕ). 1) la,
      size_counts N T below,
    )
  where
    counted : (u : ℕ) → (u ≡ a) ⊎ Inside P u → 1 ≤ is a u * 1 + count (tree_of ws P a m) u
    counted u (inl e) = rw (e, is_self a) (omega arith)
    counted u (inr i) = omega (arith, inside_stands ws P a m u i)

    at_most : (u : ℕ) → (between ws u m ≡ 0) ⊎ (0 < between ws u m) → between ws u m ≤ is a u * 1 + count (tree_of ws P a m) u
    at_most u (inl z) = omega arith
    at_most u (inr l) = omega (arith, between_once ws u m once, counted u (from u (between_joined ws u m l)))

module _ (B : Block) (A D : ℕ) (ranges : Ranges B A D) where
  -- the wires into a gate bring it at most the greatest activity each
  brings_at_most : (ws : List Wire) (g : ℕ) → total (brings B g) ws ≤ into ws g * A
  unfolding into total is
  brings_at_most [] g = omega arith
  brings_at_most (w ∷ ws) g = rw (add-mul) (from (eqb w.target g) (brings_at_most ws g))
    where
      from : (b : Bool) → total (brings B g) ws ≤ into ws g * A
          → cond b (gate B w.source).activity 0 + total (brings B g) ws ≤ cond b 1 0 * A + into ws g * A
      from true l = rw one-mul (omega (arith, ranges.nets w.source))
      from false l = rw zero-mul (omega arith)

  -- a gate's gain, by the wires into it
  gain_at_most : (g k c : ℕ) → input_activity B g ≤ c * A → gain B g k ≤ c * (A * D)
  unfolding gain
  gain_at_most g k c l =
      le_trans (mul-le-mul (ranges.drops g k) l) (le_of_eq (mul_comm D (c * A) ∙ mul_assoc c A D))

  inner_gain : (g k : ℕ) → g ≢ first B → gain B g k ≤ into B.wires g * (A * D)
  unfolding input_activity
  inner_gain g k d =
      gain_at_most g k (into B.wires g) (rw (ne_eqb g (first B) d) (brings_at_most B.wires g))

  first_gate_gain : (k : ℕ) → gain B (first B) k ≤ 1 * (A * D)
  unfolding input_activity
  first_gate_gain k = gain_at_most (first B) k 1 (rw one-mul ranges.input)

  module _ (join : WiresJoinGates B) (none_twice : NoneTwice B.wires) where
    -- a gate whose wires all come from the first gate of a part or from gates inside
    end_gain : (P : Shape) (a m k : ℕ) → Below (gate_count B) (tree_of B.wires P a m) → a < gate_count B → m ≢ first B
        → ((u : ℕ) → Joined B.wires u m → (u ≡ a) ⊎ Inside P u)
        → plain (gate_head B) m k ≤ (1 + size (tree_of B.wires P a m)) * (A * D)
    end_gain P a m k below la d from =
        le_trans (omega (arith, gate_gain B m k, inner_gain m k d)) (mul-le-mul_right (A * D)
        (into_few B.wires (gate_count B) P a m (λ u v j. (join u v j).0) none_twice la below from))

    -- the wires into the middle gate of a series part come from its left part
    into_middle : (P : Shape) (m : ℕ) (Q : Shape) (a b : ℕ) → Part a b (series P m Q) → Closed (Joined B.wires) (series P m Q) a b
        → (u : ℕ) → Joined B.wires u m → (u ≡ a) ⊎ Inside P u
    into_middle P m Q a b (p, q, share) closed u j = from (closed u m (inr (inr (inl refl))) j)
      where
        from : HasWire P a m u m ⊎ HasWire Q m b u m → (u ≡ a) ⊎ Inside P u
        from (inl h) = source_gate P a m u m h
        from (inr h) = absurd (none_to_first Q m b u (ends Q m b q) h)

    -- a part's gain is at most the number of gates inside, times the greatest activity, times the greatest drop
    pub part_gain : (P : Shape) (a b : ℕ) → Part a b P → Closed (Joined B.wires) P a b → Below (gate_count B) (tree_of B.wires P a b)
        → a < gate_count B → ((g : ℕ) → Inside P g → g ≢ first B) → (s : St (tree_of B.wires P a b))
        → next (plain (gate_head B)) (tree_of B.wires P a b) s ≤ size (tree_of B.wires P a b) * (A * D)
    part_gain wire a b p closed below la inner s = omega arith
    part_gain (series P m Q) a b p closed below la inner s =
        simp (add-mul, one-mul) (omega (
          arith,
          part_gain P a m p.0 (closed_left (Joined B.wires) P m Q a b p closed) (λ g l. below g (omega arith)) la (λ g i. inner g (inl i)) s.0,
          simp (add-mul, one-mul) at (end_gain P a m s.1 (λ g l. below g (omega arith)) la (inner m (inr (inl refl))) (into_middle P m Q a b p closed)),
          part_gain Q m b p.1 (closed_right (Joined B.wires) P m Q a b p closed) (λ g l. below g (omega arith)) (below m (omega (arith, is_self m))) (λ g i. inner g (inr (inr i))) s.2,
        ))
    part_gain (parallel P Q) a b p closed below la inner s =
        simp add-mul (omega (
          arith,
          part_gain P a b p.0 (closed_one (Joined B.wires) P Q a b p closed) (λ g l. below g (omega arith)) la (λ g i. inner g (inl i)) s.0,
          part_gain Q a b p.1 (closed_other (Joined B.wires) P Q a b p closed) (λ g l. below g (omega arith)) la (λ g i. inner g (inr i)) s.1,
        ))

    -- the first gate's own gain
    first_gain_at_most : (k : ℕ) → plain (gate_head B) (first B) k ≤ A * D
    first_gain_at_most k = omega (arith, gate_gain B (first B) k, rw one-mul at (first_gate_gain k))

    -- the block that is the part P
    whole_gain : (P : Shape) → Whole B P → (x : St (whole_tree B P))
        → next (plain (gate_head B)) (whole_tree B P) x ≤ max 1 (gate_count B - 1) * (A * D)
    whole_gain P whole x = le_trans most (mul-le-mul_right (A * D) fewer)
      where
        tree : IsTree B (whole_tree B P)
        tree = whole_is_tree B P whole join

        ends_are : Ends P (first B) (last B)
        ends_are = ends P (first B) (last B) whole.part

        below : Below (gate_count B) (tree_of B.wires P (first B) (last B))
        below g l = tree.below g (omega arith)

        positive : 0 < gate_count B
        positive = tree.below (first B) (omega (arith, is_self (first B)))

        inner : (g : ℕ) → Inside P g → g ≢ first B
        inner g i e = ends_are.not_first (rw e at i)

        part : Tree
        part = tree_of B.wires P (first B) (last B)

        fewer : 1 + size part ≤ max 1 (gate_count B - 1)
        fewer = omega (arith, tree_size B (whole_tree B P) tree)

        most : next (plain (gate_head B)) (whole_tree B P) x ≤ (1 + size part) * (A * D)
        most =
            let last_most =
            end_gain P (first B) (last B) x.2.1 below positive
            (λ e. ends_are.apart (sym e))
            (λ u j. source_gate P (first B) (last B) u (last B) ((whole.wires u (last B)).0 j))
            in
            let part_most = part_gain P (first B) (last B) whole.part (λ u v i. (whole.wires u v).0) below positive inner x.2.0 in
            simp (add-mul, one-mul) (omega (arith, first_gain_at_most x.1, part_most, simp (add-mul, one-mul) at last_most))

    -- the block's gain, at any increases: at most that of all gates but one
    pub block_gain : (s : SeriesParallel B) (x : St (block_tree B s))
        → (head (gate_head B) (block_tree B s) x).gain ≤ max 1 (gate_count B - 1) * (A * D)
    block_gain s x = rw (head_gain (gate_head B) (block_tree B s) x) (next_at_most s x)
      where
        next_at_most : (s : SeriesParallel B) (x : St (block_tree B s))
            → next (plain (gate_head B)) (block_tree B s) x ≤ max 1 (gate_count B - 1) * (A * D)
        next_at_most (lone single no_wire) x =
            let e : max 1 (gate_count B - 1) ≡ 1 = omega arith in
            rw (e, one-mul) (omega (arith, first_gain_at_most x.1))
        next_at_most (built P whole) x = whole_gain P whole x
