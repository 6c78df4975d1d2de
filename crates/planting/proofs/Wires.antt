-- A series-parallel block of n gates, at least two, has at most 2n − 3 wires (`few_wires`), and the tree of its parts at most 4n − 7 nodes (`few_nodes`).
-- The idea: a part has at most two wires for each gate inside it, and one more where a wire joins its ends (`part_few`). The block has no more wires than the part, since each is in the part and none stands twice (`block_most`).
-- Assumes nothing.
use mathlib.Core.Path.{◌≡◌, refl}
use mathlib.Core.Logic.{◌⊎◌, inl, inr}
use mathlib.Core.Bool.{Bool, true, false, cond}
use mathlib.Core.List.Memᴰ
use mathlib.Core.List.{List, [], ◌∷◌}
use Prim.Native.Nat.{ℕ, ◌+◌, ◌*◌, ◌≤◌, ◌<◌}
use native.Mathlib.Nat.{eq-zero-or-pos}
use native.Mathlib.Omega.{arith}
use lib.Dec.{eqb}
use borrow.Author.Tests.{eqb-true, eq-eqb}
use lib.ListN.{length}
use Rattle.model.specs.Block.{Wire, Block, gate_count, first, last, Joined}
use Rattle.model.specs.Part.{Shape, wire, series, parallel, HasWire, Part, Whole, SeriesParallel, lone, built}
use Rattle.parts.specs.Nodes.{Tree, leaf, chain, beside, shape_of}
use Rattle.optimum.specs.Tree.{size}
use Rattle.optimum.specs.BlockTree.{tree_of, whole_tree, WiresJoinGates, NoneTwice}
use Rattle.optimum.proofs.BlockTree.{whole_is_tree}
use Rattle.optimum.proofs.Range.{tree_size}
use Rattle.planting.specs.Copy.{nodes_of}

-- the wires of a part
wires_of : Shape → ℕ
wires_of wire = 1
wires_of (series P m Q) = wires_of P + wires_of Q
wires_of (parallel P Q) = wires_of P + wires_of Q

-- those that join its ends
direct : Shape → ℕ
direct wire = 1
direct (series P m Q) = 0
direct (parallel P Q) = direct P + direct Q

direct_joins : (P : Shape) (a b : ℕ) → 0 < direct P → HasWire P a b a b
unfolding direct
direct_joins wire a b l = (refl, refl)
direct_joins (series P m Q) a b l = absurd (omega arith)
direct_joins (parallel P Q) a b l = go (eq-zero-or-pos (direct P)) (direct_joins P a b) (direct_joins Q a b)
  where
    go : (direct P ≡ 0) ⊎ (0 < direct P) → (0 < direct P → HasWire P a b a b) → (0 < direct Q → HasWire Q a b a b) → HasWire P a b a b ⊎ HasWire Q a b a b
    go (inl z) on_left on_right = inr (on_right (omega arith))
    go (inr k) on_left on_right = inl (on_left k)

-- two numbers of which not both are more than 0
not_both : (m n : ℕ) → m ≤ 1 → n ≤ 1 → (0 < m → 0 < n → ⊥) → m + n ≤ 1
not_both m n a b c = go (eq-zero-or-pos m) (eq-zero-or-pos n)
  where
    go : (m ≡ 0) ⊎ (0 < m) → (n ≡ 0) ⊎ (0 < n) → m + n ≤ 1
    go (inl z) h = omega arith
    go (inr p) (inl z) = omega arith
    go (inr p) (inr q) = absurd (c p q)

-- at most one does, since parts side by side share no wire
one_direct : (P : Shape) (a b : ℕ) → Part a b P → direct P ≤ 1
unfolding direct
one_direct wire a b p = omega arith
one_direct (series P m Q) a b p = omega arith
one_direct (parallel P Q) a b p =
    not_both _ _ (one_direct P a b p.0) (one_direct Q a b p.1) (λ k l. p.3 a b (direct_joins P a b k) (direct_joins Q a b l))

part_few : (ws : List Wire) (P : Shape) (a b : ℕ) → Part a b P → wires_of P ≤ 2 * size (tree_of ws P a b) + direct P
unfolding wires_of direct
part_few ws wire a b p = omega arith
part_few ws (series P m Q) a b p =
    omega (arith, part_few ws P a m p.0, part_few ws Q m b p.1, one_direct P a m p.0, one_direct Q m b p.1)
part_few ws (parallel P Q) a b p = omega (arith, part_few ws P a b p.0, part_few ws Q a b p.1)

-- the wires of a part that is the whole block
whole_few : (B : Block) (P : Shape) → Whole B P → WiresJoinGates B → wires_of P + 3 ≤ 2 * gate_count B
whole_few B P w join =
    omega (
      arith,
      part_few B.wires P (first B) (last B) w.part,
      one_direct P (first B) (last B) w.part,
      tree_size B (whole_tree B P) (whole_is_tree B P w join),
    )

-- how many of the part's wires lead from x to y
standing : Shape → ℕ → ℕ → ℕ → ℕ → ℕ
standing wire a b x y = cond (eqb x a) (cond (eqb y b) 1 0) 0
standing (series P m Q) a b x y = standing P a m x y + standing Q m b x y
standing (parallel P Q) a b x y = standing P a b x y + standing Q a b x y

has_standing : (P : Shape) (a b x y : ℕ) → HasWire P a b x y → 1 ≤ standing P a b x y
unfolding standing
has_standing wire a b x y (e, f) = rw (eq-eqb x a e, eq-eqb y b f) (omega arith)
has_standing (series P m Q) a b x y (inl h) = omega (arith, has_standing P a m x y h)
has_standing (series P m Q) a b x y (inr h) = omega (arith, has_standing Q m b x y h)
has_standing (parallel P Q) a b x y (inl h) = omega (arith, has_standing P a b x y h)
has_standing (parallel P Q) a b x y (inr h) = omega (arith, has_standing Q a b x y h)

-- the same for all wires of a list together
standings : Shape → ℕ → ℕ → List Wire → ℕ
standings P a b [] = 0
standings P a b (w ∷ ws) = standing P a b w.source w.target + standings P a b ws

standings_all : (P : Shape) (a b : ℕ) (ws : List Wire) → ((x y : ℕ) → Joined ws x y → HasWire P a b x y) → length ws ≤ standings P a b ws
unfolding standings
standings_all P a b [] has = omega arith
standings_all P a b (w ∷ ws) has =
    omega (
      arith,
      has_standing P a b w.source w.target (has w.source w.target (w.delay, Memᴰ.head refl)),
      standings_all P a b ws (λ x y j. has x y (j.0, Memᴰ.tail j.1)),
    )

standings_series : (P : Shape) (m : ℕ) (Q : Shape) (a b : ℕ) (ws : List Wire) → standings (series P m Q) a b ws ≡ standings P a m ws + standings Q m b ws
unfolding standing standings
standings_series P m Q a b [] = refl
standings_series P m Q a b (w ∷ ws) = omega (arith, standings_series P m Q a b ws)

standings_parallel : (P Q : Shape) (a b : ℕ) (ws : List Wire) → standings (parallel P Q) a b ws ≡ standings P a b ws + standings Q a b ws
unfolding standing standings
standings_parallel P Q a b [] = refl
standings_parallel P Q a b (w ∷ ws) = omega (arith, standings_parallel P Q a b ws)

-- no wire of the list is the one from a to b
none_standing : (a b : ℕ) (ws : List Wire) → ¬ (Joined ws a b) → standings wire a b ws ≡ 0
unfolding standing standings
none_standing a b [] none = refl
none_standing a b (w ∷ ws) none =
    go (eqb w.source a) (eqb w.target b) refl refl (none_standing a b ws (λ j. none (j.0, Memᴰ.tail j.1)))
  where
    go : (s t : Bool) → eqb w.source a ≡ s → eqb w.target b ≡ t → standings wire a b ws ≡ 0 → cond s (cond t 1 0) 0 + standings wire a b ws ≡ 0
    go true true es et rest = absurd (none (rw (← eqb-true w.source a es, ← eqb-true w.target b et) (w.delay, Memᴰ.head refl)))
    go true false es et rest = omega arith
    go false t es et rest = omega arith

-- at most one is, where none stands twice
one_standing : (a b : ℕ) (ws : List Wire) → NoneTwice ws → standings wire a b ws ≤ 1
unfolding standing standings
one_standing a b [] once = omega arith
one_standing a b (w ∷ ws) once = go (eqb w.source a) (eqb w.target b) refl refl (one_standing a b ws once.1)
  where
    go : (s t : Bool) → eqb w.source a ≡ s → eqb w.target b ≡ t → standings wire a b ws ≤ 1 → cond s (cond t 1 0) 0 + standings wire a b ws ≤ 1
    go true true es et rest = omega (arith, none_standing a b ws (rw (eqb-true w.source a es, eqb-true w.target b et) at once.0))
    go true false es et rest = omega arith
    go false t es et rest = omega arith

block_most : (ws : List Wire) → NoneTwice ws → (P : Shape) (a b : ℕ) → standings P a b ws ≤ wires_of P
unfolding wires_of
block_most ws once wire a b = one_standing a b ws once
block_most ws once (series P m Q) a b = omega (arith, standings_series P m Q a b ws, block_most ws once P a m, block_most ws once Q m b)
block_most ws once (parallel P Q) a b = omega (arith, standings_parallel P Q a b ws, block_most ws once P a b, block_most ws once Q a b)

-- A series-parallel block of n gates, at least two, has at most 2n − 3 wires.
pub few_wires : (B : Block) → SeriesParallel B → NoneTwice B.wires → WiresJoinGates B → 2 ≤ gate_count B → length B.wires + 3 ≤ 2 * gate_count B
few_wires B (lone single none) once join two = absurd (omega arith)
few_wires B (built P w) once join two =
    omega (
      arith,
      standings_all P (first B) (last B) B.wires (λ x y. (w.wires x y).0),
      block_most B.wires once P (first B) (last B),
      whole_few B P w join,
    )

-- a tree has a node less than two a wire
nodes_by_wires : (t : Tree) → nodes_of t + 1 ≡ wires_of (shape_of t) + wires_of (shape_of t)
unfolding wires_of shape_of
nodes_by_wires (leaf d) = refl
nodes_by_wires (chain P m Q) = omega (arith, nodes_by_wires P, nodes_by_wires Q)
nodes_by_wires (beside P Q) = omega (arith, nodes_by_wires P, nodes_by_wires Q)

-- The tree of the parts of a block of n gates has at most 4n − 7 nodes.
pub few_nodes : (B : Block) (t : Tree) → Whole B (shape_of t) → WiresJoinGates B → nodes_of t + 7 ≤ 4 * gate_count B
few_nodes B t w join = omega (arith, nodes_by_wires t, whole_few B (shape_of t) w join)
