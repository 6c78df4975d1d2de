-- The tree of a block that is a part, and that of a block of one gate, are trees of the block.
-- Assumes nothing.
use mathlib.Core.Path.{◌≡◌}
use mathlib.Core.Logic.{◌⊎◌, inl, inr}
use mathlib.Core.List.Memᴰ
use mathlib.Core.List.{List, []}
use Prim.Native.Nat.{ℕ, ◌+◌, ◌-◌, ◌≤◌, ◌<◌}
use native.Mathlib.Omega.{arith}
use lib.ListN.{get_or}
use Rattle.model.specs.Block.{Block, gate_count, first, last}
use Rattle.model.specs.Path.{stay, Longest}
use Rattle.model.specs.Part.{Shape, Inside, HasGate, Whole, SeriesParallel, lone, built}
use Rattle.optimum.specs.Tree.{Tree, wire, series, count, Once, longest}
use Rattle.optimum.specs.Increases.{read}
use Rattle.optimum.specs.BlockTree.{tree_of, whole_tree, lone_tree, block_tree, WiresJoinGates, IsTree}
use Rattle.optimum.proofs.Count.{is_self, in_series}
use Rattle.optimum.proofs.Parts.{Ends, ends, wire_to, once_series, inside_stands, stands_inside, stands_once}
use Rattle.optimum.proofs.Paths.{Onward, onward, part_lasts}

-- a number up to 1 and not 0
one : (n : ℕ) → n ≤ 1 → 0 < n → n ≡ 1
one n h l = omega arith

module _ (B : Block) (P : Shape) (whole : Whole B P) (join : WiresJoinGates B) where
  abbrev part : Tree
  part = tree_of B.wires P (first B) (last B)

  -- the part and the last gate
  abbrev body : Tree
  body = series part (last B) (wire 0)

  e : Ends P (first B) (last B)
  e = ends P (first B) (last B) whole.part

  two : first B < last B
  two = let d = e.apart in omega arith

  in_whole : (g : ℕ) (C : Type 0) → 0 < count (whole_tree B P) g → (g ≡ first B → C) → (Inside P g → C) → (g ≡ last B → C) → C
  in_whole g C l on_first on_inside on_last =
      in_series (wire 0) (first B) body g C l
      (λ i. absurd (omega arith)) on_first
      (λ i.
      in_series part (last B) (wire 0) g C i
      (λ j. on_inside (stands_inside B.wires P (first B) (last B) g j)) on_last
      (λ j. absurd (omega arith)))

  whole_once : Once (whole_tree B P)
  whole_once =
      once_series (wire 0) (first B) body
      (λ g. omega arith) (once_series part (last B) (wire 0) (stands_once B.wires P (first B) (last B) whole.part)
      (λ g. omega arith)
      (λ g l k. omega arith)
      (λ l. e.not_last (stands_inside B.wires P (first B) (last B) (last B) l))
      (λ l. omega arith))
      (λ g l k. omega arith)
      (λ l. omega arith)
      (λ l.
      in_series part (last B) (wire 0) (first B) ⊥ l
      (λ j. e.not_first (stands_inside B.wires P (first B) (last B) (first B) j)) e.apart
      (λ j. omega arith))

  whole_all : (g : ℕ) → HasGate P (first B) (last B) g → 0 < count (whole_tree B P) g
  whole_all g (inl s) = rw s (omega (arith, is_self (first B)))
  whole_all g (inr (inl s)) = rw s (omega (arith, is_self (last B)))
  whole_all g (inr (inr i)) = omega (arith, inside_stands B.wires P (first B) (last B) g i)

  inside_below : (g : ℕ) → Inside P g → g < gate_count B
  inside_below g i =
      let w = wire_to P (first B) (last B) g i in
      (join w.0 g ((whole.wires w.0 g).1 w.1)).1

  pub whole_is_tree : IsTree B (whole_tree B P)
  whole_is_tree =
      record {
        once = whole_once;
        below = λ g l. in_whole g (g < gate_count B) l (λ s. omega (arith, two)) (inside_below g) (λ s. omega (arith, two));
        all = λ g l. one (count (whole_tree B P) g) (whole_once g) (whole_all g (whole.gates g l));
        lasts = λ d x. rw (same d x) (part_lasts B.wires d x P (first B) (last B) whole.part whole.wires);
      }
    where
      same : (d : ℕ → ℕ) (x : List ℕ)
          → longest d (whole_tree B P) (read (whole_tree B P) x) ≡ d (first B) + get_or x (first B) 0 + longest d part (read part x) + (d (last B) + get_or x (last B) 0)
      same d x = omega arith

-- a path along no wire stays where it is
only_stays : (e : ℕ → ℕ) (a z t : ℕ) → ((a ≡ z) × (t ≡ e a)) ⊎ Onward [] e a z t → t ≤ e a
only_stays e a z t (inl (s, k)) = omega arith
only_stays e a z t (inr o) = absurd (Memᴰ.not-nil o.along)

module _ (B : Block) (single : gate_count B ≡ 1) (no_wire : B.wires ≡ []) where
  pub lone_is_tree : IsTree B (lone_tree B)
  lone_is_tree =
      record {
        once = λ g. once_series (wire 0) 0 (wire 0) (λ g. omega arith) (λ g. omega arith) (λ g l k. omega arith) (λ l. omega arith) (λ l. omega arith) g;
        below = λ g l. in_series (wire 0) 0 (wire 0) g (g < gate_count B) l (λ i. absurd (omega arith)) (λ s. omega arith) (λ i. absurd (omega arith));
        all = λ g l. let s : g ≡ 0 = omega arith in rw s (omega (arith, is_self 0));
        lasts = λ d x. lasts (λ (g : ℕ). d g + get_or x g 0) _ (omega arith);
      }
    where
      lasts : (e : ℕ → ℕ) (T : ℕ) → T ≡ e 0 → Longest B.wires e 0 (gate_count B - 1) T
      lasts e T s =
          let z : gate_count B - 1 ≡ 0 = omega arith in
          rw (no_wire, z, s) (record { attained = stay; greatest = λ t p. only_stays e 0 0 t (onward [] e 0 0 t p) })

pub block_is_tree : (B : Block) (s : SeriesParallel B) → WiresJoinGates B → IsTree B (block_tree B s)
block_is_tree B (lone single no_wire) join = lone_is_tree B single no_wire
block_is_tree B (built P whole) join = whole_is_tree B P whole join
