-- The tree of a block planted: the block's wires may be reduced (`reducible`), the tree that the reduction finds may be planted (`root_asked`), and what is planted is the block's tree (`lone_planted`, `root_planted`).
-- Assumes nothing.
use Rattle.std.specs.Prelude.{Result, Ok, Err, IsErrAnd}
use mathlib.Core.Path.{◌≡◌, refl, sym, ◌∙◌, ap, subst}
use mathlib.Core.Logic.{◌≢◌}
use mathlib.Core.List.{List}
use Prim.Native.Nat.{ℕ, ◌-◌, ◌≤◌}
use native.Mathlib.Omega.{arith}
use lib.ListN.{length}
use Rattle.model.specs.Limits.{max_gates, max_wires}
use Rattle.model.specs.Block.{Block, gate_count, first, last}
use Rattle.model.specs.Part.{SeriesParallel, built}
use Rattle.model.specs.Part as Part
use Rattle.model.specs.Answer.{NotSeriesParallelAt}
use Rattle.parts.specs.Nodes.{Nodes, shape_of, tree_of}
use Rattle.parts.specs.Network.{Network}
use Rattle.parts.specs.Rooted.{Rooted}
use Rattle.parts.proofs.Gates.{part_ends}
use Rattle.reduction.specs.Wired.{Given as Reducible}
use Rattle.optimum.specs.BlockTree.{block_tree, lone_tree}
use Rattle.planting.specs.Copy.{nodes_of, max_reduced, planted_in, max_nodes, Readable, Room}
use Rattle.planting.specs.Planted.{as_tree, whole, lone}
use Rattle.planting.specs.Planted as Planting
use Rattle.planting.specs.declared.tree.Tree.{Tree as StoredTree}
use Rattle.planting.specs.TreeWords.{plot_of, nodes_held}
use Rattle.planting.proofs.Agreeing.{rooted_readable}
use Rattle.planting.proofs.Writing.{there_is_room}
use Rattle.planting.proofs.Wires.{few_nodes}
use Rattle.planting.proofs.Trees.{whole_converted}
use Rattle.slots.specs.declared.NotSeriesParallel.{NotSeriesParallel}
use Rattle.shaping.specs.PlantedBlock.{Given, PlantedOrNot}
use Rattle.shaping.proofs.Facts.{join, network, no_wire_twice}

-- The tree of a block of one gate is that gate: the ends of a part are different gates.
pub lone_case : {B : Block} → gate_count B ≡ 1 → (fits : SeriesParallel B) → block_tree B fits ≡ lone_tree B
lone_case single (Part.lone e none) = refl
lone_case {B} single (built P w) = absurd ((part_ends P (first B) (last B) w.part).differ (omega arith))

-- Where the block is not series-parallel, the error is passed on.
pub none_planted : {B : Block} {e : NotSeriesParallel} (r : Result ℕ NotSeriesParallel) (tree : StoredTree) → IsErrAnd r (λ x. x ≡ e) → NotSeriesParallelAt B e.gate → PlantedOrNot B r tree tree
none_planted (Ok c) tree is a = absurd is
none_planted {B} (Err x) tree is a = (subst (λ y. NotSeriesParallelAt B y.gate) (sym is) a, refl)

module _ {B : Block} {n m : ℕ} {sources targets wire_delays : List ℕ} (given : Given B n m sources targets wire_delays) where
  pub given_network : Network B
  given_network = network B given.limits given.sound

  pub reducible : Reducible n m sources targets wire_delays
  reducible = record { block = B; network = given_network; wired = given.wired }

  pub some_gate : 1 ≤ n
  some_gate = omega (arith, given.limits.some_gate, given.wired.gates)

  pub few_gates : n ≤ max_gates
  few_gates = omega (arith, given.limits.gates_most, given.wired.gates)

  pub few_wires : m ≤ max_wires
  few_wires = omega (arith, given.limits.wires_most, given.wired.count)

  root_few : {T : Nodes} {t k : ℕ} → Rooted B T t k → (a b : ℕ) → nodes_of (whole a (tree_of T t) b) ≤ max_nodes
  root_few {T} {t} r a b = omega (arith, few_nodes B (tree_of T t) r.whole (join B given.limits given.sound), given.limits.gates_most)

  -- One gate has no root.
  pub root_of_several : {T : Nodes} {t k : ℕ} → Rooted B T t k → n ≢ 1
  root_of_several {T} {t} r e = (part_ends (shape_of (tree_of T t)) (first B) (last B) r.whole.part).differ (omega (arith, given.wired.gates))

  -- The root can be copied, and there is room for its tree between two gates.
  pub root_asked : {T : Nodes} {t k : ℕ} (tree : StoredTree) → Rooted B T t k → length T.kinds ≡ max_reduced → max_nodes ≤ length tree.nodes → (a b : ℕ) → Readable T t × Room (plot_of tree) (nodes_of (whole a (tree_of T t) b))
  root_asked {T} {t} tree r full long a b =
      (rooted_readable r full, there_is_room tree (nodes_of (whole a (tree_of T t) b)) long (root_few r a b))

  -- What is planted is the block's tree.
  pub lone_planted : (before after : StoredTree) {c : ℕ} → (gate_count B ≡ 1) × SeriesParallel B → c ≡ 3 → Planting.Planted (lone 0) c (plot_of after) → plot_of after ≡ planted_in (lone 0) (plot_of before) → nodes_held after ≡ c → PlantedOrNot B (Ok c) before after
  lone_planted before after (single, fits) count planted written held =
      record { fits = fits; tree = lone 0; is_tree = sym (lone_case single fits); planted = planted; written = written; held = held; some = omega arith; few = omega arith }

  root_is_tree : {T : Nodes} {t k : ℕ} (r : Rooted B T t k) → as_tree (whole 0 (tree_of T t) (n - 1)) ≡ block_tree B (built _ r.whole)
  root_is_tree {T} {t} r =
      ap (λ b. as_tree (whole 0 (tree_of T t) (b - 1))) (sym given.wired.gates)
      ∙ whole_converted B (no_wire_twice B given.limits given.sound) (tree_of T t) r.weighed

  pub root_planted : {T : Nodes} {t k : ℕ} (before after : StoredTree) {c : ℕ} → Rooted B T t k → c ≡ nodes_of (whole 0 (tree_of T t) (n - 1)) → Planting.Planted (whole 0 (tree_of T t) (n - 1)) c (plot_of after) → plot_of after ≡ planted_in (whole 0 (tree_of T t) (n - 1)) (plot_of before) → nodes_held after ≡ c → PlantedOrNot B (Ok c) before after
  root_planted {T} {t} before after r count planted written held =
      record {
        fits = built _ r.whole;
        tree = whole 0 (tree_of T t) (n - 1);
        is_tree = root_is_tree r;
        planted = planted;
        written = written;
        held = held;
        some = omega arith;
        few = omega (arith, root_few r 0 (n - 1));
      }
