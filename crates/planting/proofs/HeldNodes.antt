-- The nodes that a tree has by its count are those planted: they agree with the arrays that its nodes hold (`held_planted`).
-- Assumes nothing.
use mathlib.Core.Path.{◌≡◌, refl, sym, ◌∙◌}
use mathlib.Core.List.{map}
use mathlib.Core.Logic.{◌⊎◌, inl, inr}
use Prim.Native.Nat.{ℕ, ◌-◌, ◌≤◌, ◌<◌}
use native.Mathlib.Omega.{arith}
use lib.ListN.{length, get_or, get_or-eq_default}
use Rattle.std.proofs.lemmas.List.{length-map}
use Rattle.std.proofs.Math.ListN.{get_or-map}
use Rattle.lists.proofs.Compare.{le_or_lt}
use Rattle.lists.proofs.Over.{length_build, get_or_build}
use Rattle.parts.specs.Nodes.{Tree as NodeTree}
use Rattle.parts.proofs.Nodes.{SameNode}
use Rattle.planting.specs.Copy.{Plot}
use Rattle.planting.specs.Planted.{parent, Planted}
use Rattle.planting.specs.declared.tree.Node.{Node}
use Rattle.planting.specs.declared.tree.Tree.{Tree}
use Rattle.planting.specs.TreeWords.{plot_of, nodes_held, tree_nodes, tree_parents, no_node, number_of, left_of, gate_of, right_of, column, NodeIn, KindIs}
use Rattle.planting.proofs.Agreeing.{same_planted}

-- the nodes that the tree has, with their parents
abbrev pub held_plot : Tree → Plot
held_plot tree = record { nodes = tree_nodes tree; parents = tree_parents tree }

module _ (tree : Tree) where
  at_column : (f : Node → ℕ) (k : ℕ) → k < nodes_held tree → get_or (column f tree) k 0 ≡ f (get_or tree.nodes k no_node)
  unfolding column
  at_column f k l = get_or_build (nodes_held tree) _ k 0 l

  -- as many nodes as the count says
  pub kinds_held : length (tree_nodes tree).kinds ≡ nodes_held tree
  unfolding tree_nodes column
  kinds_held = length_build (nodes_held tree) _

  module _ (k : ℕ) (n : NodeIn tree k) where
    pub kind_read : KindIs (tree_nodes tree) k (get_or tree.nodes k no_node).kind
    unfolding tree_nodes
    kind_read =
        record {
          number = sym (at_column (λ m. number_of m.kind) k n.node);
          left = sym (at_column (λ m. left_of m.kind) k n.node);
          gate = sym (at_column (λ m. gate_of m.kind) k n.node);
          right = sym (at_column (λ m. right_of m.kind) k n.node);
        }

    pub parent_read : (get_or tree.nodes k no_node).parent ≡ get_or (tree_parents tree) k 0
    unfolding tree_parents
    parent_read = sym (at_column (λ m. m.parent) k n.node)

module _ (tree : Tree) {t : NodeTree} {c : ℕ} (some : 0 < c) (p : Planted t c (plot_of tree)) where
  -- its top's parent has a number, so it is there
  planted_there : c ≤ length tree.nodes
  unfolding plot_of
  planted_there = go (le_or_lt (length tree.nodes) (c - 1))
    where
      go : (length tree.nodes ≤ c - 1) ⊎ (c - 1 < length tree.nodes) → c ≤ length tree.nodes
      go (inl l) =
          let parents = map (λ n. n.parent) tree.nodes in
          let none : get_or parents (c - 1) 0 ≡ 0 = get_or-eq_default parents 0 (rw (length-map tree.nodes (λ n. n.parent)) l) in
          absurd (omega (arith, p.top_parent, none))
      go (inr l) = omega arith

  module _ (held : nodes_held tree ≡ c) where
    same : (f : Node → ℕ) → f no_node ≡ 0 → (k : ℕ) → k < c → get_or (column f tree) k 0 ≡ get_or (map f tree.nodes) k 0
    same f none k l = at_column tree f k (omega arith) ∙ sym (rw none at (get_or-map f tree.nodes k no_node))

    held_node : (k : ℕ) → k < c → SameNode (plot_of tree).nodes (tree_nodes tree) k
    unfolding plot_of tree_nodes
    held_node k l =
        record {
          kind = same (λ n. number_of n.kind) refl k l;
          left = same (λ n. left_of n.kind) refl k l;
          gate = same (λ n. gate_of n.kind) refl k l;
          right = same (λ n. right_of n.kind) refl k l;
        }

    held_parent : (k : ℕ) → k < c → parent (held_plot tree) k ≡ parent (plot_of tree) k
    unfolding plot_of tree_parents
    held_parent = same (λ n. n.parent) refl

    pub held_planted : Planted t c (held_plot tree)
    held_planted = same_planted (held_plot tree) some held_node held_parent p
