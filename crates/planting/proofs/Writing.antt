-- A node of a tree written: what it is, or its parent.
-- Assumes nothing.
use mathlib.Core.Path.{◌≡◌, refl, ◌∙◌, ap}
use Prim.Native.Nat.{ℕ, ◌-◌, ◌≤◌}
use native.Mathlib.Omega.{arith}
use lib.ListN.{length, get_or, set}
use Rattle.std.proofs.lemmas.List.{length-map, map-set}
use Rattle.std.proofs.Math.Seq.{map-set_same}
use Rattle.planting.specs.Copy.{Plot, max_nodes, rooted, Room}
use Rattle.planting.specs.declared.tree.Kind.{Kind}
use Rattle.planting.specs.declared.tree.Node.{Node}
use Rattle.planting.specs.declared.tree.Tree.{Tree}
use Rattle.planting.specs.TreeWords.{no_node, plot_of, number_of, left_of, gate_of, right_of, kind_put, above_put}

-- there is room for as many nodes as there are
pub there_is_room : (tree : Tree) (c : ℕ) → max_nodes ≤ length tree.nodes → c ≤ max_nodes → Room (plot_of tree) c
unfolding plot_of
there_is_room tree c long few =
    record {
      kind_room = omega (arith, length-map tree.nodes (λ n. number_of n.kind));
      left_room = omega (arith, length-map tree.nodes (λ n. left_of n.kind));
      gate_room = omega (arith, length-map tree.nodes (λ n. gate_of n.kind));
      right_room = omega (arith, length-map tree.nodes (λ n. right_of n.kind));
      parent_room = omega (arith, length-map tree.nodes (λ n. n.parent));
      few = omega arith;
    }

pub within : (tree : Tree) {c : ℕ} → Room (plot_of tree) c → c ≤ length tree.nodes
unfolding plot_of
within tree h = omega (arith, h.kind_room, length-map tree.nodes (λ n. number_of n.kind))

-- what node c is
abbrev pub with_kind : ℕ → Kind → Tree → Tree
with_kind c k tree = record tree { nodes = set tree.nodes c (record (get_or tree.nodes c no_node) { kind = k }) }

-- its parent
abbrev pub with_up : ℕ → ℕ → Tree → Tree
with_up c p tree = record tree { nodes = set tree.nodes c (record (get_or tree.nodes c no_node) { parent = p }) }

module _ (tree : Tree) (c : ℕ) where
  pub kind_written : (k : Kind) → plot_of (with_kind c k tree) ≡ record { nodes = kind_put c k (plot_of tree).nodes; parents = (plot_of tree).parents }
  unfolding plot_of
  kind_written k =
      let v : Node = record (get_or tree.nodes c no_node) { kind = k } in
      λ t.
      record {
        nodes = record {
          kinds = map-set (λ n. number_of n.kind) tree.nodes c v t;
          lefts = map-set (λ n. left_of n.kind) tree.nodes c v t;
          gates = map-set (λ n. gate_of n.kind) tree.nodes c v t;
          rights = map-set (λ n. right_of n.kind) tree.nodes c v t;
        };
        parents = map-set_same (λ n. n.parent) tree.nodes c v no_node refl t;
      }

  pub up_written : (p : ℕ) → plot_of (with_up c p tree) ≡ record { nodes = (plot_of tree).nodes; parents = set (plot_of tree).parents c p }
  unfolding plot_of
  up_written p =
      let v : Node = record (get_or tree.nodes c no_node) { parent = p } in
      λ t.
      record {
        nodes = record {
          kinds = map-set_same (λ n. number_of n.kind) tree.nodes c v no_node refl t;
          lefts = map-set_same (λ n. left_of n.kind) tree.nodes c v no_node refl t;
          gates = map-set_same (λ n. gate_of n.kind) tree.nodes c v no_node refl t;
          rights = map-set_same (λ n. right_of n.kind) tree.nodes c v no_node refl t;
        };
        parents = map-set (λ n. n.parent) tree.nodes c v t;
      }

-- a node with its children's parents
pub above_written : (tree : Tree) (l r : ℕ) (k : Kind) → plot_of (with_up (r - 1) r (with_up (l - 1) r (with_kind r k tree))) ≡ above_put l k r (plot_of tree)
above_written tree l r k =
    up_written (with_up (l - 1) r (with_kind r k tree)) (r - 1) r
    ∙ ap (λ (A : Plot). record { nodes = A.nodes; parents = set A.parents (r - 1) r })
    (up_written (with_kind r k tree) (l - 1) r
    ∙ ap (λ (A : Plot). record { nodes = A.nodes; parents = set A.parents (l - 1) r }) (kind_written tree r k))

-- the top's parent, and how many nodes there are
pub root_written : (tree : Tree) (c count : ℕ) → plot_of (record (with_up (c - 1) c tree) { count = count }) ≡ rooted c (plot_of tree)
unfolding plot_of
root_written tree c count = up_written tree (c - 1) c
