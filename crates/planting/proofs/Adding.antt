-- Copying a tree adds it at the nodes from c on (`copied_added`): by induction on the tree. One step serves series and parallel: two trees added one after the other, then a node above both.
-- Assumes nothing.
use mathlib.Core.Path.{◌≡◌, refl, sym, ◌∙◌, ap}
use mathlib.Core.Logic.{◌⊎◌, inl, inr}
use Prim.Native.Nat.{ℕ, ◌+◌, ◌-◌, ◌≤◌, ◌<◌}
use native.Mathlib.Nat.{le-max_left, le-max_right}
use native.Mathlib.Omega.{arith}
use lib.ListN.{length, set, length-set}
use lib.Seq.{get_or-set_same, get_or-set_other}
use Rattle.lists.proofs.Compare.{le_or_lt, compared}
use Rattle.parts.specs.Nodes.{leaf, chain, beside, Nodes, node_tree, tree_of, Tree as NodeTree}
use Rattle.parts.proofs.Nodes.{tree_at, tree_wire, SameNode, grown}
use Rattle.optimum.specs.Tree.{Tree, count, Once, size, zeros, longest}
use Rattle.optimum.proofs.Count.{is_self}
use Rattle.planting.specs.Copy.{Plot, nodes_of, with_leaf, with_parent, copied, Room}
use Rattle.planting.specs.Planted.{as_tree, part, kind, left, gate, right, parent, Inside}

-- The children of node k are nodes from c on, before k, and k is their parent.
pub record Parent (A : Plot) (c k : ℕ) : Type 0 where
  pub left_from : c ≤ left A.nodes k
  pub left_below : left A.nodes k < k
  pub left_parent : parent A (left A.nodes k) ≡ k
  pub right_from : c ≤ right A.nodes k
  pub right_below : right A.nodes k < k
  pub right_parent : parent A (right A.nodes k) ≡ k

-- From the arrays A to B the tree t was added, at the nodes from c on. The last of them is its top.
pub record Added (t : NodeTree) (c : ℕ) (A B : Plot) : Type 0 where
  pub same_node : (k : ℕ) → k < c → SameNode A.nodes B.nodes k
  pub same_parent : (k : ℕ) → k < c → parent B k ≡ parent A k
  pub top : tree_of B.nodes (c + nodes_of t - 1) ≡ t
  pub parents : (k : ℕ) → c ≤ k → k < c + nodes_of t → 0 < kind B.nodes k → Parent B c k
  pub above : (k : ℕ) → c ≤ k → k + 1 < c + nodes_of t → k < parent B k
  pub inside : (k : ℕ) → c ≤ k → k < c + nodes_of t → Inside (part B.nodes k) (as_tree t)
  pub own_gate : Once (as_tree t) → (j k : ℕ) → c ≤ j → j < c + nodes_of t → c ≤ k → k < c + nodes_of t → kind B.nodes j ≡ 1
      → kind B.nodes k ≡ 1 → gate B.nodes j ≡ gate B.nodes k → j ≡ k

pub nodes_some : (t : NodeTree) → 1 ≤ nodes_of t
nodes_some (leaf d) = omega arith
nodes_some (chain P m Q) = omega arith
nodes_some (beside P Q) = omega arith

inside_is : {s t : Tree} → s ≡ t → Inside s t
inside_is e = rw e (record { counts = λ g. omega arith; sizes = omega arith; lasts = λ d. omega arith })

inside_in : {s t u : Tree} → Inside s t → Inside t u → Inside s u
inside_in h k =
    record {
      counts = λ g. omega (arith, h.counts g, k.counts g);
      sizes = omega (arith, h.sizes, k.sizes);
      lasts = λ d. omega (arith, h.lasts d, k.lasts d);
    }

same_then : {L M N : Nodes} {k : ℕ} → SameNode L M k → SameNode M N k → SameNode L N k
same_then a b = record { kind = b.kind ∙ a.kind; left = b.left ∙ a.left; gate = b.gate ∙ a.gate; right = b.right ∙ a.right }

module _ (d c : ℕ) (A : Plot) (room : Room A (c + 1)) where
  abbrev N : Nodes
  N = (with_leaf c d A).nodes

  kind_there : (k : ℕ) → k ≡ c → kind N k ≡ 0
  kind_there k e = ap (kind N) e ∙ get_or-set_same A.nodes.kinds c 0 0 (omega (arith, room.kind_room))

  tree_there : (k : ℕ) → k ≡ c → tree_of N k ≡ leaf d
  tree_there k e =
      tree_wire N k (kind_there k e) ∙ ap leaf (ap (gate N) e ∙ get_or-set_same A.nodes.gates c d 0 (omega (arith, room.gate_room)))

  leaf_added : Added (leaf d) c A (with_leaf c d A)
  leaf_added =
      record {
        same_node =
            λ k l.
            record {
              kind = get_or-set_other A.nodes.kinds c k 0 0 (omega arith);
              left = get_or-set_other A.nodes.lefts c k 0 0 (omega arith);
              gate = get_or-set_other A.nodes.gates c k d 0 (omega arith);
              right = get_or-set_other A.nodes.rights c k 0 0 (omega arith);
            };
        same_parent = λ k l. refl;
        top = tree_there (c + 1 - 1) (omega arith);
        parents = λ k l m p. absurd (omega (arith, kind_there k (omega arith), p));
        above = λ k l m. absurd (omega arith);
        inside = λ k l m. inside_is (ap as_tree (tree_there k (omega arith)));
        own_gate = λ once j k a b e f x y z. omega arith;
      }

-- t is made of P and Q by a node of this kind and gate
record Joint (x m : ℕ) (P Q t : NodeTree) : Type 0 where
  some : 0 < x
  tree : node_tree x P m Q ≡ t
  nodes : nodes_of t ≡ nodes_of P + nodes_of Q + 1
  counts : (g : ℕ) → count (as_tree P) g + count (as_tree Q) g ≤ count (as_tree t) g
  own : x ≡ 1 → count (as_tree P) m + 1 + count (as_tree Q) m ≤ count (as_tree t) m
  sizes : size (as_tree P) + size (as_tree Q) ≤ size (as_tree t)
  left_lasts : (d : ℕ → ℕ) → longest d (as_tree P) (zeros (as_tree P)) ≤ longest d (as_tree t) (zeros (as_tree t))
  right_lasts : (d : ℕ → ℕ) → longest d (as_tree Q) (zeros (as_tree Q)) ≤ longest d (as_tree t) (zeros (as_tree t))

joint_chain : (P : NodeTree) (m : ℕ) (Q : NodeTree) → Joint 1 m P Q (chain P m Q)
joint_chain P m Q =
    record {
      some = omega arith;
      tree = refl;
      nodes = refl;
      counts = λ g. omega arith;
      own = λ e. omega (arith, is_self m);
      sizes = omega arith;
      left_lasts = λ d. omega arith;
      right_lasts = λ d. omega arith;
    }

joint_beside : (P Q : NodeTree) → Joint 2 0 P Q (beside P Q)
joint_beside P Q =
    record {
      some = omega arith;
      tree = refl;
      nodes = refl;
      counts = λ g. omega arith;
      own = λ e. absurd (omega arith);
      sizes = omega arith;
      left_lasts = λ d. le-max_left _ _;
      right_lasts = λ d. le-max_right _ _;
    }

-- the gate of a series node is one of the tree
gate_in : {t : NodeTree} {c : ℕ} {A B : Plot} → Added t c A B → (k : ℕ) → c ≤ k → k < c + nodes_of t → kind B.nodes k ≡ 1
    → 0 < count (as_tree t) (gate B.nodes k)
gate_in {B = B} a k h b e =
    let o = a.parents k h b (omega (arith, e)) in
    let N = B.nodes in
    let s : tree_of N k ≡ chain (tree_of N (left N k)) (gate N k) (tree_of N (right N k)) = tree_at N k o.left_below o.right_below ∙ rw e refl in
    let n : count (part N k) (gate N k) ≡ count (as_tree (chain (tree_of N (left N k)) (gate N k) (tree_of N (right N k)))) (gate N k) = ap (λ u. count (as_tree u) (gate N k)) s in
    omega (arith, (a.inside k h b).counts (gate N k), n, is_self (gate N k))

module _
    (x m : ℕ)
    (P Q t : NodeTree)
    (J : Joint x m P Q t)
    (c : ℕ)
    (A B C : Plot)
    (p : Added P c A B)
    (q : Added Q (c + nodes_of P) B C)
    (room : Room C (c + nodes_of P + nodes_of Q + 1))
  where
    abbrev l : ℕ
    l = c + nodes_of P

    abbrev r : ℕ
    r = l + nodes_of Q

    D : Plot
    D = with_parent x l m r C

    -- where a node of the tree stands: in the left part, in the right, or on top
    data Place (k : ℕ) : Type 0 where
      on_left : k < l → Place k
      on_right : l ≤ k → k < r → Place k
      on_top : k ≡ r → Place k

    place : (k : ℕ) → k < c + nodes_of t → Place k
    place k h = go (le_or_lt l k) (le_or_lt r k)
      where
        go : (l ≤ k) ⊎ (k < l) → (r ≤ k) ⊎ (k < r) → Place k
        go (inr a) b = on_left a
        go (inl a) (inr b) = on_right a b
        go (inl a) (inl b) = on_top (omega (arith, J.nodes))

    before_top : (k : ℕ) → k < r → SameNode C.nodes D.nodes k
    unfolding D
    before_top k h =
        record {
          kind = get_or-set_other C.nodes.kinds r k x 0 (omega arith);
          left = get_or-set_other C.nodes.lefts r k (l - 1) 0 (omega arith);
          gate = get_or-set_other C.nodes.gates r k m 0 (omega arith);
          right = get_or-set_other C.nodes.rights r k (r - 1) 0 (omega arith);
        }

    kind_top : kind D.nodes r ≡ x
    unfolding D
    kind_top = get_or-set_same C.nodes.kinds r x 0 (omega (arith, room.kind_room))

    left_top : left D.nodes r ≡ l - 1
    unfolding D
    left_top = get_or-set_same C.nodes.lefts r (l - 1) 0 (omega (arith, room.left_room))

    gate_top : gate D.nodes r ≡ m
    unfolding D
    gate_top = get_or-set_same C.nodes.gates r m 0 (omega (arith, room.gate_room))

    right_top : right D.nodes r ≡ r - 1
    unfolding D
    right_top = get_or-set_same C.nodes.rights r (r - 1) 0 (omega (arith, room.right_room))

    parent_right : parent D (r - 1) ≡ r
    unfolding D
    parent_right =
        get_or-set_same (set C.parents (l - 1) r) (r - 1) r 0
        (rw (length-set C.parents (l - 1) r) (omega (arith, room.parent_room, nodes_some Q)))

    parent_left : parent D (l - 1) ≡ r
    unfolding D
    parent_left =
        get_or-set_other (set C.parents (l - 1) r) (r - 1) (l - 1) r 0 (omega (arith, nodes_some P, nodes_some Q))
        ∙ get_or-set_same C.parents (l - 1) r 0 (omega (arith, room.parent_room, nodes_some P))

    parent_other : (k : ℕ) → (k ≡ l - 1 → ⊥) → (k ≡ r - 1 → ⊥) → parent D k ≡ parent C k
    unfolding D
    parent_other k a b = get_or-set_other (set C.parents (l - 1) r) (r - 1) k r 0 b ∙ get_or-set_other C.parents (l - 1) k r 0 a

    left_same : (k : ℕ) → k < l → SameNode B.nodes D.nodes k
    left_same k h = same_then (q.same_node k h) (before_top k (omega arith))

    left_tree : (k : ℕ) → k < l → tree_of D.nodes k ≡ tree_of B.nodes k
    left_tree = grown B.nodes D.nodes l left_same

    right_tree : (k : ℕ) → k < r → tree_of D.nodes k ≡ tree_of C.nodes k
    right_tree = grown C.nodes D.nodes r before_top

    left_inside : Inside (as_tree P) (as_tree t)
    left_inside = record { counts = λ g. omega (arith, J.counts g); sizes = omega (arith, J.sizes); lasts = J.left_lasts }

    right_inside : Inside (as_tree Q) (as_tree t)
    right_inside = record { counts = λ g. omega (arith, J.counts g); sizes = omega (arith, J.sizes); lasts = J.right_lasts }

    top_is : tree_of D.nodes r ≡ t
    top_is =
        tree_at D.nodes r (omega (arith, left_top, nodes_some P)) (omega (arith, right_top, nodes_some Q))
        ∙ rw (kind_top, gate_top, left_top, right_top, left_tree (l - 1) (omega (arith, nodes_some P)), right_tree (r - 1) (omega (arith, nodes_some Q)), p.top, q.top) J.tree

    inside_all : (k : ℕ) → c ≤ k → Place k → Inside (part D.nodes k) (as_tree t)
    inside_all k h (on_left a) = rw (left_tree k a) (inside_in (p.inside k h a) left_inside)
    inside_all k h (on_right a b) = rw (right_tree k b) (inside_in (q.inside k a b) right_inside)
    inside_all k h (on_top e) = inside_is (ap as_tree (ap (tree_of D.nodes) e ∙ top_is))

    parents_all : (k : ℕ) → c ≤ k → Place k → 0 < kind D.nodes k → Parent D c k
    parents_all k h (on_left a) s =
        let n = left_same k a in
        let o = p.parents k h a (omega (arith, n.kind)) in
        record {
          left_from = omega (arith, n.left, o.left_from);
          left_below = omega (arith, n.left, o.left_below);
          left_parent =
              rw n.left
              (parent_other _ (omega (arith, o.left_below)) (omega (arith, o.left_below, nodes_some Q)) ∙ q.same_parent _ (omega (arith, o.left_below)) ∙ o.left_parent);
          right_from = omega (arith, n.right, o.right_from);
          right_below = omega (arith, n.right, o.right_below);
          right_parent =
              rw n.right
              (parent_other _ (omega (arith, o.right_below)) (omega (arith, o.right_below, nodes_some Q)) ∙ q.same_parent _ (omega (arith, o.right_below)) ∙ o.right_parent);
        }
    parents_all k h (on_right a b) s =
        let n = before_top k b in
        let o = q.parents k a b (omega (arith, n.kind)) in
        record {
          left_from = omega (arith, n.left, o.left_from);
          left_below = omega (arith, n.left, o.left_below);
          left_parent =
              rw n.left
              (parent_other _ (omega (arith, o.left_from, nodes_some P)) (omega (arith, o.left_below)) ∙ o.left_parent);
          right_from = omega (arith, n.right, o.right_from);
          right_below = omega (arith, n.right, o.right_below);
          right_parent =
              rw n.right
              (parent_other _ (omega (arith, o.right_from, nodes_some P)) (omega (arith, o.right_below)) ∙ o.right_parent);
        }
    parents_all k h (on_top e) s =
        rw e
        (record {
          left_from = omega (arith, left_top, nodes_some P);
          left_below = omega (arith, left_top, nodes_some P);
          left_parent = rw left_top parent_left;
          right_from = omega (arith, right_top, nodes_some Q);
          right_below = omega (arith, right_top, nodes_some Q);
          right_parent = rw right_top parent_right;
        })

    -- every node but the top has a parent above it
    above_all : (k : ℕ) → c ≤ k → k < r → k < parent D k
    above_all k h b = go (compared k (l - 1)) (compared k (r - 1))
      where
        go : (k < l - 1) ⊎ (k ≡ l - 1) ⊎ (l - 1 < k) → (k < r - 1) ⊎ (k ≡ r - 1) ⊎ (r - 1 < k) → k < parent D k
        go (inl i) j =
            omega (arith, parent_other k (omega arith) (omega (arith, nodes_some Q)), q.same_parent k (omega arith), p.above k h (omega arith))
        go (inr (inl e)) j = rw (e, parent_left) (omega (arith, nodes_some P))
        go (inr (inr i)) (inl j) = omega (arith, parent_other k (omega arith) (omega arith), q.above k (omega arith) (omega arith))
        go (inr (inr i)) (inr (inl e)) = rw (e, parent_right) (omega (arith, nodes_some Q))
        go (inr (inr i)) (inr (inr j)) = absurd (omega arith)

    in_left : (k : ℕ) → c ≤ k → k < l → kind D.nodes k ≡ 1 → 0 < count (as_tree P) (gate D.nodes k)
    in_left k h a e = let n = left_same k a in rw n.gate (gate_in p k h a (sym n.kind ∙ e))

    in_right : (k : ℕ) → l ≤ k → k < r → kind D.nodes k ≡ 1 → 0 < count (as_tree Q) (gate D.nodes k)
    in_right k a b e = let n = before_top k b in rw n.gate (gate_in q k a b (sym n.kind ∙ e))

    module _ (once : Once (as_tree t)) where
      sides_apart : (g h : ℕ) → g ≡ h → 0 < count (as_tree P) g → 0 < count (as_tree Q) h → ⊥
      sides_apart g h e u v = let v' : 0 < count (as_tree Q) g = rw e v in omega (arith, once g, J.counts g)

      top_apart : (g k : ℕ) → k ≡ r → kind D.nodes k ≡ 1 → g ≡ gate D.nodes k → 0 < count (as_tree P) g + count (as_tree Q) g → ⊥
      top_apart g k e x f u =
          let one : 1 ≡ kind D.nodes r = sym x ∙ ap (kind D.nodes) e in
          let own : g ≡ m = f ∙ ap (gate D.nodes) e ∙ gate_top in
          let u' : 0 < count (as_tree P) m + count (as_tree Q) m = rw own at u in
          omega (arith, once m, J.own (sym kind_top ∙ sym one))

      own_all : (j k : ℕ) → c ≤ j → c ≤ k → Place j → Place k → kind D.nodes j ≡ 1 → kind D.nodes k ≡ 1 → gate D.nodes j ≡ gate D.nodes k → j ≡ k
      own_all j k hj hk (on_left a) (on_left b) x y z =
          let n = left_same j a in
          let o = left_same k b in
          p.own_gate (λ g. omega (arith, once g, J.counts g)) j k hj a hk b (sym n.kind ∙ x) (sym o.kind ∙ y) (sym n.gate ∙ z ∙ o.gate)
      own_all j k hj hk (on_left a) (on_right b d) x y z = absurd (sides_apart _ _ z (in_left j hj a x) (in_right k b d y))
      own_all j k hj hk (on_left a) (on_top e) x y z = absurd (top_apart _ k e y z (omega (arith, in_left j hj a x)))
      own_all j k hj hk (on_right a b) (on_left d) x y z = absurd (sides_apart _ _ (sym z) (in_left k hk d y) (in_right j a b x))
      own_all j k hj hk (on_right a b) (on_right d e) x y z =
          let n = before_top j b in
          let o = before_top k e in
          q.own_gate (λ g. omega (arith, once g, J.counts g)) j k a b d e (sym n.kind ∙ x) (sym o.kind ∙ y) (sym n.gate ∙ z ∙ o.gate)
      own_all j k hj hk (on_right a b) (on_top e) x y z = absurd (top_apart _ k e y z (omega (arith, in_right j a b x)))
      own_all j k hj hk (on_top e) (on_left b) x y z = absurd (top_apart _ j e x (sym z) (omega (arith, in_left k hk b y)))
      own_all j k hj hk (on_top e) (on_right b d) x y z = absurd (top_apart _ j e x (sym z) (omega (arith, in_right k b d y)))
      own_all j k hj hk (on_top e) (on_top f) x y z = e ∙ sym f

    joined_added : Added t c A (with_parent x l m r C)
    unfolding D
    joined_added =
        record {
          same_node = λ k h. same_then (p.same_node k h) (left_same k (omega arith));
          same_parent =
              λ k h.
              parent_other k (omega (arith, nodes_some P)) (omega (arith, nodes_some P, nodes_some Q)) ∙ q.same_parent k (omega arith) ∙ p.same_parent k h;
          top = let e : c + nodes_of t - 1 ≡ r = omega (arith, J.nodes) in rw e top_is;
          parents = λ k h n. parents_all k h (place k n);
          above = λ k h n. above_all k h (omega (arith, J.nodes));
          inside = λ k h n. inside_all k h (place k n);
          own_gate = λ once j k a b d e. own_all once j k a d (place j b) (place k e);
        }

-- the arrays of B are as long as those of A
record AsLong (A B : Plot) : Type 0 where
  kinds_kept : length B.nodes.kinds ≡ length A.nodes.kinds
  lefts_kept : length B.nodes.lefts ≡ length A.nodes.lefts
  gates_kept : length B.nodes.gates ≡ length A.nodes.gates
  rights_kept : length B.nodes.rights ≡ length A.nodes.rights
  parents_kept : length B.parents ≡ length A.parents

leaf_as_long : (d c : ℕ) (A : Plot) → AsLong A (with_leaf c d A)
leaf_as_long d c A =
    record {
      kinds_kept = length-set A.nodes.kinds c 0;
      lefts_kept = length-set A.nodes.lefts c 0;
      gates_kept = length-set A.nodes.gates c d;
      rights_kept = length-set A.nodes.rights c 0;
      parents_kept = refl;
    }

parent_as_long : (x l m r : ℕ) (A : Plot) → AsLong A (with_parent x l m r A)
parent_as_long x l m r A =
    record {
      kinds_kept = length-set A.nodes.kinds r x;
      lefts_kept = length-set A.nodes.lefts r (l - 1);
      gates_kept = length-set A.nodes.gates r m;
      rights_kept = length-set A.nodes.rights r (r - 1);
      parents_kept = length-set (set A.parents (l - 1) r) (r - 1) r ∙ length-set A.parents (l - 1) r;
    }

as_long_then : {A B C : Plot} → AsLong A B → AsLong B C → AsLong A C
as_long_then a b =
    record {
      kinds_kept = b.kinds_kept ∙ a.kinds_kept;
      lefts_kept = b.lefts_kept ∙ a.lefts_kept;
      gates_kept = b.gates_kept ∙ a.gates_kept;
      rights_kept = b.rights_kept ∙ a.rights_kept;
      parents_kept = b.parents_kept ∙ a.parents_kept;
    }

-- copying changes no length
copied_as_long : (t : NodeTree) (c : ℕ) (A : Plot) → AsLong A (copied t c A)
unfolding copied
copied_as_long (leaf d) c A = leaf_as_long d c A
copied_as_long (chain P m Q) c A =
    as_long_then (as_long_then (copied_as_long P c A) (copied_as_long Q (c + nodes_of P) (copied P c A))) (parent_as_long 1 _ m _ _)
copied_as_long (beside P Q) c A =
    as_long_then (as_long_then (copied_as_long P c A) (copied_as_long Q (c + nodes_of P) (copied P c A))) (parent_as_long 2 _ 0 _ _)

as_long_room : {A B : Plot} {n : ℕ} → AsLong A B → Room A n → Room B n
as_long_room l h =
    record {
      kind_room = rw l.kinds_kept h.kind_room;
      left_room = rw l.lefts_kept h.left_room;
      gate_room = rw l.gates_kept h.gate_room;
      right_room = rw l.rights_kept h.right_room;
      parent_room = rw l.parents_kept h.parent_room;
      few = h.few;
    }

pub leaf_room : (d c n : ℕ) (A : Plot) → Room A n → Room (with_leaf c d A) n
leaf_room d c n A h = as_long_room (leaf_as_long d c A) h

pub parent_room : (x l m r n : ℕ) (A : Plot) → Room A n → Room (with_parent x l m r A) n
parent_room x l m r n A h = as_long_room (parent_as_long x l m r A) h

pub copied_room : (t : NodeTree) (c n : ℕ) (A : Plot) → Room A n → Room (copied t c A) n
copied_room t c n A h = as_long_room (copied_as_long t c A) h

-- room for n nodes is room for fewer
pub less_room : {A : Plot} {m n : ℕ} → m ≤ n → Room A n → Room A m
less_room l h =
    record {
      kind_room = omega (arith, h.kind_room);
      left_room = omega (arith, h.left_room);
      gate_room = omega (arith, h.gate_room);
      right_room = omega (arith, h.right_room);
      parent_room = omega (arith, h.parent_room);
      few = omega (arith, h.few);
    }

-- A copied tree is added at the nodes from c on.
pub copied_added : (t : NodeTree) (c : ℕ) (A : Plot) → Room A (c + nodes_of t) → Added t c A (copied t c A)
unfolding copied
copied_added (leaf d) c A h = leaf_added d c A h
copied_added (chain P m Q) c A h =
    let B = copied P c A in
    let C = copied Q (c + nodes_of P) B in
    joined_added 1 m P Q (chain P m Q) (joint_chain P m Q) c A B C (copied_added P c A (less_room (omega arith) h))
    (copied_added Q (c + nodes_of P) B (copied_room P c _ A (less_room (omega arith) h)))
    (copied_room Q (c + nodes_of P) _ B (copied_room P c _ A (less_room (omega arith) h)))
copied_added (beside P Q) c A h =
    let B = copied P c A in
    let C = copied Q (c + nodes_of P) B in
    joined_added 2 0 P Q (beside P Q) (joint_beside P Q) c A B C (copied_added P c A (less_room (omega arith) h))
    (copied_added Q (c + nodes_of P) B (copied_room P c _ A (less_room (omega arith) h)))
    (copied_room Q (c + nodes_of P) _ B (copied_room P c _ A (less_room (omega arith) h)))
