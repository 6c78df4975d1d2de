-- What the copying functions write, put together. Assumes nothing.
use mathlib.Core.Path.{◌≡◌, refl, sym, ◌∙◌, ap}
use mathlib.Core.Logic.{◌⊎◌, inl, inr}
use Prim.Native.Nat.{ℕ, zero, suc, ◌+◌, ◌≤◌, ◌<◌}
use native.Mathlib.Decide.{ℕ_discrete}
use native.Mathlib.Omega.{arith}
use lib.ListN.{get_or}
use Rattle.parts.specs.Nodes.{leaf, chain, beside, Nodes, node_tree, tree_of, Tree}
use Rattle.parts.proofs.Nodes.{tree_at, tree_wire}
use Rattle.planting.specs.Copy.{Plot, nodes_of, with_leaf, with_parent, copied, Readable, Room}
use Rattle.planting.proofs.Adding.{nodes_some, less_room, copied_room}

-- node i is no wire: its children have smaller numbers
pub children : {T : Nodes} {i : ℕ} → Readable T i → (get_or T.kinds i 0 ≡ 0 → ⊥) → (get_or T.lefts i 0 < i) × (get_or T.rights i 0 < i)
children {T} {i} h n = go (h.children i (omega arith))
  where
    go : (get_or T.kinds i 0 ≡ 0) ⊎ ((get_or T.lefts i 0 < i) × (get_or T.rights i 0 < i)) → (get_or T.lefts i 0 < i) × (get_or T.rights i 0 < i)
    go (inl e) = absurd (n e)
    go (inr c) = c

pub readable_below : {T : Nodes} {i j : ℕ} → Readable T i → j < i → Readable T j
readable_below h l = record { below = omega (arith, h.below); children = λ k n. h.children k (omega arith) }

-- the tree t is copied, to the nodes from c to l
pub record Done (t : Tree) (c : ℕ) (A : Plot) (l : ℕ) (B : Plot) : Type 0 where
  pub count : l ≡ c + nodes_of t
  pub tree : B ≡ copied t c A

module _ {T : Nodes} {i : ℕ} (h : Readable T i) where
  abbrev tree_left : Tree
  tree_left = tree_of T (get_or T.lefts i 0)

  abbrev tree_right : Tree
  tree_right = tree_of T (get_or T.rights i 0)

  pub leaf_there : get_or T.kinds i 0 ≡ 0 → tree_of T i ≡ leaf (get_or T.gates i 0)
  leaf_there e = tree_wire T i e

  pub chain_there : get_or T.kinds i 0 ≡ 1 → tree_of T i ≡ chain tree_left (get_or T.gates i 0) tree_right
  chain_there e =
      let n = children h (λ z. absurd (omega (arith, e, z))) in
      tree_at T i n.0 n.1 ∙ rw e refl

  pub beside_there : (get_or T.kinds i 0 ≡ 0 → ⊥) → (get_or T.kinds i 0 ≡ 1 → ⊥) → tree_of T i ≡ beside tree_left tree_right
  beside_there z o =
      let n = children h z in
      tree_at T i n.0 n.1 ∙ go (get_or T.kinds i 0) z o
    where
      go : (x : ℕ) → (x ≡ 0 → ⊥) → (x ≡ 1 → ⊥) → node_tree x tree_left (get_or T.gates i 0) tree_right ≡ beside tree_left tree_right
      go zero z o = absurd (z refl)
      go (suc zero) z o = absurd (o refl)
      go (suc (suc x)) z o = refl

  -- the number of its nodes
  pub count_there : (get_or T.kinds i 0 ≡ 0 → ⊥) → nodes_of (tree_of T i) ≡ nodes_of tree_left + nodes_of tree_right + 1
  count_there z = go (ℕ_discrete (get_or T.kinds i 0) 1)
    where
      go : Dec (get_or T.kinds i 0 ≡ 1) → nodes_of (tree_of T i) ≡ nodes_of tree_left + nodes_of tree_right + 1
      go (yes e) = ap nodes_of (chain_there e)
      go (no o) = ap nodes_of (beside_there z o)

  module _ (c : ℕ) {A : Plot} (room : Room A (c + nodes_of (tree_of T i))) where
    pub leaf_asked : get_or T.kinds i 0 ≡ 0 → Room A (c + 1)
    leaf_asked e = let n = ap nodes_of (leaf_there e) in less_room (omega (arith, n)) room

    pub leaf_done : {D : Plot} → get_or T.kinds i 0 ≡ 0 → D ≡ with_leaf c (get_or T.gates i 0) A
        → (c + 1 ≡ c + nodes_of (tree_of T i)) × (D ≡ copied (tree_of T i) c A)
    unfolding copied
    leaf_done e d = rw (leaf_there e) (refl, d)

    module _ (z : get_or T.kinds i 0 ≡ 0 → ⊥) where
      pub left_asked : (j : ℕ) → j ≡ get_or T.lefts i 0 → (j < i) × Readable T j × Room A (c + nodes_of (tree_of T j))
      left_asked j e =
          let n = children h z in
          rw e (n.0, readable_below h n.0, less_room (omega (arith, count_there z)) room)

      pub left_done : {l : ℕ} (j : ℕ) {B : Plot} → j ≡ get_or T.lefts i 0 → l ≡ c + nodes_of (tree_of T j) → B ≡ copied (tree_of T j) c A → Done tree_left c A l B
      left_done j e n t = record { count = rw e at n; tree = rw e at t }

      module _ {l : ℕ} {B : Plot} (p : Done tree_left c A l B) where
        room_then : Room B (c + nodes_of (tree_of T i))
        room_then = rw p.tree (copied_room tree_left c _ A room)

        pub right_asked : (j : ℕ) → j ≡ get_or T.rights i 0 → (j < i) × Readable T j × Room B (l + nodes_of (tree_of T j))
        right_asked j e =
            let n = children h z in
            rw e (n.1, readable_below h n.1, less_room (omega (arith, count_there z, p.count)) room_then)

        pub right_done : {r : ℕ} (j : ℕ) {C : Plot} → j ≡ get_or T.rights i 0 → r ≡ l + nodes_of (tree_of T j) → C ≡ copied (tree_of T j) l B → Done tree_right l B r C
        right_done j e n t = record { count = rw e at n; tree = rw e at t }

        module _ {r : ℕ} {C : Plot} (q : Done tree_right l B r C) where
          pub top_asked : Room C (r + 1) × (1 ≤ l) × (l + 1 ≤ r)
          top_asked =
              let there : Room C (c + nodes_of (tree_of T i)) = rw q.tree (copied_room tree_right l _ B room_then) in
              (less_room (omega (arith, count_there z, p.count, q.count)) there, omega (arith, p.count, nodes_some tree_left), omega (arith, q.count, nodes_some tree_right))

          count_done : r + 1 ≡ c + nodes_of (tree_of T i)
          count_done = omega (arith, count_there z, p.count, q.count)

          both : (x m : ℕ) → with_parent x l m r C ≡ with_parent x (c + nodes_of tree_left) m (c + nodes_of tree_left + nodes_of tree_right) (copied tree_right (c + nodes_of tree_left) (copied tree_left c A))
          both x m = rw (q.tree, q.count, p.tree, p.count)

          pub chain_done : {D : Plot} → get_or T.kinds i 0 ≡ 1 → D ≡ with_parent 1 l (get_or T.gates i 0) r C
              → (r + 1 ≡ c + nodes_of (tree_of T i)) × (D ≡ copied (tree_of T i) c A)
          unfolding copied
          chain_done e d = (count_done, d ∙ both 1 (get_or T.gates i 0) ∙ ap (λ t. copied t c A) (sym (chain_there e)))

          pub beside_done : {D : Plot} → (get_or T.kinds i 0 ≡ 1 → ⊥) → D ≡ with_parent 2 l 0 r C
              → (r + 1 ≡ c + nodes_of (tree_of T i)) × (D ≡ copied (tree_of T i) c A)
          unfolding copied
          beside_done o d = (count_done, d ∙ both 2 0 ∙ ap (λ t. copied t c A) (sym (beside_there z o)))
