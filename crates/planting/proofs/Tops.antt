-- A tree copied to the first nodes, its top's parent written, is planted (`planted`); so are the tree of a whole block and a gate alone, written piece by piece. The arrays are those of `planted_in`.
-- Assumes nothing.
use mathlib.Core.Path.{◌≡◌, refl, ◌∙◌, ap₂}
use mathlib.Core.Logic.{◌⊎◌, inl, inr}
use Prim.Native.Nat.{ℕ, ◌+◌, ◌-◌, ◌≤◌, ◌<◌, ◌^◌}
use native.Mathlib.Omega.{arith}
use lib.Seq.{get_or-set_same, get_or-set_other}
use Rattle.lists.proofs.Compare.{compared}
use Rattle.parts.specs.Nodes.{Tree, leaf, chain}
use Rattle.planting.specs.Copy.{Plot, nodes_of, with_leaf, with_parent, copied, rooted, planted_in, Room}
use Rattle.planting.specs.Planted.{left, right, parent, Planted, whole, lone}
use Rattle.planting.proofs.Adding.{Added, nodes_some, less_room, leaf_room, parent_room, copied_room, copied_added}

pub planted : (t : Tree) (A : Plot) → Room A (nodes_of t) → Planted t (nodes_of t) (rooted (nodes_of t) (copied t 0 A))
planted t A room = go (copied t 0 A) (copied_room t 0 _ A room) (copied_added t 0 A (less_room (omega arith) room))
  where
    go : (B : Plot) → Room B (nodes_of t) → Added t 0 A B → Planted t (nodes_of t) (rooted (nodes_of t) B)
    go B there a =
        record {
          top = let e : nodes_of t - 1 ≡ 0 + nodes_of t - 1 = omega arith in rw e a.top;
          top_parent = get_or-set_same B.parents (nodes_of t - 1) (nodes_of t) 0 (omega (arith, there.parent_room, nodes_some t));
          above = λ k h. above_all k h (compared k (nodes_of t - 1));
          left_below = λ k h s. (a.parents k (omega arith) (omega arith) s).left_below;
          right_below = λ k h s. (a.parents k (omega arith) (omega arith) s).right_below;
          left_parent =
              λ k h s.
              let o = a.parents k (omega arith) (omega arith) s in
              get_or-set_other B.parents (nodes_of t - 1) (left B.nodes k) (nodes_of t) 0 (omega (arith, o.left_below)) ∙ o.left_parent;
          right_parent =
              λ k h s.
              let o = a.parents k (omega arith) (omega arith) s in
              get_or-set_other B.parents (nodes_of t - 1) (right B.nodes k) (nodes_of t) 0 (omega (arith, o.right_below)) ∙ o.right_parent;
          own_gate = λ once j k b d. a.own_gate once j k (omega arith) (omega arith) (omega arith) (omega arith);
          inside = λ k h. a.inside k (omega arith) (omega arith);
        }
      where
        above_all : (k : ℕ) → k < nodes_of t → (k < nodes_of t - 1) ⊎ (k ≡ nodes_of t - 1) ⊎ (nodes_of t - 1 < k) → k < parent (rooted (nodes_of t) B) k
        above_all k h (inl l) =
            omega (arith, get_or-set_other B.parents (nodes_of t - 1) k (nodes_of t) 0 (omega arith), a.above k (omega arith) (omega arith))
        above_all k h (inr (inl e)) =
            rw (e, get_or-set_same B.parents (nodes_of t - 1) (nodes_of t) 0 (omega (arith, there.parent_room, nodes_some t))) (omega (arith, nodes_some t))
        above_all k h (inr (inr l)) = absurd (omega arith)

-- a tree copied, with its top's parent written
planted_is : (t : Tree) {r : ℕ} {A B C : Plot} → Room A (nodes_of t) → r ≡ nodes_of t → B ≡ copied t 0 A → C ≡ rooted r B
    → Planted t r C × (C ≡ planted_in t A)
planted_is t {A = A} room n e p =
    rw (p, e, n) (planted t A room, refl)

module _ (t : Tree) (a b : ℕ) {A : Plot} (room : Room A (nodes_of (whole a t b))) where
  pub first_asked : Room A 1
  first_asked = less_room (omega arith) room

  module _ {B : Plot} (before : B ≡ with_leaf 0 0 A) where
    room_before : Room B (nodes_of (whole a t b))
    room_before = rw before (leaf_room 0 0 _ A room)

    pub tree_asked : Room B (1 + nodes_of t)
    tree_asked = less_room (omega arith) room_before

    module _ {l : ℕ} {C : Plot} (count : l ≡ 1 + nodes_of t) (tree : C ≡ copied t 1 B) where
      room_tree : Room C (nodes_of (whole a t b))
      room_tree = rw tree (copied_room t 1 _ B room_before)

      pub last_asked : Room C (l + 1)
      last_asked = less_room (omega (arith, count)) room_tree

      pub fits : l + 3 < 2 ^ 32
      fits = omega (arith, count, room.few)

      module _ {D : Plot} (behind : D ≡ with_leaf l 0 C) where
        room_behind : Room D (nodes_of (whole a t b))
        room_behind = rw behind (leaf_room 0 l _ C room_tree)

        pub inner_asked : Room D (l + 1 + 1) × (1 ≤ l) × (l + 1 ≤ l + 1)
        inner_asked = (less_room (omega (arith, count)) room_behind, omega (arith, count), omega arith)

        module _ {E : Plot} (inner : E ≡ with_parent 1 l b (l + 1) D) where
          room_inner : Room E (nodes_of (whole a t b))
          room_inner = rw inner (parent_room 1 l b (l + 1) _ D room_behind)

          pub outer_asked : Room E (l + 2 + 1) × (1 ≤ 1) × (1 + 1 ≤ l + 2)
          outer_asked = (less_room (omega (arith, count)) room_inner, omega arith, omega arith)

          inner_is : E ≡ copied (chain t b (leaf 0)) 1 (with_leaf 0 0 A)
          unfolding copied
          inner_is = inner ∙ rw (behind, tree, before, count) refl

          module _ {F : Plot} (outer : F ≡ with_parent 1 1 a (l + 2) E) where
            pub root_asked : Room F (l + 3) × (1 ≤ l + 3)
            root_asked =
                let there : Room F (nodes_of (whole a t b)) = rw outer (parent_room 1 1 a (l + 2) _ E room_inner) in
                (less_room (omega (arith, count)) there, omega arith)

            outer_is : F ≡ copied (whole a t b) 0 A
            unfolding copied
            outer_is =
                let e : l + 2 ≡ 1 + (nodes_of t + 1 + 1) = omega (arith, count) in
                outer ∙ ap₂ (λ r X. with_parent 1 1 a r X) e inner_is

            pub whole_done : {G : Plot} → G ≡ rooted (l + 3) F
                → (l + 3 ≡ nodes_of (whole a t b)) × (Planted (whole a t b) (l + 3) G × (G ≡ planted_in (whole a t b) A))
            whole_done p =
                let n : l + 3 ≡ nodes_of (whole a t b) = omega (arith, count) in
                (n, planted_is (whole a t b) room n outer_is p)

pub lone_done : (g : ℕ) {A B C D E : Plot} → Room A 3 → B ≡ with_leaf 0 0 A → C ≡ with_leaf 1 0 B → D ≡ with_parent 1 1 g 2 C
    → E ≡ rooted 3 D → Planted (lone g) 3 E × (E ≡ planted_in (lone g) A)
unfolding copied
lone_done g room b c d p = planted_is (lone g) room refl (d ∙ rw (c, b) refl) p

pub lone_second : {A B : Plot} → Room A 3 → B ≡ with_leaf 0 0 A → Room B 3
lone_second {A} room b = rw b (leaf_room 0 0 3 A room)

pub lone_third : {B C : Plot} → Room B 3 → C ≡ with_leaf 1 0 B → Room C 3
lone_third {B} room c = rw c (leaf_room 0 1 3 B room)

pub lone_last : (g : ℕ) {C D : Plot} → Room C 3 → D ≡ with_parent 1 1 g 2 C → Room D 3
lone_last g {C} room d = rw d (parent_room 1 1 g 2 3 C room)
