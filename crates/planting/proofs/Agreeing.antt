-- What is planted in the first c nodes stays so in other arrays that agree there (`same_planted`); and the reduction's root can be copied.
-- Assumes nothing.
use mathlib.Core.Path.{◌≡◌, sym, ◌∙◌}
use Prim.Native.Nat.{ℕ, ◌<◌}
use native.Mathlib.Omega.{arith}
use lib.ListN.{length}
use Rattle.model.specs.Block.{Block}
use Rattle.parts.specs.Nodes.{Nodes, Tree, tree_of}
use Rattle.parts.specs.Rooted.{Rooted}
use Rattle.parts.proofs.Nodes.{SameNode, grown}
use Rattle.planting.specs.Copy.{Plot, max_reduced, Readable}
use Rattle.planting.specs.Planted.{kind, parent, Planted}

module _
    {t : Tree}
    {c : ℕ}
    {A : Plot}
    (B : Plot)
    (some : 0 < c)
    (same : (k : ℕ) → k < c → SameNode A.nodes B.nodes k)
    (same_parent : (k : ℕ) → k < c → parent B k ≡ parent A k)
    (p : Planted t c A)
  where
    same_tree : (k : ℕ) → k < c → tree_of B.nodes k ≡ tree_of A.nodes k
    same_tree = grown A.nodes B.nodes c same

    some_kind : (k : ℕ) → k < c → 0 < kind B.nodes k → 0 < kind A.nodes k
    some_kind k h s = omega (arith, (same k h).kind)

    pub same_planted : Planted t c B
    same_planted =
        record {
          top = same_tree _ (omega arith) ∙ p.top;
          top_parent = same_parent _ (omega arith) ∙ p.top_parent;
          above = λ k h. omega (arith, same_parent k h, p.above k h);
          left_below = λ k h s. omega (arith, (same k h).left, p.left_below k h (some_kind k h s));
          right_below = λ k h s. omega (arith, (same k h).right, p.right_below k h (some_kind k h s));
          left_parent =
              λ k h s.
              let l = p.left_below k h (some_kind k h s) in
              rw (same k h).left (same_parent _ (omega arith) ∙ p.left_parent k h (some_kind k h s));
          right_parent =
              λ k h s.
              let l = p.right_below k h (some_kind k h s) in
              rw (same k h).right (same_parent _ (omega arith) ∙ p.right_parent k h (some_kind k h s));
          own_gate =
              λ once j k h i x y z.
              p.own_gate once j k h i (sym (same j h).kind ∙ x) (sym (same k i).kind ∙ y) (sym (same j h).gate ∙ z ∙ (same k i).gate);
          inside = λ k h. rw (same_tree k h) (p.inside k h);
        }

-- The reduction's root can be copied, where it stands in arrays of `max_reduced` places.
pub rooted_readable : {B : Block} {T : Nodes} {i n : ℕ} → Rooted B T i n → length T.kinds ≡ max_reduced → Readable T i
rooted_readable r long =
    record { below = omega (arith, r.below, r.kinds_long); children = λ j h. r.children j (omega (arith, r.below)) }
