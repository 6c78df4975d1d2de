-- The tree of a block in other arrays that hold the same nodes. Assumes nothing.
use Rattle.std.specs.Prelude.{◌≢◌, Option, Result, Ok, Err, IsErrAnd}
use mathlib.Core.Path.{◌≡◌, sym, subst}
use Prim.Native.Nat.{ℕ, ◌+◌, ◌≤◌, ◌<◌}
use native.Mathlib.Omega.{arith}
use lib.ListN.{length}
use Rattle.model.specs.Block.{Block, gate_count, first, last}
use Rattle.model.specs.Part.{Whole}
use Rattle.parts.specs.Nodes.{Nodes, shape_of, Weighed, tree_of}
use Rattle.parts.specs.Rooted.{Rooted}
use Rattle.parts.proofs.Gates.{part_ends}
use Rattle.parts.proofs.Nodes.{SameNode, grown}
use Rattle.model.specs.Answer.{NotSeriesParallelAt}
use Rattle.slots.specs.declared.NotSeriesParallel.{NotSeriesParallel}
use Rattle.reduction.specs.declared.tree.Root.{Root}
use Rattle.reduction.specs.Answered.{AnsweredIn}

module _ {B : Block} {T : Nodes} {t c : ℕ} (r : Rooted B T t c) where
  -- the block has more than one gate
  pub several : {n : ℕ} → gate_count B ≡ n → n ≢ 1
  several g e = (part_ends (shape_of (tree_of T t)) (first B) (last B) r.whole.part).differ (omega (arith, g))

  -- the same nodes in other arrays are the same tree
  pub same_rooted : {M : Nodes} → ((k : ℕ) → k < c → SameNode T M k) → (c ≤ length M.kinds) × (c ≤ length M.lefts) × (c ≤ length M.gates) × (c ≤ length M.rights) → Rooted B M t c
  same_rooted {M} same long =
      let tree = sym (grown T M c same t r.below) in
      record {
        whole = subst (λ x. Whole B (shape_of x)) tree r.whole;
        weighed = subst (λ x. Weighed B.wires (first B) (last B) x) tree r.weighed;
        below = r.below;
        children = λ j h. rw ((same j h).kind, (same j h).left, (same j h).right) (r.children j h);
        kinds_long = long.0;
        lefts_long = long.1;
        gates_long = long.2;
        rights_long = long.3;
      }

-- a block that is not series-parallel has no tree
pub none_answered : {B : Block} {e : NotSeriesParallel} (T : Nodes) (r : Result (Option Root) NotSeriesParallel) → IsErrAnd r (λ x. x ≡ e) → NotSeriesParallelAt B e.gate → AnsweredIn B T r
none_answered T (Ok root) is a = absurd is
none_answered {B} T (Err x) is a = subst (λ y. NotSeriesParallelAt B y.gate) (sym is) a
