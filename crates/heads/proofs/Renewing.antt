-- Heads renewed in kept along the parents: no head of a gate changes.
-- Assumes nothing.
use mathlib.Core.Path.{◌≡◌, refl, ◌∙◌}
use Prim.Native.Nat.{ℕ, ◌≤◌, ◌<◌}
use native.Mathlib.Omega.{arith}
use Rattle.planting.specs.declared.tree.Tree.{Tree}
use Rattle.planting.specs.TreeWords.{tree_nodes, tree_parents, NodeIn}
use Rattle.heads.specs.Plan.{parent}
use Rattle.heads.specs.declared.store.Heads.{Heads}
use Rattle.heads.specs.Stored.{CanMake, CanRenew, NodeWritten, NodesRenewed, gate_heads, node_heads, head_below, put}
use Rattle.heads.proofs.Reading.{node_in}
use Rattle.heads.proofs.Climbing.{Climbed, climb_starts, climb_makes, climb_further, climb_rises, climb_ends, up_within}

pub record ClimbedIn (tree : Tree) (kept₀ : Heads) (j i : ℕ) (kept : Heads) (k : ℕ) : Type 0 where
  pub gates : gate_heads kept ≡ gate_heads kept₀
  pub climbed : Climbed (tree_nodes tree) (tree_parents tree) (gate_heads kept₀) (node_heads kept₀) j i (node_heads kept) k

module _ {tree : Tree} {kept₀ : Heads} {j i : ℕ} (can : CanRenew tree kept₀ j i) where
  pub starts : ClimbedIn tree kept₀ j i kept₀ j
  starts = record { gates = refl; climbed = climb_starts can.renewable }

  module _ {kept : Heads} {k : ℕ} (c : ClimbedIn tree kept₀ j i kept k) where
    pub makes : CanMake tree kept k
    makes = record { made = rw c.gates (climb_makes can.renewable c.climbed) }

    pub node_on_way : NodeIn tree k
    node_on_way = node_in tree k makes.made.node makes.made.few

    pub rises : {p : ℕ} → p ≡ parent (tree_parents tree) k → k < i → (k < p) × (p ≤ i)
    rises = climb_rises can.renewable c.climbed

    module _ {kept' : Heads} (w : NodeWritten kept kept' k (head_below (tree_nodes tree) (gate_heads kept) (node_heads kept) k)) where
      by_start : node_heads kept' ≡ put (node_heads kept) k (head_below (tree_nodes tree) (gate_heads kept₀) (node_heads kept) k)
      by_start = w.nodes ∙ rw c.gates

      pub further : {p : ℕ} → p ≡ parent (tree_parents tree) k → k < i → ClimbedIn tree kept₀ j i kept' p
      further e l = record { gates = w.gates ∙ c.gates; climbed = climb_further can.renewable c.climbed by_start e l }

      pub ends : k ≡ i → NodesRenewed tree kept₀ kept' j i
      ends e = record { gates = w.gates ∙ c.gates; renewed = climb_ends can.renewable c.climbed by_start e }

  pub at_top : {kept : Heads} {k : ℕ} → ClimbedIn tree kept₀ j i kept k → i ≤ k → k ≡ i
  at_top c l = let u = up_within _ _ _ c.climbed.up in omega arith
