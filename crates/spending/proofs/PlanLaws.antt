-- The plan of the words in which a block's steps are gathered is the plan of the arrays: what the functions of sizing ask over the words, and what they leave.
-- Assumes nothing.
use mathlib.Core.Path.{◌≡◌, refl, sym, subst}
use mathlib.Core.List.{List}
use Prim.Native.Nat.{ℕ, ◌-◌}
use lib.ListN.{length, get_or}
use Rattle.lists.specs.Sum.{sum}
use Rattle.model.specs.Block.{Block}
use Rattle.optimum.specs.BlockTree.{block_tree, increases}
use Rattle.planting.specs.declared.tree.Tree.{Tree}
use Rattle.planting.specs.TreeWords.{nodes_held, tree_nodes, tree_parents}
use Rattle.blockwords.specs.Gathered.{Gathered}
use Rattle.heads.specs.Plan.{Plan, plan}
use Rattle.heads.specs.declared.store.Heads.{Heads}
use Rattle.heads.specs.Stored.{AllThere}
use Rattle.planting.proofs.HeldNodes.{kinds_held}
use Rattle.heads.proofs.Gathering.{heads_gathered}
use Rattle.handout.specs.State.{State, state}
use Rattle.sizing.specs.Raise.{root, delays_in, Raised, Sizable}
use Rattle.sizing.specs.Pairs.{Curvable, Spent}
use Rattle.spending.specs.TreeHeld.{TreeArrays, TreeHeld, tree_arrays, tree_plan}
use Rattle.spending.proofs.TreeLaws.{sizable, curvable, list_is}

module _ {B : Block} {n : ℕ} (tree : Tree) {counts step_widths drops inputs delays block : List ℕ} (h : TreeHeld B n (tree_arrays tree counts step_widths drops inputs delays))
    (x : Gathered n counts step_widths drops inputs block) where
  abbrev arrays : TreeArrays
  arrays = tree_arrays tree counts step_widths drops inputs delays

  plan_is : plan block tree ≡ tree_plan n arrays
  plan_is = λ t. record { gate_count = x.gates t; nodes = tree_nodes tree; parents = tree_parents tree; heads = heads_gathered x t }

  last_node : {c : ℕ} → c ≡ nodes_held tree → root (tree_plan n arrays) ≡ c - 1
  last_node e = rw (e, kinds_held tree) refl

  pub can_start : {list : List ℕ} (kept : Heads) → length list ≡ n → AllThere kept → Sizable (plan block tree) (state list kept)
  can_start {list} kept e all = subst (λ (P : Plan). Sizable P (state list kept)) (sym plan_is) (sizable h kept e all)

  module _ {S : State} (raised : Raised (plan block tree) (delays_in delays) S) where
    by_arrays : Raised (tree_plan n arrays) (delays_in delays) S
    by_arrays = subst (λ (P : Plan). Raised P (delays_in delays) S) plan_is raised

    -- the increases at start are the block's
    pub started : S.increases ≡ increases B (block_tree B h.fits) 0
    started = list_is h 0 by_arrays.increases

    pub can_spend : {c s : ℕ} → c ≡ nodes_held tree → s ≡ sum n (λ (g : ℕ). get_or counts g 0) → Curvable (plan block tree) S (c - 1) s
    can_spend {c} {s} ec es =
        subst (λ (P : Plan). Curvable P S (c - 1) s) (sym plan_is)
        (subst (λ (i : ℕ). Curvable (tree_plan n arrays) S i s) (last_node ec) (curvable h by_arrays es))

  pub spent : {list list' ws gs ws' gs' : List ℕ} {c ticks s r : ℕ} → c ≡ nodes_held tree → s ≡ sum n (λ (g : ℕ). get_or counts g 0)
      → Spent (plan block tree) list list' (c - 1) ticks s r ws gs ws' gs'
      → Spent (tree_plan n arrays) list list' (root (tree_plan n arrays)) ticks (sum n (λ (g : ℕ). get_or counts g 0)) r ws gs ws' gs'
  spent {list} {list'} {ws} {gs} {ws'} {gs'} {c} {ticks} {s} {r} ec es runs =
      rw (← es)
      (subst (λ (i : ℕ). Spent (tree_plan n arrays) list list' i ticks s r ws gs ws' gs') (sym (last_node ec))
      (subst (λ (P : Plan). Spent P list list' (c - 1) ticks s r ws gs ws' gs') plan_is runs))
