-- The tree that the reduction leaves is the tree of a series-parallel block, and where it leaves none the block is not series-parallel (`tree_found`).
-- Assumes nothing.
use mathlib.Core.Path.{◌≡◌, refl, sym, ◌∙◌, ap}
use mathlib.Core.Logic.{◌≢◌, ⊎_elim}
use mathlib.Core.Bool.{Bool, false≢true}
use mathlib.Core.Option.{Option, none, some}
use Prim.Native.Nat.{ℕ}
use native.Mathlib.Omega.{arith}
use borrow.Author.Tests.{eqb-true, eqb-false}
use lib.Dec.{eqb}
use lib.ListN.{length}
use Rattle.lists.proofs.Bool.{cases}
use Rattle.model.specs.Block.{Block, gate_count, first, last}
use Rattle.model.specs.Part.{SeriesParallel, lone, built}
use Rattle.optimum.specs.Tree.{Tree}
use Rattle.optimum.specs.BlockTree.{lone_tree, block_tree}
use Rattle.optimum.proofs.Parts.{ends}
use Rattle.parts.specs.Reduction.{Only}
use Rattle.parts.specs.Slots.{Live, slots}
use Rattle.parts.specs.Network.{Network}
use Rattle.parts.specs.Reduce.{is_some, sole, remainder, reducible}
use Rattle.parts.proofs.Search.{or_iff, FindsSole, sole_finds}
use Rattle.parts.proofs.Verdict.{whole, lone_gate}
use Rattle.parts.proofs.Reduce.{live_inside, left_reduced, reducible_verdict}
use Rattle.worked.specs.Computed.{tree_left, tree}

-- t is the tree of the block by some way to build it up; or there is none
abbrev pub Found : Block → Option Tree → Type 0
Found B none = ¬ (SeriesParallel B)
Found B (some t) = (s : SeriesParallel B) × (block_tree B s ≡ t)

module _ (B : Block) (n : Network B) where
  lone_found : gate_count B ≡ 1 → SeriesParallel B → Found B (some (lone_tree B))
  lone_found e (lone single no_wire) = (lone single no_wire, refl)
  lone_found e (built P w) = absurd ((ends P (first B) (last B) w.part).apart (omega arith))

  -- slot i is left
  abbrev left : ℕ → Bool
  left i = (slots (remainder B) i).live

  only_left : (i : ℕ) → FindsSole left (length (remainder B)) (some i) → Only (λ i. Live (slots (remainder B) i))
  only_left i f = record { value = i; holds = f.1; alone = λ j l. f.2 j (live_inside (remainder B) j l) l }

  left_found : gate_count B ≢ 1 → (r : Option ℕ) → sole left (length (remainder B)) ≡ r → FindsSole left (length (remainder B)) r → Found B (tree_left B r)
  unfolding reducible only_left
  left_found d none e f =
      λ s.
      ⊎_elim (λ h. d (eqb-true (gate_count B) 1 h)) (λ h. false≢true (sym (ap is_some e) ∙ h))
      ((or_iff (eqb (gate_count B) 1) (is_some (sole left (length (remainder B))))).0 ((reducible_verdict n).1 s))
  left_found d (some i) e f = (built (slots (remainder B) i).shape (whole n (left_reduced n).0 (only_left i f)), refl)

  pub tree_found : Found B (tree B)
  unfolding tree
  tree_found =
      cases (eqb (gate_count B) 1)
      (λ e. let one = eqb-true (gate_count B) 1 e in rw e (lone_found one (lone_gate n one)))
      (λ e.
      rw e (left_found (eqb-false (gate_count B) 1 e) (sole left (length (remainder B))) refl (sole_finds left (length (remainder B)))))
