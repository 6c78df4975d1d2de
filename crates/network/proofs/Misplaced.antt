-- What the marks of wires in and out tell of a gate is what refusal 9 says of it.
-- Assumes nothing.
use Rattle.std.proofs.Common.{Option, Some, None}
use mathlib.Core.Path.{◌≡◌, refl, sym, ◌∙◌, ap}
use mathlib.Core.Logic.{◌≢◌, ◌⊎◌, inl, inr}
use mathlib.Core.List.{List}
use Prim.Native.Nat.{ℕ, ◌-◌, ◌<◌}
use native.Mathlib.Omega.{arith}
use native.Mathlib.Decide.{ℕ_discrete}
use lib.ListN.{get_or}
use Rattle.lists.specs.Search.{LowestBelow}
use Rattle.model.specs.Block.{Block, last, Joined}
use Rattle.model.specs.Refusal.{EndFault, into_first, none_in, out_of_last, none_out}
use Rattle.ordering.specs.Wires.{Lent, InArrays}
use Rattle.ordering.specs.Marks.{Marks, Among}
use Rattle.network.specs.Misplaced.{Misplaced, too_many, missing, Faulty}
use Rattle.network.specs.Judged.{FaultFound}
use Rattle.ordering.proofs.Marks.{lowest_same}
use Rattle.ordering.proofs.Wired.{wired_gates, wired_joined, joined_wired}

-- One side: P tells which gates have a wire there.
module _ (P : ℕ → Type 0) (n : ℕ) (marks : List ℕ) (M : Marks P n marks) (g end : ℕ) (gate : g < n) where
  -- too many: g is the end and has a wire; missing: g is another and has none
  misplaced_says : Misplaced g end (get_or marks g 0) → ((g ≡ end) × P g) ⊎ ((g ≢ end) × (¬ (P g)))
  misplaced_says (too_many e d) = inl (e, M.right g gate d)
  misplaced_says (missing d z) = inr (d, λ p. M.whole g gate p z)

  says_too_many : g ≡ end → P g → Misplaced g end (get_or marks g 0)
  says_too_many e p = too_many e (M.whole g gate p)

  says_missing : g ≢ end → ¬ (P g) → Misplaced g end (get_or marks g 0)
  says_missing d none = missing d (unmarked (ℕ_discrete (get_or marks g 0) 0))
    where
      unmarked : Dec (get_or marks g 0 ≡ 0) → get_or marks g 0 ≡ 0
      unmarked (yes z) = z
      unmarked (no u) = absurd (none (M.right g gate u))

module _ (B : Block) (n m : ℕ) (sources targets : List ℕ) (I : InArrays B n m sources targets) (L : Lent n m sources targets) where
  joined_gates : (a b : ℕ) → Joined B.wires a b → (a < n) × (b < n)
  joined_gates a b j = wired_gates L a b (joined_wired B n m sources targets I a b j)

  -- a gate among the targets has a wire in, one among the sources a wire out
  has_in : (g : ℕ) → Among targets m g → (a : ℕ) × Joined B.wires a g
  has_in g w = (
    get_or sources w.place 0,
    wired_joined B n m sources targets I (get_or sources w.place 0) g
        (record { place = w.place; below = w.below; source = refl; target = w.key }),
  )

  is_in : (g a : ℕ) → Joined B.wires a g → Among targets m g
  is_in g a j = let w = joined_wired B n m sources targets I a g j in record { place = w.place; below = w.below; key = w.target }

  has_out : (g : ℕ) → Among sources m g → (b : ℕ) × Joined B.wires g b
  has_out g w = (
    get_or targets w.place 0,
    wired_joined B n m sources targets I g (get_or targets w.place 0)
        (record { place = w.place; below = w.below; source = w.key; target = refl }),
  )

  is_out : (g b : ℕ) → Joined B.wires g b → Among sources m g
  is_out g b j = let w = joined_wired B n m sources targets I g b j in record { place = w.place; below = w.below; key = w.source }

  fault_gate : (g : ℕ) → EndFault B g → g < n
  fault_gate g (into_first a e j) = (joined_gates a g j).1
  fault_gate g (none_in h d none) = let e = I.gates in omega arith
  fault_gate g (out_of_last b e j) = (joined_gates g b j).0
  fault_gate g (none_out h d none) = let e = I.gates in omega arith

  last_is : n - 1 ≡ last B
  last_is = ap (λ (k : ℕ). k - 1) (sym I.gates)

  module _ (ins outs : List ℕ) (In : Marks (Among targets m) n ins) (Out : Marks (Among sources m) n outs) where
    in_fault : (g : ℕ) → g < n → ((g ≡ 0) × Among targets m g) ⊎ ((g ≢ 0) × (¬ (Among targets m g))) → EndFault B g
    in_fault g h (inl w) = let j = has_in g w.1 in into_first j.0 w.0 j.1
    in_fault g h (inr w) =
        let c = I.gates in
        none_in (omega arith) w.0 (λ x j. w.1 (is_in g x j))

    out_fault : (g : ℕ) → g < n → ((g ≡ n - 1) × Among sources m g) ⊎ ((g ≢ n - 1) × (¬ (Among sources m g))) → EndFault B g
    out_fault g h (inl w) = let j = has_out g w.1 in out_of_last j.0 (w.0 ∙ last_is) j.1
    out_fault g h (inr w) =
        let c = I.gates in
        none_out (omega arith) (λ e. w.0 (e ∙ sym last_is)) (λ x j. w.1 (is_out g x j))

    faulty_fault : (g : ℕ) → g < n → Faulty n ins outs g → EndFault B g
    faulty_fault g h (inl w) = in_fault g h (misplaced_says (Among targets m) n ins In g 0 h w)
    faulty_fault g h (inr w) = out_fault g h (misplaced_says (Among sources m) n outs Out g (n - 1) h w)

    fault_faulty : (g : ℕ) → g < n → EndFault B g → Faulty n ins outs g
    fault_faulty g h (into_first x e j) = inl (says_too_many (Among targets m) n ins In g 0 h e (is_in g x j))
    fault_faulty g h (none_in l d none) =
        inl (says_missing (Among targets m) n ins In g 0 h d (λ w. let j = has_in g w in none j.0 j.1))
    fault_faulty g h (out_of_last x e j) = inr (says_too_many (Among sources m) n outs Out g (n - 1) h (e ∙ sym last_is) (is_out g x j))
    fault_faulty g h (none_out l d none) =
        inr (says_missing (Among sources m) n outs Out g (n - 1) h (λ e. d (e ∙ last_is)) (λ w. let j = has_out g w in none j.0 j.1))

    -- what the search finds as the answer
    pub fault_found : (r : Option ℕ) → LowestBelow (Faulty n ins outs) n r → FaultFound B r
    fault_found r F = go r (lowest_same (Faulty n ins outs) (EndFault B) n faulty_fault fault_faulty r F)
      where
        go : (o : Option ℕ) → LowestBelow (EndFault B) n o → FaultFound B o
        go (Some g) G = G.1
        go None G = λ g x. G g (fault_gate g x) x
