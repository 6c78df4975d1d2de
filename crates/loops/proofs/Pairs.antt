-- The pairs of gates that the wires of the arrays join, marked in the square one after another; and the lowest gate on a loop, once every gate is let through.
-- Assumes nothing.
use Rattle.std.proofs.Common.{Option}
use mathlib.Core.Path.{◌≡◌, refl, sym, ◌∙◌, ap}
use mathlib.Core.Logic.{◌⊎◌, inl, inr}
use mathlib.Core.List.{List}
use Prim.Native.Nat.{ℕ, ◌+◌, ◌≤◌, ◌<◌}
use native.Mathlib.Nat.{eq-or-lt_of_le}
use native.Mathlib.Omega.{arith}
use lib.ListN.{length, get_or, set}
use Rattle.lists.specs.Search.{LowestBelow}
use Rattle.model.specs.Limits.{max_gates}
use Rattle.model.specs.Block.{Block}
use Rattle.model.specs.Refusal.{OnLoop}
use Rattle.ordering.specs.Wires.{Lent, Wired, InArrays}
use Rattle.loops.specs.Square.{pair_place, Paired, PairMarks, Closed}
use Rattle.ordering.proofs.Marks.{lowest_same}
use Rattle.ordering.proofs.Wired.{wired_gates, wired_loop, loop_wired}
use Rattle.loops.proofs.Square.{paired_here, paired_kept, paired_old, marked_reaches, reaching_marked}

-- wires that join gates below n join gates below any greater limit
pub lent_all : {n m : ℕ} {sources targets : List ℕ} → Lent n m sources targets → Lent max_gates m sources targets
lent_all L =
    let few = L.gates in
    record {
      gates = omega arith;
      wires = L.wires;
      sources_long = L.sources_long;
      targets_long = L.targets_long;
      source_is_gate = λ i h. let l = L.source_is_gate i h in omega arith;
      target_is_gate = λ i h. let l = L.target_is_gate i h in omega arith;
    }

pub pairs_fewer : {E : ℕ → ℕ → Type 0} {n : ℕ} {square : List ℕ} → n ≤ max_gates → PairMarks E max_gates square → PairMarks E n square
pairs_fewer few M = record { right = λ a b h l. M.right a b (omega arith) (omega arith); whole = λ a b h l. M.whole a b (omega arith) (omega arith) }

module _ (sources targets : List ℕ) where
  module _ (i : ℕ) where
    wired_more : (a b : ℕ) → Wired i sources targets a b → Wired (i + 1) sources targets a b
    wired_more a b w = let l = w.below in record { place = w.place; below = omega arith; source = w.source; target = w.target }

    wired_here : Wired (i + 1) sources targets (get_or sources i 0) (get_or targets i 0)
    wired_here = record { place = i; below = omega arith; source = refl; target = refl }

    wired_last : (a b : ℕ) → Wired (i + 1) sources targets a b → ((a ≡ get_or sources i 0) × (b ≡ get_or targets i 0)) ⊎ Wired i sources targets a b
    wired_last a b w = go (eq-or-lt_of_le (let l = w.below in omega arith))
      where
        go : (w.place ≡ i) ⊎ (w.place < i) → ((a ≡ get_or sources i 0) × (b ≡ get_or targets i 0)) ⊎ Wired i sources targets a b
        go (inl e) = inl (sym w.source ∙ ap (λ (j : ℕ). get_or sources j 0) e, sym w.target ∙ ap (λ (j : ℕ). get_or targets j 0) e)
        go (inr l) = inr (record { place = w.place; below = l; source = w.source; target = w.target })

    -- The marks of the pairs that a wire joins, with one wire more.
    module _ (s t : ℕ) (source : s ≡ get_or sources i 0) (target : t ≡ get_or targets i 0) where
      pub pairs_marked : (n : ℕ) (square : List ℕ) → n ≤ max_gates → t < n → pair_place s t < length square
          → PairMarks (Wired i sources targets) n square
          → PairMarks (Wired (i + 1) sources targets) n (set square (pair_place s t) 1)
      pairs_marked n square few gate long M =
          record {
            right = λ a b h l p. new a b h l (paired_old square s t long (omega arith) a b (omega arith) p);
            whole = λ a b h l w. stays a b h l (wired_last a b w);
          }
        where
          new : (a b : ℕ) → a < n → b < n → ((a ≡ s) × (b ≡ t)) ⊎ Paired square a b → Wired (i + 1) sources targets a b
          new a b h l (inl e) = rw (e.0 ∙ source, e.1 ∙ target) wired_here
          new a b h l (inr p) = wired_more a b (M.right a b h l p)

          stays : (a b : ℕ) → a < n → b < n → ((a ≡ get_or sources i 0) × (b ≡ get_or targets i 0)) ⊎ Wired i sources targets a b → Paired (set square (pair_place s t) 1) a b
          stays a b h l (inl e) = rw (e.0 ∙ sym source, e.1 ∙ sym target) (paired_here square s t long)
          stays a b h l (inr w) = paired_kept square s t long a b (M.whole a b h l w)

module _ (B : Block) (n m : ℕ) (sources targets : List ℕ) (I : InArrays B n m sources targets) where
  -- the lowest gate whose pair with itself is marked is the lowest on a loop
  pub first_on_loop : Lent n m sources targets → (start square : List ℕ) → PairMarks (Wired m sources targets) n start → Closed start n n square
      → (r : Option ℕ) → LowestBelow (λ (g : ℕ). Paired square g g) n r → LowestBelow (OnLoop B) n r
  first_on_loop L start square M C =
      lowest_same (λ (g : ℕ). Paired square g g) (OnLoop B) n
      (λ g h p. wired_loop B n m sources targets I g (marked_reaches (Wired m sources targets) n (wired_gates L) start M square C g g h h p))
      (λ g h x. reaching_marked (Wired m sources targets) n (wired_gates L) start M square C g g h h (loop_wired B n m sources targets I g x))
