-- For a block held in the arrays, the heads made from the arrays are the heads of the block's gates, the delays are those drawn, and the increases after k ticks are the block's.
-- Assumes nothing.
use mathlib.Core.Path.{◌≡◌, refl, sym, ◌∙◌, ap}
use mathlib.Core.Logic.{◌⊎◌, inl, inr}
use mathlib.Core.List.{List, [], ◌∷◌}
use Prim.Native.Nat.{ℕ, zero, suc, ◌≤◌, ◌<◌}
use native.Mathlib.Nat.{zero-mul}
use native.Mathlib.Omega.{arith}
use borrow.Author.Tests.{lt-ltb, le-ltb}
use lib.ListN.{length, get_or}
use Rattle.lists.proofs.Over.{length_build, get_or_build}
use Rattle.lists.proofs.Compare.{le_or_lt}
use Rattle.model.specs.Block.{Gate, Block, gate, gate_count, no_gate}
use Rattle.model.specs.Gain.{drop_of, gain, input_activity}
use Rattle.model.specs.InTime.{drawn}
use Rattle.model.specs.Arrays.{gate_at, gates_in}
use Rattle.optimum.specs.Tree.{Tree}
use Rattle.optimum.specs.Head.{Heads}
use Rattle.optimum.specs.Gates.{Descending, gate_head}
use Rattle.optimum.specs.Increases.{sized}
use Rattle.optimum.specs.Runs.{runs_list, joined}
use Rattle.optimum.specs.BlockTree.{increases, step_count, pairs_of}
use Rattle.optimum.proofs.Gates.{gate_heads}
use Rattle.heads.specs.Plan.{step_head, heads_in}
use Rattle.sizing.specs.Raise.{delays_in}

-- behind the end of a list there is nothing
beyond : {A : Type 0} (xs : List A) (d : A) (g : ℕ) → length xs ≤ g → get_or xs g d ≡ d
beyond [] d g l = refl
beyond (a ∷ xs) d zero l = absurd (omega arith)
beyond (a ∷ xs) d (suc g) l = beyond xs d g (omega arith)

-- B's gates and their input activities stand in the arrays.
pub record Held (B : Block) (n : ℕ) (delays activities counts step_widths drops inputs : List ℕ) : Type 0 where
  pub gates : B.gates ≡ gates_in n delays activities counts step_widths drops
  pub one_delay_each : length delays ≡ n
  pub activity : (g : ℕ) → g < n → get_or inputs g 0 ≡ input_activity B g

module _ {B : Block} {n : ℕ} {delays activities counts step_widths drops inputs : List ℕ} (held : Held B n delays activities counts step_widths drops inputs) where
  at : ℕ → Gate
  at = gate_at delays activities counts step_widths drops

  pub as_many : gate_count B ≡ n
  unfolding at
  as_many = ap (λ (gs : List Gate). length gs) held.gates ∙ length_build n at

  gate_is : (g : ℕ) → g < n → gate B g ≡ at g
  unfolding at
  gate_is g l = ap (λ (gs : List Gate). get_or gs g no_gate) held.gates ∙ get_or_build n at g no_gate l

  no_gate_there : (g : ℕ) → n ≤ g → gate B g ≡ no_gate
  no_gate_there g l = beyond B.gates no_gate g (omega (arith, as_many))

  head_is : (g k : ℕ) → (g < n) ⊎ (n ≤ g) → heads_in n counts step_widths drops inputs g k ≡ gate_head B g k
  unfolding heads_in gate_head step_head gain drop_of at
  head_is g k (inl l) = rw (lt-ltb g n l, gate_is g l, held.activity g l)
  head_is g k (inr l) = rw (le-ltb g n l, no_gate_there g l, zero-mul (input_activity B g))

  -- the heads from the arrays are those of the block's gates
  pub heads_are : heads_in n counts step_widths drops inputs ≡ gate_head B
  heads_are = λ t g k. head_is g k (side g) t
    where
      side : (g : ℕ) → (g < n) ⊎ (n ≤ g)
      side g = go (le_or_lt n g)
        where
          go : (n ≤ g) ⊎ (g < n) → (g < n) ⊎ (n ≤ g)
          go (inl a) = inr a
          go (inr a) = inl a

  delay_is : (g : ℕ) → (n ≤ g) ⊎ (g < n) → delays_in delays g ≡ drawn B g
  unfolding at
  delay_is g (inl l) = beyond delays 0 g (omega (arith, held.one_delay_each)) ∙ ap (λ (a : Gate). a.delay) (sym (no_gate_there g l))
  delay_is g (inr l) = ap (λ (a : Gate). a.delay) (sym (gate_is g l))

  pub delays_are : delays_in delays ≡ drawn B
  delays_are = λ t g. delay_is g (le_or_lt n g) t

  -- the increases after k ticks are the block's
  pub increases_are : (t : Tree) (k : ℕ) → sized (delays_in delays) (heads_in n counts step_widths drops inputs) t n k ≡ increases B t k
  increases_are t k = rw (delays_are, heads_are, as_many)

  pub heads_sound : ((g : ℕ) → Descending (gate B g).steps) → Heads n (heads_in n counts step_widths drops inputs)
  heads_sound descending = rw (heads_are, ← as_many) (gate_heads B descending)

  -- the curve of the runs from the raised start on, as many as there are steps, is the block's
  pub pairs_are : (t : Tree) → joined (runs_list (heads_in n counts step_widths drops inputs) t (step_count B)
      (sized (delays_in delays) (heads_in n counts step_widths drops inputs) t n 0)) ≡ pairs_of B t
  pairs_are t = rw (delays_are, heads_are, as_many)
