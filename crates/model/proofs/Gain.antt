-- The saving grows by one tick's gain when one increase grows by one; ticks past a gate's widths earn nothing.
-- Assumes nothing.
use mathlib.Core.Path.{◌≡◌, refl, ap, ◌∙◌}
use mathlib.Core.Logic.{◌≢◌}
use mathlib.Core.List.{List, [], ◌∷◌}
use Prim.Native.Nat.{ℕ, ◌+◌, ◌-◌, ◌<◌, ◌≤◌}
use native.Mathlib.Numerals.{add-one}
use native.Mathlib.Nat.{zero-mul}
use native.Mathlib.Omega.{arith}
use lib.ListN.{length, get_or, set}
use lib.Seq.{get_or-set_same, get_or-set_other}
use borrow.Author.Tests.{le-ltb}
use Rattle.lists.specs.Sum.{sum, total}
use Rattle.lists.proofs.Sum.{sum_grows}
use Rattle.model.specs.Block.{Step, Block, gate, gate_count, widths}
use Rattle.model.specs.Gain.{drop_of, input_activity, gain, saving}

-- one tick more at gate g
abbrev pub one_more : List ℕ → ℕ → List ℕ
one_more x g = set x g (get_or x g 0 + 1)

pub saving_tick : (B : Block) (x : List ℕ) (g : ℕ) → g < gate_count B → g < length x → saving B (one_more x g) ≡ saving B x + gain B g (get_or x g 0)
unfolding saving sum
saving_tick B x g in_block in_List =
    sum_grows (gate_count B)
    (λ (h : ℕ). sum (get_or x h 0) (gain B h))
    (λ (h : ℕ). sum (get_or (one_more x g) h 0) (gain B h))
    g
    (gain B g (get_or x g 0))
    in_block
    (λ (h : ℕ) (l : h < gate_count B) (other : h ≢ g). ap (λ (k : ℕ). sum k (gain B h)) (get_or-set_other x g h (get_or x g 0 + 1) 0 other))
    (ap (λ (k : ℕ). sum k (gain B g)) (get_or-set_same x g (get_or x g 0 + 1) 0 in_List ∙ add-one (get_or x g 0)))

pub drop_beyond : (ss : List Step) (k : ℕ) → widths ss ≤ k → drop_of ss k ≡ 0
unfolding drop_of total
drop_beyond [] k h = refl
drop_beyond (s ∷ ss) k h = rw (le-ltb k s.width (omega arith)) (drop_beyond ss (k - s.width) (omega arith))

pub gain_beyond : (B : Block) (g k : ℕ) → widths (gate B g).steps ≤ k → gain B g k ≡ 0
unfolding gain
gain_beyond B g k h = rw (drop_beyond (gate B g).steps k h) (zero-mul (input_activity B g))
