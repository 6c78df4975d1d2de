-- Gates put in the queue one after another (`lined_up_more`), and the tail of the queue. Assumes nothing.
use mathlib.Core.Path.{◌≡◌, refl, ◌∙◌}
use mathlib.Core.List.{List}
use Prim.Native.Nat.{ℕ, ◌+◌, ◌<◌}
use native.Mathlib.Decide.{ℕ_discrete}
use native.Mathlib.Omega.{arith}
use borrow.Author.Tests.{eq-eqb, ne_eqb}
use lib.ListN.{length, get_or, set}
use lib.Seq.{get_or-set_same, get_or-set_other}
use Rattle.tallies.specs.Queue.{LinedUp, tail_after}

-- one gate more in the queue
pub lined_up_more : (queue places : List ℕ) (g : ℕ) → g < length queue → g < length places → LinedUp g queue places → LinedUp (g + 1) (set queue g g) (set places g g)
lined_up_more queue places g a b u q h = go (ℕ_discrete q g)
  where
    go : Dec (q ≡ g) → (get_or (set queue g g) q 0 ≡ q) × (get_or (set places g g) q 0 ≡ q)
    go (yes e) = rw e (get_or-set_same queue g g 0 a, get_or-set_same places g g 0 b)
    go (no d) = let (x, y) = u q (omega arith) in (get_or-set_other queue g q g 0 d ∙ x, get_or-set_other places g q g 0 d ∙ y)

pub tail_stays : (c r tail : ℕ) → r ≡ c → tail ≡ tail_after c r tail
tail_stays c r tail e = rw (eq-eqb r c e) refl

pub tail_goes : (c r tail : ℕ) → (r ≡ c → ⊥) → tail + 2 ≡ tail_after c r tail
tail_goes c r tail d = rw (ne_eqb r c d) refl
