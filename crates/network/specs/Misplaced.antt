-- A gate at fault with its wires, as marks tell it.
use Rattle.std.specs.Prelude.{◌≡◌, ◌≢◌, ◌⊎◌, List, ℕ, ◌-◌, get_or}

-- On one side, where the gate `end` must have no wire and every other gate one: gate g has a wire too many or none. Its mark is not 0 when it has a wire on this side.
pub data Misplaced (g end mark : ℕ) : Type 0 where
  too_many : g ≡ end → mark ≢ 0 → Misplaced g end mark
  missing : g ≢ end → mark ≡ 0 → Misplaced g end mark

-- gate g of n gates is at fault with its wires in or with its wires out
abbrev pub Faulty : ℕ → List ℕ → List ℕ → ℕ → Type 0
Faulty n ins outs g = Misplaced g 0 (get_or ins g 0) ⊎ Misplaced g (n - 1) (get_or outs g 0)
