-- A test, which computes, that a block is a network whose wires lead from lower to higher gate numbers. The worked examples are such blocks.
use Rattle.std.specs.Prelude.{Bool, ◌&&◌, ◌||◌, not, ℕ, eqb, leb, ltb, length}
use Rattle.model.specs.Block.{Block, gate_count, first, last}
use Rattle.parts.specs.Network.{wire_at}
use Rattle.parts.specs.Reduce.{find, is_some}

-- some number below k passes; every number below k passes
unfoldable pub some_below : (ℕ → Bool) → ℕ → Bool
some_below p k = is_some (find p k)

unfoldable pub every_below : (ℕ → Bool) → ℕ → Bool
every_below p k = not (is_some (find (λ i. not (p i)) k))

abbrev pub from_of : Block → ℕ → ℕ
from_of B i = (wire_at B.wires i).source

abbrev pub to_of : Block → ℕ → ℕ
to_of B i = (wire_at B.wires i).target

-- wire i leads to a higher gate of the block
abbrev pub rising : Block → ℕ → Bool
rising B i = ltb (from_of B i) (to_of B i) && ltb (to_of B i) (gate_count B)

-- no wire before wire i joins the same gates
abbrev pub fresh : Block → ℕ → Bool
fresh B i = every_below (λ j. not (eqb (from_of B i) (from_of B j) && eqb (to_of B i) (to_of B j))) i

-- gate g is the first, or has a wire in; gate g is the last, or has a wire out
abbrev pub entered : Block → ℕ → Bool
entered B g = eqb g (first B) || some_below (λ i. eqb (to_of B i) g) (length B.wires)

abbrev pub left : Block → ℕ → Bool
left B g = eqb g (last B) || some_below (λ i. eqb (from_of B i) g) (length B.wires)

unfoldable pub ascending : Block → Bool
ascending B =
    leb 1 (gate_count B)
    && (every_below (rising B) (length B.wires)
    && (every_below (fresh B) (length B.wires) && (every_below (entered B) (gate_count B) && every_below (left B) (gate_count B))))
