-- What is left of a block when gates with one wire in and one wire out are taken away and doubled wires are merged, "until neither applies" (document 02, K1).
-- A wire may stand several times here, so wires are counted. Their delays play no part.
use Rattle.std.specs.Prelude.{◌≡◌, ◌≢◌, cond, ◌&&◌, ◌||◌, ℕ, ◌+◌, ◌-◌, ◌≤◌, ◌<◌, eqb}
use mathlib.Core.List.{List, [], ◌∷◌, Memᴰ}
use Rattle.lists.specs.Sum.{total}
use Rattle.model.specs.Block.{Wire, Block, gate_count, first, last}

-- 1 from a to b, 0 between any other two gates
abbrev pub one_at : ℕ → ℕ → ℕ → ℕ → ℕ
one_at a b x y = cond (eqb x a && eqb y b) 1 0

-- how many wires of the list lead from a to b
unfoldable pub wires_between : List Wire → ℕ → ℕ → ℕ
wires_between ws a b = total (λ (w : Wire). one_at a b w.source w.target) ws

-- A moment of the reduction: how many wires lead from each gate to each other, and the gates taken away so far.
pub record Moment : Type 0 where
  pub wires : ℕ → ℕ → ℕ
  pub taken : List ℕ

-- at first every wire of the block stands, and no gate is taken away
abbrev pub beginning : Block → Moment
beginning B = record { wires = wires_between B.wires; taken = [] }

-- the counts f come to one in all, which is at a
pub record OneOf (f : ℕ → ℕ) (a : ℕ) : Type 0 where
  pub one : f a ≡ 1
  pub no_other : (x : ℕ) → x ≢ a → f x ≡ 0

-- exactly one wire leads into gate m, from gate a
abbrev pub OneInto : (ℕ → ℕ → ℕ) → ℕ → ℕ → Type 0
OneInto E a m = OneOf (λ x. E x m) a

-- exactly one wire leads out of gate m, to gate b
abbrev pub OneOutOf : (ℕ → ℕ → ℕ) → ℕ → ℕ → Type 0
OneOutOf E m b = OneOf (E m) b

-- gate m has no wire any more, and one more leads from a to b
unfoldable pub without : ℕ → ℕ → ℕ → (ℕ → ℕ → ℕ) → ℕ → ℕ → ℕ
without m a b E x y = cond (eqb x m || eqb y m) 0 (E x y + one_at a b x y)

-- one wire fewer leads from a to b
unfoldable pub one_fewer : ℕ → ℕ → (ℕ → ℕ → ℕ) → ℕ → ℕ → ℕ
one_fewer a b E x y = E x y - one_at a b x y

-- A step of the reduction, from a moment to the next.
pub data Move (M : Moment) : Moment → Type 0 where
  -- "Take away gates with one wire in and one wire out, joining the two wires, ..
  take : (m a b : ℕ) → OneInto M.wires a m → OneOutOf M.wires m b
      → Move M (record { wires = without m a b M.wires; taken = m ∷ M.taken })
  -- .. and merge doubled wires, ..
  merge : (a b : ℕ) → 2 ≤ M.wires a b → Move M (record { wires = one_fewer a b M.wires; taken = M.taken })

-- any number of steps, in any order
pub data Moves (L : Moment) : Moment → Type 0 where
  done : Moves L L
  then : {M N : Moment} → Moves L M → Move M N → Moves L N

-- .. until neither applies": M is an end of the reduction of the block.
pub record ReducedTo (B : Block) (M : Moment) : Type 0 where
  pub reached : Moves (beginning B) M
  pub ended : (N : Moment) → ¬ (Move M N)

-- Gate g is left at an end of the reduction, "other than 0 and n − 1". (At one end as at any other: `same_gates_left` of parts.)
pub record Remains (B : Block) (g : ℕ) : Type 0 where
  pub end : Moment
  pub reduced : ReducedTo B end
  pub below : g < gate_count B
  pub left : ¬ (Memᴰ g end.taken)
  pub not_first : g ≢ first B
  pub not_last : g ≢ last B
