-- When a file is well-formed, and which of the refusals 1 to 9 fits it otherwise (document 01, "Refusals and their places").
use Rattle.std.specs.Prelude.{◌≡◌, ◌≢◌, List, ℕ, ◌<◌}
use Rattle.lists.specs.Search.{Lowest}
use Rattle.model.specs.Block.{Block, gate_count, first, last, Joined}
use Rattle.model.specs.Path.{Reaches}
use Rattle.model.specs.File.{found, refused, read_block}

-- gate g is on a loop: it reaches itself
abbrev pub OnLoop : Block → ℕ → Type 0
OnLoop B g = Reaches B.wires g g

-- Gate g has a wire where it must have none, or none where it must have one: "gate 0 has a wire in, another gate has none, gate n − 1 has a wire out, or another gate has none".
pub data EndFault (B : Block) (g : ℕ) : Type 0 where
  into_first : (a : ℕ) → g ≡ first B → Joined B.wires a g → EndFault B g
  none_in : g < gate_count B → g ≢ first B → ((a : ℕ) → ¬ (Joined B.wires a g)) → EndFault B g
  out_of_last : (b : ℕ) → g ≡ last B → Joined B.wires g b → EndFault B g
  none_out : g < gate_count B → g ≢ last B → ((b : ℕ) → ¬ (Joined B.wires g b)) → EndFault B g

-- No gate reaches itself, and no gate is at fault with its wires.
pub record SoundNetwork (B : Block) : Type 0 where
  pub no_loop : (g : ℕ) → ¬ (OnLoop B g)
  pub ends : (g : ℕ) → ¬ (EndFault B g)

-- The file holds the block B, and none of the refusals 1 to 9 fits it: "a file is well-formed for a call if no refusal that this call judges before 10 fits it", and every call judges 1 to 9.
pub record WellFormed (file : List ℕ) (B : Block) : Type 0 where
  pub end : ℕ
  pub reads : read_block file ≡ found B end
  pub network : SoundNetwork B

-- The refusal of 1 to 9 with number k and place p is the first that fits the file.
pub data IllFormed (file : List ℕ) (k p : ℕ) : Type 0 where
  unread : read_block file ≡ refused k p → IllFormed file k p
  loop : (B : Block) (end : ℕ) → read_block file ≡ found B end → Lowest (OnLoop B) p → k ≡ 8 → IllFormed file k p
  ends : (B : Block) (end : ℕ)
      → read_block file ≡ found B end
      → ((g : ℕ) → ¬ (OnLoop B g))
      → Lowest (EndFault B) p
      → k ≡ 9
      → IllFormed file k p
