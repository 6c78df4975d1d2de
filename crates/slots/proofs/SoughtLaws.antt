-- What the answer of a test says of what it tests. Assumes nothing.
use mathlib.Core.Path.{◌≡◌}
use mathlib.Core.Bool.{Bool, true, false, false≢true, true≢false}
use Rattle.lists.specs.Search.{Says}

-- an answer r, tested the other way round
pub says_yes : (P : Type 0) (r : Bool) → Says P r → r ≡ true → P
says_yes P true s e = s
says_yes P false s e = absurd (false≢true e)

pub says_no : (P : Type 0) (r : Bool) → Says P r → r ≡ false → ¬ P
says_no P true s e = absurd (true≢false e)
says_no P false s e = s
