-- The calls for C: what the numbers that they hand back say, and the layout editor's call, the best increases as bytes (document 01, "Where each language form belongs": "a byte slice with four bytes an increase"; high byte first, as in the block file).
use Rattle.std.specs.Prelude.{◌≡◌, ◌≢◌, ℕ, zero, suc, ◌*◌, ◌/◌, ◌%◌, get_or}
use mathlib.Core.List.{List, [], ◌∷◌, flat_map}
use Rattle.lists.specs.Over.{over}
use Rattle.model.specs.Block.{Block, gate_count}
use Rattle.model.specs.Gain.{saving}
use Rattle.model.specs.Best.{Best}
use Rattle.model.specs.Part.{SeriesParallel}
use Rattle.model.specs.Field.{byte_values}
use Rattle.model.specs.Answer.{Answer, accepted, refusal, Outcome, Line, Judged, Gives, Shorter, SizingLines}

-- bytes of an increase
abbrev pub increase_bytes : ℕ
increase_bytes = 4

-- a number of 32 bits as four bytes, the high byte first
abbrev pub four_bytes : ℕ → List ℕ
four_bytes w =
    w / (byte_values * byte_values * byte_values)
    ∷ w / (byte_values * byte_values) % byte_values
    ∷ w / byte_values % byte_values
    ∷ w % byte_values
    ∷ []

-- the increases of a list, one after another
abbrev pub list_bytes : List ℕ → List ℕ
list_bytes = flat_map four_bytes

-- The numbers that a call hands back to C, as an answer. Number 0: accepted, with these values; else a refusal with its place.
abbrev pub told : ℕ → ℕ → List ℕ → Answer
told zero place values = accepted values
told (suc k) place values = refusal (suc k) place

-- What an answer leaves unsaid is 0: an accepted one the place, a refusal the values.
abbrev pub UnsaidZero : ℕ → ℕ → List ℕ → Type 0
UnsaidZero zero place values = place ≡ 0
UnsaidZero (suc k) place values = (i : ℕ) → get_or values i 0 ≡ 0

-- the best increases: the saving and, in place of a place, how many were written
abbrev pub layout_answer : ℕ → ℕ → ℕ → Answer
layout_answer number place saved = told number place (saved ∷ place ∷ [])

-- a refusal saves nothing
abbrev pub NoSavingRefused : ℕ → ℕ → Type 0
NoSavingRefused number saved = number ≢ 0 → saved ≡ 0

-- the bytes of the best list of the block in front of the slice
pub data GivesLayout (B : Block) (lent : List ℕ) (o : Outcome (List ℕ)) : Type 0 where
  laid : (x : List ℕ) → SeriesParallel B
      → Best B x
      → Gives (saving B x ∷ gate_count B ∷ []) (over (list_bytes x) lent) o
      → GivesLayout B lent o

-- The layout editor's call: the lines of the best increases, to a slice of bytes, four an increase.
abbrev pub AnswersLayout : List ℕ → List ℕ → Outcome (List ℕ) → Type 0
AnswersLayout file lent =
    Judged file lent
    (λ (B : Block).
    Line lent 10 (Shorter lent (increase_bytes * gate_count B)) (SizingLines B lent (GivesLayout B lent)))
