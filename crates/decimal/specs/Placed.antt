-- What a lent slice holds once a text is written at a place of it, and the place behind the text.
use Rattle.std.specs.Prelude.{List, ◌++◌, true, false, ℕ, ◌+◌, leb, length, take, drop}

-- the text in place of what stood from `at` on, where it fits; else what was there before
unfoldable pub placed : List ℕ → ℕ → List ℕ → List ℕ
placed text at old =
    elim (leb (at + length text) (length old)) [
      | true ↦ take at old ++ text ++ drop (at + length text) old
      | false ↦ old
    ]

-- the place behind the text, where it fits; else the place `at` itself
unfoldable pub behind : List ℕ → ℕ → List ℕ → ℕ
behind text at old =
    elim (leb (at + length text) (length old)) [
      | true ↦ at + length text
      | false ↦ at
    ]
