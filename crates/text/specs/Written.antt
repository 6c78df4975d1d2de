-- What it means that a text is written at a place of a lent slice, and how many bytes the lines of the printout take at most.
use Rattle.std.specs.Prelude.{◌≡◌, List, ℕ, ◌+◌, ◌*◌, ◌≤◌, length}
use Rattle.model.specs.Limits.{max_gates}
use Rattle.decimal.specs.Placed.{placed}

-- The text fits at the place `at`, stands there, all other bytes are as before, and `next` is the place behind it.
pub record Written (text : List ℕ) (at : ℕ) (old new : List ℕ) (next : ℕ) : Type 0 where
  pub fits : at + length text ≤ length old
  pub behind : next ≡ at + length text
  pub stands : new ≡ placed text at old

-- the digits of a 64-bit number, and a byte behind them
abbrev pub number_room : ℕ
number_room = 20 + 1

-- the longest word
abbrev pub word_room : ℕ
word_room = 8

-- a word, and a number with a byte behind it
abbrev pub named_room : ℕ
named_room = word_room + number_room

-- a refusal: a word and two numbers
abbrev pub refusal_room : ℕ
refusal_room = named_room + number_room

-- the head: five words, each with a number
abbrev pub head_room : ℕ
head_room = 5 * named_room

-- the line of a gate: four numbers
abbrev pub gate_room : ℕ
gate_room = 4 * number_room

-- the printout of any block
abbrev pub block_room : ℕ
block_room = head_room + gate_room * max_gates
