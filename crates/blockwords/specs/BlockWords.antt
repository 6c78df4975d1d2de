-- The steps and input activities of a block's gates in one array of words: the number of gates, then for each gate the number of its steps, for each step its width, for each its drop, for each gate its input activity.
use Rattle.std.specs.Prelude.{List, ℕ, ◌+◌, get_or}
use Rattle.model.specs.Limits.{max_gates, max_pairs}
use Rattle.words.specs.View.{view}

-- where each kind of numbers begins
abbrev pub counts_from : ℕ
counts_from = 1

abbrev pub widths_from : ℕ
widths_from = counts_from + max_gates

abbrev pub drops_from : ℕ
drops_from = widths_from + max_pairs

abbrev pub inputs_from : ℕ
inputs_from = drops_from + max_pairs

abbrev pub block_words : ℕ
block_words = inputs_from + max_gates

-- the number of gates
abbrev pub gates_held : List ℕ → ℕ
gates_held block = get_or block 0 0

-- the numbers of steps
abbrev pub counts_of : List ℕ → List ℕ
counts_of block = view counts_from 1 max_gates block

abbrev pub widths_of : List ℕ → List ℕ
widths_of block = view widths_from 1 max_pairs block

abbrev pub drops_of : List ℕ → List ℕ
drops_of block = view drops_from 1 max_pairs block

-- the input activities
abbrev pub inputs_of : List ℕ → List ℕ
inputs_of block = view inputs_from 1 max_gates block
