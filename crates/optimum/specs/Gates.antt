-- The heads of a block's gates, as their steps make them.
use Rattle.std.specs.Prelude.{cond, List, [], ◌∷◌, ℕ, ◌-◌, ◌≤◌, ltb, eqb}
use Rattle.model.specs.Block.{Step, Block, gate, gate_count}
use Rattle.model.specs.Gain.{gain}
use Rattle.optimum.specs.Head.{Head, no_head, rank}

-- how many ticks, from tick k on, lie in the step that tick k lies in
unfoldable pub room : List Step → ℕ → ℕ
room [] k = 0
room (s ∷ ss) k = cond (ltb k s.width) (s.width - k) (room ss (k - s.width))

-- the drop of the first step, 0 where there is none
abbrev pub first_drop : List Step → ℕ
first_drop [] = 0
first_drop (s ∷ ss) = s.drop

-- drops do not rise from step to step
abbrev pub Descending : List Step → Type 0
Descending [] = Unit {0}
Descending (s ∷ ss) = (first_drop ss ≤ s.drop) × Descending ss

-- the head of gate g with the increase k: none where the widths or the activity are used up
unfoldable pub gate_head : Block → ℕ → ℕ → Head
gate_head B g k =
    cond (eqb (gain B g k) 0) no_head (record { width = room (gate B g).steps k; gain = gain B g k; rank = rank (gate_count B) g })
