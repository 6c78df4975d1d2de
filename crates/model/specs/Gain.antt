-- What slowing gates earns (document 01, "Gains, paths, building up"; 001, section 1).
-- 000 holds that at most one gate of a path is slowed; document 01 overrules it: a list slows any gates by any whole ticks.
use Rattle.std.specs.Prelude.{List, [], ◌∷◌, cond, ℕ, ◌*◌, ◌-◌, ltb, eqb, get_or}
use Rattle.lists.specs.Sum.{sum, total}
use Rattle.model.specs.Block.{Step, Wire, Block, gate, gate_count, first}

-- The drop of the step that tick k of a gate lies in, ticks counted from 0: "the first width ticks earn the first drop, and so on". Past the last step it is 0.
unfoldable pub drop_of : List Step → ℕ → ℕ
drop_of [] k = 0
drop_of (s ∷ ss) k = cond (ltb k s.width) s.drop (drop_of ss (k - s.width))

-- what the wire brings to gate g: the activity of its source's net where it leads to g
abbrev pub brings : Block → ℕ → Wire → ℕ
brings B g w = cond (eqb w.target g) (gate B w.source).activity 0

-- "A gate's input activity is the sum over its wires in; for gate 0 it is the input's own."
unfoldable pub input_activity : Block → ℕ → ℕ
input_activity B g = cond (eqb g (first B)) B.activity (total (brings B g) B.wires)

-- "The gain of a tick is the drop of the step it lies in, times the input activity": of tick k of gate g.
unfoldable pub gain : Block → ℕ → ℕ → ℕ
gain B g k = drop_of (gate B g).steps k * input_activity B g

-- "The saving of a list is the sum of gains over all ticks of all gates."
unfoldable pub saving : Block → List ℕ → ℕ
saving B x = sum (gate_count B) (λ (g : ℕ). sum (get_or x g 0) (gain B g))
