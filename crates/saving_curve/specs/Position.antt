-- A position on a curve that two slices hold, and ticks taken there (document 01: "Spare ticks are counted off the curve from its front; those beyond its end earn 0").
use Rattle.std.specs.Prelude.{cond, List, ℕ, ◌+◌, ◌-◌, min, leb, ltb, length, get_or}
use Rattle.lists.specs.Over.{build}
use Rattle.model.specs.Curve.{Pair}
use Rattle.saving_curve.specs.declared.position.Curve.{Curve}
use Rattle.saving_curve.specs.declared.position.Position.{Position}
use Rattle.saving_curve.specs.declared.position.Taken.{Taken}

-- pair i of two slices; 0 for what stands past a slice's end
abbrev pub pair_at : List ℕ → List ℕ → ℕ → Pair
pair_at widths gains i = record { width = get_or widths i 0; gain = get_or gains i 0 }

-- the first n pairs
abbrev pub pairs_in : ℕ → List ℕ → List ℕ → List Pair
pairs_in n widths gains = build n (pair_at widths gains)

-- the pairs of a curve
abbrev pub pairs_of : Curve → List Pair
pairs_of c = pairs_in c.pairs c.widths.now c.gains.now

-- the front of a curve: its first pair, no tick of it used
abbrev pub at_front : Position
at_front = record { pair = 0; used = 0 }

-- past the end of a curve: no ticks, and none earn
abbrev pub no_pair : Pair
no_pair = record { width = 0; gain = 0 }

-- the pair that a position stands in
abbrev pub here : List Pair → Position → Pair
here ps p = get_or ps p.pair no_pair

-- the ticks of that pair that are not used
abbrev pub left_at : List Pair → Position → ℕ
left_at ps p = (here ps p).width - p.used

-- k ticks further within the pair, or at the beginning of the next where k exceeds what is left
abbrev pub next_at : List Pair → Position → ℕ → Position
next_at ps p k =
    cond (leb k (left_at ps p)) (record { pair = p.pair; used = p.used + k }) (record { pair = p.pair + 1; used = 0 })

-- nothing taken
abbrev pub none_at : Position → Taken
none_at p = record { next = p; ticks = 0; gain = 0 }

-- At most k ticks of the pair that a position stands in, and the gain of each of them; past the end none, and the position stays.
abbrev pub taken_at : List Pair → Position → ℕ → Taken
taken_at ps p k =
    cond (ltb p.pair (length ps))
    (record { next = next_at ps p k; ticks = min k (left_at ps p); gain = (here ps p).gain })
    (none_at p)
