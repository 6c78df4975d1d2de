-- `ranges::seen::mark` meets its contract: one pair more is marked.
-- Assumes nothing.
use Rattle.ranges.proofs.Pairs.{marks_more}
use Rattle.ranges.proofs.seen.mark.Goals as goal

pub returns : goal.returns
returns c = λ ws d m. rw c.pair_place.ensures (marks_more _ ws _ _ d c.requires.pairs_in_bounds c.requires.source_lt_max_gates.0 c.requires.source_lt_max_gates.1 m)
