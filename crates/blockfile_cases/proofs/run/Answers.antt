-- No wire stands in the table of pairs as it is made.
use Rattle.std.proofs.Common.{arith}
use Rattle.ranges.proofs.Pairs.{no_marks}
use Rattle.blockfile_cases.proofs.run.Goals as goal

pub read_block-answer-requires-clause-pairs_in_bounds : goal.read_block-answer-requires-clause-pairs_in_bounds
read_block-answer-requires-clause-pairs_in_bounds g c = (omega arith, no_marks.1)
