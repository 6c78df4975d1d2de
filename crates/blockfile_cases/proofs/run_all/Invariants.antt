-- Each group takes bytes off the rest.
use Rattle.std.proofs.Common.{length}
use Rattle.blockfile_cases.proofs.run_all.Given as goal

abbrev pub decreases-loop-head : goal.decreases-loop-head
decreases-loop-head g l = length l.rest
