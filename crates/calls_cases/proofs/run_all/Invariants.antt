-- Each record takes bytes off the rest.
use Rattle.std.proofs.Common.{length}
use Rattle.calls_cases.proofs.run_all.Given as goal

abbrev pub decreases-loop-case : goal.decreases-loop-case
decreases-loop-case g l = length l.rest
