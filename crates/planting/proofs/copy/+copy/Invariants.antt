-- Children have smaller numbers than the node copied. Assumes nothing.
use Rattle.planting.proofs.copy.+copy.Given as goal

abbrev pub decreases-copy : goal.decreases-copy
decreases-copy l = l.i
