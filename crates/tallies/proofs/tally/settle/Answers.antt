-- `tallies::tally::settle` meets its contract. Assumes nothing.
use mathlib.Core.Path.{refl}
use Rattle.tallies.specs.Tallies.{settled}
use Rattle.tallies.proofs.tally.settle.Goals as goal

pub returns : goal.returns
unfolding settled
returns c = refl
