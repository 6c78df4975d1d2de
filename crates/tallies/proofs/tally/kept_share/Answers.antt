-- `tallies::tally::kept_share` meets its contract. Assumes nothing.
use Rattle.tallies.proofs.TallyLaws.{kept_lives, kept_none}
use Rattle.tallies.proofs.tally.kept_share.Goals as goal

pub returns-then-r-c : goal.returns-then-r-c
returns-then-r-c c = kept_lives _ _ _ c.if-r-c.true

pub returns : goal.returns
returns c = kept_none _ _ _ c.if-r-c.false
