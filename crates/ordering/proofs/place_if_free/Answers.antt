-- `ordering::place_if_free` meets its contract: each way out is one case of `Visit`.
-- Assumes nothing.
use Rattle.ordering.specs.Counts.{waits, placed_now}
use Rattle.ordering.proofs.place_if_free.Goals as goal

pub returns-then-left-g-ne0 : goal.returns-then-left-g-ne0
returns-then-left-g-ne0 c = waits c.if-left-g-ne0.true

pub returns : goal.returns
returns c = placed_now c.if-left-g-ne0.false
