-- `heads::gate::tick_head` meets its contract: the greatest drop and input activity make a product that fits a key. Assumes nothing.
use mathlib.Core.Path.{◌∙◌}
use Rattle.heads.proofs.Stepping.{tick_none, tick_some}
use Rattle.heads.proofs.gate.tick_head.Goals as goal

pub returns-then-gain-eq0 : goal.returns-then-gain-eq0
returns-then-gain-eq0 c = c.none.ensures ∙ tick_none _ _ _ _ c.if-gain-eq0.true

pub returns : goal.returns
returns c = c.keyed.ensures ∙ tick_some _ _ _ _ c.if-gain-eq0.false
