-- `heads::way::next_down` meets its contract. Assumes nothing.
use mathlib.Core.Path.{sym, ◌∙◌}
use Rattle.planting.proofs.RuledOut.{no_series}
use Rattle.heads.proofs.Descent.{stays_there, goes_down}
use Rattle.heads.proofs.NodeCalls.{here}
use Rattle.heads.proofs.way.next_down.Goals as goal

pub kind_at-requires : goal.kind_at-requires
kind_at-requires c = here c.requires

pub returns-in_default : goal.returns-in_default
returns-in_default c =
    stays_there c.requires.made (λ e. no_series _ c.in_default.not-Series (c.kind_at.ensures.number ∙ e))

pub returns : goal.returns
returns c =
    let e = c.in-Series.ensures in
    goes_down c.requires.made (sym e.number) e.left e.gate e.right c.node.ensures c.gate.ensures c.node-2.ensures c.leading.ensures
