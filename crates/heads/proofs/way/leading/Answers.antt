-- `heads::way::leading` meets its contract: one case for each pair of answers of `leads`. Assumes nothing.
use Rattle.ties.specs.Code.{head_of}
use Rattle.heads.proofs.Descent.{last_leads, middle_leads, last_passes, first_leads}
use Rattle.heads.proofs.way.leading.Goals as goal

pub returns-then-leads-2 : goal.returns-then-leads-2
returns-then-leads-2 c = last_leads (head_of c.args.left) (head_of c.args.gate) (head_of c.args.right) _ _ _ (cc) (cc)

pub returns-then-leads : goal.returns-then-leads
returns-then-leads c = middle_leads (head_of c.args.left) (head_of c.args.gate) (head_of c.args.right) _ _ _ (cc) (cc)

pub returns-then-leads-3 : goal.returns-then-leads-3
returns-then-leads-3 c = last_passes (head_of c.args.left) (head_of c.args.gate) (head_of c.args.right) _ _ _ (cc) (cc)

pub returns : goal.returns
returns c = first_leads (head_of c.args.left) (head_of c.args.gate) (head_of c.args.right) _ _ _ (cc) (cc)
