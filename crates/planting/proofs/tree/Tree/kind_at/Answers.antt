-- `planting::tree::Tree::kind_at` meets its contract. Assumes nothing.
use Rattle.planting.proofs.HeldNodes.{kind_read}
use Rattle.planting.proofs.tree.Tree.kind_at.Goals as goal

pub returns : goal.returns
returns c = kind_read c.args.self.now c.args.i c.requires
