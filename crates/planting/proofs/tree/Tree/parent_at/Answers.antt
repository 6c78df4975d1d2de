-- `planting::tree::Tree::parent_at` meets its contract. Assumes nothing.
use Rattle.planting.proofs.HeldNodes.{parent_read}
use Rattle.planting.proofs.tree.Tree.parent_at.Goals as goal

pub returns : goal.returns
returns c = parent_read c.args.self.now c.args.i c.requires
