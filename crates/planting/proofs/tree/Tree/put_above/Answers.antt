-- `planting::tree::Tree::put_above` meets its contract. Assumes nothing.
use Rattle.planting.proofs.Writing.{above_written}
use Rattle.planting.proofs.tree.Tree.put_above.Goals as goal

pub returns : goal.returns
returns c = above_written c.args.self.now c.args.l c.args.r c.args.kind
