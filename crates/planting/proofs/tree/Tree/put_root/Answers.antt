-- `planting::tree::Tree::put_root` meets its contract. Assumes nothing.
use Rattle.planting.proofs.Writing.{root_written}
use Rattle.planting.proofs.tree.Tree.put_root.Goals as goal

pub returns-clause-written : goal.returns-clause-written
returns-clause-written c = root_written c.args.self.now c.args.c _
