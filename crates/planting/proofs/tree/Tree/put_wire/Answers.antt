-- `planting::tree::Tree::put_wire` meets its contract. Assumes nothing.
use Rattle.planting.specs.declared.tree.Kind.TheVariants.{Wire}
use Rattle.planting.proofs.Writing.{kind_written}
use Rattle.planting.proofs.tree.Tree.put_wire.Goals as goal

pub returns : goal.returns
returns c = kind_written c.args.self.now c.args.c (Wire c.args.delay)
