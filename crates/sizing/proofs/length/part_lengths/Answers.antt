-- `sizing::length::part_lengths` meets its contract: the lengths of the nodes below i are right. Assumes nothing.
use mathlib.Core.Path.{◌≡◌, refl}
use native.Mathlib.Omega.{arith}
use Rattle.planting.specs.TreeWords.{tree_nodes}
use Rattle.heads.specs.Plan.{node_count}
use Rattle.heads.proofs.Reading.{all_nodes, node_of_all}
use Rattle.sizing.proofs.Measuring.{measurable_on, lengths_more}
use Rattle.sizing.proofs.length.part_lengths.Goals as goal

pub length_of-requires-clause-i_bound : goal.length_of-requires-clause-i_bound
length_of-requires-clause-i_bound c = node_of_all c.args.tree.now refl c.loop-i-test.true

pub bounds-lengths-i : goal.bounds-lengths-i
bounds-lengths-i c = omega (arith, node_of_all c.args.tree.now refl c.loop-i-test.true, c.requires.lengths_long, c.loop-i.auto.lengths)

pub loop-i-preserved : goal.loop-i-preserved
loop-i-preserved c = lengths_more (measurable_on c.requires c.loop-i.auto.lengths) c.loop-i.invariant (node_of_all c.args.tree.now refl c.loop-i-test.true) c.length_of.ensures

pub returns : goal.returns
returns c = let e : c.loop-i.i ≡ node_count (tree_nodes c.args.tree.now) = all_nodes c.args.tree.now refl c.loop-i.auto.i-end c.loop-i-test.false in rw e at c.loop-i.invariant

pub offset_bounds-lengths-i : goal.offset_bounds-lengths-i
offset_bounds-lengths-i c = record { fits = omega (arith, node_of_all c.args.tree.now refl c.loop-i-test.true, c.requires.few_nodes) }
