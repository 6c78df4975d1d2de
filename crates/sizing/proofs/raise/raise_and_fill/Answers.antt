-- `sizing::raise::raise_and_fill` meets its contract: the nodes below i are raised, and their heads are right. Assumes nothing.
use mathlib.Core.Path.{◌≡◌, refl}
use Rattle.planting.specs.TreeWords.{tree_nodes}
use Rattle.heads.specs.Plan.{node_count}
use Rattle.heads.proofs.Reading.{all_nodes, node_of_all}
use Rattle.sizing.proofs.Lifting.{made_here, stands_further, all_raised}
use Rattle.sizing.proofs.raise.raise_and_fill.Goals as goal

pub raise_sides-requires-clause-i_bound : goal.raise_sides-requires-clause-i_bound
raise_sides-requires-clause-i_bound c = (node_of_all c.args.tree.now refl c.loop-i-test.true, c.requires.tree_in_bounds)

pub renew-requires : goal.renew-requires
renew-requires c = record { made = made_here c.raise_sides.ensures.still_standing (node_of_all c.args.tree.now refl c.loop-i-test.true) }

pub loop-i-preserved : goal.loop-i-preserved
loop-i-preserved c =
    record {
      standing = rw c.renew.ensures.gates (stands_further c.raise_sides.ensures.still_standing (node_of_all c.args.tree.now refl c.loop-i-test.true) c.renew.ensures.nodes);
      lifted = λ d known. c.raise_sides.ensures.levelled.by_lengths d known (c.loop-i.invariant.lifted d known);
    }

pub returns : goal.returns
returns c = λ d known. let e : c.loop-i.i ≡ node_count (tree_nodes c.args.tree.now) = all_nodes c.args.tree.now refl c.loop-i.auto.i-end c.loop-i-test.false in all_raised c.requires.raisable c.loop-i.auto.increases d (rw e at c.loop-i.invariant.standing) (rw e at (c.loop-i.invariant.lifted d known))
