-- `loops::lowest_on_loop` meets its contract: with every gate let through, a gate's pair with itself is marked exactly when it reaches itself.
-- Assumes nothing.
use Rattle.std.proofs.Common.{ℕ}
use lib.ListN.{get_or-replicate}
use Rattle.loops.specs.Square.{square_size}
use Rattle.loops.proofs.Pairs.{lent_all, pairs_fewer, first_on_loop}
use Rattle.loops.proofs.lowest_on_loop.Goals as goal

pub mark_pairs-requires-clause-lent : goal.mark_pairs-requires-clause-lent
mark_pairs-requires-clause-lent c = lent_all c.requires

pub returns : goal.returns
returns c =
    λ B I. first_on_loop B c.args.n c.args.wires.count c.args.wires.sources.now c.args.wires.targets.now I c.requires
    c.mark_pairs.new.square c.close_square.new.square (pairs_fewer c.requires.gates c.mark_pairs.ensures) c.close_square.ensures
    c.first_paired.result c.first_paired.ensures

pub mark_pairs-requires-clause-unmarked : goal.mark_pairs-requires-clause-unmarked
mark_pairs-requires-clause-unmarked c = λ i h. get_or-replicate {A = ℕ} square_size i 0 0 h
