-- `saving_curve::position::Position::rest` meets its contract: past the end nothing is taken, else all that is left of the pair. Assumes nothing.
use mathlib.Core.Path.{◌≡◌, sym}
use native.Mathlib.Omega.{arith}
use lib.ListN.{get_or}
use Rattle.std.proofs.Common.{rules}
use Rattle.saving_curve.proofs.Held.{past_pairs, taken_rest}
use Rattle.saving_curve.proofs.position.Position.rest.Goals as goal

pub returns-then-curve-pair-clause-taken : goal.returns-then-curve-pair-clause-taken
returns-then-curve-pair-clause-taken c = sym (past_pairs c.args.curve c.args.self _ (omega arith))

pub returns-clause-taken : goal.returns-clause-taken
returns-clause-taken c =
    let width : c.unwrap_or-width.result ≡ get_or c.args.curve.widths.now c.args.self.pair 0 = search rules in
    let gain : c.unwrap_or-gain.result ≡ get_or c.args.curve.gains.now c.args.self.pair 0 = search rules in
    taken_rest c.args.curve c.args.self _ _ _ (omega arith) width c.saturating_sub.ensures gain
