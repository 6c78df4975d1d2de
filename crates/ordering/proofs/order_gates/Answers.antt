-- `ordering::order_gates` meets its contract: the wires are chained and counted, the gates with none placed, and every placed gate has its turn.
-- Assumes nothing.
use mathlib.Core.Path.{◌∙◌}
use native.Mathlib.Omega.{arith}
use Rattle.model.specs.Limits.{max_gates}
use Rattle.model.proofs.Slack.{zeros}
use Rattle.ordering.proofs.Passing.{counted_begins}
use Rattle.ordering.proofs.Answers.{order-judged}
use Rattle.ordering.proofs.order_gates.Goals as goal

pub count_wires-requires-clause-begun : goal.count_wires-requires-clause-begun
count_wires-requires-clause-begun c = zeros max_gates

pub pass_gates-count-requires : goal.pass_gates-count-requires
pass_gates-count-requires c =
    record { linked = record { lent = c.requires.lent; heads_long = omega arith; links_long = omega arith; chained = c.of-chains.ensures }; n_in_bounds = omega arith; counted = counted_begins c.requires.lent c.count_wires.ensures c.place_free-free.ensures }

pub returns : goal.returns
returns c =
    record { order_found = λ B I. order-judged B c.args.n c.args.wires.count c.args.wires.sources.now c.args.wires.targets.now I c.requires.lent c.pass_gates-count.ensures.counted; same_beyond = λ k h. c.pass_gates-count.ensures.same_beyond k h ∙ c.place_free-free.ensures.beyond k h }
