-- `gains::saving::list_saving` meets its contract: what the gates earn is summed. Assumes nothing.
use mathlib.Core.Path.{◌∙◌}
use Prim.Native.Nat.{ℕ}
use native.Mathlib.Omega.{arith}
use lib.ListN.{get_or}
use Rattle.std.proofs.Common.{rules, tests}
use Rattle.std.proofs.lemmas.Iterator.{YieldsList-from_range, YieldsList-from_map}
use Rattle.std.proofs.lemmas.Iterator.Consumers.{sum_by_from_yields_List, fits_by_from_yields_list}
use Rattle.std.specs.List.{range_with_len}
use Rattle.gains.specs.Steps.{steps_in}
use Rattle.gains.specs.Savings.{earned}
use Rattle.gains.proofs.Earnings.{range_earned, earned_most, list_saving}
use Rattle.gains.proofs.saving.list_saving.Goals as goal

pub sum-requires-clause-fits : goal.sum-requires-clause-fits
sum-requires-clause-fits c =
    let gain : ℕ → ℕ = λ (g : ℕ). earned (steps_in c.args.counts.now c.args.step_widths.now c.args.drops.now g) (get_or c.args.inputs.now g 0) (get_or c.args.increases.now g 0) in
    fits_by_from_yields_list gain (range_with_len 0 c.args.n) c.map.result _
    (YieldsList-from_map _ gain (YieldsList-from_range 0 c.args.n c.args.n c.map.ensures.source (omega arith)) c.map.ensures.closure (λ x r q k. search (rules, tests)))
    (omega (arith, range_earned c.args.n c.args.counts.now c.args.step_widths.now c.args.drops.now c.args.inputs.now c.args.increases.now, earned_most c.args.n c.args.counts.now c.args.step_widths.now c.args.drops.now c.args.inputs.now c.args.increases.now c.requires, c.requires.gates))

pub returns : goal.returns
returns c =
    let gain : ℕ → ℕ = λ (g : ℕ). earned (steps_in c.args.counts.now c.args.step_widths.now c.args.drops.now g) (get_or c.args.inputs.now g 0) (get_or c.args.increases.now g 0) in
    list_saving c.args.n c.args.counts.now c.args.step_widths.now c.args.drops.now c.args.inputs.now c.args.increases.now c.sum.result
    (sum_by_from_yields_List gain (range_with_len 0 c.args.n) c.map.result c.sum.result c.sum.ensures.ran
    (YieldsList-from_map _ gain (YieldsList-from_range 0 c.args.n c.args.n c.map.ensures.source (omega arith)) c.map.ensures.closure (λ x r q k. search (rules, tests)))
    ∙ range_earned c.args.n c.args.counts.now c.args.step_widths.now c.args.drops.now c.args.inputs.now c.args.increases.now)
    c.requires
