-- `gains::steps::lowest_exceeding` meets its contract: `find` gives the lowest gate that passes the test. Assumes nothing.
use Prim.Native.Nat.{ℕ}
use Rattle.std.proofs.Common.{rules, tests}
use Rattle.std.proofs.lemmas.Iterator.{first_from_Range}
use Rattle.gains.proofs.Exceeding.{Over, lowest_exceeding, found_below}
use Rattle.gains.proofs.steps.lowest_exceeding.Goals as goal

pub returns : goal.returns
returns c =
    let exceeds : ℕ → Type 0 = Over c.args.counts.now c.args.step_widths.now c.args.increases.now in
    let found = first_from_Range _ _ _ _ exceeds (λ (g : ℕ). ¬ (exceeds g)) c.find.ensures.ran (λ x q k. search (rules, tests)) (λ x q k. search (rules, tests)) in
    lowest_exceeding _ _ _ _ _ (found_below exceeds c.args.n c.find.result found)
