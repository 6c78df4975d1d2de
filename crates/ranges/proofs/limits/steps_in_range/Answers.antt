-- `ranges::limits::steps_in_range` meets its contract: every array of four bytes is tried.
-- Assumes nothing.
use mathlib.Core.Path.{◌∙◌}
use mathlib.Core.List.{List}
use Prim.Native.Nat.{ℕ}
use Rattle.std.proofs.Common.{rules, tests}
use Rattle.std.proofs.lemmas.Iterator.{YieldsList-from_slice}
use Rattle.std.proofs.lemmas.Iterator.Search.{all_from_yields_List}
use Rattle.model.specs.File.{step_in_range}
use Rattle.ranges.proofs.Steps.{step_in, ranges_as_arrays}
use Rattle.ranges.proofs.limits.steps_in_range.Goals as goal

pub returns : goal.returns
returns c =
    all_from_yields_List (λ (four : List ℕ). step_in_range (step_in four)) _ _ c.all.result c.all.ensures.ran (YieldsList-from_slice c.as_chunks.result.0.now cc) (λ x b q k. search (rules, tests))
    ∙ rw c.as_chunks.ensures.front (ranges_as_arrays c.args.steps.now c.requires)
