-- `ranges::limits::drops_fall` meets its contract: each two steps that follow one another are compared.
-- Assumes nothing.
use mathlib.Core.Path.{sym, ◌∙◌, ap}
use mathlib.Core.List.{List}
use Prim.Native.Nat.{ℕ}
use lib.Dec.{ltb}
use lib.ListN.{length}
use Rattle.std.proofs.Common.{rules, tests}
use Rattle.std.proofs.lemmas.Fn.{always_returns_same}
use Rattle.ranges.proofs.Steps.{step_in, drops_as_arrays}
use Rattle.ranges.proofs.limits.drops_fall.Goals as goal

pub returns : goal.returns
returns c =
    let front = c.as_chunks.ensures.front in
    drops_as_arrays c.args.steps.now c.requires c.is_sorted_by.result (ap length (sym front) ∙ c.as_chunks.ensures.front_len)
    (rw front at (c.is_sorted_by.ensures.cases (λ (x y : List ℕ). ltb (step_in y).drop (step_in x).drop) (always_returns_same _ _ _ (λ a r q k. search (rules, tests)))))
