-- `blockwords::step_drop` meets its contract. Assumes nothing.
use mathlib.Core.Path.{◌∙◌}
use native.Mathlib.Omega.{arith}
use Rattle.model.specs.Limits.{max_pairs}
use Rattle.model.specs.Arrays.{step_place}
use Rattle.words.proofs.Views.{read_on}
use Rattle.blockwords.specs.BlockWords.{drops_from}
use Rattle.blockwords.proofs.step_drop.Goals as goal

pub returns : goal.returns
returns c =
    c.step_number.ensures ∙ read_on drops_from max_pairs c.args.block.now (step_place c.args.g c.args.j) (omega (arith, c.requires.0, c.requires.1))
