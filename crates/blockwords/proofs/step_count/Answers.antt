use Rattle.model.specs.Limits.{max_gates}
use Rattle.words.proofs.Views.{read_on}
use Rattle.blockwords.specs.BlockWords.{counts_from}
use Rattle.blockwords.proofs.step_count.Goals as goal

pub returns : goal.returns
returns c = read_on counts_from max_gates c.args.block.now c.args.g c.requires
