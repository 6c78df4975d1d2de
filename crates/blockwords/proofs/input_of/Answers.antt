use Rattle.model.specs.Limits.{max_gates}
use Rattle.words.proofs.Views.{read_on}
use Rattle.blockwords.specs.BlockWords.{inputs_from}
use Rattle.blockwords.proofs.input_of.Goals as goal

pub returns : goal.returns
returns c = read_on inputs_from max_gates c.args.block.now c.args.g c.requires
