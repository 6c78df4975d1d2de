-- `ordering::chain::Chains::of` meets its contract: no chain is begun in fresh arrays.
-- Assumes nothing.
use Rattle.std.proofs.Common.{arith}
use Rattle.model.specs.Limits.{max_gates}
use Rattle.ordering.proofs.Chains.{zeros_chainable}
use Rattle.ordering.proofs.chain.Chains.of.Goals as goal

pub chain_wires-requires : goal.chain_wires-requires
chain_wires-requires c = zeros_chainable {n = max_gates} c.args.ends.now (omega arith) c.requires.few.0 c.requires.few.1 c.requires.to_gates
