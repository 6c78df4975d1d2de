-- `heads::store::Heads::gate` meets its contract. Assumes nothing.
use mathlib.Core.Path.{◌≡◌}
use native.Mathlib.Omega.{arith}
use lib.ListN.{length}
use Rattle.std.proofs.Common.{rules}
use Rattle.model.specs.Limits.{max_gates}
use Rattle.heads.proofs.Heads.{gate_there, gate_read}
use Rattle.heads.proofs.store.Heads.gate.Goals as goal

pub offset_bounds-self-g : goal.offset_bounds-self-g
offset_bounds-self-g c =
    let long : length c.args.self.now.gates ≡ max_gates = search rules in
    record { fits = omega (arith, long, gate_there c.args.self.now c.args.g c.requires) }

pub bounds-self-g : goal.bounds-self-g
bounds-self-g c =
    let long : length c.args.self.now.gates ≡ max_gates = search rules in
    omega (arith, long, gate_there c.args.self.now c.args.g c.requires)

pub returns : goal.returns
returns c = gate_read c.args.self.now c.args.g
