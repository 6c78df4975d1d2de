-- `heads::store::Heads::node` meets its contract. Assumes nothing.
use mathlib.Core.Path.{◌≡◌}
use native.Mathlib.Omega.{arith}
use lib.ListN.{length}
use Rattle.std.proofs.Common.{rules}
use Rattle.planting.specs.Copy.{max_nodes}
use Rattle.heads.proofs.Heads.{node_there, node_read}
use Rattle.heads.proofs.store.Heads.node.Goals as goal

pub offset_bounds-self-i : goal.offset_bounds-self-i
offset_bounds-self-i c =
    let long : length c.args.self.now.nodes ≡ max_nodes = search rules in
    record { fits = omega (arith, long, node_there c.args.self.now c.args.i c.requires) }

pub bounds-self-i : goal.bounds-self-i
bounds-self-i c =
    let long : length c.args.self.now.nodes ≡ max_nodes = search rules in
    omega (arith, long, node_there c.args.self.now c.args.i c.requires)

pub returns : goal.returns
returns c = node_read c.args.self.now c.args.i
