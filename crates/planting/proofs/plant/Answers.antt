-- `planting::plant` meets its contract: the pieces that it writes are those of the whole tree. Assumes nothing.
use native.Mathlib.Omega.{arith}
use Rattle.parts.specs.Nodes.{tree_of}
use Rattle.planting.specs.Copy.{nodes_in}
use Rattle.planting.proofs.Tops.{first_asked, tree_asked, last_asked, fits, inner_asked, outer_asked, root_asked, whole_done}
use Rattle.planting.proofs.plant.Goals as goal

pub put_wire-requires : goal.put_wire-requires
put_wire-requires c = first_asked (tree_of (nodes_in c.args.kind.now c.args.left.now c.args.gate.now c.args.right.now) c.args.i) c.args.a c.args.b c.requires.room

pub copy-l-requires : goal.copy-l-requires
copy-l-requires c = record { readable = c.requires.readable; room = tree_asked (tree_of (nodes_in c.args.kind.now c.args.left.now c.args.gate.now c.args.right.now) c.args.i) c.args.a c.args.b c.requires.room c.put_wire.ensures }

pub put_wire-requires-2 : goal.put_wire-requires-2
put_wire-requires-2 c = last_asked _ c.args.a c.args.b c.requires.room c.put_wire.ensures c.copy-l.ensures.count c.copy-l.ensures.written

pub put_series-requires : goal.put_series-requires
put_series-requires c = let n = inner_asked _ c.args.a c.args.b c.requires.room c.put_wire.ensures c.copy-l.ensures.count c.copy-l.ensures.written c.put_wire-2.ensures in record { room = n.0; le_l = n.1; l_bound = n.2 }

pub put_series-requires-2 : goal.put_series-requires-2
put_series-requires-2 c = let n = outer_asked _ c.args.a c.args.b c.requires.room c.put_wire.ensures c.copy-l.ensures.count c.copy-l.ensures.written c.put_wire-2.ensures c.put_series.ensures in record { room = n.0; le_l = n.1; l_bound = n.2 }

pub put_root-requires : goal.put_root-requires
put_root-requires c =
    let n = root_asked _ c.args.a c.args.b c.requires.room c.put_wire.ensures c.copy-l.ensures.count c.copy-l.ensures.written c.put_wire-2.ensures c.put_series.ensures c.put_series-2.ensures in
    record { room = n.0; le_c = n.1 }

pub returns : goal.returns
returns c = let d = whole_done _ c.args.a c.args.b c.requires.room c.put_wire.ensures c.copy-l.ensures.count c.copy-l.ensures.written c.put_wire-2.ensures c.put_series.ensures c.put_series-2.ensures c.put_root.ensures.written in record { count = d.0; planted = d.1.0; written = d.1.1; held = c.put_root.ensures.held }
