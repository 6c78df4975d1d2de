-- `planting::plant_lone` meets its contract: the pieces that it writes are those of a gate alone. Assumes nothing.
use mathlib.Core.Path.{refl}
use native.Mathlib.Omega.{arith}
use Rattle.planting.proofs.Adding.{less_room}
use Rattle.planting.proofs.Tops.{lone_second, lone_third, lone_last, lone_done}
use Rattle.planting.proofs.plant_lone.Goals as goal

pub put_wire-requires : goal.put_wire-requires
put_wire-requires c = less_room (omega arith) c.requires

pub put_wire-requires-2 : goal.put_wire-requires-2
put_wire-requires-2 c = less_room (omega arith) (lone_second c.requires c.put_wire.ensures)

pub put_series-requires : goal.put_series-requires
put_series-requires c = record { room = (lone_third (lone_second c.requires c.put_wire.ensures) c.put_wire-2.ensures); le_l = omega arith; l_bound = omega arith }

pub put_root-requires : goal.put_root-requires
put_root-requires c = record { room = lone_last _ (lone_third (lone_second c.requires c.put_wire.ensures) c.put_wire-2.ensures) c.put_series.ensures; le_c = omega arith }

pub returns : goal.returns
returns c = let d = lone_done c.args.g c.requires c.put_wire.ensures c.put_wire-2.ensures c.put_series.ensures c.put_root.ensures.written in record { count = refl; planted = d.0; written = d.1; held = c.put_root.ensures.held }
