-- Every row of the table computes: its file cannot be read or its wires rise, and its call's outcome is the one expected. All by computation.
-- Assumes nothing.
use mathlib.Core.Path.{◌≡◌, refl}
use mathlib.Core.Bool.{true}
use mathlib.Core.List.{flat_map}
use Rattle.lists.specs.Over.{build, over}
use Rattle.lists.specs.Sum.{sum, total}
use Rattle.lists.specs.Search.{lesser}
use Rattle.model.specs.Activity.{activity}
use Rattle.model.specs.Field.{field_at}
use Rattle.model.specs.File.{steps_in, every, some, falls, falls_below, fault, read_field, read_gates, read_wires, decode, read_block, encode}
use Rattle.model.specs.Gain.{drop_of, input_activity, gain, saving}
use Rattle.model.specs.Curve.{count_off}
use Rattle.model.specs.Slack.{latest_in, source_by, source_delay, least_out, required_by, required_time, slack, start}
use Rattle.optimum.specs.Head.{leads, turn, beside}
use Rattle.optimum.specs.Gates.{room, gate_head}
use Rattle.optimum.specs.Runs.{runs_list, onto, joined}
use Rattle.optimum.specs.BlockTree.{wire_delay, step_count}
use Rattle.parts.specs.Slots.{wire_slots}
use Rattle.parts.specs.Reduce.{find, sole, slot_in, slot_out, slot_between, goes, taken_away, reduce, remainder, lowest_led, gate_left}
use Rattle.parts.specs.Ascending.{some_below, every_below, ascending}
use Rattle.worked.specs.Call.{Row, file_of, Every}
use Rattle.worked.specs.Computed.{tree, lowest, computed, rises}
use Rattle.worked.specs.Table.{table}

-- the row is found by computing
abbrev pub Computes : Row → Type 0
Computes r = (rises (read_block (file_of r.call)) ≡ true) × (computed r.call ≡ r.expected)

pub rows_compute : Every Computes table
unfolding table build over count_off sum total activity field_at steps_in every some falls falls_below fault read_field read_gates read_wires decode read_block encode flat_map drop_of input_activity gain saving latest_in source_by source_delay least_out required_by required_time slack start leads turn beside room gate_head runs_list onto joined wire_delay step_count wire_slots find sole slot_in slot_out slot_between goes taken_away reduce remainder lowest_led lesser gate_left some_below every_below ascending tree lowest
rows_compute = ((refl, refl), ((refl, refl), ((refl, refl), ((refl, refl), ((refl, refl), ((refl, refl), ((refl, refl), ((refl, refl), ((refl, refl), ((refl, refl), ((refl, refl), ((refl, refl), ((refl, refl), ((refl, refl), ((refl, refl), ((refl, refl), ((refl, refl), ((refl, refl), ((refl, refl), ((refl, refl), ((refl, refl), ((refl, refl), ((refl, refl), ((refl, refl), ((refl, refl), ((refl, refl), ((refl, refl), ((refl, refl), ((refl, refl), ((refl, refl), ((refl, refl), ((refl, refl), ((refl, refl), ((refl, refl), ((refl, refl), ((refl, refl), ((refl, refl), ((refl, refl), ((refl, refl), ((refl, refl), ((refl, refl), ((refl, refl), ((refl, refl), ((refl, refl), ((refl, refl), ((refl, refl), ((refl, refl), ((refl, refl), tt))))))))))))))))))))))))))))))))))))))))))))))))
