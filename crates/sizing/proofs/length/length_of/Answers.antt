-- `sizing::length::length_of` meets its contract: by the node's kind. Assumes nothing.
use mathlib.Core.Path.{sym, ◌∙◌}
use native.Mathlib.Omega.{arith}
use Rattle.heads.proofs.Reading.{node_in}
use Rattle.sizing.proofs.Measuring.{wire_long, series_long, series_short, parallel_long}
use Rattle.sizing.proofs.length.length_of.Goals as goal

pub kind_at-requires : goal.kind_at-requires
kind_at-requires c = node_in _ _ c.requires.i_bound c.requires.measurable.few_nodes

pub overflow_add-result : goal.overflow_add-result
overflow_add-result c =
    let e = c.in-Series.ensures in
    let s = series_short c.requires.measurable c.requires.lengths c.requires.i_bound (omega (arith, e.number)) e.left e.right e.gate (sym e.number) in
    record { fits = omega (arith, s) }

pub overflow_add-result-in-Series : goal.overflow_add-result-in-Series
overflow_add-result-in-Series c =
    let e = c.in-Series.ensures in
    record { fits = series_short c.requires.measurable c.requires.lengths c.requires.i_bound (omega (arith, e.number)) e.left e.right e.gate (sym e.number) }

pub returns-in-Wire : goal.returns-in-Wire
returns-in-Wire c = c.in-Wire.ensures.gate ∙ wire_long c.requires.measurable c.requires.lengths c.requires.i_bound (sym c.in-Wire.ensures.number)

pub returns-in-Series : goal.returns-in-Series
returns-in-Series c =
    let e = c.in-Series.ensures in
    series_long c.requires.measurable c.requires.lengths c.requires.i_bound (omega (arith, e.number)) e.left e.right e.gate (sym e.number)

pub returns-in-Parallel : goal.returns-in-Parallel
returns-in-Parallel c =
    let e = c.in-Parallel.ensures in
    c.max.ensures
    ∙ parallel_long c.requires.measurable c.requires.lengths c.requires.i_bound (omega (arith, e.number)) e.left e.right (omega (arith, e.number))
