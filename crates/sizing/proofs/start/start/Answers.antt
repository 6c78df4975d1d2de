-- `sizing::start::start` meets its contract: heads of gates without increase, lengths, then raising. Assumes nothing.
use native.Mathlib.Omega.{arith}
use Rattle.sizing.proofs.Starting.{raisable}
use Rattle.sizing.proofs.start.start.Goals as goal

pub unslowed_heads-requires : goal.unslowed_heads-requires
unslowed_heads-requires c = record { steps_held = c.requires.steps_held; block_in_bounds = omega (arith, c.requires.sizable.one_each); heads_there = λ g l. record { room = c.requires.sizable.gate_room g l } }

pub raise_and_fill-requires : goal.raise_and_fill-requires
raise_and_fill-requires c = record { raisable = rw c.unslowed_heads.ensures.nodes (raisable c.requires.sizable c.unslowed_heads.ensures.unslowed c.unslowed_heads.auto.increases (λ g l. c.unslowed_heads.ensures.room g (c.requires.sizable.gate_room g l))); steps_held = c.requires.steps_held; tree_in_bounds = omega (arith, c.requires.measurable.lengths_long, c.part_lengths.auto.lengths) }

pub returns : goal.returns
returns c = c.raise_and_fill.ensures _ c.part_lengths.ensures
