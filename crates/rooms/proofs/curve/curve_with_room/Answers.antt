-- `rooms::curve::curve_with_room` meets its contract: room in both slices, then what is found of the held block. Assumes nothing.
use Rattle.rooms.proofs.CurveLaws.{widths_short, gains_short, curve_answered}
use Rattle.rooms.proofs.curve.curve_with_room.Goals as goal

pub returns-then-widths-lt-MAX_PAIRS : goal.returns-then-widths-lt-MAX_PAIRS
returns-then-widths-lt-MAX_PAIRS c = record { curve = λ file arrival deadline held. widths_short held.well c.if-widths-lt-MAX_PAIRS.true; curve_bounds = tt }

pub returns-then-gains-lt-MAX_PAIRS : goal.returns-then-gains-lt-MAX_PAIRS
returns-then-gains-lt-MAX_PAIRS c = record { curve = λ file arrival deadline held. gains_short held.well c.if-widths-lt-MAX_PAIRS.false c.if-gains-lt-MAX_PAIRS.true; curve_bounds = tt }

pub returns : goal.returns
returns c =
    record { curve = λ file arrival deadline held. curve_answered held.well c.if-widths-lt-MAX_PAIRS.false c.if-gains-lt-MAX_PAIRS.false (c.curve_held.ensures.lines file arrival deadline held); curve_bounds = c.curve_held.ensures.curve_bounds }
