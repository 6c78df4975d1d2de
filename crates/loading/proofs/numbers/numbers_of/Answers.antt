-- `loading::numbers::numbers_of` meets its contract, by the cases of the refusal. Assumes nothing.
use Rattle.loading.proofs.numbers.numbers_of.Goals as goal

pub returns-in-Short : goal.returns-in-Short
returns-in-Short c = rw c.in-Short.is c.placed.ensures

pub returns-in-Tag : goal.returns-in-Tag
returns-in-Tag c = rw c.in-Tag.is c.placed-in-Tag.ensures

pub returns-in-Length : goal.returns-in-Length
returns-in-Length c = rw c.in-Length.is c.placed-in-Length.ensures

pub returns-in-Range : goal.returns-in-Range
returns-in-Range c = rw c.in-Range.is c.placed-in-Range.ensures

pub returns-in-Drops : goal.returns-in-Drops
returns-in-Drops c = rw c.in-Drops.is c.placed-in-Drops.ensures

pub returns-in-Wire : goal.returns-in-Wire
returns-in-Wire c = rw c.in-Wire.is c.placed-in-Wire.ensures

pub returns-in-Excess : goal.returns-in-Excess
returns-in-Excess c = rw c.in-Excess.is c.placed-in-Excess.ensures

pub returns-in-Loop : goal.returns-in-Loop
returns-in-Loop c = rw c.in-Loop.is c.placed-in-Loop.ensures

pub returns-in-Ends : goal.returns-in-Ends
returns-in-Ends c = rw c.in-Ends.is c.placed-in-Ends.ensures

pub returns-in-Room : goal.returns-in-Room
returns-in-Room c = rw c.in-Room.is c.placed-in-Room.ensures

pub returns-in-NotSeriesParallel : goal.returns-in-NotSeriesParallel
returns-in-NotSeriesParallel c = rw c.in-NotSeriesParallel.is c.placed-in-NotSeriesParallel.ensures

pub returns-in-Late : goal.returns-in-Late
returns-in-Late c = rw c.in-Late.is c.placed-in-Late.ensures

pub returns-in-Widths : goal.returns-in-Widths
returns-in-Widths c = rw c.in-Widths.is c.placed-in-Widths.ensures

pub returns-in-PathLate : goal.returns-in-PathLate
returns-in-PathLate c = rw c.in-PathLate.is c.placed-in-PathLate.ensures

pub returns-in-Unreached : goal.returns-in-Unreached
returns-in-Unreached c = rw c.in-Unreached.is c.placed-in-Unreached.ensures
