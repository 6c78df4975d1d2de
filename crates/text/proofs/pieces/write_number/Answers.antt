-- `text::pieces::write_number` meets its contract: a 64-bit number has at most twenty digits, so there is room for the byte behind them.
-- Assumes nothing.
use Rattle.std.proofs.Common.{arith}
use Rattle.std.proofs.lemmas.Option.{MatchOption-at_some}
use Rattle.text.proofs.Printed.{some_place, end_fits, number_written}
use Rattle.text.proofs.pieces.write_number.Goals as goal

pub unwrap-next-requires : goal.unwrap-next-requires
unwrap-next-requires c = some_place _ c.write_digits.result c.args.n c.args.at c.args.out.now c.ranges.n.fits c.requires c.write_digits.ensures.answer

pub bounds-out-next : goal.bounds-out-next
bounds-out-next c =
    let place = MatchOption-at_some _ _ _ c.unwrap-next.ensures c.write_digits.ensures.answer in
    (end_fits c.args.n c.args.at c.args.out.now c.ranges.n.fits c.requires place.1 c.write_digits.ensures.written).1

pub overflow_add-result : goal.overflow_add-result
overflow_add-result c =
    let place = MatchOption-at_some _ _ _ c.unwrap-next.ensures c.write_digits.ensures.answer in
    omega (arith, end_fits c.args.n c.args.at c.args.out.now c.ranges.n.fits c.requires place.1 c.write_digits.ensures.written)

pub returns : goal.returns
returns c =
    let place = MatchOption-at_some _ _ _ c.unwrap-next.ensures c.write_digits.ensures.answer in (
      (end_fits c.args.n c.args.at c.args.out.now c.ranges.n.fits c.requires place.1 c.write_digits.ensures.written).0,
      number_written c.args.n c.args.at c.args.out.now c.ranges.n.fits c.requires place.1 c.write_digits.ensures.written c.args.end,
    )
