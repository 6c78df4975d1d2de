-- `reaching::ticks_on_curve` meets its contract: refusals are passed on, and ticks counted off the curve of the file's block are the fewest. Assumes nothing.
use native.Mathlib.Omega.{arith}
use Rattle.std.proofs.lemmas.Result.{err_from_is_err_and}
use Rattle.reaching.proofs.CurveLaws.{known, passed_on}
use Rattle.reaching.proofs.TicksLaws.{ticks_beyond, ticks_few, ticks_given, earnings_fit}
use Rattle.reaching.proofs.ticks_on_curve.Goals as goal

pub returns-in_err-head : goal.returns-in_err-head
returns-in_err-head c =
    let p = err_from_is_err_and c.from_residual.result c.from_residual.ensures.1 in
    rw (p.1, p.2) (λ file k. passed_on _ (rw c.in_err-head.was at k))

pub ticks_for-requires : goal.ticks_for-requires
ticks_for-requires c =
    let k = rw c.in_ok-head.was at c.requires.1 in
    (k.bounds.0, earnings_fit k)

pub overflow_cast-result : goal.overflow_cast-result
overflow_cast-result c =
    let k = rw c.in_ok-head.was at c.requires.1 in
    omega (arith, ticks_few (known k) c.args.wanted c.in-Some.ensures)

pub returns-in-Some : goal.returns-in-Some
returns-in-Some c = λ file k. ticks_given (known (rw c.in_ok-head.was at k)) _ c.in-Some.ensures

pub returns-in-None : goal.returns-in-None
returns-in-None c = λ file k. ticks_beyond (known (rw c.in_ok-head.was at k)) c.in-None.ensures
