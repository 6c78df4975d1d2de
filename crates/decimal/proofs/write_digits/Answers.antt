-- `decimal::write_digits` meets its contract: each place gets the digit that `power` counts, and the part that is written holds the digits in the end.
-- Assumes nothing.
use Rattle.std.proofs.Common.{arith, ◌≡◌, ◌≢◌, sym, ◌-◌, ◌<◌, ◌+◌, length, ℕ, below_more, length-take, length-drop, get_or-set_other, get_or-set_same}
use Rattle.std.proofs.lemmas.Grind.{same_number_lists}
use native.Mathlib.Nat.{one-le-pow}
use Rattle.model.specs.Printout.{digits}
use Rattle.decimal.proofs.Digits.{some_digit, digit_at, power_below}
use Rattle.decimal.proofs.Placed.{placed_part}
use Rattle.decimal.proofs.write_digits.Goals as goal

pub nonzero_div-place : goal.nonzero_div-place
nonzero_div-place c =
    let some = some_digit c.args.n in
    rw (c.loop-place.invariant.counts (omega (arith, length-take {A = ℕ}, length-drop {A = ℕ}))) (one-le-pow _ 10 (omega arith))

pub loop-place-preserved : goal.loop-place-preserved
loop-place-preserved c =
    let some = some_digit c.args.n in
    let i = c.loop-place.place-index in
    let within : i < length (digits c.args.n) = omega (arith, length-take {A = ℕ}, length-drop {A = ℕ}) in
    let l : i < length c.loop-place.place-items = omega arith in
    let counts = c.loop-place.invariant.counts within in
    record {
      stands = below_more _ _
          (λ k h. let ne : k ≢ i = omega arith in rw get_or-set_other (c.loop-place.invariant.stands k h))
          (rw (get_or-set_same, counts) (sym (digit_at c.args.n i within)));
      counts = λ more. rw counts (power_below (length (digits c.args.n) - 1 - i) (length (digits c.args.n) - 1 - (i + 1)) (omega arith));
    }

pub returns-clause-written : goal.returns-clause-written
returns-clause-written c =
    let some = some_digit c.args.n in
    let all : length c.loop-place.place-items ≡ length (digits c.args.n) = omega (arith, length-take {A = ℕ}, length-drop {A = ℕ}) in
    placed_part (digits c.args.n) c.args.at c.args.out.now (omega arith) _ _ (omega arith)
    (same_number_lists _ _ all (λ k h. c.loop-place.invariant.stands k (omega arith)))
