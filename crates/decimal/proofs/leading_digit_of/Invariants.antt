-- There are at least `count` digits, and ten times `power` is ten to the power `count`. The loop goes on while that is at most the number, which then has more digits, and ends when it is above, so that there are no more.
use Rattle.std.proofs.Common.{◌≡◌, ◌-◌, ◌*◌, ◌^◌, ◌≤◌, length}
use Rattle.model.specs.Printout.{digits}
use Rattle.decimal.proofs.leading_digit_of.Given as goal

abbrev pub invariant-loop-power : goal.invariant-loop-power
invariant-loop-power l =
    record {
      some : 1 ≤ l.count;
      within : l.count ≤ length (digits l.n);
      tenfold : l.power * 10 ≡ 10 ^ l.count;
    }

abbrev pub decreases-loop-power : goal.decreases-loop-power
decreases-loop-power l = length (digits l.n) - l.count
