-- The first digits stand in the part that is written, and, where there is another, `power` is the power that it counts.
use Rattle.std.proofs.Common.{◌≡◌, ◌-◌, ◌^◌, ◌<◌, length, ℕ, get_or}
use Rattle.model.specs.Printout.{digits}
use Rattle.decimal.proofs.write_digits.Given as goal

abbrev pub invariant-loop-place : goal.invariant-loop-place
invariant-loop-place l =
    record {
      stands : (k : ℕ) → k < l.place-index → get_or l.place-items k 0 ≡ get_or (digits l.n) k 0;
      counts : l.place-index < length (digits l.n) → l.power ≡ 10 ^ (length (digits l.n) - 1 - l.place-index);
    }
