-- Slacks written one after the other.
-- Assumes nothing.
use mathlib.Core.Path.{◌≡◌}
use mathlib.Core.List.{List}
use Prim.Native.Nat.{ℕ, ◌+◌, ◌-◌, ◌<◌}
use native.Mathlib.Omega.{arith}
use lib.IntN.{ℤ, ◌-ℤ◌}
use lib.ListN.{get_or, set}
use mir.Syntax.{w32}
use mir.Val.{to_z, of_z}
use Rattle.lists.specs.Over.{build, over}
use Rattle.lists.proofs.Over.{over_more}
use Rattle.timing.specs.Slacks.{left_at, Subtractable}
use Rattle.timing.proofs.Differences.{difference_read}

module _ (n : ℕ) (times tails gate_delays : List ℕ) (deadline : ℕ) (old : List ℤ) (able : Subtractable n times tails gate_delays deadline old) where
  pub through_small : (g : ℕ) → g < n → get_or times g 0 + (get_or tails g 0 - get_or gate_delays g 0) < 2147483648
  through_small g h = omega (arith, able.times_small g h, able.tails_small g h)

  -- one slack more is written: what is stored is the difference of the deadline and the time through the gate, read as signed numbers
  pub slack_written : (g : ℕ) (out : List ℤ) → g < n
      → out ≡ over (build g (left_at times tails gate_delays deadline)) old
      → set out g (to_z w32 (of_z w32 (to_z w32 deadline -ℤ to_z w32 (get_or times g 0 + (get_or tails g 0 - get_or gate_delays g 0)))))
      ≡ over (build (g + 1) (left_at times tails gate_delays deadline)) old
  slack_written g out h e =
      rw (
        difference_read deadline (get_or times g 0 + (get_or tails g 0 - get_or gate_delays g 0)) (omega (arith, able.deadline_small)) (through_small g h),
        e,
      )
      (over_more g (left_at times tails gate_delays deadline) old (omega (arith, able.out_long)))
