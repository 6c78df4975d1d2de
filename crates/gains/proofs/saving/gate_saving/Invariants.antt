-- `gains::saving::gate_saving` meets its contract: j steps are passed, and the ticks left earn from the others. Assumes nothing.
use Prim.Native.Nat.{◌≤◌, ◌*◌}
use Rattle.gains.specs.Savings.{most_of_step}
use Rattle.gains.proofs.Earnings.{Earning}
use Rattle.gains.proofs.saving.gate_saving.Given as goal

abbrev pub invariant-loop-j : goal.invariant-loop-j
invariant-loop-j l = Earning l.counts l.step_widths l.drops l.g l.activity l.increase l.j l.left l.saving × (l.saving ≤ l.j * most_of_step)
