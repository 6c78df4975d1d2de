-- `slots::finish::lower` meets its contract. Assumes nothing.
use native.Mathlib.Omega.{arith}
use Rattle.slots.proofs.FinishLaws.{dead_kept, live_lesser}
use Rattle.slots.proofs.finish.lower.Goals as goal

pub returns-then-live-i-eq1 : goal.returns-then-live-i-eq1
returns-then-live-i-eq1 c = live_lesser _ _ _ _ c.if-live-i-eq1.true (omega arith)

pub returns-else-live-i-eq1 : goal.returns-else-live-i-eq1
returns-else-live-i-eq1 c = dead_kept _ _ _ c.if-live-i-eq1.false
