-- `gains::saving::step_saving` meets its contract: the greatest width, drop and input activity make a product that fits. Assumes nothing.
use native.Mathlib.Nat.{mul-le-mul}
use native.Mathlib.Omega.{arith}
use Rattle.gains.proofs.Earnings.{step_small}
use Rattle.gains.proofs.saving.step_saving.Goals as goal

pub overflow_mul-result : goal.overflow_mul-result
overflow_mul-result c = let h = mul-le-mul c.requires.1 c.requires.2 in omega (arith, rw (← c.from-2.ensures, ← c.from-3.ensures) at h)

pub overflow_mul-result-2 : goal.overflow_mul-result-2
overflow_mul-result-2 c = let h = step_small _ _ _ c.requires.0 c.requires.1 c.requires.2 in omega (arith, rw (← c.from.ensures, ← c.from-2.ensures, ← c.from-3.ensures) at h)

pub returns : goal.returns
returns c = let h = step_small _ _ _ c.requires.0 c.requires.1 c.requires.2 in (cc, rw (← c.from.ensures, ← c.from-2.ensures, ← c.from-3.ensures) at h)
