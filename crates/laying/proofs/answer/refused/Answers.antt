-- `laying::answer::refused` meets its contract: the two numbers are those of the refusal. Assumes nothing.
use mathlib.Core.Path.{ap}
use native.Mathlib.Omega.{arith}
use Rattle.loading.specs.declared.numbers.Numbers.{Numbers}
use Rattle.laying.specs.Answered.{refused_as}
use Rattle.laying.proofs.answer.refused.Goals as goal

pub overflow_cast-result : goal.overflow_cast-result
overflow_cast-result c = let e = ap (λ (a : Numbers). a.place) c.numbers_of-numbers.ensures in omega (arith, c.requires)

pub returns : goal.returns
returns c = ap (λ (a : Numbers). refused_as a.number a.place) c.numbers_of-numbers.ensures
