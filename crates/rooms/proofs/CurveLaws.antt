-- From what was found of the block that a well-formed file holds to the answer of the curve.
-- Assumes nothing.
use mathlib.Core.Path.{refl}
use mathlib.Core.List.{List}
use Prim.Native.Nat.{ℕ, ◌≤◌, ◌<◌}
use native.Mathlib.Omega.{arith}
use lib.ListN.{length}
use Rattle.model.specs.Limits.{max_pairs}
use Rattle.model.specs.Block.{Block}
use Rattle.model.specs.Refusal.{WellFormed}
use Rattle.model.specs.Answer.{Outcome, Slices, refusal, well_formed, fits, passes, CurveLines, AnswersCurve}

module _ {file : List ℕ} {B : Block} (well : WellFormed file B) {widths gains : List ℕ} where
  pub widths_short : length widths < max_pairs
      → AnswersCurve file (record { for_widths = widths; for_gains = gains }) (record { answer = refusal 10 max_pairs; memory = record { for_widths = widths; for_gains = gains } })
  widths_short short = well_formed B well (fits max_pairs (refl, short) refl)

  pub gains_short : max_pairs ≤ length widths → length gains < max_pairs
      → AnswersCurve file (record { for_widths = widths; for_gains = gains }) (record { answer = refusal 10 max_pairs; memory = record { for_widths = widths; for_gains = gains } })
  gains_short long short = well_formed B well (passes (λ p s. let e = s.1 in omega arith) (fits max_pairs (refl, short) refl))

  pub curve_answered : {o : Outcome Slices} → max_pairs ≤ length widths → max_pairs ≤ length gains → CurveLines B (record { for_widths = widths; for_gains = gains }) o
      → AnswersCurve file (record { for_widths = widths; for_gains = gains }) o
  curve_answered wide long lines =
      well_formed B well (passes (λ p s. let e = s.1 in omega arith) (passes (λ p s. let e = s.1 in omega arith) lines))
