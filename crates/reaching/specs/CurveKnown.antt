-- The outcome of the curve of a file, in slices that are long enough.
use Rattle.std.specs.Prelude.{Result, List, ℕ, ◌≤◌, length}
use Rattle.model.specs.declared.Refusal.{Refusal}
use Rattle.model.specs.declared.CurveFound.{CurveFound}
use Rattle.model.specs.Limits.{max_pairs}
use Rattle.model.specs.Answer.{Slices, curve_answer, CurveBounds, AnswersCurve}

-- The curve call answered `found` for the file, to two slices of at least `max_pairs` elements, which now hold `widths` and `gains`.
pub record CurveKnown (file : List ℕ) (found : Result CurveFound Refusal) (widths gains : List ℕ) : Type 0 where
  pub lent : Slices
  pub widths_long : max_pairs ≤ length lent.for_widths
  pub gains_long : max_pairs ≤ length lent.for_gains
  pub answers : AnswersCurve file lent (record { answer = curve_answer found; memory = record { for_widths = widths; for_gains = gains } })
  pub bounds : CurveBounds found gains
