-- What a well-formed file's block has, and the lines of each call's table from 10 on, for that block.
-- The idea: no gate is on a loop, so the gates can be numbered along the wires, which the laws of paths ask for.
-- Assumes nothing.
use mathlib.Core.Path.{◌≡◌, refl, ap}
use mathlib.Core.Logic.{◌↔◌}
use mathlib.Core.List.{List, [], ◌∷◌}
use Prim.Native.Nat.{ℕ, ◌*◌, ◌<◌}
use native.Mathlib.Omega.{arith}
use lib.IntN.{ℤ, pos}
use lib.Signed.{◌<ℤ◌}
use lib.ListN.{length, take, drop}
use lib.Seq.{take-append_seam, drop-append_seam}
use Rattle.lists.specs.Over.{build, over}
use Rattle.lists.specs.Search.{Lowest}
use Rattle.model.specs.Limits.{max_pairs}
use Rattle.model.specs.Block.{Block, gate_count}
use Rattle.model.specs.Gain.{saving}
use Rattle.model.specs.InTime.{InTime}
use Rattle.model.specs.Best.{Best}
use Rattle.model.specs.Part.{SeriesParallel}
use Rattle.model.specs.Slack.{slack, spare}
use Rattle.model.specs.Refusal.{WellFormed}
use Rattle.model.specs.Layout.{increase_bytes, list_bytes, GivesLayout, laid, AnswersLayout}
use Rattle.model.specs.Answer.{Outcome, Slices, accepted, Line, At, Gives, Shorter, Exceeds, PathNotInTime, GivesCurve, curve, CurveLines, GivesBest, best, SizingLines, BestLines, GivesTicks, fewest, TicksLines, AnswersSlacks, AnswersCurve, AnswersBest, AnswersJudge, AnswersTicks}
use Rattle.model.proofs.Limited.{BlockLimits, read_limits}
use Rattle.model.proofs.Source.{Along}
use Rattle.model.proofs.Slack as paths
use Rattle.ordering.proofs.Numbered.{sound_along}
use Rattle.parts.specs.Network.{Network}
use Rattle.shaping.proofs.Facts.{network}
use Rattle.demands.proofs.TableLaws.{own_lines, passed}

-- two equivalences, one after the other
pub both : {P Q R : Type 0} → P ↔ Q → Q ↔ R → P ↔ R
both f g = (λ p. g.0 (f.0 p), λ r. f.1 (g.1 r))

-- an equivalence of the second of two facts
pub beside : {P Q R : Type 0} → Q ↔ R → (P × Q) ↔ (P × R)
beside f = (λ w. (w.0, f.0 w.1), λ w. (w.0, f.1 w.1))

-- a list in front of a slice is its first elements, and what lies behind is as before
in_front : {A : Type 0} (x lent : List A) (n : ℕ) → length x ≡ n → (take n (over x lent) ≡ x) × (drop n (over x lent) ≡ drop n lent)
unfolding over
in_front x lent n e = rw (← e) (take-append_seam x (drop (length x) lent), drop-append_seam x (drop (length x) lent))

-- the best list given is the slice's first elements, and all others are as before
pub best_in_front : {B : Block} {lent : List ℕ} {o : Outcome (List ℕ)} → GivesBest B lent o
    → Best B (take (gate_count B) o.memory)
    × (o.answer ≡ accepted (saving B (take (gate_count B) o.memory) ∷ gate_count B ∷ []))
    × (drop (gate_count B) o.memory ≡ drop (gate_count B) lent)
best_in_front {B} {lent} (best x sp b e) =
    let front = in_front x lent (gate_count B) b.is_ok.one_each in
    rw (e, front.0, front.1) (b, refl, refl)

pub best_bytes : {B : Block} {lent : List ℕ} {o : Outcome (List ℕ)} → GivesLayout B lent o
    → (x : List ℕ) × Best B x × (o ≡ record { answer = accepted (saving B x ∷ gate_count B ∷ []); memory = over (list_bytes x) lent })
best_bytes (laid x sp b e) = (x, b, e)

-- what is given is accepted, and of a series-parallel block
pub best_accepts : {B : Block} {lent : List ℕ} {o : Outcome (List ℕ)} → GivesBest B lent o → (o.answer.number ≡ 0) × SeriesParallel B
best_accepts (best x sp b e) = (ap (λ o. o.answer.number) e, sp)

pub layout_accepts : {B : Block} {lent : List ℕ} {o : Outcome (List ℕ)} → GivesLayout B lent o → (o.answer.number ≡ 0) × SeriesParallel B
layout_accepts (laid x sp b e) = (ap (λ o. o.answer.number) e, sp)

pub curve_accepts : {B : Block} {lent : Slices} {o : Outcome Slices} → GivesCurve B lent o → (¬ (o.answer.number ≡ 11)) × SeriesParallel B
curve_accepts (curve s a ps sp c e) = (λ q. let none = ap (λ o. o.answer.number) e in omega arith, sp)

pub ticks_accepts : {B : Block} {wanted : ℕ} {o : Outcome (Unit {0})} → GivesTicks B wanted o → (o.answer.number ≡ 0) × SeriesParallel B
ticks_accepts (fewest k sp f e) = (ap (λ o. o.answer.number) e, sp)

-- the lines of slacks from 10 on
abbrev SlacksLines : List ℤ → Block → Outcome (List ℤ) → Type 0
SlacksLines lent X = Line lent 10 (Shorter lent (gate_count X)) (Gives (gate_count X ∷ []) (over (build (gate_count X) (slack X)) lent))

-- the lines of judging from 13 on
abbrev pub JudgeLines : List ℕ → Block → Outcome (List ℕ) → Type 0
JudgeLines lent X =
    Line lent 13 (Lowest (Exceeds X (take (gate_count X) lent)))
    (Line lent 14 (At 0 (PathNotInTime X (take (gate_count X) lent))) (Gives (saving X (take (gate_count X) lent) ∷ []) lent))

module _ {file : List ℕ} {B : Block} (well : WellFormed file B) where
  pub limits : BlockLimits B
  limits = read_limits file well.reads

  -- what the reduction takes for granted
  pub as_network : Network B
  as_network = network B limits well.network

  pub some_gate : 0 < gate_count B
  some_gate = omega (arith, limits.some_gate)

  pub along : Along B.wires (gate_count B)
  along = sound_along limits well.network

  late_exactly : (spare B <ℤ pos 0) ↔ ((x : List ℕ) → ¬ (InTime B x))
  late_exactly = paths.late_exactly B well.network along some_gate

  pub late_or_not : (SeriesParallel B × (spare B <ℤ pos 0)) ↔ (SeriesParallel B × ((x : List ℕ) → ¬ (InTime B x)))
  late_or_not = beside late_exactly

  -- a series-parallel block that some list brings in time passes 11 and 12
  pub in_time : {S : Type 0} {lent : S} {given : Outcome S → Type 0} {o : Outcome S} {y : List ℕ} → SeriesParallel B → InTime B y → SizingLines B lent given o → given o
  in_time {y = y} sp ok l = passed (λ p w. late_exactly.0 w.1.1 y ok) (passed (λ p w. w.0 sp) l)

  pub slacks_lines : {lent : List ℤ} {o : Outcome (List ℤ)} → AnswersSlacks file lent o → SlacksLines lent B o
  slacks_lines {lent} = own_lines (SlacksLines lent) well

  pub curve_lines : {lent : Slices} {o : Outcome Slices} → AnswersCurve file lent o
      → Line lent 10 (Shorter lent.for_widths max_pairs) (Line lent 10 (Shorter lent.for_gains max_pairs) (CurveLines B lent)) o
  curve_lines {lent} =
      own_lines (λ (X : Block). Line lent 10 (Shorter lent.for_widths max_pairs) (Line lent 10 (Shorter lent.for_gains max_pairs) (CurveLines X lent))) well

  pub best_lines : {lent : List ℕ} {o : Outcome (List ℕ)} → AnswersBest file lent o → Line lent 10 (Shorter lent (gate_count B)) (BestLines B lent) o
  best_lines {lent} = own_lines (λ (X : Block). Line lent 10 (Shorter lent (gate_count X)) (BestLines X lent)) well

  pub judge_lines : {lent : List ℕ} {o : Outcome (List ℕ)} → AnswersJudge file lent o → Line lent 10 (Shorter lent (gate_count B)) (JudgeLines lent B) o
  judge_lines {lent} = own_lines (λ (X : Block). Line lent 10 (Shorter lent (gate_count X)) (JudgeLines lent X)) well

  pub layout_lines : {lent : List ℕ} {o : Outcome (List ℕ)} → AnswersLayout file lent o
      → Line lent 10 (Shorter lent (increase_bytes * gate_count B)) (SizingLines B lent (GivesLayout B lent)) o
  layout_lines {lent} =
      own_lines (λ (X : Block). Line lent 10 (Shorter lent (increase_bytes * gate_count X)) (SizingLines X lent (GivesLayout X lent))) well

  pub ticks_lines : {wanted : ℕ} {o : Outcome (Unit {0})} → AnswersTicks file wanted o → TicksLines wanted B o
  ticks_lines {wanted} = own_lines (TicksLines wanted) well
