-- What each call answers, and what the lent slices hold afterwards (document 01, "Refusals and their places"; demands 1 to 3).
-- Each `Answers..` below is the table of refusals for one call, line after line in the table's order. That a call has one outcome at most is a law (proofs/Answer).
use Rattle.std.specs.Prelude.{◌≡◌, Result, Ok, Err, List, [], ◌∷◌, map, ℕ, ◌+◌, ◌≤◌, ◌<◌, ℤ, pos, ◌<ℤ◌, length, get_or, take}
use Rattle.lists.specs.Over.{build, over}
use Rattle.lists.specs.Search.{Lowest}
use Rattle.model.specs.declared.Refusal.{Refusal}
use Rattle.model.specs.declared.Refusal.TheVariants.{Short, Tag, Length, Range, Drops, Wire, Excess, Loop, Ends, Room, NotSeriesParallel, Late, Widths, PathLate, Unreached}
use Rattle.model.specs.declared.CurveFound.{CurveFound}
use Rattle.model.specs.declared.BestFound.{BestFound}
use Rattle.model.specs.Limits.{max_pairs, max_gain}
use Rattle.model.specs.Block.{Block, gate, gate_count, first, last, widths}
use Rattle.model.specs.Path.{Path}
use Rattle.model.specs.Gain.{saving}
use Rattle.model.specs.InTime.{slowed}
use Rattle.model.specs.Best as BestList
use Rattle.model.specs.Curve.{Pair, IsCurve}
use Rattle.model.specs.Part.{SeriesParallel}
use Rattle.model.specs.Remainder.{Remains}
use Rattle.model.specs.Slack.{slack, spare}
use Rattle.model.specs.Ticks.{Fewest, Unreachable}
use Rattle.model.specs.Refusal.{WellFormed, IllFormed}

-- An answer in document 01's numbers: 0 and the values of an accepted answer, or a refusal's number and its place.
pub record Answer : Type 0 where
  pub number : ℕ
  pub values : List ℕ

abbrev pub accepted : List ℕ → Answer
accepted vs = record { number = 0; values = vs }

abbrev pub refusal : ℕ → ℕ → Answer
refusal k p = record { number = k; values = p ∷ [] }

-- the table of refusals
abbrev pub refusal_answer : Refusal → Answer
refusal_answer (Short o) = refusal 1 o
refusal_answer (Tag o) = refusal 2 o
refusal_answer (Length o) = refusal 3 o
refusal_answer (Range o) = refusal 4 o
refusal_answer (Drops o) = refusal 5 o
refusal_answer (Wire o) = refusal 6 o
refusal_answer (Excess o) = refusal 7 o
refusal_answer (Loop g) = refusal 8 g
refusal_answer (Ends g) = refusal 9 g
refusal_answer (Room n) = refusal 10 n
refusal_answer (NotSeriesParallel g) = refusal 11 g
refusal_answer Late = refusal 12 0
refusal_answer (Widths g) = refusal 13 g
refusal_answer PathLate = refusal 14 0
refusal_answer Unreached = refusal 17 0

-- the answer of a call: the values of what it gives, or its refusal
abbrev pub answer_of : {A : Type 0} → (A → List ℕ) → Result A Refusal → Answer
answer_of values (Ok found) = accepted (values found)
answer_of values (Err r) = refusal_answer r

-- slacks: how many were written
abbrev pub slacks_answer : Result ℕ Refusal → Answer
slacks_answer = answer_of (λ (written : ℕ). written ∷ [])

-- the curve: start, saving at start, how many pairs were written
abbrev pub curve_answer : Result CurveFound Refusal → Answer
curve_answer = answer_of (λ (found : CurveFound). found.start ∷ found.at_start ∷ found.pairs ∷ [])

-- the best increases: the saving, how many were written
abbrev pub best_answer : Result BestFound Refusal → Answer
best_answer = answer_of (λ (found : BestFound). found.saving ∷ found.gates ∷ [])

-- judging: the saving
abbrev pub judge_answer : Result ℕ Refusal → Answer
judge_answer = answer_of (λ (saved : ℕ). saved ∷ [])

-- the fewest ticks: how many
abbrev pub ticks_answer : Result ℕ Refusal → Answer
ticks_answer = answer_of (λ (ticks : ℕ). ticks ∷ [])

-- What a call leaves: its answer, and what the memory lent to it holds afterwards.
pub record Outcome (S : Type 0) : Type 0 where
  pub answer : Answer
  pub memory : S

-- One line of the table of refusals: where `when` holds of a place, that refusal with that place and the lent memory unchanged; where it holds of none, what the further lines say.
pub data Line {S : Type 0} (lent : S) (k : ℕ) (when : ℕ → Type 0) (further : Outcome S → Type 0) (o : Outcome S) : Type 0 where
  fits : (p : ℕ) → when p → o ≡ record { answer = refusal k p; memory = lent } → Line lent k when further o
  passes : ((p : ℕ) → ¬ (when p)) → further o → Line lent k when further o

-- a line whose place is settled beforehand
abbrev pub At : ℕ → Type 0 → ℕ → Type 0
At place when p = (p ≡ place) × when

-- The lines 1 to 9, which every call has in common; then, of the block that the file holds, what the further lines say.
pub data Judged {S : Type 0} (file : List ℕ) (lent : S) (further : Block → Outcome S → Type 0) (o : Outcome S) : Type 0 where
  ill_formed : (k p : ℕ) → IllFormed file k p → o ≡ record { answer = refusal k p; memory = lent } → Judged file lent further o
  well_formed : (B : Block) → WellFormed file B → further B o → Judged file lent further o

-- an accepted answer with its values, and the memory afterwards
abbrev pub Gives : {S : Type 0} → List ℕ → S → Outcome S → Type 0
Gives values after o = o ≡ record { answer = accepted values; memory = after }

-- 10: a lent slice is shorter than needed
abbrev pub Shorter : {A : Type 0} → List A → ℕ → ℕ → Type 0
Shorter lent needed = At needed (length lent < needed)

-- 11: the block is not series-parallel, and p is "the lowest-numbered gate left other than 0 and n − 1" (document 02, K1)
abbrev pub NotSeriesParallelAt : Block → ℕ → Type 0
NotSeriesParallelAt B p = (¬ (SeriesParallel B)) × Lowest (Remains B) p

-- 12: it is series-parallel, and spare is below 0; its place is 0
abbrev pub LateAt : Block → ℕ → Type 0
LateAt B = At 0 (SeriesParallel B × (spare B <ℤ pos 0))

-- Slacks, to a lent slice of signed numbers: "for slacks only 1 to 10 occur".
abbrev pub AnswersSlacks : List ℕ → List ℤ → Outcome (List ℤ) → Type 0
AnswersSlacks file lent =
    Judged file lent
    (λ (B : Block).
    Line lent 10 (Shorter lent (gate_count B)) (Gives (gate_count B ∷ []) (over (build (gate_count B) (slack B)) lent)))

-- the increase of gate g exceeds its widths
abbrev pub Exceeds : Block → List ℕ → ℕ → Type 0
Exceeds B x g = (g < gate_count B) × (widths (gate B g).steps < get_or x g 0)

-- some path is not in time under the increases x
abbrev pub PathNotInTime : Block → List ℕ → Type 0
PathNotInTime B x = (t : ℕ) × Path B.wires (slowed B x) (first B) (last B) t × (B.deadline < B.arrival + t)

-- Judging, which reads the first n elements of the proposed list, changes nothing, and needs no series-parallel block (demand 2).
abbrev pub AnswersJudge : List ℕ → List ℕ → Outcome (List ℕ) → Type 0
AnswersJudge file lent =
    Judged file lent
    (λ (B : Block).
    let x = take (gate_count B) lent in
    Line lent 10 (Shorter lent (gate_count B))
    (Line lent 13 (Lowest (Exceeds B x)) (Line lent 14 (At 0 (PathNotInTime B x)) (Gives (saving B x ∷ []) lent))))

-- the two slices that a curve's widths and gains go to
pub record Slices : Type 0 where
  pub for_widths : List ℕ
  pub for_gains : List ℕ

-- the curve of the block, its pairs in front of the two slices
pub data GivesCurve (B : Block) (lent : Slices) (o : Outcome Slices) : Type 0 where
  curve : (start at_start : ℕ) (pairs : List Pair)
      → SeriesParallel B
      → IsCurve B start at_start pairs
      → Gives (start ∷ at_start ∷ length pairs ∷ [])
      (record {
        for_widths = over (map (λ (p : Pair). p.width) pairs) lent.for_widths;
        for_gains = over (map (λ (p : Pair). p.gain) pairs) lent.for_gains;
      })
      o
      → GivesCurve B lent o

-- the lines of the curve from 11 on, of a well-formed block
abbrev pub CurveLines : Block → Slices → Outcome Slices → Type 0
CurveLines B lent = Line lent 11 (NotSeriesParallelAt B) (GivesCurve B lent)

-- The curve, to two lent slices: "at least 1,600 pairs, the most there can be, must be lent" (document 02, K10). The block's own deadline plays no part.
abbrev pub AnswersCurve : List ℕ → Slices → Outcome Slices → Type 0
AnswersCurve file lent =
    Judged file lent
    (λ (B : Block).
    Line lent 10 (Shorter lent.for_widths max_pairs)
    (Line lent 10 (Shorter lent.for_gains max_pairs) (CurveLines B lent)))

-- "1,600 pairs, the most there can be", and "a pair's gain is now at most 199 × 65,535 × 1,000" (document 02, K10): so many pairs, whose gains are in the slice
abbrev pub PairBounds : ℕ → List ℕ → Type 0
PairBounds pairs gains = (pairs ≤ max_pairs) × ((i : ℕ) → i < pairs → get_or gains i 0 ≤ max_gain)

-- the pairs of an accepted answer are within these bounds
abbrev pub CurveBounds : Result CurveFound Refusal → List ℕ → Type 0
CurveBounds (Ok found) gains = PairBounds found.pairs gains
CurveBounds (Err refusal) gains = Unit {0}

-- the best list of the block in front of the slice
pub data GivesBest (B : Block) (lent : List ℕ) (o : Outcome (List ℕ)) : Type 0 where
  best : (x : List ℕ) → SeriesParallel B
      → BestList.Best B x
      → Gives (saving B x ∷ gate_count B ∷ []) (over x lent) o
      → GivesBest B lent o

-- the lines of the best increases from 11 on, of a well-formed block, whatever kind of slice they go to: "not series-parallel", "late", or what is given
abbrev pub SizingLines : {S : Type 0} → Block → S → (Outcome S → Type 0) → Outcome S → Type 0
SizingLines B lent given = Line lent 11 (NotSeriesParallelAt B) (Line lent 12 (LateAt B) given)

abbrev pub BestLines : Block → List ℕ → Outcome (List ℕ) → Type 0
BestLines B lent = SizingLines B lent (GivesBest B lent)

-- The best increases (demand 3).
abbrev pub AnswersBest : List ℕ → List ℕ → Outcome (List ℕ) → Type 0
AnswersBest file lent =
    Judged file lent (λ (B : Block). Line lent 10 (Shorter lent (gate_count B)) (BestLines B lent))

-- the fewest ticks with which the block reaches the wanted saving
pub data GivesTicks (B : Block) (wanted : ℕ) (o : Outcome (Unit {0})) : Type 0 where
  fewest : (k : ℕ) → SeriesParallel B → Fewest B wanted k → Gives (k ∷ []) tt o → GivesTicks B wanted o

-- 17: it is series-parallel, and no number of ticks reaches the wanted saving; its place is 0
abbrev pub UnreachedAt : Block → ℕ → ℕ → Type 0
UnreachedAt B wanted = At 0 (SeriesParallel B × Unreachable B wanted)

-- the lines of the fewest ticks from 11 on, of a well-formed block
abbrev pub TicksLines : ℕ → Block → Outcome (Unit {0}) → Type 0
TicksLines wanted B = Line tt 11 (NotSeriesParallelAt B) (Line tt 17 (UnreachedAt B wanted) (GivesTicks B wanted))

-- The fewest spare ticks for a wanted saving (document 02, K6). "Only the file is lent": there is no memory to speak of, and no 10.
abbrev pub AnswersTicks : List ℕ → ℕ → Outcome (Unit {0}) → Type 0
AnswersTicks file wanted = Judged file tt (TicksLines wanted)
