-- The five calls as data: what is lent to each, which outcomes its table of refusals (model, Answer) allows, and a worked case of document 01 as a row.
use Rattle.std.specs.Prelude.{◌≡◌, ◌↔◌, List, [], ◌∷◌, ℕ, ℤ}
use Rattle.model.specs.Answer.{Outcome, Slices, AnswersSlacks, AnswersJudge, AnswersCurve, AnswersBest, AnswersTicks}

-- A call: the file's bytes, and what is lent beside them or, for the fewest ticks, the wanted saving.
pub data Call : Type 0 where
  find_slacks : List ℕ → List ℤ → Call
  judge_list : List ℕ → List ℕ → Call
  find_curve : List ℕ → Slices → Call
  find_best : List ℕ → List ℕ → Call
  find_ticks : List ℕ → ℕ → Call

-- the file of a call
abbrev pub file_of : Call → List ℕ
file_of (find_slacks file lent) = file
file_of (judge_list file lent) = file
file_of (find_curve file lent) = file
file_of (find_best file lent) = file
file_of (find_ticks file wanted) = file

-- the memory lent to a call
abbrev pub Memory : Call → Type 0
Memory (find_slacks file lent) = List ℤ
Memory (judge_list file lent) = List ℕ
Memory (find_curve file lent) = Slices
Memory (find_best file lent) = List ℕ
Memory (find_ticks file wanted) = Unit {0}

-- the table of a call allows an outcome
abbrev pub Allows : (c : Call) → Outcome (Memory c) → Type 0
Allows (find_slacks file lent) = AnswersSlacks file lent
Allows (judge_list file lent) = AnswersJudge file lent
Allows (find_curve file lent) = AnswersCurve file lent
Allows (find_best file lent) = AnswersBest file lent
Allows (find_ticks file wanted) = AnswersTicks file wanted

-- A row: a call, and the answer and the memory afterwards that are expected of it.
pub record Row : Type 0 where
  pub call : Call
  pub expected : Outcome (Memory call)

-- the table of the row's call allows exactly the outcome that is expected
abbrev pub Holds : Row → Type 0
Holds r = (o : Outcome (Memory r.call)) → Allows r.call o ↔ (o ≡ r.expected)

-- something holds of every row of a list
abbrev pub Every : (Row → Type 0) → List Row → Type 0
Every P [] = Unit {0}
Every P (r ∷ rs) = P r × Every P rs
