-- The worked cases of document 01 hold (`worked`): for each row of the table, the table of refusals of its call allows exactly the outcome that is expected, answer and memory.
-- Each row is computed, the outcome computed is allowed (`sound`), and a call has one outcome at most (model, Answer).
-- Assumes nothing.
use mathlib.Core.Path.{sym, subst}
use mathlib.Core.List.{List, [], ◌∷◌}
use Rattle.model.proofs.Answer.{Unique, answers_slacks_unique, answers_judge_unique, answers_curve_unique, answers_best_unique, answers_ticks_unique}
use Rattle.worked.specs.Call.{Call, find_slacks, judge_list, find_curve, find_best, find_ticks, Allows, Row, Holds, Every}
use Rattle.worked.specs.Table.{table}
use Rattle.worked.proofs.Sound.{sound}
use Rattle.worked.proofs.Computes.{Computes, rows_compute}

unique : (c : Call) → Unique (Allows c)
unique (find_slacks file lent) = answers_slacks_unique file lent
unique (judge_list file lent) = answers_judge_unique file lent
unique (find_curve file lent) = answers_curve_unique file lent
unique (find_best file lent) = answers_best_unique file lent
unique (find_ticks file wanted) = answers_ticks_unique file wanted

-- a row that computes holds
holds : (r : Row) → Computes r → Holds r
holds r (rise, same) o = (λ a. unique r.call o r.expected a allowed, λ e. subst (Allows r.call) (sym e) allowed)
  where
    allowed : Allows r.call r.expected
    allowed = subst (Allows r.call) same (sound r.call rise)

all_hold : (rs : List Row) → Every Computes rs → Every Holds rs
all_hold [] c = tt
all_hold (r ∷ rs) (c, cs) = (holds r c, all_hold rs cs)

pub worked : Every Holds table
worked = all_hold table rows_compute
