-- The places that the calls over `resizing` refuse with fit in 32 bits (`slacks_place`, `judge_place`, `curve_place`, `ticks_place`), and so does the number of slacks written (`slacks_count`).
-- The idea: line after line of each call's table.
-- Assumes nothing.
use mathlib.Core.Path.{◌≡◌, ap}
use mathlib.Core.List.{List, [], ◌∷◌}
use Prim.Native.Nat.{ℕ, ◌^◌, ◌<◌, ◌≤◌}
use native.Mathlib.Omega.{arith}
use lib.IntN.{ℤ}
use lib.ListN.{get_or, take}
use Rattle.lists.specs.Search.{Lowest}
use Rattle.model.specs.declared.Refusal.{Refusal}
use Rattle.model.specs.Limits.{max_gates}
use Rattle.model.specs.Block.{Block, gate_count}
use Rattle.model.specs.Answer.{accepted, refusal_answer, Outcome, fits, passes, ill_formed, well_formed, Exceeds, Slices, GivesCurve, curve, GivesTicks, fewest, AnswersSlacks, AnswersJudge, AnswersCurve, AnswersTicks}
use Rattle.model.proofs.Limited.{read_limits}
use Rattle.loading.specs.Loads.{place_of}
use Rattle.laying.proofs.Places.{ill_formed_place, PlaceFits, refusal_place, judged_place, line_place, gives_place, at_small, eleven_small}

-- SLACKS
pub slacks_place : {file : List ℕ} {lent after : List ℤ} (x : Refusal) → AnswersSlacks file lent (record { answer = refusal_answer x; memory = after }) → place_of x < 2 ^ 32
slacks_place x answers = refusal_place x (judged_place (λ B most. line_place (at_small (omega arith)) gives_place) answers)

-- the only value of an answer
value : {o q : Outcome (List ℤ)} → o ≡ q → get_or o.answer.values 0 0 ≡ get_or q.answer.values 0 0
value e = ap (λ (o : Outcome (List ℤ)). get_or o.answer.values 0 0) e

pub slacks_count : {file : List ℕ} {lent after : List ℤ} {n : ℕ} → AnswersSlacks file lent (record { answer = accepted (n ∷ []); memory = after }) → n < 2 ^ 32
slacks_count {file} (ill_formed k p i e) = omega (arith, value e, ill_formed_place file i)
slacks_count {file} (well_formed B w (fits p s e)) = omega (arith, value e, s.0, (read_limits file w.reads).gates_most)
slacks_count {file} (well_formed B w (passes none e)) = omega (arith, value e, (read_limits file w.reads).gates_most)

-- JUDGING
exceeds_small : (B : Block) (x : List ℕ) → gate_count B ≤ max_gates → (p : ℕ) → Lowest (Exceeds B x) p → p < 2 ^ 32
exceeds_small B x most p l = omega (arith, l.holds.0)

pub judge_place : {file lent after : List ℕ} (x : Refusal) → AnswersJudge file lent (record { answer = refusal_answer x; memory = after }) → place_of x < 2 ^ 32
judge_place {lent = lent} x answers =
    refusal_place x
    (judged_place
    (λ B most. line_place (at_small (omega arith)) (line_place (exceeds_small B (take (gate_count B) lent) most) (line_place (at_small (omega arith)) gives_place)))
    answers)

-- THE CURVE
curve_given_place : {B : Block} {lent : Slices} {o : Outcome Slices} → GivesCurve B lent o → PlaceFits o.answer
curve_given_place (curve start at_start pairs sp c e) = gives_place e

pub curve_place : {file : List ℕ} {lent after : Slices} (x : Refusal) → AnswersCurve file lent (record { answer = refusal_answer x; memory = after }) → place_of x < 2 ^ 32
curve_place x answers =
    refusal_place x
    (judged_place
    (λ B most. line_place (at_small (omega arith)) (line_place (at_small (omega arith)) (line_place (eleven_small most) curve_given_place)))
    answers)

-- THE FEWEST TICKS
ticks_given_place : {B : Block} {wanted : ℕ} {o : Outcome (Unit {0})} → GivesTicks B wanted o → PlaceFits o.answer
ticks_given_place (fewest k sp f e) = gives_place e

pub ticks_place : {file : List ℕ} {wanted : ℕ} (x : Refusal) → AnswersTicks file wanted (record { answer = refusal_answer x; memory = tt }) → place_of x < 2 ^ 32
ticks_place x answers =
    refusal_place x
    (judged_place (λ B most. line_place (eleven_small most) (line_place (at_small {place = 0} (omega arith)) ticks_given_place)) answers)
