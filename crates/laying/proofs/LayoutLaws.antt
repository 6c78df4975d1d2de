-- The lines of the layout editor's call, from what loading, the room and the best increases of the block say.
-- The idea: the lines from 11 on are those of the best increases with other memory, and an accepted list is what stands in front of the call's own list.
-- Assumes nothing.
use mathlib.Core.Path.{◌≡◌, refl, sym, ◌∙◌, ap}
use mathlib.Core.List.{List, [], ◌∷◌}
use Prim.Native.Nat.{ℕ, ◌*◌, ◌^◌, ◌<◌, ◌≤◌}
use native.Mathlib.Omega.{arith}
use lib.ListN.{length, get_or, take}
use Rattle.lists.specs.Over.{over}
use Rattle.lists.proofs.Over.{take_over}
use Rattle.model.specs.declared.Refusal.{Refusal}
use Rattle.model.specs.declared.Refusal.TheVariants.{Room}
use Rattle.model.specs.Limits.{max_gates}
use Rattle.model.specs.Block.{Block, gate_count}
use Rattle.model.specs.Gain.{saving}
use Rattle.model.specs.Best.{Best}
use Rattle.model.specs.Refusal.{IllFormed}
use Rattle.model.specs.Answer.{Answer, accepted, refusal, refusal_answer, Outcome, fits, passes, well_formed, SizingLines, BestLines, GivesBest, best}
use Rattle.model.specs.Layout.{increase_bytes, list_bytes, layout_answer, NoSavingRefused, GivesLayout, laid, AnswersLayout}
use Rattle.model.proofs.Limited.{read_limits}
use Rattle.blockfile.specs.Held.{GateArrays, WireArrays}
use Rattle.loading.specs.Loads.{block_held, number_of, place_of}
use Rattle.loading.specs.HeldFile.{HeldFile}
use Rattle.loading.proofs.Held.{gates_are}
use Rattle.loading.proofs.Refused.{refusal_is, not_refused, passed_on}
use Rattle.laying.specs.declared.answer.LayoutAnswer.{LayoutAnswer}
use Rattle.laying.specs.Answered.{refused_as, leaves}
use Rattle.laying.proofs.Told.{judged_told}
use Rattle.laying.proofs.Places.{PlaceFits, refusal_place, line_place, gives_place, at_small, eleven_small}

abbrev with_memory : Answer → List ℕ → Outcome (List ℕ)
with_memory a after = record { answer = a; memory = after }

-- REFUSALS

pub nothing_saved : {k p : ℕ} (r : LayoutAnswer) → r ≡ refused_as k p → NoSavingRefused r.number r.saving
nothing_saved r e refused = ap (λ (a : LayoutAnswer). a.saving) e

-- 1 to 9, as loading finds them
pub loading_refused : {file lent : List ℕ} (x : Refusal) (r : LayoutAnswer)
    → IllFormed file (number_of x) (place_of x)
    → r ≡ refused_as (number_of x) (place_of x)
    → AnswersLayout file lent (leaves r lent)
loading_refused x r ill e = judged_told x r (r.saving ∷ r.place ∷ []) e (passed_on x ill)

-- THE LINES FROM 11 ON
abbrev LayoutLines : Block → List ℕ → Outcome (List ℕ) → Type 0
LayoutLines B lent = SizingLines B lent (GivesLayout B lent)

-- a refusal has one value, an accepted answer of the best increases two
refused_not_given : {A : Type 0} {s n : ℕ} {after other : List ℕ} (x : Refusal)
    → with_memory (refusal_answer x) after ≡ with_memory (accepted (s ∷ n ∷ [])) other
    → A
refused_not_given x e = not_refused (sym (ap (λ (o : Outcome (List ℕ)). o.answer) e) ∙ refusal_is x)

given_not_refused : {A : Type 0} {s n k p : ℕ} {after other : List ℕ}
    → with_memory (accepted (s ∷ n ∷ [])) after ≡ with_memory (refusal k p) other
    → A
given_not_refused e = not_refused (ap (λ (o : Outcome (List ℕ)). o.answer) e)

same_refusal : {k p : ℕ} {after other : List ℕ} (x : Refusal) (lent : List ℕ)
    → with_memory (refusal_answer x) after ≡ with_memory (refusal k p) other
    → with_memory (refusal_answer x) lent ≡ with_memory (refusal k p) lent
same_refusal x lent e = ap (λ (o : Outcome (List ℕ)). with_memory o.answer lent) e

-- the best list stands in front of the call's own
in_front : {B : Block} {after : List ℕ} (n : ℕ) (y list : List ℕ) → gate_count B ≡ n → Best B y → after ≡ over y list → take n after ≡ y
in_front n y list count b e =
    let l : length y ≡ n = b.is_ok.one_each ∙ count in
    rw (e, ← l) (take_over y list)

-- an accepted answer has no place
best_given_place : {B : Block} {list : List ℕ} {o : Outcome (List ℕ)} → GivesBest B list o → PlaceFits o.answer
best_given_place (best y sp b e) = gives_place e

module _ {B : Block} {list after : List ℕ} where
  lines_refused : (x : Refusal) (lent : List ℕ)
      → BestLines B list (with_memory (refusal_answer x) after)
      → LayoutLines B lent (with_memory (refusal_answer x) lent)
  lines_refused x lent (fits p w e) = fits p w (same_refusal x lent e)
  lines_refused x lent (passes none (fits p w e)) = passes none (fits p w (same_refusal x lent e))
  lines_refused x lent (passes none (passes early (best y sp b e))) = refused_not_given x e

  lines_given : (n s k : ℕ) (lent : List ℕ) → gate_count B ≡ n
      → BestLines B list (with_memory (accepted (s ∷ k ∷ [])) after)
      → LayoutLines B lent (with_memory (layout_answer 0 n s) (over (list_bytes (take n after)) lent))
  lines_given n s k lent count (fits p w e) = given_not_refused e
  lines_given n s k lent count (passes none (fits p w e)) = given_not_refused e
  lines_given n s k lent count (passes none (passes early (best y sp b e))) =
      let saves : s ≡ saving B y = ap (λ (o : Outcome (List ℕ)). get_or o.answer.values 0 0) e in
      let stands = in_front n y list count b (ap (λ (o : Outcome (List ℕ)). o.memory) e) in
      passes none (passes early (laid y sp b (rw (stands, saves, count) refl)))

-- THE CALL
module _ {file : List ℕ} {n m arrival deadline activity : ℕ} {G : GateArrays} {W : WireArrays} {order : List ℕ} (held : HeldFile file n m arrival deadline activity G W order) where
  abbrev B : Block
  B = block_held n m arrival deadline activity G W

  abbrev count : gate_count B ≡ n
  count = gates_are file n m arrival deadline activity G W held.well.end held.well.reads

  pub gates_most : n ≤ max_gates
  gates_most = rw count at (read_limits file held.well.reads).gates_most

  -- 10: fewer bytes than four an increase
  pub no_room : (lent : List ℕ) (r : LayoutAnswer) → r ≡ refused_as 10 (increase_bytes * n) → length lent < increase_bytes * n → AnswersLayout file lent (leaves r lent)
  no_room lent r e short =
      judged_told (Room (increase_bytes * n)) r (r.saving ∷ r.place ∷ []) e
      (well_formed B held.well (fits (increase_bytes * n) (ap (λ (k : ℕ). increase_bytes * k) (sym count), omega (arith, count)) refl))

  with_room : {lent : List ℕ} {o : Outcome (List ℕ)} → increase_bytes * n ≤ length lent → LayoutLines B lent o → AnswersLayout file lent o
  with_room {lent} room lines =
      well_formed B held.well
      (passes (λ (p : ℕ) (s : (p ≡ increase_bytes * gate_count B) × (length lent < increase_bytes * gate_count B)). omega (arith, s.1, count)) lines)

  pub best_place : {list after : List ℕ} (x : Refusal) → BestLines B list (with_memory (refusal_answer x) after) → place_of x < 2 ^ 32
  best_place x lines =
      let most : gate_count B ≤ max_gates = omega (arith, count, gates_most) in
      refusal_place x (line_place (eleven_small most) (line_place (at_small (omega arith)) best_given_place) lines)

  -- 11 and 12, as the best increases are refused
  pub best_refused : {list after : List ℕ} (x : Refusal) (r : LayoutAnswer) (lent : List ℕ)
      → increase_bytes * n ≤ length lent
      → BestLines B list (with_memory (refusal_answer x) after)
      → r ≡ refused_as (number_of x) (place_of x)
      → AnswersLayout file lent (leaves r lent)
  best_refused x r lent room lines e = judged_told x r (r.saving ∷ r.place ∷ []) e (with_room room (lines_refused x lent lines))

  pub best_given : {list after : List ℕ} (s k : ℕ) (lent bytes : List ℕ)
      → increase_bytes * n ≤ length lent
      → BestLines B list (with_memory (accepted (s ∷ k ∷ [])) after)
      → bytes ≡ over (list_bytes (take n after)) lent
      → AnswersLayout file lent (with_memory (layout_answer 0 n s) bytes)
  best_given s k lent bytes room lines e = rw e (with_room room (lines_given n s k lent count lines))
