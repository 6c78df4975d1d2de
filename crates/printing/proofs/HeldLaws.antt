-- From what was found of a held file's block to its printout: the lines that are written are the file's printout.
-- Assumes nothing.
use mathlib.Core.Path.{◌≡◌, refl, sym, ◌∙◌, ap, subst}
use mathlib.Core.Logic.{⊎_elim}
use mathlib.Core.List.{List, [], ◌∷◌}
use Prim.Native.Nat.{ℕ, ◌+◌, ◌≤◌, ◌<◌}
use native.Mathlib.Omega.{arith}
use lib.IntN.{pos}
use lib.Signed.{◌<ℤ◌}
use lib.ListN.{length, get_or, take}
use Rattle.lists.specs.Over.{over}
use Rattle.lists.proofs.Compare.{le_or_lt}
use Rattle.lists.proofs.Over.{take_over}
use Rattle.model.specs.declared.Refusal.{Refusal}
use Rattle.model.specs.Limits.{max_gates}
use Rattle.model.specs.Block.{gate_count}
use Rattle.model.specs.Gain.{saving}
use Rattle.model.specs.InTime.{no_increase}
use Rattle.model.specs.Slack.{start, spare}
use Rattle.model.specs.Refusal.{IllFormed}
use Rattle.model.specs.Answer.{Answer, accepted, refusal_answer, Outcome, fits, passes, best, BestLines, AnswersBest}
use Rattle.model.specs.Printout.{refused, printed, block_lines, refusal_line}
use Rattle.model.proofs.Slack.{late_is}
use Rattle.blockfile.specs.Held.{GateArrays, WireArrays}
use Rattle.loading.specs.Loads.{number_of, place_of}
use Rattle.loading.specs.HeldFile.{HeldFile}
use Rattle.loading.proofs.Refused.{refusal_is, passed_on}
use Rattle.holding.proofs.HeldLaws.{block, count, the_lent, some, along_all}
use Rattle.answers.proofs.Lines.{best_answered}
use Rattle.text.specs.Written.{Written}
use Rattle.text.proofs.Writing.{front}
use Rattle.blocktext.specs.Shown.{Sized}
use Rattle.printing.specs.PrintoutIn.{Printed}

-- a refusal of the best increases, whose line is written
refusal_printed : (x : Refusal) {file after old new : List ℕ} {r : ℕ}
    → AnswersBest file (no_increase max_gates) (record { answer = refusal_answer x; memory = after })
    → Written (refusal_line (number_of x) (place_of x)) 0 old new r
    → Printed file old new r
refusal_printed x {file} {after} a w =
    record {
      text = refusal_line (number_of x) (place_of x);
      is_printout =
          refused (number_of x) (place_of x) after
          (subst (λ (s : Answer). AnswersBest file (no_increase max_gates) (record { answer = s; memory = after })) (refusal_is x) a) refl;
      fits = omega (arith, w.fits);
      length_is = (front w).0;
      stands = (front w).1;
    }

-- one of 1 to 9
pub ill_printed : (x : Refusal) {file old new : List ℕ} {r : ℕ} → IllFormed file (number_of x) (place_of x)
    → Written (refusal_line (number_of x) (place_of x)) 0 old new r
    → Printed file old new r
ill_printed x ill w = refusal_printed x (passed_on x ill) w

module _ {file : List ℕ} {n m arrival deadline activity : ℕ} {G : GateArrays} {W : WireArrays} {order : List ℕ} (h : HeldFile file n m arrival deadline activity G W order) where
  few : n ≤ length (no_increase max_gates)
  few = (the_lent h).gates

  -- 11 or 12
  pub line_printed : (x : Refusal) {after old new : List ℕ} {r : ℕ}
      → BestLines (block h) (no_increase max_gates) (record { answer = refusal_answer x; memory = after })
      → Written (refusal_line (number_of x) (place_of x)) 0 old new r
      → Printed file old new r
  line_printed x lines w = refusal_printed x (best_answered h few lines) w

  not_late : ¬ (spare (block h) <ℤ pos 0) → arrival + start (block h) ≤ deadline
  not_late never =
      ⊎_elim (λ (l : arrival + start (block h) ≤ deadline). l)
      (λ (l : deadline < arrival + start (block h)).
      absurd (never ((late_is (block h) h.well.network (along_all h) (omega (arith, count h, some h))).1 l)))
      (le_or_lt (arrival + start (block h)) deadline)

  -- an accepted answer: the block is in time, and its list saves what was answered
  pub sized : {saved gates : ℕ} {after : List ℕ}
      → BestLines (block h) (no_increase max_gates) (record { answer = accepted (saved ∷ gates ∷ []); memory = after })
      → length after ≡ max_gates
      → Sized (block h) n saved after
  sized (fits p a e) long = let never = ap (λ (o : Outcome (List ℕ)). o.answer.number) e in absurd (omega (arith, never))
  sized (passes fit (fits p a e)) long = let never = ap (λ (o : Outcome (List ℕ)). o.answer.number) e in absurd (omega (arith, never))
  sized {saved} {gates} {after} (passes fit (passes timely (best x sp b e))) long =
      let list = ap (λ (o : Outcome (List ℕ)). o.memory) e in
      let first = ap (λ (o : Outcome (List ℕ)). get_or o.answer.values 0 0) e in
      let kept = ap (take n) list ∙ subst (λ (k : ℕ). take k (over x (no_increase max_gates)) ≡ x) (b.is_ok.one_each ∙ count h) (take_over x (no_increase max_gates)) in
      record {
        in_time = not_late (λ l. timely 0 (refl, (sp, l)));
        long = omega (arith, (the_lent h).gates);
        saves = ap (saving (block h)) kept ∙ sym first;
      }

  gates_told : {saved gates : ℕ} {after : List ℕ}
      → BestLines (block h) (no_increase max_gates) (record { answer = accepted (saved ∷ gates ∷ []); memory = after })
      → gates ≡ gate_count (block h)
  gates_told (fits p a e) = let never = ap (λ (o : Outcome (List ℕ)). o.answer.number) e in absurd (omega (arith, never))
  gates_told (passes fit (fits p a e)) = let never = ap (λ (o : Outcome (List ℕ)). o.answer.number) e in absurd (omega (arith, never))
  gates_told (passes fit (passes timely (best x sp b e))) = ap (λ (o : Outcome (List ℕ)). get_or o.answer.values 1 0) e

  -- a block with its best increases, whose lines are written
  pub block_printed : {saved gates : ℕ} {after old new : List ℕ} {r : ℕ}
      → BestLines (block h) (no_increase max_gates) (record { answer = accepted (saved ∷ gates ∷ []); memory = after })
      → length after ≡ max_gates
      → Written (block_lines (block h) (take n after)) 0 old new r
      → Printed file old new r
  block_printed {saved} {gates} {after} lines long w =
      let saves = (sized lines long).saves in
      let told = gates_told lines in
      let values : saved ∷ gates ∷ [] ≡ saving (block h) (take (gate_count (block h)) after) ∷ gate_count (block h) ∷ [] =
      rw (count h, saves, ← count h, told) refl in
      record {
        text = block_lines (block h) (take n after);
        is_printout =
            printed (block h) after h.well
            (best_answered h few
            (subst (λ (v : List ℕ). BestLines (block h) (no_increase max_gates) (record { answer = accepted v; memory = after })) values lines))
            (ap (λ (k : ℕ). block_lines (block h) (take k after)) (sym (count h)));
        fits = omega (arith, w.fits);
        length_is = (front w).0;
        stands = (front w).1;
      }
