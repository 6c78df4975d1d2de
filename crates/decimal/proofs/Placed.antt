-- Laws of `placed` and `behind`: the two cases, the length, what stands before and behind, the text itself, and one text behind another; a text written to a part of the slice; digits do not fit exactly when the place behind them is the place itself.
-- The idea: where the text fits, it is pasted whole.
-- Assumes nothing.
use mathlib.Core.Path.{◌≡◌, refl, sym, ◌∙◌, ap}
use mathlib.Core.Logic.{◌↔◌, ⊎_elim}
use mathlib.Core.List.{List, ◌++◌, append_assoc}
use Prim.Native.Nat.{ℕ, ◌+◌, ◌<◌, ◌≤◌}
use native.Mathlib.Numerals.{add-one}
use native.Mathlib.Omega.{arith}
use lib.ListN.{length, get_or, set, take, drop, length-append}
use lib.Seq.{drop-drop, drop_at, take-length, length-take-le, slice, paste, paste-suc, length-paste, take-paste, drop-paste}
use borrow.Author.Tests.{le-leb, lt-leb}
use borrow.Rule.Slice.PartMut.{put_mid}
use Rattle.std.proofs.lemmas.Slice.{put_mid-paste}
use Rattle.lists.proofs.Compare.{le_or_lt}
use Rattle.model.specs.Printout.{digits}
use Rattle.decimal.specs.Placed.{placed, behind}
use Rattle.decimal.proofs.Digits.{some_digit}

-- the bytes of a text before byte i pasted, and then byte i written
pub paste_byte : (old : List ℕ) (at : ℕ) (text : List ℕ) (i : ℕ) {b : ℕ} → b ≡ get_or text i 0 → at + i < length old → i < length text
    → set (paste old at text i) (at + i) b ≡ paste old at text (i + 1)
paste_byte old at text i e h l = rw (e, add-one i) (paste-suc old at text i 0 h l)

module _ (text : List ℕ) (at : ℕ) (old : List ℕ) where
  pub placed_fits : at + length text ≤ length old → placed text at old ≡ take at old ++ text ++ drop (at + length text) old
  unfolding placed
  placed_fits h = rw (le-leb (at + length text) (length old) h, placed)

  pub placed_not : length old < at + length text → placed text at old ≡ old
  unfolding placed
  placed_not h = rw (lt-leb (at + length text) (length old) h, placed)

  pub behind_fits : at + length text ≤ length old → behind text at old ≡ at + length text
  unfolding behind
  behind_fits h = rw (le-leb (at + length text) (length old) h, behind)

  pub behind_not : length old < at + length text → behind text at old ≡ at
  unfolding behind
  behind_not h = rw (lt-leb (at + length text) (length old) h, behind)

  -- where it fits, it is the whole text pasted
  pub placed_paste : at + length text ≤ length old → placed text at old ≡ paste old at text (length text)
  placed_paste h = placed_fits h ∙ ap (λ (t : List ℕ). take at old ++ t ++ drop (at + length text) old) (sym (take-length text))

  -- the slice after a write of the whole text to the part of it from `at` on
  pub placed_part : at + length text ≤ length old → (k : ℕ) (part : List ℕ) → k ≡ length text → part ≡ text → put_mid at k old part ≡ placed text at old
  placed_part h k part e s = put_mid-paste at k old part text (length text) s (sym e) refl ∙ sym (placed_paste h)

  pub length_placed : length (placed text at old) ≡ length old
  length_placed =
      ⊎_elim
      (λ (h : at + length text ≤ length old). ap length (placed_paste h) ∙ length-paste old at text (length text) h (omega arith))
      (λ (h : length old < at + length text). ap length (placed_not h))
      (le_or_lt (at + length text) (length old))

  pub take_placed : at + length text ≤ length old → take (at + length text) (placed text at old) ≡ take at old ++ text
  take_placed h =
      ap (λ (l : List ℕ). take (at + length text) l) (placed_paste h)
      ∙ take-paste old at text (length text) (omega arith) (omega arith)
      ∙ ap (λ (t : List ℕ). take at old ++ t) (take-length text)

  pub drop_placed : at + length text ≤ length old → drop (at + length text) (placed text at old) ≡ drop (at + length text) old
  drop_placed h =
      ap (λ (l : List ℕ). drop (at + length text) l) (placed_paste h)
      ∙ drop-paste old at text (length text) (omega arith) (omega arith)

  -- the text stands between its place and the place behind it
  pub slice_placed : at + length text ≤ length old → slice at (at + length text) (placed text at old) ≡ text
  slice_placed h = ap (λ (l : List ℕ). drop at l) (take_placed h) ∙ drop_at (take at old) text at (length-take-le at old (omega arith))

-- a text behind another is the two in one
pub placed_behind : (a b : List ℕ) (at : ℕ) (old : List ℕ) → at + length (a ++ b) ≤ length old
    → placed b (at + length a) (placed a at old) ≡ placed (a ++ b) at old
placed_behind a b at old h =
    let s = length-append a b in
    let fits : at + length a ≤ length old = omega arith in
    let e : at + length a + length b ≡ at + length (a ++ b) = omega arith in
    placed_fits b (at + length a) (placed a at old) (rw (length_placed a at old) (omega arith))
    ∙ rw (
      take_placed a at old fits,
      ← drop-drop (length b) (at + length a) (placed a at old),
      drop_placed a at old fits,
      drop-drop (length b) (at + length a) old,
      e,
      append_assoc (take at old) a b,
    )
    (sym (placed_fits (a ++ b) at old h))

-- the place behind the digits is the place itself exactly when they do not fit there
pub answer_says : (n at : ℕ) (old : List ℕ) → (behind (digits n) at old ≡ at) ↔ (length old < at + length (digits n))
answer_says n at old = (
  (λ (e : behind (digits n) at old ≡ at).
      ⊎_elim
      (λ (h : at + length (digits n) ≤ length old). absurd (omega (arith, some_digit n, behind_fits (digits n) at old h)))
      (λ (h : length old < at + length (digits n)). h)
      (le_or_lt (at + length (digits n)) (length old))),
  behind_not (digits n) at old,
)
