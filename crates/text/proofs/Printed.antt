-- The pieces and lines of the printout as written texts: a number with a byte behind it, a word in front of that, and from these the lines of `Printout`.
-- The idea: each piece stands behind the one before; how the pieces are grouped does not matter.
-- Assumes nothing.
use mathlib.Core.Path.{◌≡◌}
use mathlib.Core.List.{List, [], ◌∷◌, ◌++◌, append_assoc}
use Prim.Native.Nat.{ℕ, ◌+◌, ◌^◌, ◌<◌, ◌≤◌}
use native.Mathlib.Numerals.{add-one}
use native.Mathlib.Omega.{arith}
use borrow.Author.Rules.{rules}
use lib.IntN.{ℤ, pos}
use lib.ListN.{length, set}
use Rattle.model.specs.Printout.{digits, word_gates, word_wires, word_start, word_spare, word_saving, word_refused, blank, line_end, head_text, gate_text, gate_texts, refusal_line}
use Rattle.decimal.specs.Placed.{placed, behind}
use Rattle.decimal.proofs.Digits.{at_most_twenty}
use Rattle.std.proofs.Common.{Option, Some, None}
use Rattle.std.specs.Option.{MatchOption, IsSome}
use Rattle.text.specs.Written.{Written, number_room}
use Rattle.text.proofs.Writing.{with_room, same_length, then, byte, as_text}

-- where there is room for any number, the digits fit
pub some_place : (P : ℕ → Type 0) (answer : Option ℕ) (n at : ℕ) (old : List ℕ) → n < 2 ^ 64 → at + number_room ≤ length old
    → MatchOption answer (length old < at + length (digits n)) P
    → IsSome answer
some_place P None n at old small room says = absurd (omega (arith, at_most_twenty n small))
some_place P (Some next) n at old small room says = search rules

-- a number with the byte `end` behind it, once its digits are written
module _ (n at : ℕ) (old : List ℕ) {between : List ℕ} {mid : ℕ} (small : n < 2 ^ 64) (room : at + number_room ≤ length old)
    (place : mid ≡ behind (digits n) at old) (stands : between ≡ placed (digits n) at old) where
  digits_written : Written (digits n) at old between mid
  digits_written = with_room (omega (arith, at_most_twenty n small)) place stands

  pub end_fits : (mid + 1 ≤ at + number_room) × (mid < length between)
  end_fits =
      let d = digits_written in
      let l = same_length d in
      let t = at_most_twenty n small in
      omega (arith, d.behind)

  pub number_written : (end : ℕ) → Written (digits n ++ end ∷ []) at old (set between mid end) (mid + 1)
  number_written end = then digits_written (byte end mid between end_fits.1)

-- a word in front of a number
pub named_written : (word : List ℕ) (n end : ℕ) {at mid next : ℕ} {old between new : List ℕ} → Written word at old between mid
    → Written (digits n ++ end ∷ []) mid between new next
    → Written (word ++ digits n ++ end ∷ []) at old new next
named_written word n end v w = as_text (simp append_assoc) (then v w)

pub refusal_written : (k p : ℕ) {mid next : ℕ} {old between new : List ℕ} → Written (word_refused ++ digits k ++ 32 ∷ []) 0 old between mid
    → Written (digits p ++ 10 ∷ []) mid between new next
    → Written (refusal_line k p) 0 old new next
unfolding refusal_line
refusal_written k p v w = as_text (simp append_assoc) (then v w)

-- the words v, the numbers n, with a blank or a line end behind each
regroup : (v₁ n₁ v₂ n₂ v₃ n₃ v₄ n₄ v₅ n₅ b e : List ℕ)
    → (v₁ ++ n₁ ++ b) ++ (v₂ ++ n₂ ++ e) ++ (v₃ ++ n₃ ++ b) ++ (v₄ ++ n₄ ++ e) ++ (v₅ ++ n₅ ++ e)
    ≡ v₁ ++ n₁ ++ b ++ v₂ ++ n₂ ++ e ++ v₃ ++ n₃ ++ b ++ v₄ ++ n₄ ++ e ++ v₅ ++ n₅ ++ e
regroup v₁ n₁ v₂ n₂ v₃ n₃ v₄ n₄ v₅ n₅ b e = simp append_assoc

pub head_written : (gates wires start spare saved : ℕ) {from left : ℕ} → from ≡ start → left ≡ spare
    → {a b c d next : ℕ} {old out_a out_b out_c out_d new : List ℕ}
    → Written (word_gates ++ digits gates ++ 32 ∷ []) 0 old out_a a
    → Written (word_wires ++ digits wires ++ 10 ∷ []) a out_a out_b b
    → Written (word_start ++ digits from ++ 32 ∷ []) b out_b out_c c
    → Written (word_spare ++ digits left ++ 10 ∷ []) c out_c out_d d
    → Written (word_saving ++ digits saved ++ 10 ∷ []) d out_d new next
    → Written (head_text gates wires start (pos spare) saved) 0 old new next
unfolding head_text
head_written gates wires start spare saved {from} {left} e f v w s t u =
    rw (← e, ← f)
    (as_text
    (regroup word_gates (digits gates) word_wires (digits wires) word_start (digits from) word_spare (digits left) word_saving (digits saved)
    blank line_end)
    (then (then (then (then v w) s) t) u))

pub gate_written : (g delay increase at : ℕ) (slack : ℤ) {drawn more size : ℕ} → drawn ≡ delay → more ≡ increase → slack ≡ pos size
    → {a b c next : ℕ} {old out_a out_b out_c new : List ℕ}
    → Written (digits g ++ 32 ∷ []) at old out_a a
    → Written (digits drawn ++ 32 ∷ []) a out_a out_b b
    → Written (digits more ++ 32 ∷ []) b out_b out_c c
    → Written (digits size ++ 10 ∷ []) c out_c new next
    → Written (gate_text g delay increase slack) at old new next
unfolding gate_text
gate_written g delay increase at slack d i e v w s t = rw (← d, ← i, e) (as_text (simp append_assoc) (then (then (then v w) s) t))

-- one gate more
pub gates_written : (line : ℕ → List ℕ) (g : ℕ) {at mid next : ℕ} {old between new : List ℕ}
    → Written (gate_texts line g) at old between mid
    → Written (line g) mid between new next
    → Written (gate_texts line (g + 1)) at old new next
unfolding gate_texts
gates_written line g v w = rw (add-one g) (then v w)
