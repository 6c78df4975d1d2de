-- What the printing program writes (document 01, "The printing program"): decimals and words as bytes, a line each.
use Rattle.std.specs.Prelude.{List, [], ◌∷◌, ◌++◌, true, false, ◌≡◌, ℕ, zero, suc, ◌+◌, ◌/◌, ◌%◌, ltb, ℤ, pos, negsuc, length, get_or, take}
use Rattle.model.specs.Limits.{max_gates, max_bytes}
use Rattle.model.specs.Block.{Block, gate, gate_count}
use Rattle.model.specs.Gain.{saving}
use Rattle.model.specs.InTime.{no_increase}
use Rattle.model.specs.Slack as time
use Rattle.model.specs.Refusal.{WellFormed}
use Rattle.model.specs.Answer.{accepted, refusal, AnswersBest}

-- the digit 0, as a byte
abbrev pub digit_zero : ℕ
digit_zero = 48

-- the decimal digits of a number, with no needless 0 in front; the number that counts down is more than the digits there are
unfoldable pub digits_by : ℕ → ℕ → List ℕ
digits_by zero n = []
digits_by (suc f) n =
    elim (ltb n 10) [
      | true ↦ (digit_zero + n) ∷ []
      | false ↦ digits_by f (n / 10) ++ (digit_zero + n % 10) ∷ []
    ]

unfoldable pub digits : ℕ → List ℕ
digits n = digits_by (suc n) n

-- a signed number: a minus sign in front of a negative one
abbrev pub signed : ℤ → List ℕ
signed (pos n) = digits n
signed (negsuc n) = 45 ∷ digits (suc n)

-- the words of the printout, each with the blank behind it
abbrev pub word_gates : List ℕ
word_gates = 103 ∷ 97 ∷ 116 ∷ 101 ∷ 115 ∷ 32 ∷ []

abbrev pub word_wires : List ℕ
word_wires = 119 ∷ 105 ∷ 114 ∷ 101 ∷ 115 ∷ 32 ∷ []

abbrev pub word_start : List ℕ
word_start = 115 ∷ 116 ∷ 97 ∷ 114 ∷ 116 ∷ 32 ∷ []

abbrev pub word_spare : List ℕ
word_spare = 115 ∷ 112 ∷ 97 ∷ 114 ∷ 101 ∷ 32 ∷ []

abbrev pub word_saving : List ℕ
word_saving = 115 ∷ 97 ∷ 118 ∷ 105 ∷ 110 ∷ 103 ∷ 32 ∷ []

abbrev pub word_refused : List ℕ
word_refused = 114 ∷ 101 ∷ 102 ∷ 117 ∷ 115 ∷ 101 ∷ 100 ∷ 32 ∷ []

abbrev pub blank : List ℕ
blank = 32 ∷ []

abbrev pub line_end : List ℕ
line_end = 10 ∷ []

-- "The first three lines give the counts of gates and wires, start and spare, and the saving": the text of these numbers.
unfoldable pub head_text : ℕ → ℕ → ℕ → ℤ → ℕ → List ℕ
head_text gates wires start spare saved =
    word_gates ++ digits gates ++ blank ++ word_wires ++ digits wires ++ line_end
    ++ word_start ++ digits start ++ blank ++ word_spare ++ signed spare ++ line_end
    ++ word_saving ++ digits saved ++ line_end

-- "Each gate line is number, drawn delay, increase, slack before increases": the text of these numbers.
unfoldable pub gate_text : ℕ → ℕ → ℕ → ℤ → List ℕ
gate_text g delay increase slack =
    digits g ++ blank ++ digits delay ++ blank ++ digits increase ++ blank ++ signed slack ++ line_end

-- the lines of the first n gates, in order, where `line g` is that of gate g
unfoldable pub gate_texts : (ℕ → List ℕ) → ℕ → List ℕ
gate_texts line zero = []
gate_texts line (suc n) = gate_texts line n ++ line n

-- the head of the printout of block B with the increases x, and the line of its gate g
abbrev pub head_lines : Block → List ℕ → List ℕ
head_lines B x = head_text (gate_count B) (length B.wires) (time.start B) (time.spare B) (saving B x)

abbrev pub gate_line : Block → List ℕ → ℕ → List ℕ
gate_line B x g = gate_text g (gate B g).delay (get_or x g 0) (time.slack B g)

-- the whole printout of block B with the increases x
unfoldable pub block_lines : Block → List ℕ → List ℕ
block_lines B x = head_lines B x ++ gate_texts (gate_line B x) (gate_count B)

-- "A refusal is one line: `refused 12 0`, number then place."
unfoldable pub refusal_line : ℕ → ℕ → List ℕ
refusal_line k p = word_refused ++ digits k ++ blank ++ digits p ++ line_end

-- The printout of a file: from the outcome of the best increases, to a slice that is long enough for any block.
pub data Printout (file text : List ℕ) : Type 0 where
  refused : (k p : ℕ) (after : List ℕ)
      → AnswersBest file (no_increase max_gates) (record { answer = refusal k p; memory = after })
      → text ≡ refusal_line k p
      → Printout file text
  printed : (B : Block) (after : List ℕ) → WellFormed file B
      → AnswersBest file (no_increase max_gates)
      (record { answer = accepted (saving B (take (gate_count B) after) ∷ gate_count B ∷ []); memory = after })
      → text ≡ block_lines B (take (gate_count B) after)
      → Printout file text

-- What the program writes: "it reads standard input, of which the first 4,096 bytes decide", and since document 02, K10, "the program reads 16,384 bytes".
abbrev pub Prints : List ℕ → List ℕ → Type 0
Prints input text = Printout (take max_bytes input) text
