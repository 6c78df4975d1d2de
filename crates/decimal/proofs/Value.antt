-- That `digits` is the decimal notation, for every number: a list of bytes is its decimal digits (`DecimalOf` of Decimal) exactly when it is `digits` of it (`exactly_digits`), and so is what `write_digits` writes (`comes_out`).
-- The idea: induction by tenths for `digits`; for other digits, from the front on, each one more makes `digits` of the value so far longer by it.
-- Assumes nothing.
use mathlib.Core.Path.{◌≡◌, refl, sym, ◌∙◌, ap}
use mathlib.Core.Logic.{◌↔◌, ⊎_elim}
use mathlib.Core.List.{List, [], ◌∷◌, ◌++◌, append-nil, Memᴰ}
use Prim.Native.Nat.{ℕ, ◌+◌, ◌-◌, ◌*◌, ◌/◌, ◌%◌, ◌<◌, ◌≤◌}
use native.Mathlib.Omega.{arith}
use lib.ListN.{length, get_or, get_or-append}
use lib.Seq.{append_snoc, slice}
use Rattle.lists.proofs.Compare.{le_or_lt}
use Rattle.model.specs.Printout.{digit_zero, digits}
use Rattle.decimal.specs.Decimal.{Digit, value_after, value, DecimalOf}
use Rattle.decimal.specs.Placed.{placed, behind}
use Rattle.decimal.proofs.Digits.{by_tenths, one_digit, more_digits, length_one, some_digit}
use Rattle.decimal.proofs.Placed.{behind_fits, behind_not, slice_placed}

all_digits : (n b : ℕ) → Memᴰ b (digits n) → Digit b
all_digits n =
    by_tenths (λ (m : ℕ). (b : ℕ) → Memᴰ b (digits m) → Digit b)
    (λ (m : ℕ) (h : m < 10) (b : ℕ) (i : Memᴰ b (digits m)).
    let e = mathlib.Core.List.Memᴰ.eq_of_singleton (rw (one_digit m h) at i) in omega arith)
    (λ (m : ℕ) (h : 10 ≤ m) (tenth : (b : ℕ) → Memᴰ b (digits (m / 10)) → Digit b) (b : ℕ) (i : Memᴰ b (digits m)).
    ⊎_elim (tenth b)
    (λ (l : Memᴰ b ((digit_zero + m % 10) ∷ [])). let e = mathlib.Core.List.Memᴰ.eq_of_singleton l in omega arith)
    (mathlib.Core.List.Memᴰ.append_cases (digits (m / 10)) (rw (more_digits m h) at i)))
    n

-- no needless 0 stands in front
front_above_zero : (n : ℕ) → 0 < n → digit_zero < get_or (digits n) 0 0
front_above_zero =
    by_tenths (λ (m : ℕ). 0 < m → digit_zero < get_or (digits m) 0 0)
    (λ (m : ℕ) (h : m < 10) (l : 0 < m). rw (one_digit m h) (omega arith))
    (λ (m : ℕ) (h : 10 ≤ m) (tenth : 0 < m / 10 → digit_zero < get_or (digits (m / 10)) 0 0) (l : 0 < m).
    rw (more_digits m h, get_or-append (digits (m / 10)) ((digit_zero + m % 10) ∷ []) 0 0 (some_digit (m / 10))) (tenth (omega arith)))

value_last : (v : ℕ) (ds : List ℕ) (d : ℕ) → value_after v (ds ++ d ∷ []) ≡ value_after v ds * 10 + (d - digit_zero)
unfolding value_after
value_last v [] d = refl
value_last v (x ∷ ds) d = value_last (v * 10 + (x - digit_zero)) ds d

value_digits : (n : ℕ) → value (digits n) ≡ n
unfolding value_after
value_digits =
    by_tenths (λ (m : ℕ). value (digits m) ≡ m)
    (λ (m : ℕ) (h : m < 10). rw (one_digit m h) (omega arith))
    (λ (m : ℕ) (h : 10 ≤ m) (tenth : value (digits (m / 10)) ≡ m / 10).
    rw (more_digits m h, value_last 0 (digits (m / 10)) (digit_zero + m % 10), tenth) (omega arith))

above_zero : (n : ℕ) → 1 < length (digits n) → 0 < n
above_zero n h =
    ⊎_elim (λ (l : 1 ≤ n). l) (λ (l : n < 1). absurd (omega (arith, length_one n (omega arith)))) (le_or_lt 1 n)

digits_decimal : (n : ℕ) → DecimalOf n (digits n)
digits_decimal n =
    record {
      some = some_digit n;
      all = all_digits n;
      front = λ (h : 1 < length (digits n)).
          omega (arith, front_above_zero n (above_zero n h));
      worth = value_digits n;
    }

digits_after : (v : ℕ) (ds : List ℕ) → 0 < v → ((b : ℕ) → Memᴰ b ds → Digit b) → digits (value_after v ds) ≡ digits v ++ ds
unfolding value_after
digits_after v [] h all = sym (append-nil (digits v))
digits_after v (d ∷ ds) h all =
    let is = all d (mathlib.Core.List.Memᴰ.head refl) in
    let w : ℕ = v * 10 + (d - digit_zero) in
    let front : w / 10 ≡ v = omega arith in
    let last : digit_zero + w % 10 ≡ d = omega arith in
    digits_after w ds (omega arith) (λ (b : ℕ) (i : Memᴰ b ds). all b (mathlib.Core.List.Memᴰ.tail i))
    ∙ ap (λ (xs : List ℕ). xs ++ ds) (more_digits w (omega arith))
    ∙ rw (front, last) (append_snoc (digits v) d ds)

-- no other digits have that value
digits_value : (n : ℕ) (ds : List ℕ) → DecimalOf n ds → digits (value ds) ≡ ds
unfolding value_after
digits_value n [] r = absurd (omega (arith, r.some))
digits_value n (d ∷ []) r =
    let is = r.all d (mathlib.Core.List.Memᴰ.head refl) in
    let e : digit_zero + (0 * 10 + (d - digit_zero)) ≡ d = omega arith in
    one_digit (0 * 10 + (d - digit_zero)) (omega arith) ∙ ap (λ (b : ℕ). b ∷ []) e
digits_value n (d ∷ e ∷ ds) r =
    let is = r.all d (mathlib.Core.List.Memᴰ.head refl) in
    let above : digit_zero < d = omega (arith, r.front (omega arith)) in
    let v : ℕ = 0 * 10 + (d - digit_zero) in
    let f : digit_zero + v ≡ d = omega arith in
    digits_after v (e ∷ ds) (omega arith) (λ (b : ℕ) (i : Memᴰ b (e ∷ ds)). r.all b (mathlib.Core.List.Memᴰ.tail i))
    ∙ rw (one_digit v (omega arith), f)

-- DOCUMENT 02, K4. "Show for every 64-bit number, 0 and the largest too, that exactly its decimal digits come out, with no needless 0 in front": bytes are the decimal digits of n exactly when they are `digits n`, whatever n. For 0 and the largest `digits_least` and `digits_largest` (Digits) have them byte by byte.
pub exactly_digits : (n : ℕ) (ds : List ℕ) → DecimalOf n ds ↔ (ds ≡ digits n)
exactly_digits n ds = (
  (λ (r : DecimalOf n ds). sym (digits_value n ds r) ∙ ap digits r.worth),
  (λ (e : ds ≡ digits n). rw (e) (digits_decimal n)),
)

-- The same of what `write_digits` answers and leaves: where it writes, the bytes from `at` to the place that it answers are the decimal digits of n, and no others are.
pub comes_out : (n at : ℕ) (old new : List ℕ) (next : ℕ) → next ≡ behind (digits n) at old → new ≡ placed (digits n) at old
    → at < next
    → (ds : List ℕ) → DecimalOf n ds ↔ (ds ≡ slice at next new)
comes_out n at old new next answer after wrote ds =
    ⊎_elim
    (λ (h : at + length (digits n) ≤ length old).
    rw (answer, after, behind_fits (digits n) at old h, slice_placed (digits n) at old h) (exactly_digits n ds))
    (λ (h : length old < at + length (digits n)). absurd (omega (arith, answer, behind_not (digits n) at old h)))
    (le_or_lt (at + length (digits n)) (length old))
