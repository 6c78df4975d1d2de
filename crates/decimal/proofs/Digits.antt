-- What `digits` is: its two cases without the number that counts down, how many digits there are, and which digit stands at each place.
-- The idea: induction by tenths of the number; the last digit is split off.
-- Assumes nothing.
use mathlib.Core.Path.{◌≡◌, refl, sym, ◌∙◌, ap}
use mathlib.Core.Logic.{⊎_elim}
use mathlib.Core.List.{[], ◌∷◌, ◌++◌}
use Prim.Native.Nat.{ℕ, zero, suc, ◌+◌, ◌-◌, ◌/◌, ◌%◌, ◌^◌, ◌<◌, ◌≤◌}
use native.Mathlib.Nat.{not-suc-le-zero, pow-suc, pow-succ', one-le-pow, div-one, div-div-eq-div-mul, mod-eq_of_lt}
use native.Mathlib.Numerals.{add-one}
use native.Mathlib.Omega.{arith}
use lib.ListN.{length, get_or, length-append, get_or-append}
use lib.Seq.{get_or_at}
use borrow.Author.Tests.{lt-ltb, le-ltb}
use Rattle.lists.proofs.Compare.{le_or_lt}
use Rattle.model.specs.Printout.{digit_zero, digits_by, digits}

by_one : (f n : ℕ) → n < 10 → digits_by (suc f) n ≡ (digit_zero + n) ∷ []
unfolding digits_by
by_one f n h = rw (lt-ltb n 10 h, digits_by)

by_more : (f n : ℕ) → 10 ≤ n → digits_by (suc f) n ≡ digits_by f (n / 10) ++ (digit_zero + n % 10) ∷ []
unfolding digits_by
by_more f n h = rw (le-ltb n 10 h, digits_by)

-- any number that counts down from above n gives the same digits
enough : (f g n : ℕ) → n < f → n < g → digits_by f n ≡ digits_by g n
enough zero g n h k = absurd (not-suc-le-zero h)
enough (suc f) zero n h k = absurd (not-suc-le-zero k)
enough (suc f) (suc g) n h k =
    ⊎_elim (λ (l : 10 ≤ n). rw (by_more f n l, by_more g n l, enough f g (n / 10) (omega arith) (omega arith)))
    (λ (l : n < 10). rw (by_one f n l, by_one g n l))
    (le_or_lt 10 n)

pub one_digit : (n : ℕ) → n < 10 → digits n ≡ (digit_zero + n) ∷ []
unfolding digits
one_digit n h = by_one n n h

pub more_digits : (n : ℕ) → 10 ≤ n → digits n ≡ digits (n / 10) ++ (digit_zero + n % 10) ∷ []
unfolding digits
more_digits n h = rw (by_more n n h, enough n (suc (n / 10)) (n / 10) (omega arith) (omega arith))

-- induction by tenths
by_tenths_below : (P : ℕ → Type 0) → ((n : ℕ) → n < 10 → P n) → ((n : ℕ) → 10 ≤ n → P (n / 10) → P n) → (f n : ℕ) → n < f → P n
by_tenths_below P one more zero n h = absurd (not-suc-le-zero h)
by_tenths_below P one more (suc f) n h =
    ⊎_elim (λ (l : 10 ≤ n). more n l (by_tenths_below P one more f (n / 10) (omega arith))) (one n) (le_or_lt 10 n)

pub by_tenths : (P : ℕ → Type 0) → ((n : ℕ) → n < 10 → P n) → ((n : ℕ) → 10 ≤ n → P (n / 10) → P n) → (n : ℕ) → P n
by_tenths P one more n = by_tenths_below P one more (suc n) n (omega arith)

pub length_one : (n : ℕ) → n < 10 → length (digits n) ≡ 1
length_one n h = rw (one_digit n h)

length_more : (n : ℕ) → 10 ≤ n → length (digits n) ≡ suc (length (digits (n / 10)))
length_more n h = rw (more_digits n h, length-append) (add-one (length (digits (n / 10))))

pub some_digit : (n : ℕ) → 1 ≤ length (digits n)
some_digit n =
    ⊎_elim (λ (l : 10 ≤ n). omega (arith, length_more n l)) (λ (l : n < 10). omega (arith, length_one n l)) (le_or_lt 10 n)

-- 10 ^ c ≤ n: more than c digits
pub more_than : (c n : ℕ) → 10 ^ c ≤ n → c < length (digits n)
more_than zero n h = some_digit n
more_than (suc c) n h =
    let p = pow-suc 10 c in
    let q : 1 ≤ 10 ^ c = one-le-pow c 10 (omega arith) in
    omega (arith, more_than c (n / 10) (omega arith), length_more n (omega arith))

-- n < 10 ^ c: at most c digits
pub at_most : (c n : ℕ) → 1 ≤ c → n < 10 ^ c → length (digits n) ≤ c
at_most zero n h l = absurd (not-suc-le-zero h)
at_most (suc zero) n h l = omega (arith, length_one n l)
at_most (suc (suc c)) n h l =
    let p = pow-suc 10 (suc c) in
    ⊎_elim (λ (k : 10 ≤ n). omega (arith, length_more n k, at_most (suc c) (n / 10) (omega arith) (omega arith)))
    (λ (k : n < 10). omega (arith, length_one n k))
    (le_or_lt 10 n)

-- a 64-bit number has at most twenty digits
pub at_most_twenty : (n : ℕ) → n < 2 ^ 64 → length (digits n) ≤ 20
at_most_twenty n h = at_most 20 n (omega arith) (omega arith)

-- a tenth of a power of ten
pub power_below : (p q : ℕ) → p ≡ suc q → 10 ^ p / 10 ≡ 10 ^ q
power_below p q e = rw (e, pow-suc 10 q) (omega arith)

one_at : (n : ℕ) → n < 10 → (k p : ℕ) → k + suc p ≡ length (digits n) → get_or (digits n) k 0 ≡ digit_zero + n / 10 ^ p % 10
one_at n h zero zero e = rw (one_digit n h, div-one n, mod-eq_of_lt h)
one_at n h zero (suc p) e = absurd (omega (arith, length_one n h))
one_at n h (suc k) p e = absurd (omega (arith, length_one n h))

more_at : (n : ℕ) → 10 ≤ n
    → ((k p : ℕ) → k + suc p ≡ length (digits (n / 10)) → get_or (digits (n / 10)) k 0 ≡ digit_zero + n / 10 / 10 ^ p % 10)
    → (k p : ℕ) → k + suc p ≡ length (digits n) → get_or (digits n) k 0 ≡ digit_zero + n / 10 ^ p % 10
more_at n h tenth k zero e =
    rw (more_digits n h, div-one n) (get_or_at (digits (n / 10)) (digit_zero + n % 10) [] 0 k (omega (arith, length_more n h)))
more_at n h tenth k (suc p) e =
    let l : k + suc p ≡ length (digits (n / 10)) = omega (arith, length_more n h) in
    rw (more_digits n h)
    (get_or-append (digits (n / 10)) ((digit_zero + n % 10) ∷ []) 0 k (omega arith)
    ∙ tenth k p l
    ∙ ap (λ (q : ℕ). digit_zero + q % 10) (div-div-eq-div-mul n 10 (10 ^ p) ∙ ap (λ (d : ℕ). n / d) (sym (pow-succ' 10 p))))

-- the digit with p digits behind it
digit_before : (n k p : ℕ) → k + suc p ≡ length (digits n) → get_or (digits n) k 0 ≡ digit_zero + n / 10 ^ p % 10
digit_before n =
    by_tenths (λ (m : ℕ). (k p : ℕ) → k + suc p ≡ length (digits m) → get_or (digits m) k 0 ≡ digit_zero + m / 10 ^ p % 10)
    one_at
    more_at
    n

-- the digit at place k
pub digit_at : (n k : ℕ) → k < length (digits n) → get_or (digits n) k 0 ≡ digit_zero + n / 10 ^ (length (digits n) - 1 - k) % 10
digit_at n k h = digit_before n k (length (digits n) - 1 - k) (omega arith)

-- the least and the largest 64-bit number
pub digits_least : digits 0 ≡ 48 ∷ []
unfolding digits digits_by
digits_least = refl

pub digits_largest : digits (2 ^ 64 - 1)
    ≡ 49 ∷ 56 ∷ 52 ∷ 52 ∷ 54 ∷ 55 ∷ 52 ∷ 52 ∷ 48 ∷ 55 ∷ 51 ∷ 55 ∷ 48 ∷ 57 ∷ 53 ∷ 53 ∷ 49 ∷ 54 ∷ 49 ∷ 53 ∷ []
unfolding digits digits_by
digits_largest = refl
