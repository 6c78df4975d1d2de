-- Laws of two-byte numbers and of fields: the field at an offset, by the three cases for code that reads it, and a whole field that stands in a list. A place in a list is spoken of by what is left from there on, `drop o s`.
-- Assumes nothing.
use mathlib.Core.Path.{◌≡◌, sym, ◌∙◌, ap, ap₂}
use mathlib.Core.List.{List, [], ◌∷◌, ◌++◌}
use mathlib.Core.Bool.{true, false}
use Prim.Native.Nat.{ℕ, suc, ◌+◌, ◌*◌, ◌-◌, ◌/◌, ◌%◌, ◌<◌, ◌≤◌, min}
use native.Mathlib.Nat.{add-zero}
use native.Mathlib.Numerals.{add-one}
use native.Mathlib.Omega.{arith}
use lib.Dec.{leb, ltb, lit<}
use lib.ListN.{length, get_or, take, drop, length-append, length-drop, length-take, take-append-drop, get_or-eq_default}
use lib.Seq.{get_or-drop, get_or-take, drop-drop, take-append_seam, drop-append_seam, drop-cons}
use borrow.Author.Tests.{le-leb, lt-leb, leb-true, leb-false, ltb-true, ltb-false}
use Rattle.lists.proofs.Bool.{cases}
use Rattle.model.specs.declared.Field.TheVariants.{NoHeader, NoBody, Whole}
use Rattle.model.specs.Field.{number, two_bytes, field, length_at, body_from, body_to, field_at, body_at}

-- a number written as two bytes is read again ..
pub number_two_bytes : (n : ℕ) (rest : List ℕ) → number (two_bytes n ++ rest) 0 ≡ n
number_two_bytes n rest = omega arith

-- .. and two bytes read as a number are written again
pub two_bytes_number : (a b : ℕ) → a < 256 → b < 256 → two_bytes (256 * a + b) ≡ a ∷ b ∷ []
two_bytes_number a b h k =
    let e : (256 * a + b) / 256 ≡ a = omega arith in
    let f : (256 * a + b) % 256 ≡ b = omega arith in
    ap₂ (λ (x y : ℕ). x ∷ y ∷ []) e f

-- a number below 65,536 is two bytes
pub high_byte : (n : ℕ) → n < 65536 → n / 256 < 256
high_byte n h = omega arith

pub low_byte : (n : ℕ) → n % 256 < 256
low_byte n = omega arith

-- what stands i places behind o
pub get_or_from : (s : List ℕ) (o i : ℕ) → get_or s (o + i) 0 ≡ get_or (drop o s) i 0
get_or_from s o i = sym (get_or-drop o s i 0)

pub get_or_here : (s : List ℕ) (o : ℕ) → get_or s o 0 ≡ get_or (drop o s) 0 0
get_or_here s o = ap (λ (k : ℕ). get_or s k 0) (sym (add-zero o)) ∙ get_or_from s o 0

-- the announced length in terms of what is left from o on
pub length_at_from : (s : List ℕ) (o : ℕ) → length_at s o ≡ 256 * get_or (drop o s) 1 0 + get_or (drop o s) 2 0
length_at_from s o =
    let e : o + 1 + 1 ≡ o + 2 = omega arith in
    ap₂ (λ (x y : ℕ). 256 * x + y) (get_or_from s o 1) (ap (λ (k : ℕ). get_or s k 0) e ∙ get_or_from s o 2)

-- THE FIELD AT AN OFFSET, for code that reads it: the header is cut, the body is cut, the field is whole.
pub header_cut : (s : List ℕ) (o : ℕ) → length s < body_from o → field_at s o ≡ NoHeader
unfolding field_at
header_cut s o h = rw (lt-leb (body_from o) (length s) h)

pub body_cut : (s : List ℕ) (o : ℕ) → body_from o ≤ length s → length s < body_to s o → field_at s o ≡ NoBody (get_or s o 0) (length_at s o)
unfolding field_at
body_cut s o h k = rw (le-leb (body_from o) (length s) h, lt-leb (body_to s o) (length s) k)

pub whole : (s : List ℕ) (o : ℕ) → body_to s o ≤ length s → field_at s o ≡ Whole (get_or s o 0) (body_from o) (body_to s o)
unfolding field_at
whole s o h =
    let k : body_from o ≤ length s = omega arith in
    rw (le-leb (body_from o) (length s) k, le-leb (body_to s o) (length s) h)

-- the body of a whole field
pub body_whole : (s : List ℕ) (o : ℕ) → body_to s o ≤ length s → body_at s o ≡ take (length_at s o) (drop (body_from o) s)
body_whole s o h =
    let e : body_to s o - body_from o ≡ length_at s o = omega arith in
    rw (whole s o h, e)

pub length_body : (s : List ℕ) (o : ℕ) → body_to s o ≤ length s → length (body_at s o) ≡ length_at s o
length_body s o h = rw (body_whole s o h, length-take, length-drop) (omega arith)

-- The field at o is whole: its tag and its ends are those that the bytes at o tell, and it lies in the list.
pub record IsWhole (s : List ℕ) (o tag a b : ℕ) : Type 0 where
  pub tag_is : tag ≡ get_or s o 0
  pub from_is : a ≡ body_from o
  pub to_is : b ≡ body_to s o
  pub inside : b ≤ length s

cut_not_whole : (s : List ℕ) (o : ℕ) {tag a b : ℕ} → length s < body_to s o → field_at s o ≡ Whole tag a b → ⊥
cut_not_whole s o {tag} {a} {b} h e =
    cases (leb (body_from o) (length s))
    (λ (t : leb (body_from o) (length s) ≡ true).
    let f : field_at s o ≡ NoBody (get_or s o 0) (length_at s o) = body_cut s o (leb-true (body_from o) (length s) t) h in
    let z : ◌≡◌ {A = ℕ} 0 1 = cc in
    omega arith)
    (λ (t : leb (body_from o) (length s) ≡ false).
    let f : field_at s o ≡ NoHeader = header_cut s o (leb-false (body_from o) (length s) t) in
    let z : ◌≡◌ {A = ℕ} 0 1 = cc in
    omega arith)

pub whole_is : (s : List ℕ) (o : ℕ) {tag a b : ℕ} → field_at s o ≡ Whole tag a b → IsWhole s o tag a b
whole_is s o {tag} {a} {b} e =
    cases (leb (body_to s o) (length s))
    (λ (t : leb (body_to s o) (length s) ≡ true).
    let h : body_to s o ≤ length s = leb-true (body_to s o) (length s) t in
    let w : field_at s o ≡ Whole (get_or s o 0) (body_from o) (body_to s o) = whole s o h in
    let x : tag ≡ get_or s o 0 = cc in
    let y : a ≡ body_from o = cc in
    let z : b ≡ body_to s o = cc in
    record { tag_is = x; from_is = y; to_is = z; inside = omega arith })
    (λ (t : leb (body_to s o) (length s) ≡ false).
    absurd (cut_not_whole s o (leb-false (body_to s o) (length s) t) e))

-- the body of a whole field by its ends
pub body_between : (s : List ℕ) (o : ℕ) {tag a b : ℕ} → field_at s o ≡ Whole tag a b → body_at s o ≡ take (b - a) (drop a s)
body_between s o e = rw e

-- A WHOLE FIELD that stands at o, with `back` behind it.
module _ (s : List ℕ) (o tag : ℕ) (body back : List ℕ) (e : drop o s ≡ field tag body ++ back) where
  pub stands_tag : get_or s o 0 ≡ tag
  stands_tag = get_or_here s o ∙ rw e

  pub stands_length : length_at s o ≡ length body
  stands_length = length_at_from s o ∙ rw e (number_two_bytes (length body) (body ++ back))

  pub stands_inside : body_to s o ≤ length s
  stands_inside = omega (arith, stands_length, length-drop o s, ap length e, length-append body back)

  pub stands_whole : field_at s o ≡ Whole tag (body_from o) (body_to s o)
  stands_whole = whole s o stands_inside ∙ ap (λ (t : ℕ). Whole t (body_from o) (body_to s o)) stands_tag

  -- what is left behind the header
  behind_header : drop (body_from o) s ≡ body ++ back
  behind_header = sym (drop-drop 3 o s) ∙ ap (drop 3) e

  pub stands_body : body_at s o ≡ body
  stands_body = body_whole s o stands_inside ∙ rw (stands_length, behind_header) (take-append_seam body back)

  pub stands_next : drop (body_to s o) s ≡ back
  stands_next =
      sym (drop-drop (length_at s o) (body_from o) s)
      ∙ rw (stands_length, behind_header) (drop-append_seam body back)

-- the same with what stands in front of it
pub stands_behind : (s front : List ℕ) (tag : ℕ) (body back : List ℕ) → s ≡ front ++ (field tag body ++ back) → drop (length front) s ≡ field tag body ++ back
stands_behind s front tag body back e = ap (drop (length front)) e ∙ drop-append_seam front (field tag body ++ back)

-- every element is a byte
abbrev pub Bytes : List ℕ → Type 0
Bytes s = (i : ℕ) → i < length s → get_or s i 0 < 256

pub byte_anywhere : (s : List ℕ) (i : ℕ) → Bytes s → get_or s i 0 < 256
byte_anywhere s i bytes =
    cases (ltb i (length s))
    (λ (t : ltb i (length s) ≡ true). bytes i (ltb-true i (length s) t))
    (λ (t : ltb i (length s) ≡ false). rw (get_or-eq_default s 0 (ltb-false i (length s) t)) (lit< tt))

-- a number of two bytes
pub number_below : (s : List ℕ) (i : ℕ) → Bytes s → number s i < 65536
number_below s i bytes = omega (arith, byte_anywhere s i bytes, byte_anywhere s (i + 1) bytes)

pub bytes_drop : (s : List ℕ) (n : ℕ) → Bytes s → Bytes (drop n s)
bytes_drop s n bytes i h = rw (get_or-drop n s i 0) (bytes (n + i) (omega (arith, length-drop n s)))

pub bytes_take : (s : List ℕ) (n : ℕ) → Bytes s → Bytes (take n s)
bytes_take s n bytes i h =
    let k : i < min n (length s) = rw (length-take n s) at h in
    let j : i < n = omega arith in
    rw (get_or-take n s i 0 j) (bytes i (omega arith))

pub bytes_body : (s : List ℕ) (o : ℕ) → Bytes s → body_to s o ≤ length s → Bytes (body_at s o)
bytes_body s o bytes h = rw (body_whole s o h) (bytes_take (drop (body_from o) s) (length_at s o) (bytes_drop s (body_from o) bytes))

-- what is left from the header on
from_header : (s : List ℕ) (o : ℕ) → body_from o ≤ length s → drop o s ≡ get_or s o 0 ∷ get_or s (o + 1) 0 ∷ get_or s (o + 1 + 1) 0 ∷ drop (o + 3) s
from_header s o h =
    let e : o + 1 + 1 ≡ suc (suc o) = omega arith in
    let f : o + 3 ≡ suc (suc (suc o)) = omega arith in
    rw (e, add-one, f)
    (drop-cons s o 0 (omega arith)
    ∙ ap (◌∷◌ (get_or s o 0)) (drop-cons s (suc o) 0 (omega arith) ∙ ap (◌∷◌ (get_or s (suc o) 0)) (drop-cons s (suc (suc o)) 0 (omega arith))))

-- A whole field of bytes is the field of its own tag and body.
pub whole_stands : (s : List ℕ) (o : ℕ) → Bytes s → body_to s o ≤ length s → drop o s ≡ field (get_or s o 0) (body_at s o) ++ drop (body_to s o) s
whole_stands s o bytes h =
    let b : two_bytes (length_at s o) ≡ get_or s (o + 1) 0 ∷ get_or s (o + 1 + 1) 0 ∷ [] =
    two_bytes_number (get_or s (o + 1) 0) (get_or s (o + 1 + 1) 0) (bytes (o + 1) (omega arith)) (bytes (o + 1 + 1) (omega arith)) in
    let c : drop (body_from o) s ≡ body_at s o ++ drop (body_to s o) s =
    rw (body_whole s o h, ← drop-drop (length_at s o) (body_from o) s) (sym (take-append-drop (length_at s o) (drop (body_from o) s))) in
    from_header s o (omega arith)
    ∙ ap (λ (l : List ℕ). get_or s o 0 ∷ get_or s (o + 1) 0 ∷ get_or s (o + 1 + 1) 0 ∷ l) c
    ∙ ap (λ (l : List ℕ). (get_or s o 0 ∷ l) ++ (body_at s o ++ drop (body_to s o) s)) (sym b)
    ∙ ap (λ (n : ℕ). get_or s o 0 ∷ n / 256 ∷ n % 256 ∷ (body_at s o ++ drop (body_to s o) s)) (sym (length_body s o h))
