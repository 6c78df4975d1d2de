-- Bytes of increases: four bytes more behind the front are one increase more.
-- Assumes nothing.
use mathlib.Core.Path.{◌≡◌, refl, sym, ◌∙◌, ap}
use mathlib.Core.List.{List, [], ◌∷◌, ◌++◌, append_assoc, flat_map}
use Prim.Native.Nat.{ℕ, ◌+◌, ◌*◌, ◌/◌, ◌%◌, ◌^◌, ◌<◌}
use native.Mathlib.Numerals.{add-one}
use Rattle.std.specs.Int.{to_be_bytes}
use Rattle.std.proofs.Common.{w32}
use native.Mathlib.Omega.{arith}
use lib.ListN.{length, get_or, take, drop, length-append}
use borrow.Rule.Slice.PartMut.{put_mid}
use lib.Seq.{take-suc, length-take-le, take_at, drop_at, drop-drop}
use Rattle.lists.specs.Over.{over}
use Rattle.model.specs.Layout.{four_bytes, list_bytes}

-- the bytes that std gives for a number of 32 bits are its four bytes
four_are : (w : ℕ) → w < 2 ^ 32 → to_be_bytes w32 w ≡ four_bytes w
four_are w h = let high : w / 16777216 % 256 ≡ w / 16777216 = omega arith in rw high

list_bytes_append : (xs ys : List ℕ) → list_bytes (xs ++ ys) ≡ list_bytes xs ++ list_bytes ys
unfolding flat_map
list_bytes_append [] ys = refl
list_bytes_append (x ∷ xs) ys = rw (list_bytes_append xs ys)

length_list_bytes : (xs : List ℕ) → length (list_bytes xs) ≡ 4 * length xs
unfolding flat_map
length_list_bytes [] = refl
length_list_bytes (x ∷ xs) = rw (length_list_bytes xs) (omega arith)

one_more : (xs : List ℕ) (i : ℕ) → i < length xs → list_bytes (take (i + 1) xs) ≡ list_bytes (take i xs) ++ four_bytes (get_or xs i 0)
unfolding flat_map
one_more xs i h = rw (add-one i, take-suc xs i 0 h, list_bytes_append)

-- what is stored just behind a front that was written joins it
over_stores : (front vs old : List ℕ) (k n : ℕ) → length front ≡ k → length vs ≡ n
    → put_mid k n (over front old) vs ≡ over (front ++ vs) old
unfolding over
over_stores front vs old k n e m =
    rw (
      take_at front (drop (length front) old) k e,
      drop_at front (drop (length front) old) k e,
      ← m,
      drop-drop (length vs) (length front) old,
      length-append front vs,
      append_assoc,
    )

-- one increase more
pub more_written : (xs old : List ℕ) (i k : ℕ) (out bytes : List ℕ) → i < length xs → get_or xs i 0 < 2 ^ 32 → k ≡ 4
    → out ≡ over (list_bytes (take i xs)) old
    → bytes ≡ to_be_bytes w32 (get_or xs i 0)
    → put_mid (4 * i) k out bytes ≡ over (list_bytes (take (i + 1) xs)) old
more_written xs old i k out bytes h w four e f =
    let long : length (list_bytes (take i xs)) ≡ 4 * i =
    length_list_bytes (take i xs) ∙ ap (λ (n : ℕ). 4 * n) (length-take-le i xs (omega arith)) in
    rw (f ∙ four_are (get_or xs i 0) w, e, one_more xs i h) (over_stores (list_bytes (take i xs)) (four_bytes (get_or xs i 0)) old (4 * i) k long (sym four))
