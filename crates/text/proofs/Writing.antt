-- Laws of `Written`: what a writing call promises where there is room, a copied text, no text, a text behind another, a byte behind a text, and a text at the front.
-- The idea: a text behind another is the two in one (`placed_behind`).
-- Assumes nothing.
use mathlib.Core.Path.{◌≡◌, refl, sym, ◌∙◌, ap, subst}
use mathlib.Core.List.{List, [], ◌∷◌, ◌++◌, append-nil}
use Prim.Native.Nat.{ℕ, suc, ◌+◌, ◌<◌, ◌≤◌}
use native.Mathlib.Numerals.{add-one}
use native.Mathlib.Nat.{zero-add, add-zero}
use native.Mathlib.Omega.{arith}
use lib.ListN.{length, take, drop, set, length-append, take-append-drop}
use lib.Seq.{append_snoc, set_split}
use borrow.Rule.Slice.PartMut.{put_mid}
use Rattle.lists.specs.Over.{over}
use Rattle.decimal.specs.Placed as at_place
use Rattle.decimal.specs.Placed.{placed}
use Rattle.decimal.proofs.Placed.{placed_fits, placed_part, behind_fits, length_placed, placed_behind}
use Rattle.text.specs.Written.{Written}

-- where there is room, a call that promises `placed` and `behind` writes
pub with_room : {text : List ℕ} {at : ℕ} {old new : List ℕ} {next : ℕ} → at + length text ≤ length old
    → next ≡ at_place.behind text at old → new ≡ placed text at old
    → Written text at old new next
with_room {text} {at} {old} h p e = record { fits = h; behind = p ∙ behind_fits text at old h; stands = e }

-- a text copied to the part of the slice that is as long
pub copied : (text : List ℕ) (at : ℕ) (old : List ℕ) (k : ℕ) (part : List ℕ) → at + length text ≤ length old → k ≡ length text → part ≡ text
    → Written text at old (put_mid at k old part) (at + length text)
copied text at old k part h e s = record { fits = h; behind = refl; stands = placed_part text at old h k part e s }

pub same_length : {text : List ℕ} {at : ℕ} {old new : List ℕ} {next : ℕ} → Written text at old new next → length new ≡ length old
same_length {text} {at} {old} w = ap length w.stands ∙ length_placed text at old

-- no text
pub nothing : (at : ℕ) (old : List ℕ) → at ≤ length old → Written [] at old old at
nothing at old h =
    record {
      fits = omega arith;
      behind = sym (add-zero at);
      stands = rw (placed_fits [] at old (omega arith), add-zero at, append-nil (take at old)) (sym (take-append-drop at old));
    }

-- a text behind another
pub then : {a b : List ℕ} {at mid next : ℕ} {old between new : List ℕ}
    → Written a at old between mid → Written b mid between new next
    → Written (a ++ b) at old new next
then {a} {b} {at} {mid} {next} {old} {between} {new} v w =
    let s = length-append a b in
    let l = same_length v in
    let f = w.fits in
    let fits : at + length (a ++ b) ≤ length old = omega (arith, v.behind) in
    record {
      fits = fits;
      behind = omega (arith, v.behind, w.behind);
      stands = w.stands ∙ rw (v.behind, v.stands) (placed_behind a b at old fits);
    }

-- one byte
pub byte : (b at : ℕ) (old : List ℕ) → at < length old → Written (b ∷ []) at old (set old at b) (at + 1)
byte b at old h =
    record {
      fits = omega arith;
      behind = refl;
      stands = set_split old at b h ∙ rw (placed_fits (b ∷ []) at old (omega arith), add-one at) (sym (append_snoc (take at old) b (drop (suc at) old)));
    }

-- the same text, written in another way
pub as_text : {a b : List ℕ} {at : ℕ} {old new : List ℕ} {next : ℕ} → a ≡ b → Written a at old new next → Written b at old new next
as_text {a} {b} {at} {old} {new} {next} e w = subst (λ (t : List ℕ). Written t at old new next) e w

-- at the front: the text, and behind it what stood there before
pub front : {text old new : List ℕ} {next : ℕ} → Written text 0 old new next → (next ≡ length text) × (new ≡ over text old)
unfolding over
front {text} {old} w =
    (w.behind ∙ zero-add (length text), w.stands ∙ placed_fits text 0 old w.fits ∙ rw (zero-add (length text)))
