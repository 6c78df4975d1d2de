-- Reading wire fields: one into its place, and all of them up to the end of the file. The invariant is that of `read_wires`, with the wires so far in the arrays and in the table.
-- Assumes nothing.
use mathlib.Core.Path.{◌≡◌, refl, sym, ◌∙◌, ap}
use mathlib.Core.Bool.{Bool, true, false, not, ◌||◌}
use mathlib.Core.List.{List, [], ◌∷◌, ◌++◌}
use Prim.Native.Nat.{ℕ, ◌+◌, ◌<◌, ◌≤◌}
use native.Mathlib.Omega.{arith}
use lib.ListN.{length, get_or, set}
use lib.Seq.{get_or-set_same}
use Rattle.lists.specs.Over.{build}
use Rattle.lists.proofs.Over.{length_build}
use Rattle.model.specs.declared.Refusal.{Refusal}
use Rattle.model.specs.Limits.{max_gates, max_wires}
use Rattle.model.specs.Block.{Wire}
use Rattle.model.specs.Edition.{delay_in}
use Rattle.model.specs.File.{wire, some, same_ends, found, refused, read_field, read_wires}
use Rattle.model.specs.Answer.{refusal, refusal_answer}
use Rattle.model.proofs.Every.{some_append}
use Rattle.model.proofs.Fault.{found_inside}
use Rattle.model.proofs.Reading as Reading
use Rattle.model.proofs.Stored.{build_more}
use Rattle.std.specs.Prelude.{Ok, Err}
use Rattle.fields.specs.Behind.{offset_behind}
use Rattle.blockfile.specs.Held.{WireArrays, wire_arrays, wire_held, wires_held}
use Rattle.blockfile.specs.Reads.{WireRead, refusing}
use Rattle.ranges.specs.Seen.{between, Marks}
use Rattle.blockfile.proofs.Stores.{kept_all, kept_set}
use Rattle.blockfile.proofs.Judged.{Judged, judged_refused, judged_found}

module _ {s : List ℕ} {o ed n m i : ℕ} {b : List ℕ} {table : List ℕ} (j : (ws : List Wire) → Marks table ws → Judged (wire ed n ws) s o m b) where
  pub wire_refused : (A : WireArrays) (x : Refusal) → (m ≡ 0 → ⊥) → refusal_answer x ≡ refusal m o → WireRead s o ed n i A A table table (Err x)
  wire_refused A x z e =
      record {
        reading = λ (ws : List Wire) (h : Marks table ws). judged_refused (j ws h) x z e;
        marked = λ ws h next f. absurd (cc);
        kept = record { sources = kept_all i A.sources; targets = kept_all i A.targets; delays = kept_all i A.delays };
        untouched = λ y f. (refl, refl);
      }

  pub wire_found : (ss ts ds table' : List ℕ) (x y v q : ℕ) → i < length ss → i < length ts → i < length ds → x ≡ get_or b 0 0 → y ≡ get_or b 1 0 → v ≡ delay_in ed b
      → ((ws : List Wire) (d : ℕ) → Marks table ws → Marks table' (between (get_or b 0 0) (get_or b 1 0) d ∷ ws))
      → m ≡ 0
      → q ≡ offset_behind s o
      → WireRead s o ed n i (wire_arrays ss ts ds) (wire_arrays (set ss i x) (set ts i y) (set ds i v)) table table' (Ok q)
  wire_found ss ts ds table' x y v q hs ht hd ex ey ev more z eq =
      record {
        reading = λ (ws : List Wire) (h : Marks table ws). rw (held, eq) (sym (judged_found (j ws h) z));
        marked = λ (ws : List Wire) (h : Marks table ws) next e. rw held (more ws (delay_in ed b) h);
        kept = record {
          sources = kept_set i ss ss i x (omega arith) (kept_all i ss);
          targets = kept_set i ts ts i y (omega arith) (kept_all i ts);
          delays = kept_set i ds ds i v (omega arith) (kept_all i ds);
        };
        untouched = λ x' f. absurd (cc);
      }
    where
      held : wire_held (wire_arrays (set ss i x) (set ts i y) (set ds i v)) i ≡ between (get_or b 0 0) (get_or b 1 0) (delay_in ed b)
      held = rw (get_or-set_same ss i x 0 hs, get_or-set_same ts i y 0 ht, get_or-set_same ds i v 0 hd, ex, ey, ev)

-- The first i wires from p on were read up to o, and stand in the arrays and in the table.
pub record WiresSoFar (ed n : ℕ) (s : List ℕ) (p i : ℕ) (A : WireArrays) (table : List ℕ) (o : ℕ) : Type 0 where
  pub were_read : Reading.WiresRead ed n s p (wires_held A i) o
  pub marks : Marks table (wires_held A i)
  pub inside : o ≤ length s

pub so_far_none : (ed n : ℕ) (s : List ℕ) (p : ℕ) (A : WireArrays) (table : List ℕ) → Marks table [] → p ≤ length s → WiresSoFar ed n s p 0 A table p
unfolding build
so_far_none ed n s p A table m h = record { were_read = Reading.wires_none ed n s p; marks = m; inside = h }

or_last : (a b : Bool) → b || (a || false) ≡ a || b
or_last true true = refl
or_last true false = refl
or_last false true = refl
or_last false false = refl

-- the table does not depend on the order of the wires
marks_last : (table : List ℕ) (ws : List Wire) (w : Wire) → Marks table (w ∷ ws) → Marks table (ws ++ (w ∷ []))
unfolding some
marks_last table ws w m =
    record {
      at_pair = λ (a b d : ℕ) (h : a < max_gates) (k : b < max_gates).
          m.at_pair a b d h k
          ∙ ap not (sym (some_append (same_ends (between a b d)) ws (w ∷ []) ∙ or_last (same_ends (between a b d) w) (some (same_ends (between a b d)) ws)));
    }

module _ {ed n : ℕ} {s : List ℕ} {p i : ℕ} {A : WireArrays} {table : List ℕ} {o : ℕ} (r : WiresSoFar ed n s p i A table o) where
  -- one more is read
  pub so_far_more : (B : WireArrays) (table' : List ℕ) (q : ℕ) → o < length s → WireRead s o ed n i A B table table' (Ok q) → WiresSoFar ed n s p (i + 1) B table' q
  so_far_more B table' q h t =
      let k = t.kept in
      let e : read_field (wire ed n (wires_held A i)) s o ≡ found (wire_held B i) q = sym (t.reading (wires_held A i) r.marks) in
      let all : wires_held B (i + 1) ≡ wires_held A i ++ (wire_held B i ∷ []) =
      build_more i (wire_held A) (wire_held B) refl
      (λ (j : ℕ) (l : j < i).
      λ d. record { source = k.sources j l d; target = k.targets j l d; delay = k.delays j l d })
      refl in
      record {
        were_read = rw all (Reading.wires_more ed n s p r.were_read h e);
        marks = rw all (marks_last table' (wires_held A i) (wire_held B i) (t.marked (wires_held A i) r.marks q refl));
        inside = found_inside (wire ed n (wires_held A i)) s o e;
      }

  count : length (wires_held A i) ≡ i
  count = length_build i (wire_held A)

  -- the next is refused, and then all are
  pub so_far_refused : (B : WireArrays) (table' : List ℕ) (x : Refusal) → i < max_wires → o < length s → WireRead s o ed n i A B table table' (Err x) → refusing x ≡ read_wires max_wires ed n [] s p
  so_far_refused B table' x l h t =
      sym (Reading.wires_refused ed n s p r.were_read (rw count l) h (sym (t.reading (wires_held A i) r.marks)))

  -- a byte follows the last wire that there is room for
  pub so_far_full : i ≡ max_wires → o < length s → refused 7 o ≡ read_wires max_wires ed n [] s p
  so_far_full e h = sym (Reading.wires_full ed n s p r.were_read (count ∙ e) h)

  -- the bytes are ended
  pub so_far_ended : i ≤ max_wires → length s ≤ o → found (wires_held A i) (length s) ≡ read_wires max_wires ed n [] s p
  so_far_ended l h =
      let e : length s ≡ o = omega (arith, r.inside) in
      rw e (sym (Reading.wires_ended ed n s p r.were_read (rw count l) h))
