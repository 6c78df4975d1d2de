-- The fault of the field at an offset, by its cases for code that reads the field, and what a field without fault is; then the same of `read_field`.
-- Assumes nothing.
use mathlib.Core.Path.{◌≡◌, refl, sym, ◌∙◌}
use mathlib.Core.List.{List}
use mathlib.Core.Bool.{Bool, true, false}
use Prim.Native.Nat.{ℕ, zero, suc, ◌<◌, ◌≤◌}
use native.Mathlib.Omega.{arith}
use lib.Dec.{T, leb, eqb, eqb→eq, lit≤}
use lib.ListN.{length, get_or}
use borrow.Author.Tests.{leb-true, leb-false, eq-eqb}
use Rattle.lists.proofs.Bool.{cases, is_true}
use Rattle.model.proofs.Fields.{header_cut, body_cut, whole, whole_is}
use Rattle.model.specs.declared.Field.TheVariants.{NoHeader, NoBody, Whole}
use Rattle.model.specs.Field.{length_at, body_from, body_to, field_at, body_at}
use Rattle.model.specs.File.{Due, Value, found, refused, tag_of, length_fits, says, in_range, drops_fall, is_fresh, unless, fault, read_field}

unless_0 : (b : Bool) (j : ℕ) {further : ℕ} → unless b (suc j) further ≡ 0 → T b × (further ≡ 0)
unless_0 true j e = (tt, e)
unless_0 false j e = absurd (omega arith)

unless_not_0 : (a b : Bool) → unless a 2 (unless b 3 1) ≡ 0 → ⊥
unless_not_0 true true e = omega arith
unless_not_0 true false e = omega arith
unless_not_0 false b e = omega arith

unless_at_most : (b : Bool) {j further : ℕ} → j ≤ 6 → further ≤ 6 → unless b j further ≤ 6
unless_at_most true h l = l
unless_at_most false h l = h

module _ (k : Due) (s : List ℕ) (o : ℕ) where
  pub fault_header_cut : length s < body_from o → fault k s o ≡ 1
  unfolding fault
  fault_header_cut h = rw (header_cut s o h)

  pub fault_body_cut : body_from o ≤ length s → length s < body_to s o → fault k s o ≡ unless (eqb (get_or s o 0) (tag_of k)) 2 (unless (length_fits k (length_at s o)) 3 1)
  unfolding fault
  fault_body_cut h l = rw (body_cut s o h l)

  -- the tests of a whole field in their order
  abbrev pub fault_in_whole : ℕ
  fault_in_whole =
      unless (eqb (get_or s o 0) (tag_of k)) 2
      (unless (length_fits k (length (body_at s o))) 3
      (unless (in_range k (says k (body_at s o))) 4
      (unless (drops_fall k (says k (body_at s o))) 5 (unless (is_fresh k (says k (body_at s o))) 6 0))))

  pub fault_whole : body_to s o ≤ length s → fault k s o ≡ fault_in_whole
  unfolding fault
  fault_whole h = rw (whole s o h)

  -- the same by the field that was found at o
  pub fault_no_header : field_at s o ≡ NoHeader → fault k s o ≡ 1
  unfolding fault
  fault_no_header e = rw e

  pub fault_no_body : {tag len : ℕ} → field_at s o ≡ NoBody tag len → fault k s o ≡ unless (eqb tag (tag_of k)) 2 (unless (length_fits k len) 3 1)
  unfolding fault
  fault_no_body e = rw e

  pub fault_in_body : {tag a b : ℕ} → field_at s o ≡ Whole tag a b → fault k s o ≡ fault_in_whole
  fault_in_body e =
      let w = whole_is s o e in
      fault_whole (omega (arith, w.to_is, w.inside))

  -- The field at o, where k is due, has no fault.
  pub record Faultless : Type 0 where
    pub inside : body_to s o ≤ length s
    pub tag_due : get_or s o 0 ≡ tag_of k
    pub length_due : T (length_fits k (length (body_at s o)))
    pub ranges : T (in_range k (says k (body_at s o)))
    pub drops : T (drops_fall k (says k (body_at s o)))
    pub unseen : T (is_fresh k (says k (body_at s o)))

  pub faultless_is_0 : Faultless → fault k s o ≡ 0
  faultless_is_0 f =
      fault_whole f.inside
      ∙ rw (
        eq-eqb (get_or s o 0) (tag_of k) f.tag_due,
        is_true (length_fits k (length (body_at s o))) f.length_due,
        is_true (in_range k (says k (body_at s o))) f.ranges,
        is_true (drops_fall k (says k (body_at s o))) f.drops,
        is_true (is_fresh k (says k (body_at s o))) f.unseen,
      )

  -- a cut field has a fault
  cut_has_fault : length s < body_to s o → fault k s o ≡ 0 → ⊥
  cut_has_fault h e =
      cases (leb (body_from o) (length s))
      (λ (t : leb (body_from o) (length s) ≡ true).
      unless_not_0 (eqb (get_or s o 0) (tag_of k)) (length_fits k (length_at s o)) (sym (fault_body_cut (leb-true (body_from o) (length s) t) h) ∙ e))
      (λ (t : leb (body_from o) (length s) ≡ false).
      let f : fault k s o ≡ 1 = fault_header_cut (leb-false (body_from o) (length s) t) in
      omega arith)

  whole_from_0 : body_to s o ≤ length s → fault k s o ≡ 0 → Faultless
  whole_from_0 h e =
      let a = unless_0 (eqb (get_or s o 0) (tag_of k)) 1 (sym (fault_whole h) ∙ e) in
      let b = unless_0 (length_fits k (length (body_at s o))) 2 a.1 in
      let c = unless_0 (in_range k (says k (body_at s o))) 3 b.1 in
      let d = unless_0 (drops_fall k (says k (body_at s o))) 4 c.1 in
      let f = unless_0 (is_fresh k (says k (body_at s o))) 5 d.1 in
      record { inside = h; tag_due = eqb→eq (get_or s o 0) (tag_of k) a.0; length_due = b.0; ranges = c.0; drops = d.0; unseen = f.0 }

  pub faultless_from_0 : fault k s o ≡ 0 → Faultless
  faultless_from_0 e =
      cases (leb (body_to s o) (length s))
      (λ (t : leb (body_to s o) (length s) ≡ true). whole_from_0 (leb-true (body_to s o) (length s) t) e)
      (λ (t : leb (body_to s o) (length s) ≡ false). absurd (cut_has_fault (leb-false (body_to s o) (length s) t) e))

  -- no field has the fault 7
  pub fault_at_most_6 : fault k s o ≤ 6
  fault_at_most_6 =
      cases (leb (body_to s o) (length s))
      (λ (t : leb (body_to s o) (length s) ≡ true).
      rw (fault_whole (leb-true (body_to s o) (length s) t))
      (unless_at_most (eqb (get_or s o 0) (tag_of k)) (lit≤ tt)
      (unless_at_most (length_fits k (length (body_at s o))) (lit≤ tt)
      (unless_at_most (in_range k (says k (body_at s o))) (lit≤ tt)
      (unless_at_most (drops_fall k (says k (body_at s o))) (lit≤ tt) (unless_at_most (is_fresh k (says k (body_at s o))) (lit≤ tt) (lit≤ tt)))))))
      (λ (u : leb (body_to s o) (length s) ≡ false).
      cases (leb (body_from o) (length s))
      (λ (t : leb (body_from o) (length s) ≡ true).
      rw (fault_body_cut (leb-true (body_from o) (length s) t) (leb-false (body_to s o) (length s) u))
      (unless_at_most (eqb (get_or s o 0) (tag_of k)) (lit≤ tt) (unless_at_most (length_fits k (length_at s o)) (lit≤ tt) (lit≤ tt))))
      (λ (t : leb (body_from o) (length s) ≡ false). rw (fault_header_cut (leb-false (body_from o) (length s) t)) (lit≤ tt)))

  -- READING THE FIELD: a field without fault is found, one with a fault refused, and the other way.
  pub read_found : fault k s o ≡ 0 → read_field k s o ≡ found (says k (body_at s o)) (body_to s o)
  unfolding read_field
  read_found e = rw e

  pub read_refused : {j : ℕ} → fault k s o ≡ suc j → read_field k s o ≡ refused (suc j) o
  unfolding read_field
  read_refused e = rw e

  -- The field at o has no fault, says v and ends at p.
  pub record Found (v : Value k) (p : ℕ) : Type 0 where
    pub no_fault : fault k s o ≡ 0
    pub says_it : v ≡ says k (body_at s o)
    pub ends : p ≡ body_to s o

  pub found_is : {v : Value k} {p : ℕ} → read_field k s o ≡ found v p → Found v p
  found_is {v} {p} e = go (fault k s o) refl
    where
      go : (j : ℕ) → fault k s o ≡ j → Found v p
      go zero f =
          let r : read_field k s o ≡ found (says k (body_at s o)) (body_to s o) = read_found f in
          record { no_fault = f; says_it = cc; ends = cc }
      go (suc j) f =
          let r : read_field k s o ≡ refused (suc j) o = read_refused f in
          let z : ◌≡◌ {A = ℕ} 0 1 = cc in
          absurd (omega arith)

  -- The field at o has the fault j, and is refused there.
  pub record Refused (j p : ℕ) : Type 0 where
    pub has_fault : fault k s o ≡ j
    pub at_fault : 0 < j
    pub place : p ≡ o

  pub refused_is : {j p : ℕ} → read_field k s o ≡ refused j p → Refused j p
  refused_is {j} {p} e = go (fault k s o) refl
    where
      go : (i : ℕ) → fault k s o ≡ i → Refused j p
      go zero f =
          let r : read_field k s o ≡ found (says k (body_at s o)) (body_to s o) = read_found f in
          let z : ◌≡◌ {A = ℕ} 0 1 = cc in
          absurd (omega arith)
      go (suc i) f =
          let r : read_field k s o ≡ refused (suc i) o = read_refused f in
          let x : suc i ≡ j = cc in
          record { has_fault = f ∙ x; at_fault = omega arith; place = cc }

  -- a field found lies in the list, and is no shorter than its header
  pub found_inside : {v : Value k} {p : ℕ} → read_field k s o ≡ found v p → p ≤ length s
  found_inside e =
      let f = found_is e in
      let h = (faultless_from_0 f.no_fault).inside in
      omega (arith, f.ends)

  pub found_ahead : {v : Value k} {p : ℕ} → read_field k s o ≡ found v p → body_from o ≤ p
  found_ahead e =
      let f = found_is e in
      omega (arith, f.ends)
