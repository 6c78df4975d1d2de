-- Reading one field at a time, for loops that store what they read: the invariants that hold when so many gates or wires are read, and the laws that carry them on, end them, or refuse the whole.
-- Assumes nothing.
use mathlib.Core.Path.{◌≡◌, refl, sym, ◌∙◌, ap, subst, subst₂}
use mathlib.Core.List.{List, [], ◌∷◌, ◌++◌, append-nil, reverse, reverse-append}
use mathlib.Core.Bool.{true, false}
use lib.Dec.{leb}
use Prim.Native.Nat.{ℕ, zero, suc, ◌+◌, ◌-◌, ◌<◌, ◌≤◌}
use native.Mathlib.Nat.{not-suc-le-zero, le_of_suc-le-suc, suc-add}
use native.Mathlib.Omega.{arith}
use lib.ListN.{length, length-append}
use lib.Seq.{append_snoc}
use borrow.Author.Tests.{le-leb, lt-leb, leb-true, leb-false}
use Rattle.lists.proofs.Bool.{cases}
use Rattle.model.proofs.Every.{some_reverse}
use Rattle.model.proofs.Fault.{found_inside}
use Rattle.model.specs.Limits.{max_wires}
use Rattle.model.specs.Block.{Wire}
use Rattle.model.specs.Netlist.{DrawnGate, Netlist, block_of}
use Rattle.model.specs.declared.Field.{Field}
use Rattle.model.specs.declared.Field.TheVariants.{NoHeader, NoBody, Whole}
use Rattle.model.specs.Field.{field_at, body_at}
use Rattle.model.specs.File.{gate, wire, block, Header, Reading, found, refused, and_then, read_field, read_gates, read_wires, netlist, decode, same_ends, says, fault_of, fault, read_block}

-- WHAT READING CAME TO. Something was found, and reading went on from there ..
pub record Before {A B : Type 0} (r : Reading A) (next : A → ℕ → Reading B) (end : Reading B) : Type 0 where
  pub value : A
  pub offset : ℕ
  pub was_found : r ≡ found value offset
  pub went_on : next value offset ≡ end

-- .. or it was made into b and reading ended there.
pub record Made {A B : Type 0} (r : Reading A) (f : A → B) (b : B) (p : ℕ) : Type 0 where
  pub value : A
  pub was_found : r ≡ found value p
  pub made : b ≡ f value

module _ {A B : Type 0} where
  pub then_found : (r : Reading A) (next : A → ℕ → Reading B) {b : B} {p : ℕ} → and_then r next ≡ found b p → Before r next (found b p)
  then_found (found a o) next e = record { value = a; offset = o; was_found = refl; went_on = e }
  then_found (refused k o) next e =
      let z : ◌≡◌ {A = ℕ} 0 1 = cc in
      absurd (omega arith)

  pub made_found : (r : Reading A) (f : A → B) {b : B} {p : ℕ} → and_then r (λ (a : A) (o : ℕ). found (f a) o) ≡ found b p → Made r f b p
  made_found (found a o) f {b} {p} e =
      let x : o ≡ p = cc in
      record { value = a; was_found = ap (found a) x; made = cc }
  made_found (refused k o) f e =
      let z : ◌≡◌ {A = ℕ} 0 1 = cc in
      absurd (omega arith)

  -- a refusal comes from the first reading or from what follows
  pub refused_cases : {C : Type 0} (r : Reading A) (next : A → ℕ → Reading B) {k p : ℕ} → and_then r next ≡ refused k p → (r ≡ refused k p → C) → ((a : A) (o : ℕ) → r ≡ found a o → next a o ≡ refused k p → C) → C
  refused_cases (found a o) next e here later = later a o refl e
  refused_cases (refused j o) next {k} {p} e here later =
      let x : j ≡ k = cc in
      let y : o ≡ p = cc in
      here (cc)

  pub made_refused : (r : Reading A) (f : A → B) {k p : ℕ} → and_then r (λ (a : A) (o : ℕ). found (f a) o) ≡ refused k p → r ≡ refused k p
  made_refused (found a o) f e =
      let z : ◌≡◌ {A = ℕ} 0 1 = cc in
      absurd (omega arith)
  made_refused (refused j o) f {k} {p} e =
      let x : j ≡ k = cc in
      let y : o ≡ p = cc in
      cc

-- GATES. While i gates gs are read from p up to o, `read_gates ed i s p ≡ found gs o` holds.
pub read_gates_none : (ed : ℕ) (s : List ℕ) (p : ℕ) → read_gates ed 0 s p ≡ found [] p
unfolding read_gates
read_gates_none ed s p = refl

module _ (ed : ℕ) (s : List ℕ) where
  -- the first of several
  pub read_gates_first : (n p : ℕ) {q o : ℕ} {g : DrawnGate} {gs : List DrawnGate} → read_field (gate ed) s p ≡ found g q → read_gates ed n s q ≡ found gs o → read_gates ed (suc n) s p ≡ found (g ∷ gs) o
  unfolding read_gates
  read_gates_first n p e f = rw (e, f)

  read_gates_first_refused : (n p : ℕ) {k o : ℕ} → read_field (gate ed) s p ≡ refused k o → read_gates ed (suc n) s p ≡ refused k o
  unfolding read_gates
  read_gates_first_refused n p e = rw e

  read_gates_rest_refused : (n p : ℕ) {q k o : ℕ} {g : DrawnGate} → read_field (gate ed) s p ≡ found g q → read_gates ed n s q ≡ refused k o → read_gates ed (suc n) s p ≡ refused k o
  unfolding read_gates
  read_gates_rest_refused n p e f = rw (e, f)

  -- Several gates are read: the first, and then the rest.
  pub record FirstRead (n p : ℕ) (gs : List DrawnGate) (o : ℕ) : Type 0 where
    pub first : DrawnGate
    pub rest : List DrawnGate
    pub behind : ℕ
    pub first_read : read_field (gate ed) s p ≡ found first behind
    pub rest_read : read_gates ed n s behind ≡ found rest o
    pub all : gs ≡ first ∷ rest

  pub read_gates_suc : (n p : ℕ) {gs : List DrawnGate} {o : ℕ} → read_gates ed (suc n) s p ≡ found gs o → FirstRead n p gs o
  unfolding read_gates
  read_gates_suc n p e =
      let x = then_found (read_field (gate ed) s p) (λ (g : DrawnGate) (q : ℕ). and_then (read_gates ed n s q) (λ (hs : List DrawnGate) (r : ℕ). found (g ∷ hs) r)) e in
      let y = made_found (read_gates ed n s x.offset) (λ (hs : List DrawnGate). x.value ∷ hs) x.went_on in
      record {
        first = x.value;
        rest = y.value;
        behind = x.offset;
        first_read = x.was_found;
        rest_read = y.was_found;
        all = y.made;
      }

  pub read_gates_length : (n p : ℕ) {gs : List DrawnGate} {o : ℕ} → read_gates ed n s p ≡ found gs o → length gs ≡ n
  unfolding read_gates
  read_gates_length zero p {gs} e =
      let x : gs ≡ [] = cc in
      ap length x
  read_gates_length (suc n) p {gs} e =
      let f = read_gates_suc n p e in
      ap length f.all ∙ ap suc (read_gates_length n f.behind f.rest_read)

  -- gates read lie in the list
  pub read_gates_inside : (n p : ℕ) {gs : List DrawnGate} {o : ℕ} → p ≤ length s → read_gates ed n s p ≡ found gs o → o ≤ length s
  read_gates_inside zero p {gs} {o} h e =
      let x : found [] p ≡ found gs o = sym (read_gates_none ed s p) ∙ e in
      let b : p ≡ o = cc in
      omega arith
  read_gates_inside (suc n) p h e =
      let f = read_gates_suc n p e in
      read_gates_inside n f.behind (found_inside (gate ed) s p f.first_read) f.rest_read

  -- the next gate is found ..
  pub read_gates_more : (i p : ℕ) {gs : List DrawnGate} {g : DrawnGate} {o q : ℕ} → read_gates ed i s p ≡ found gs o → read_field (gate ed) s o ≡ found g q → read_gates ed (i + 1) s p ≡ found (gs ++ (g ∷ [])) q
  read_gates_more zero p {gs} {g} {o} {q} e f =
      let x : found [] p ≡ found gs o = sym (read_gates_none ed s p) ∙ e in
      let a : gs ≡ [] = cc in
      let b : p ≡ o = cc in
      rw (a, b) (read_gates_first 0 o f (read_gates_none ed s q))
  read_gates_more (suc i) p {gs} {g} {o} {q} e f =
      let h = read_gates_suc i p e in
      let r = read_gates_more i h.behind h.rest_read f in
      rw (h.all, suc-add i 1) (read_gates_first (i + 1) p h.first_read r)

  -- .. or refused, and then all of them are refused alike
  pub read_gates_refused : (i n p : ℕ) {gs : List DrawnGate} {k o q : ℕ} → i < n → read_gates ed i s p ≡ found gs o → read_field (gate ed) s o ≡ refused k q → read_gates ed n s p ≡ refused k q
  read_gates_refused i zero p h e f = absurd (not-suc-le-zero h)
  read_gates_refused zero (suc n) p {gs} {k} {o} h e f =
      let x : found [] p ≡ found gs o = sym (read_gates_none ed s p) ∙ e in
      let b : p ≡ o = cc in
      rw b (read_gates_first_refused n o f)
  read_gates_refused (suc i) (suc n) p h e f =
      let r = read_gates_suc i p e in
      read_gates_rest_refused n p r.first_read (read_gates_refused i n r.behind (le_of_suc-le-suc h) r.rest_read f)

-- WIRES, from o on with room for so many: the bytes are ended, the wires are full, the next one is refused, reading goes on.
module _ (ed n : ℕ) (seen : List Wire) (s : List ℕ) (o : ℕ) where
  pub read_wires_ended : (room : ℕ) → length s ≤ o → read_wires room ed n seen s o ≡ found [] o
  unfolding read_wires
  read_wires_ended zero h = rw (le-leb (length s) o h)
  read_wires_ended (suc room) h = rw (le-leb (length s) o h, read_wires)

  pub read_wires_full : o < length s → read_wires 0 ed n seen s o ≡ refused 7 o
  unfolding read_wires
  read_wires_full h = rw (lt-leb (length s) o h)

  pub read_wires_next : (room : ℕ) → o < length s → read_wires (suc room) ed n seen s o
      ≡ and_then (read_field (wire ed n seen) s o) (λ (w : Wire) (p : ℕ). and_then (read_wires room ed n (w ∷ seen) s p) (λ (ws : List Wire) (q : ℕ). found (w ∷ ws) q))
  unfolding read_wires
  read_wires_next room h = rw (lt-leb (length s) o h, read_wires)

  pub read_wires_refused : (room : ℕ) {k q : ℕ} → o < length s → read_field (wire ed n seen) s o ≡ refused k q → read_wires (suc room) ed n seen s o ≡ refused k q
  read_wires_refused room h e = read_wires_next room h ∙ rw e

  pub read_wires_went_on : (room : ℕ) {w : Wire} {q : ℕ} → o < length s → read_field (wire ed n seen) s o ≡ found w q → read_wires (suc room) ed n seen s o
      ≡ and_then (read_wires room ed n (w ∷ seen) s q) (λ (ws : List Wire) (r : ℕ). found (w ∷ ws) r)
  read_wires_went_on room h e = read_wires_next room h ∙ rw e

-- Wires ws were found from o up to p, with room for so many: the bytes are ended, or a wire is found and then the rest.
pub data WiresFound (ed n : ℕ) (s : List ℕ) : ℕ → List Wire → ℕ → List Wire → ℕ → Type 0 where
  ended : {room : ℕ} {seen : List Wire} {o : ℕ} → length s ≤ o → WiresFound ed n s room seen o [] o
  next : {room : ℕ} {seen : List Wire} {o : ℕ} {w : Wire} {q : ℕ} {ws : List Wire} {p : ℕ} → o < length s → read_field (wire ed n seen) s o ≡ found w q → WiresFound ed n s room (w ∷ seen) q ws p → WiresFound ed n s (suc room) seen o (w ∷ ws) p

ended_found : (ed n : ℕ) (s : List ℕ) (room : ℕ) (seen : List Wire) (o : ℕ) {ws : List Wire} {p : ℕ} → length s ≤ o → read_wires room ed n seen s o ≡ found ws p → WiresFound ed n s room seen o ws p
ended_found ed n s room seen o {ws} {p} h e =
    let f : found [] o ≡ found ws p = sym (read_wires_ended ed n seen s o room h) ∙ e in
    let a : [] ≡ ws = cc in
    let b : o ≡ p = cc in
    subst₂ (λ (l : List Wire) (q : ℕ). WiresFound ed n s room seen o l q) a b (ended h)

next_found : (ed n : ℕ) (s : List ℕ) (room : ℕ) (seen : List Wire) (o : ℕ) (vs : List Wire) {w : Wire} {q : ℕ} {ws : List Wire} {p : ℕ} → o < length s → read_field (wire ed n seen) s o ≡ found w q → WiresFound ed n s room (w ∷ seen) q vs p → ws ≡ w ∷ vs → WiresFound ed n s (suc room) seen o ws p
next_found ed n s room seen o vs {p = p} h e f m = subst (λ (l : List Wire). WiresFound ed n s (suc room) seen o l p) (sym m) (next h e f)

pub wires_found : (ed n : ℕ) (s : List ℕ) (room : ℕ) (seen : List Wire) (o : ℕ) {ws : List Wire} {p : ℕ} → read_wires room ed n seen s o ≡ found ws p → WiresFound ed n s room seen o ws p
wires_found ed n s zero seen o {ws} {p} e =
    cases (leb (length s) o)
    (λ (t : leb (length s) o ≡ true). ended_found ed n s zero seen o (leb-true (length s) o t) e)
    (λ (t : leb (length s) o ≡ false).
    let f : refused 7 o ≡ found ws p = sym (read_wires_full ed n seen s o (leb-false (length s) o t)) ∙ e in
    let z : ◌≡◌ {A = ℕ} 0 1 = cc in
    absurd (omega arith))
wires_found ed n s (suc room) seen o {ws} {p} e =
    cases (leb (length s) o)
    (λ (t : leb (length s) o ≡ true). ended_found ed n s (suc room) seen o (leb-true (length s) o t) e)
    (λ (t : leb (length s) o ≡ false).
    let h : o < length s = leb-false (length s) o t in
    let x = then_found (read_field (wire ed n seen) s o) (λ (w : Wire) (q : ℕ). and_then (read_wires room ed n (w ∷ seen) s q) (λ (vs : List Wire) (r : ℕ). found (w ∷ vs) r)) (sym (read_wires_next ed n seen s o room h) ∙ e) in
    let y = made_found (read_wires room ed n (x.value ∷ seen) s x.offset) (λ (vs : List Wire). x.value ∷ vs) x.went_on in
    next_found ed n s room seen o y.value h x.was_found (wires_found ed n s room (x.value ∷ seen) x.offset y.was_found) y.made)

-- wires found end with the bytes
pub wires_found_end : {ed n : ℕ} {s : List ℕ} {room : ℕ} {seen : List Wire} {o : ℕ} {ws : List Wire} {p : ℕ} → WiresFound ed n s room seen o ws p → o ≤ length s → p ≡ length s
wires_found_end (ended h) l = omega arith
wires_found_end {ed = ed} {n = n} {s = s} (next {seen = seen} {o = o} h e f) l = wires_found_end f (found_inside (wire ed n seen) s o e)

-- The wires ws were read from p up to o: reading all of them is reading on from o, with ws in front.
pub record WiresRead (ed n : ℕ) (s : List ℕ) (p : ℕ) (ws : List Wire) (o : ℕ) : Type 0 where
  pub reads_on : (room : ℕ) → room + length ws ≡ max_wires → read_wires max_wires ed n [] s p
      ≡ and_then (read_wires room ed n (reverse ws) s o) (λ (more : List Wire) (q : ℕ). found (ws ++ more) q)

-- the wires seen may be searched in file order
module _ (ed n : ℕ) (ws : List Wire) where
  fault_of_in_file_order : (f : Field) (b : List ℕ) → fault_of (wire ed n (reverse ws)) f b ≡ fault_of (wire ed n ws) f b
  fault_of_in_file_order NoHeader b = refl
  fault_of_in_file_order (NoBody tag len) b = refl
  fault_of_in_file_order (Whole tag x y) b = rw (some_reverse (same_ends (says (wire ed n ws) b)) ws)

  pub read_in_file_order : (s : List ℕ) (o : ℕ) → read_field (wire ed n (reverse ws)) s o ≡ read_field (wire ed n ws) s o
  unfolding read_field fault
  read_in_file_order s o = rw (fault_of_in_file_order (field_at s o) (body_at s o))

nothing_in_front : (r : Reading (List Wire)) → r ≡ and_then r (λ (more : List Wire) (q : ℕ). found more q)
nothing_in_front (found ws q) = refl
nothing_in_front (refused k q) = refl

one_more_in_front : (ws : List Wire) (w : Wire) (r : Reading (List Wire)) → and_then (and_then r (λ (more : List Wire) (q : ℕ). found (w ∷ more) q)) (λ (more : List Wire) (q : ℕ). found (ws ++ more) q)
    ≡ and_then r (λ (more : List Wire) (q : ℕ). found (ws ++ (w ∷ []) ++ more) q)
one_more_in_front ws w (found more q) = ap (λ (l : List Wire). found l q) (sym (append_snoc ws w more))
one_more_in_front ws w (refused k q) = refl

module _ (ed n : ℕ) (s : List ℕ) (p : ℕ) where
  pub wires_none : WiresRead ed n s p [] p
  wires_none = record {
    reads_on = λ (room : ℕ) (h : room + 0 ≡ max_wires).
        let e : room ≡ max_wires = omega arith in
        rw e (nothing_in_front (read_wires max_wires ed n [] s p));
  }

  module _ {ws : List Wire} {o : ℕ} (r : WiresRead ed n s p ws o) where
    -- the bytes are ended: these are the wires
    pub wires_ended : length ws ≤ max_wires → length s ≤ o → read_wires max_wires ed n [] s p ≡ found ws o
    wires_ended l h =
        let e : max_wires - length ws + length ws ≡ max_wires = omega arith in
        r.reads_on (max_wires - length ws) e ∙ rw (read_wires_ended ed n (reverse ws) s o (max_wires - length ws) h, append-nil ws)

    -- a byte follows the last wire that there is room for
    pub wires_full : length ws ≡ max_wires → o < length s → read_wires max_wires ed n [] s p ≡ refused 7 o
    wires_full l h = r.reads_on 0 (omega arith) ∙ rw (read_wires_full ed n (reverse ws) s o h)

    -- the next wire is refused
    pub wires_refused : {k q : ℕ} → length ws < max_wires → o < length s → read_field (wire ed n ws) s o ≡ refused k q → read_wires max_wires ed n [] s p ≡ refused k q
    wires_refused l h e =
        let f : suc (max_wires - suc (length ws)) + length ws ≡ max_wires = omega arith in
        r.reads_on (suc (max_wires - suc (length ws))) f
        ∙ rw (read_wires_refused ed n (reverse ws) s o (max_wires - suc (length ws)) h (read_in_file_order ed n ws s o ∙ e))

    -- the next wire is found
    pub wires_more : {w : Wire} {q : ℕ} → o < length s → read_field (wire ed n ws) s o ≡ found w q → WiresRead ed n s p (ws ++ (w ∷ [])) q
    wires_more {w} {q} h e = record {
      reads_on = λ (room : ℕ) (l : room + length (ws ++ (w ∷ [])) ≡ max_wires).
          let f : suc room + length ws ≡ max_wires = omega (arith, length-append ws (w ∷ [])) in
          r.reads_on (suc room) f
          ∙ rw (read_wires_went_on ed n (reverse ws) s o room h (read_in_file_order ed n ws s o ∙ e), reverse-append ws (w ∷ []))
          (one_more_in_front ws w (read_wires room ed n (w ∷ reverse ws) s q));
    }

-- THE WHOLE FILE, by what reading its parts comes to.
module _ (s : List ℕ) where
  pub decode_block_refused : {k o : ℕ} → read_field block s 0 ≡ refused k o → decode s ≡ refused k o
  unfolding decode
  decode_block_refused e = rw e

  module _ {h : Header} {o : ℕ} (e : read_field block s 0 ≡ found h o) where
    pub decode_gates_refused : {k p : ℕ} → read_gates h.edition h.gate_count s o ≡ refused k p → decode s ≡ refused k p
    unfolding decode
    decode_gates_refused f = rw (e, f)

    module _ {gs : List DrawnGate} {p : ℕ} (f : read_gates h.edition h.gate_count s o ≡ found gs p) where
      pub decode_wires_refused : {k q : ℕ} → read_wires max_wires h.edition h.gate_count [] s p ≡ refused k q → decode s ≡ refused k q
      unfolding decode
      decode_wires_refused g = rw (e, f, g)

      pub decode_found : {ws : List Wire} {q : ℕ} → read_wires max_wires h.edition h.gate_count [] s p ≡ found ws q → decode s ≡ found (netlist h gs ws) q
      unfolding decode
      decode_found g = rw (e, f, g)

-- A netlist was found: its block field, its gates and its wires were.
pub record Decoded (s : List ℕ) (N : Netlist) (o : ℕ) : Type 0 where
  pub header : Header
  pub gates_at : ℕ
  pub gates : List DrawnGate
  pub wires_at : ℕ
  pub wires : List Wire
  pub header_read : read_field block s 0 ≡ found header gates_at
  pub gates_read : read_gates header.edition header.gate_count s gates_at ≡ found gates wires_at
  pub wires_read : read_wires max_wires header.edition header.gate_count [] s wires_at ≡ found wires o
  pub all : N ≡ netlist header gates wires

pub decoded_is : (s : List ℕ) {N : Netlist} {o : ℕ} → decode s ≡ found N o → Decoded s N o
unfolding decode
decoded_is s e =
    let x = then_found (read_field block s 0) (λ (h : Header) (o : ℕ). and_then (read_gates h.edition h.gate_count s o) (λ (gs : List DrawnGate) (p : ℕ). and_then (read_wires max_wires h.edition h.gate_count [] s p) (λ (ws : List Wire) (q : ℕ). found (netlist h gs ws) q))) e in
    let h = x.value in
    let y = then_found (read_gates h.edition h.gate_count s x.offset) (λ (gs : List DrawnGate) (p : ℕ). and_then (read_wires max_wires h.edition h.gate_count [] s p) (λ (ws : List Wire) (q : ℕ). found (netlist h gs ws) q)) x.went_on in
    let z = made_found (read_wires max_wires h.edition h.gate_count [] s y.offset) (netlist h y.value) y.went_on in
    record {
      header = h;
      gates_at = x.offset;
      gates = y.value;
      wires_at = y.offset;
      wires = z.value;
      header_read = x.was_found;
      gates_read = y.was_found;
      wires_read = z.was_found;
      all = z.made;
    }

-- a file that is decoded is read to its end
pub decoded_to_end : (s : List ℕ) {N : Netlist} {o : ℕ} → decode s ≡ found N o → o ≡ length s
decoded_to_end s e =
    let d = decoded_is s e in
    let a : d.gates_at ≤ length s = found_inside block s 0 d.header_read in
    let b : d.wires_at ≤ length s = read_gates_inside d.header.edition s d.header.gate_count d.gates_at a d.gates_read in
    wires_found_end (wires_found d.header.edition d.header.gate_count s max_wires [] d.wires_at d.wires_read) b

-- the block of a file that is decoded, and of one that is refused
module _ (s : List ℕ) where
  pub read_block_found : {N : Netlist} {o : ℕ} → decode s ≡ found N o → read_block s ≡ found (block_of N) o
  unfolding read_block
  read_block_found e = rw e

  pub read_block_refused : {k o : ℕ} → decode s ≡ refused k o → read_block s ≡ refused k o
  unfolding read_block
  read_block_refused e = rw e
