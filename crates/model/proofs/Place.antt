-- The place of a refusal of 1 to 7 is the offset of the field at fault, before which every field is faultless (document 01, "Refusals and their places"): `refused_at_fault`, and the other way `at_fault_refused`.
-- The idea: a data type of the places to which faultless fields lead; `decode` walks along them.
-- Assumes nothing.
use mathlib.Core.Path.{◌≡◌, refl, sym, ◌∙◌, ap, subst, subst₂}
use mathlib.Core.List.{List, [], ◌∷◌, ◌++◌, reverse, reverse-append}
use mathlib.Core.Bool.{true, false}
use Prim.Native.Nat.{ℕ, zero, suc, ◌+◌, ◌<◌, ◌≤◌}
use native.Mathlib.Omega.{arith}
use lib.Dec.{leb}
use lib.ListN.{length, length-reverse}
use borrow.Author.Tests.{leb-true, leb-false}
use Rattle.lists.proofs.Bool.{cases}
use Rattle.model.proofs.Fault.{faultless_from_0, fault_at_most_6, read_found, read_refused, found_is, refused_is}
use Rattle.model.proofs.Reading.{refused_cases, made_refused, read_gates_none, read_gates_suc, read_gates_more, read_gates_refused, read_wires_ended, read_wires_full, read_wires_next, WiresRead, wires_none, wires_more, wires_full, wires_refused, read_in_file_order, decode_block_refused, decode_gates_refused, decode_wires_refused}
use Rattle.model.specs.Limits.{max_wires}
use Rattle.model.specs.Block.{Wire}
use Rattle.model.specs.Netlist.{DrawnGate, Netlist}
use Rattle.model.specs.Field.{body_at, body_to}
use Rattle.model.specs.File.{Due, block, gate, wire, Header, Reading, found, refused, and_then, says, fault, read_field, read_gates, read_wires, netlist, decode}

-- How far reading has come: before the block field; in a file of an edition, before the last so many of n gates; or there before the wires of n gates that follow those seen.
pub data Stage : Type 0 where
  at_block : Stage
  at_gates : ℕ → ℕ → ℕ → Stage
  at_wires : ℕ → ℕ → List Wire → Stage

-- Reading has come to the offset: every field before it is due there and has no fault.
pub data Passed (s : List ℕ) : Stage → ℕ → Type 0 where
  none_passed : Passed s at_block 0
  block_passed : fault block s 0 ≡ 0 → Passed s (at_gates (says block (body_at s 0)).edition (says block (body_at s 0)).gate_count (says block (body_at s 0)).gate_count) (body_to s 0)
  gate_passed : {ed n left o : ℕ} → Passed s (at_gates ed n (suc left)) o → fault (gate ed) s o ≡ 0 → Passed s (at_gates ed n left) (body_to s o)
  gates_passed : {ed n o : ℕ} → Passed s (at_gates ed n 0) o → Passed s (at_wires ed n []) o
  wire_passed : {ed n o : ℕ} {seen : List Wire} → Passed s (at_wires ed n seen) o → length seen < max_wires → o < length s → fault (wire ed n seen) s o ≡ 0 → Passed s (at_wires ed n (says (wire ed n seen) (body_at s o) ∷ seen)) (body_to s o)

-- What is due at the offset: all before has passed, and a wire is due only where a byte is left and there is room for it.
pub data Reached (s : List ℕ) : Due → ℕ → Type 0 where
  block_due : Reached s block 0
  gate_due : {ed n left o : ℕ} → Passed s (at_gates ed n (suc left)) o → Reached s (gate ed) o
  wire_due : {ed n o : ℕ} {seen : List Wire} → Passed s (at_wires ed n seen) o → length seen < max_wires → o < length s → Reached s (wire ed n seen) o

-- The file is at fault at the offset: the field due there has the fault k, or a byte follows the last wire that there is room for.
pub data AtFault (s : List ℕ) : ℕ → ℕ → Type 0 where
  faulty : {d : Due} {k o : ℕ} → Reached s d o → fault d s o ≡ suc k → AtFault s (suc k) o
  excess : {ed n o : ℕ} {seen : List Wire} → Passed s (at_wires ed n seen) o → length seen ≡ max_wires → o < length s → AtFault s 7 o

-- FROM REFUSAL TO FAULT
refused_faulty : {s : List ℕ} (d : Due) (o k : ℕ) {p : ℕ} → Reached s d o → read_field d s o ≡ refused k p → AtFault s k p
refused_faulty {s} d o zero r e = absurd (omega (arith, (refused_is d s o e).at_fault))
refused_faulty {s} d o (suc k) {p} r e =
    let f = refused_is d s o e in
    subst (AtFault s (suc k)) (sym f.place) (faulty r f.has_fault)

pub block_found : {s : List ℕ} {h : Header} {p : ℕ} → read_field block s 0 ≡ found h p → Passed s (at_gates h.edition h.gate_count h.gate_count) p
block_found {s} e =
    let f = found_is block s 0 e in
    subst₂ (λ (x : Header) (q : ℕ). Passed s (at_gates x.edition x.gate_count x.gate_count) q) (sym f.says_it) (sym f.ends) (block_passed f.no_fault)

gate_found : {s : List ℕ} {ed n left o : ℕ} {g : DrawnGate} {p : ℕ} → Passed s (at_gates ed n (suc left)) o → read_field (gate ed) s o ≡ found g p → Passed s (at_gates ed n left) p
gate_found {s} {ed} {n} {left} {o} r e =
    let f = found_is (gate ed) s o e in
    subst (Passed s (at_gates ed n left)) (sym f.ends) (gate_passed r f.no_fault)

pub wire_found : {s : List ℕ} {ed n o : ℕ} {seen : List Wire} {w : Wire} {p : ℕ} → Passed s (at_wires ed n seen) o → length seen < max_wires → o < length s → read_field (wire ed n seen) s o ≡ found w p → Passed s (at_wires ed n (w ∷ seen)) p
wire_found {s} {ed} {n} {o} {seen} r l h e =
    let f = found_is (wire ed n seen) s o e in
    subst₂ (λ (x : Wire) (q : ℕ). Passed s (at_wires ed n (x ∷ seen)) q) (sym f.says_it) (sym f.ends) (wire_passed r l h f.no_fault)

pub gates_found : {s : List ℕ} {ed n : ℕ} (left o : ℕ) {gs : List DrawnGate} {p : ℕ} → Passed s (at_gates ed n left) o → read_gates ed left s o ≡ found gs p → Passed s (at_wires ed n []) p
gates_found {s} {ed} {n} zero o {gs} {p} r e =
    let f : found [] o ≡ found gs p = sym (read_gates_none ed s o) ∙ e in
    let b : o ≡ p = cc in
    subst (Passed s (at_wires ed n [])) b (gates_passed r)
gates_found {s} {ed} (suc left) o r e =
    let f = read_gates_suc ed s left o e in
    gates_found left f.behind (gate_found r f.first_read) f.rest_read

found_not_refused : {A B : Type 0} {a : A} {o k p : ℕ} → ◌≡◌ {A = Reading A} (found a o) (refused k p) → B
found_not_refused e =
    let z : ◌≡◌ {A = ℕ} 0 1 = cc in
    absurd (omega arith)

gates_at_fault : {s : List ℕ} {ed n : ℕ} (left o : ℕ) {k p : ℕ} → Passed s (at_gates ed n left) o → read_gates ed left s o ≡ refused k p → AtFault s k p
unfolding read_gates
gates_at_fault zero o r e = found_not_refused e
gates_at_fault {s} {ed} (suc left) o {k} {p} r e =
    refused_cases (read_field (gate ed) s o) (λ (g : DrawnGate) (q : ℕ). and_then (read_gates ed left s q) (λ (gs : List DrawnGate) (t : ℕ). found (g ∷ gs) t)) e
    (refused_faulty (gate ed) o k (gate_due r))
    (λ g q f later. gates_at_fault left q (gate_found r f) (made_refused (read_gates ed left s q) (λ (gs : List DrawnGate). g ∷ gs) later))

wires_at_fault : {s : List ℕ} {ed n : ℕ} (room o : ℕ) {seen : List Wire} {k p : ℕ} → Passed s (at_wires ed n seen) o → room + length seen ≡ max_wires → read_wires room ed n seen s o ≡ refused k p → AtFault s k p
wires_at_fault {s} {ed} {n} zero o {seen} {k} {p} r l e =
    cases (leb (length s) o)
    (λ (t : leb (length s) o ≡ true). found_not_refused (sym (read_wires_ended ed n seen s o 0 (leb-true (length s) o t)) ∙ e))
    (λ (t : leb (length s) o ≡ false).
    let h : o < length s = leb-false (length s) o t in
    let f : refused 7 o ≡ refused k p = sym (read_wires_full ed n seen s o h) ∙ e in
    let a : 7 ≡ k = cc in
    let b : o ≡ p = cc in
    subst₂ (AtFault s) a b (excess r (omega arith) h))
wires_at_fault {s} {ed} {n} (suc room) o {seen} {k} {p} r l e =
    cases (leb (length s) o)
    (λ (t : leb (length s) o ≡ true). found_not_refused (sym (read_wires_ended ed n seen s o (suc room) (leb-true (length s) o t)) ∙ e))
    (λ (t : leb (length s) o ≡ false).
    let h : o < length s = leb-false (length s) o t in
    let m : length seen < max_wires = omega arith in
    refused_cases (read_field (wire ed n seen) s o) (λ (w : Wire) (q : ℕ). and_then (read_wires room ed n (w ∷ seen) s q) (λ (ws : List Wire) (t : ℕ). found (w ∷ ws) t))
    (sym (read_wires_next ed n seen s o room h) ∙ e)
    (refused_faulty (wire ed n seen) o k (wire_due r m h))
    (λ w q f later. wires_at_fault room q (wire_found r m h f) (omega arith) (made_refused (read_wires room ed n (w ∷ seen) s q) (λ (ws : List Wire). w ∷ ws) later)))

-- A refused file is at fault at the place of the refusal.
pub refused_at_fault : (s : List ℕ) {k o : ℕ} → decode s ≡ refused k o → AtFault s k o
unfolding decode
refused_at_fault s {k} e =
    refused_cases (read_field block s 0) gates_next e (refused_faulty block 0 k block_due)
    (λ h o f later.
    refused_cases (read_gates h.edition h.gate_count s o) (wires_next h) later (gates_at_fault h.gate_count o (block_found f))
    (λ gs p g last.
    wires_at_fault max_wires p (gates_found h.gate_count o (block_found f) g) refl
    (made_refused (read_wires max_wires h.edition h.gate_count [] s p) (netlist h gs) last)))
  where
    wires_next : Header → List DrawnGate → ℕ → Reading Netlist
    wires_next h gs p = and_then (read_wires max_wires h.edition h.gate_count [] s p) (λ (ws : List Wire) (q : ℕ). found (netlist h gs ws) q)

    gates_next : Header → ℕ → Reading Netlist
    gates_next h o = and_then (read_gates h.edition h.gate_count s o) (wires_next h)

-- FROM FAULT TO REFUSAL
-- The block field was read, and so many gates of n.
record AmongGates (s : List ℕ) (ed n left o : ℕ) : Type 0 where
  header : Header
  gates_at : ℕ
  header_read : read_field block s 0 ≡ found header gates_at
  edition_is : header.edition ≡ ed
  count : header.gate_count ≡ n
  so_many : ℕ
  sum : so_many + left ≡ n
  gates : List DrawnGate
  gates_read : read_gates ed so_many s gates_at ≡ found gates o

among_gates : {s : List ℕ} {ed n left o : ℕ} → Passed s (at_gates ed n left) o → AmongGates s ed n left o
among_gates {s} (block_passed f) = record {
  header = says block (body_at s 0);
  gates_at = body_to s 0;
  header_read = read_found block s 0 f;
  edition_is = refl;
  count = refl;
  so_many = 0;
  sum = omega arith;
  gates = [];
  gates_read = read_gates_none (says block (body_at s 0)).edition s (body_to s 0);
}
among_gates {s} {ed} (gate_passed {o = o} r f) =
    let a = among_gates r in
    record {
      header = a.header;
      gates_at = a.gates_at;
      header_read = a.header_read;
      edition_is = a.edition_is;
      count = a.count;
      so_many = a.so_many + 1;
      sum = omega (arith, a.sum);
      gates = a.gates ++ (says (gate ed) (body_at s o) ∷ []);
      gates_read = read_gates_more ed s a.so_many a.gates_at a.gates_read (read_found (gate ed) s o f);
    }

-- The block field was read, all gates, and the wires seen.
record AmongWires (s : List ℕ) (ed n : ℕ) (seen : List Wire) (o : ℕ) : Type 0 where
  header : Header
  gates_at : ℕ
  header_read : read_field block s 0 ≡ found header gates_at
  edition_is : header.edition ≡ ed
  count : header.gate_count ≡ n
  gates : List DrawnGate
  wires_at : ℕ
  gates_read : read_gates ed header.gate_count s gates_at ≡ found gates wires_at
  wires : List Wire
  are_seen : seen ≡ reverse wires
  wires_read : WiresRead ed n s wires_at wires o

in_file_order : {s : List ℕ} {ed n o : ℕ} {seen : List Wire} (a : AmongWires s ed n seen o) → read_field (wire ed n seen) s o ≡ read_field (wire ed n a.wires) s o
in_file_order {s} {ed} {n} {o} a = ap (λ (l : List Wire). read_field (wire ed n l) s o) a.are_seen ∙ read_in_file_order ed n a.wires s o

among_wires : {s : List ℕ} {ed n o : ℕ} {seen : List Wire} → Passed s (at_wires ed n seen) o → AmongWires s ed n seen o
among_wires {s} {ed} {n} {o} (gates_passed r) =
    let a = among_gates r in
    let e : a.so_many ≡ a.header.gate_count = omega (arith, a.sum, a.count) in
    record {
      header = a.header;
      gates_at = a.gates_at;
      header_read = a.header_read;
      edition_is = a.edition_is;
      count = a.count;
      gates = a.gates;
      wires_at = o;
      gates_read = subst (λ (i : ℕ). read_gates ed i s a.gates_at ≡ found a.gates o) e a.gates_read;
      wires = [];
      are_seen = refl;
      wires_read = wires_none ed n s o;
    }
among_wires {s} {ed} {n} (wire_passed {o = o} {seen = seen} r l h f) =
    let a = among_wires r in
    let w : Wire = says (wire ed n seen) (body_at s o) in
    record {
      header = a.header;
      gates_at = a.gates_at;
      header_read = a.header_read;
      edition_is = a.edition_is;
      count = a.count;
      gates = a.gates;
      wires_at = a.wires_at;
      gates_read = a.gates_read;
      wires = a.wires ++ (w ∷ []);
      are_seen = ap (◌∷◌ w) a.are_seen ∙ sym (reverse-append a.wires (w ∷ []));
      wires_read = wires_more ed n s a.wires_at a.wires_read h
          (sym (in_file_order a) ∙ read_found (wire ed n seen) s o f);
    }

length_seen : {s : List ℕ} {ed n o : ℕ} {seen : List Wire} (a : AmongWires s ed n seen o) → length a.wires ≡ length seen
length_seen a = sym (ap length a.are_seen ∙ length-reverse a.wires)

wires_refuse : {s : List ℕ} {ed n o : ℕ} {seen : List Wire} (a : AmongWires s ed n seen o) {k q : ℕ} → read_wires max_wires ed n [] s a.wires_at ≡ refused k q → decode s ≡ refused k q
wires_refuse {s} a e =
    let g : read_gates a.header.edition a.header.gate_count s a.gates_at ≡ found a.gates a.wires_at = rw a.edition_is a.gates_read in
    decode_wires_refused s a.header_read g (rw (a.edition_is, a.count) e)

-- A file at fault is refused, with the number and the place of the fault.
pub at_fault_refused : {s : List ℕ} {k o : ℕ} → AtFault s k o → decode s ≡ refused k o
at_fault_refused {s} (faulty block_due e) = decode_block_refused s (read_refused block s 0 e)
at_fault_refused {s} (faulty {o = o} (gate_due {ed = ed} r) e) =
    let a = among_gates r in
    decode_gates_refused s a.header_read
    (rw a.edition_is
    (read_gates_refused ed s a.so_many a.header.gate_count a.gates_at (omega (arith, a.sum, a.count)) a.gates_read (read_refused (gate ed) s o e)))
at_fault_refused {s} (faulty {o = o} (wire_due {ed = ed} {n = n} {seen = seen} r l h) e) =
    let a = among_wires r in
    wires_refuse a
    (wires_refused ed n s a.wires_at a.wires_read (omega (arith, length_seen a)) h
    (sym (in_file_order a) ∙ read_refused (wire ed n seen) s o e))
at_fault_refused {s} (excess {ed = ed} {n = n} r l h) =
    let a = among_wires r in
    wires_refuse a (wires_full ed n s a.wires_at a.wires_read (omega (arith, length_seen a)) h)

-- the number is one of 1 to 7, and the place is in the file or at its end
pub at_fault_number : {s : List ℕ} {k o : ℕ} → AtFault s k o → (1 ≤ k) × (k ≤ 7)
at_fault_number {s} (faulty {d = d} {o = o} r e) = (omega arith, omega (arith, fault_at_most_6 d s o))
at_fault_number (excess r l h) = (omega arith, omega arith)

passed_inside : {s : List ℕ} {g : Stage} {o : ℕ} → Passed s g o → o ≤ length s
passed_inside none_passed = omega arith
passed_inside {s} (block_passed f) = (faultless_from_0 block s 0 f).inside
passed_inside {s} (gate_passed {ed = ed} {o = o} r f) = (faultless_from_0 (gate ed) s o f).inside
passed_inside (gates_passed r) = passed_inside r
passed_inside {s} (wire_passed {ed = ed} {n = n} {o = o} {seen = seen} r l h f) = (faultless_from_0 (wire ed n seen) s o f).inside

pub at_fault_inside : {s : List ℕ} {k o : ℕ} → AtFault s k o → o ≤ length s
at_fault_inside (faulty block_due e) = omega arith
at_fault_inside (faulty (gate_due r) e) = passed_inside r
at_fault_inside (faulty (wire_due r l h) e) = passed_inside r
at_fault_inside (excess r l h) = passed_inside r
