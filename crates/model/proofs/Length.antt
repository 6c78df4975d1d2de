-- How long a file can be: the offset of the field at fault is at most `file_most` (`fault_early`), and so is the length of a file that is read (`decoded_length`). So the program, which reads `max_bytes`, cuts no file that can be read (`reads_whole`).
-- The idea: the fields that were passed have the lengths of their tags, and there is one block field, and there are at most `max_gates` and `max_wires` of the others.
-- Assumes nothing.
use mathlib.Core.Path.{◌≡◌, refl}
use mathlib.Core.List.{List, []}
use mathlib.Core.Bool.{◌&&◌}
use Prim.Native.Nat.{ℕ, ◌+◌, ◌*◌, ◌%◌, ◌≤◌}
use native.Mathlib.Omega.{arith}
use lib.Dec.{T, leb, eqb, leb→le, eqb→eq}
use lib.ListN.{length, take}
use lib.Seq.{take_all}
use Rattle.lists.proofs.Bool.{and_left, and_right}
use Rattle.model.proofs.Fields.{length_body}
use Rattle.model.proofs.Fault.{faultless_from_0}
use Rattle.model.proofs.Bodies.{wire_bytes_range}
use Rattle.model.proofs.Reading.{WiresFound, ended, next, wires_found, decoded_is, decoded_to_end}
use Rattle.model.proofs.Limited.{header_limits}
use Rattle.model.proofs.Place.{Stage, at_block, at_gates, at_wires, Passed, none_passed, block_passed, gate_passed, gates_passed, wire_passed, block_due, gate_due, wire_due, AtFault, faulty, excess, block_found, gates_found, wire_found}
use Rattle.model.specs.Limits.{max_edition, max_gates, max_wires, max_steps, max_bytes}
use Rattle.model.specs.Block.{Wire}
use Rattle.model.specs.Netlist.{Netlist}
use Rattle.model.specs.Field.{header_bytes, body_at, body_to}
use Rattle.model.specs.Edition.{wire_bytes}
use Rattle.model.specs.File.{Due, block, gate, wire, length_fits, says, fault, found, decode}

-- bytes of a field's body, at most
abbrev body_most : Due → ℕ
body_most block = 8
body_most (gate ed) = 4 + 4 * max_steps
body_most (wire ed n seen) = wire_bytes max_edition

-- bytes of a field, at most
abbrev field_most : Due → ℕ
field_most k = header_bytes + body_most k

abbrev gate_most : ℕ
gate_most = field_most (gate max_edition)

abbrev wire_most : ℕ
wire_most = field_most (wire max_edition 0 [])

-- bytes of the block field and the gate fields, and of a file, at most
abbrev gates_most : ℕ
gates_most = field_most block + max_gates * gate_most

abbrev pub file_most : ℕ
file_most = gates_most + max_wires * wire_most

fitting_length : (k : Due) (l : ℕ) → T (length_fits k l) → l ≤ body_most k
fitting_length block l t = let e = eqb→eq l 8 t in omega arith
fitting_length (gate ed) l t =
    let a = leb 4 l in
    let b = leb l (4 + 4 * max_steps) in
    let c = eqb (l % 4) 0 in
    leb→le l (4 + 4 * max_steps) (and_right a b (and_left (a && b) c t))
fitting_length (wire ed n seen) l t = rw (eqb→eq l (wire_bytes ed) t) (wire_bytes_range ed).1

passed_field : (k : Due) (s : List ℕ) (o : ℕ) → fault k s o ≡ 0 → body_to s o ≤ o + field_most k
passed_field k s o e =
    let f = faultless_from_0 k s o e in
    let l = fitting_length k (length (body_at s o)) f.length_due in
    omega (arith, length_body s o f.inside)

-- how far reading can have come at a stage
abbrev Early : Stage → ℕ → Type 0
Early at_block o = o ≡ 0
Early (at_gates ed n left) o = (n ≤ max_gates) × (o + left * gate_most ≤ field_most block + n * gate_most)
Early (at_wires ed n seen) o = o ≤ gates_most + length seen * wire_most

early : {s : List ℕ} {g : Stage} {o : ℕ} → Passed s g o → Early g o
early none_passed = refl
early {s} (block_passed e) =
    let f = faultless_from_0 block s 0 e in
    let l = passed_field block s 0 e in
    ((header_limits (says block (body_at s 0)) f.ranges).gates_most, omega arith)
early {s} (gate_passed {ed} {n} {left} {o} r e) =
    let h = early r in
    let l = passed_field (gate ed) s o e in
    (h.0, omega arith)
early (gates_passed r) = let h = early r in omega arith
early {s} (wire_passed {ed} {n} {o} {seen} r room inside e) =
    let h = early r in
    let l = passed_field (wire ed n seen) s o e in
    omega arith

-- The place of a refusal of 1 to 7.
pub fault_early : {s : List ℕ} {k o : ℕ} → AtFault s k o → o ≤ file_most
fault_early (faulty block_due e) = omega arith
fault_early (faulty (gate_due r) e) = let h = early r in omega arith
fault_early (faulty (wire_due r room inside) e) = let h = early r in omega arith
fault_early (excess r full inside) = let h = early r in omega arith

wires_early : {ed n : ℕ} {s : List ℕ} {room : ℕ} {seen : List Wire} {o : ℕ} {ws : List Wire} {p : ℕ} → Passed s (at_wires ed n seen) o → room + length seen ≡ max_wires → WiresFound ed n s room seen o ws p → p ≤ file_most
wires_early r l (ended h) = let e = early r in omega arith
wires_early r l (next h e f) = wires_early (wire_found r (omega arith) h e) (omega arith) f

-- The length of a file that is read.
pub decoded_length : (s : List ℕ) {N : Netlist} {o : ℕ} → decode s ≡ found N o → length s ≤ file_most
decoded_length s e =
    let d = decoded_is s e in
    let r = gates_found d.header.gate_count d.gates_at (block_found d.header_read) d.gates_read in
    let h = wires_early r refl (wires_found d.header.edition d.header.gate_count s max_wires [] d.wires_at d.wires_read) in
    omega (arith, decoded_to_end s e)

pub reads_whole : (s : List ℕ) {N : Netlist} {o : ℕ} → decode s ≡ found N o → take max_bytes s ≡ s
reads_whole s e = let h = decoded_length s e in take_all max_bytes s (omega arith)
