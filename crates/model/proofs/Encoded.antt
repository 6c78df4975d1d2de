-- The file of a netlist within the limits is of bytes: with `File`, `encode` and `decode` are inverse to each other between netlists within the limits and the files of bytes that are not refused.
-- Assumes nothing.
use mathlib.Core.Path.{◌≡◌, sym, subst}
use mathlib.Core.List.{List, [], ◌∷◌, ◌++◌, flat_map}
use mathlib.Core.Bool.{Bool, true, false, cond, ◌&&◌}
use Prim.Native.Nat.{ℕ, ◌/◌, ◌%◌, ◌<◌, ◌≤◌}
use native.Mathlib.Omega.{arith}
use lib.Dec.{T, leb, ltb, ltb→lt, lt→ltb, leb→le, eqb→eq}
use lib.ListN.{length, get_or}
use Rattle.lists.proofs.Bool.{and_left, and_right, and_both}
use Rattle.model.proofs.Every.{every_append, every_at}
use Rattle.model.proofs.Fields.{Bytes, high_byte, low_byte}
use Rattle.model.proofs.Bodies.{fitting_steps, gate_length_fits, wire_bytes_range, wire_length_fits}
use Rattle.model.proofs.Limited.{HeaderLimits, switching_range, step_limits, gate_ranges, header_limits, wire_ranges}
use Rattle.model.specs.Limits.{max_steps, max_gates}
use Rattle.model.specs.Block.{Step, Wire}
use Rattle.model.specs.Netlist.{DrawnGate, Netlist}
use Rattle.model.specs.Field.{two_bytes, field}
use Rattle.model.specs.Edition.{has_wire_delays, wire_bytes, delay_bytes}
use Rattle.model.specs.File.{Header, block, gate, wire, in_range, step_in_range, every, tag_of, header_of, header_body, step_bytes, gate_body, wire_body, encode, Limited}

byte : ℕ → Bool
byte b = ltb b 256

-- every element is a byte, as a test
abbrev OfBytes : List ℕ → Type 0
OfBytes s = T (every byte s)

one_more : (b : ℕ) (s : List ℕ) → b < 256 → OfBytes s → OfBytes (b ∷ s)
unfolding every byte
one_more b s h t = and_both (ltb b 256) (every byte s) (lt→ltb b 256 h) t

none : OfBytes []
unfolding every
none = tt

joined : (s t : List ℕ) → OfBytes s → OfBytes t → OfBytes (s ++ t)
joined s t a b = subst T (sym (every_append byte s t)) (and_both (every byte s) (every byte t) a b)

two : (n : ℕ) → n < 65536 → OfBytes (two_bytes n)
two n h = one_more (n / 256) (n % 256 ∷ []) (high_byte n h) (one_more (n % 256) [] (low_byte n) none)

field_of_bytes : (tag : ℕ) (body : List ℕ) → tag < 256 → length body < 65536 → OfBytes body → OfBytes (field tag body)
field_of_bytes tag body h l t = one_more tag (two_bytes (length body) ++ body) h (joined (two_bytes (length body)) body (two (length body) l) t)

-- fields one after another, each of bytes where the test passes
fields_of_bytes : {A : Type 0} (f : A → List ℕ) (test : A → Bool) → ((a : A) → T (test a) → OfBytes (f a)) → (xs : List A) → T (every test xs) → OfBytes (flat_map f xs)
unfolding every flat_map
fields_of_bytes f test g [] t = tt
fields_of_bytes f test g (x ∷ xs) t =
    joined (f x) (flat_map f xs) (g x (and_left (test x) (every test xs) t)) (fields_of_bytes f test g xs (and_right (test x) (every test xs) t))

header_of_bytes : (h : Header) → HeaderLimits h → OfBytes (header_body h)
header_of_bytes h l =
    one_more h.edition (h.gate_count ∷ two_bytes h.arrival ++ two_bytes h.deadline ++ two_bytes h.switching) (omega arith)
    (one_more h.gate_count (two_bytes h.arrival ++ two_bytes h.deadline ++ two_bytes h.switching) (omega arith)
    (joined (two_bytes h.arrival ++ two_bytes h.deadline) (two_bytes h.switching)
    (joined (two_bytes h.arrival) (two_bytes h.deadline) (two h.arrival (omega arith)) (two h.deadline (omega arith)))
    (two h.switching (omega (arith, (switching_range h.edition h.switching l.switching_most).0)))))

step_of_bytes : (s : Step) → T (step_in_range s) → OfBytes (step_bytes s)
step_of_bytes s t =
    let l = step_limits s t in
    joined (two_bytes s.width) (two_bytes s.drop) (two s.width (omega arith)) (two s.drop (omega arith))

-- a gate with its numbers in range and few steps
abbrev gate_fits : ℕ → DrawnGate → Bool
gate_fits ed g = in_range (gate ed) g && leb (length g.steps) max_steps

gate_of_bytes : (ed : ℕ) (g : DrawnGate) → T (gate_fits ed g) → OfBytes (field (tag_of (gate ed)) (gate_body g))
gate_of_bytes ed g t =
    let r : T (in_range (gate ed) g) = and_left (in_range (gate ed) g) (leb (length g.steps) max_steps) t in
    let c : length g.steps ≤ max_steps = leb→le (length g.steps) max_steps (and_right (in_range (gate ed) g) (leb (length g.steps) max_steps) t) in
    let k = fitting_steps ed (length (gate_body g)) (gate_length_fits ed g c) in
    let l = gate_ranges ed g r in
    field_of_bytes (tag_of (gate ed)) (gate_body g) (omega arith) (omega (arith, k.1, k.2))
    (joined (two_bytes g.delay ++ two_bytes g.switching) (flat_map step_bytes g.steps)
    (joined (two_bytes g.delay) (two_bytes g.switching) (two g.delay (omega (arith, l.0))) (two g.switching (omega (arith, (switching_range ed g.switching l.1).0))))
    (fields_of_bytes step_bytes step_in_range step_of_bytes g.steps l.2))

delay_of_bytes : (f : Bool) (d : ℕ) → d < 65536 → OfBytes (cond f (two_bytes d) [])
delay_of_bytes true d h = two d h
delay_of_bytes false d h = none

wire_of_bytes : (ed n : ℕ) → n ≤ max_gates → (w : Wire) → T (in_range (wire ed n []) w) → OfBytes (field (tag_of (wire ed 0 [])) (wire_body ed w))
wire_of_bytes ed n h w t =
    let r = wire_ranges ed n [] w t in
    let l : length (wire_body ed w) ≡ wire_bytes ed = eqb→eq (length (wire_body ed w)) (wire_bytes ed) (wire_length_fits ed n [] w) in
    let d : OfBytes (delay_bytes ed w.delay) = delay_of_bytes (has_wire_delays ed) w.delay (omega (arith, r.2)) in
    field_of_bytes 3 (wire_body ed w) (omega arith) (omega (arith, l, (wire_bytes_range ed).1))
    (one_more w.source (w.target ∷ delay_bytes ed w.delay) (omega (arith, r.0)) (one_more w.target (delay_bytes ed w.delay) (omega (arith, r.1)) d))

every_both : {A : Type 0} (p q : A → Bool) (xs : List A) → T (every p xs) → T (every q xs) → T (every (λ (x : A). p x && q x) xs)
unfolding every
every_both p q [] s t = tt
every_both p q (x ∷ xs) s t =
    and_both (p x && q x) (every (λ y. p y && q y) xs)
    (and_both (p x) (q x) (and_left (p x) (every p xs) s) (and_left (q x) (every q xs) t))
    (every_both p q xs (and_right (p x) (every p xs) s) (and_right (q x) (every q xs) t))

-- Every element of the file of a netlist within the limits is a byte.
pub encode_bytes : {N : Netlist} → Limited N → Bytes (encode N)
unfolding encode byte
encode_bytes {N} l i h =
    let ed = N.edition in
    let n = length N.gates in
    let u = header_limits (header_of N) l.header in
    let head = field (tag_of block) (header_body (header_of N)) in
    let gates = flat_map (λ (g : DrawnGate). field (tag_of (gate ed)) (gate_body g)) N.gates in
    let wires = flat_map (λ (w : Wire). field (tag_of (wire ed 0 [])) (wire_body ed w)) N.wires in
    let a : OfBytes head = field_of_bytes 1 (header_body (header_of N)) (omega arith) (omega arith) (header_of_bytes (header_of N) u) in
    let b : OfBytes gates =
    fields_of_bytes (λ (g : DrawnGate). field (tag_of (gate ed)) (gate_body g)) (gate_fits ed) (gate_of_bytes ed) N.gates
    (every_both (in_range (gate ed)) (λ (g : DrawnGate). leb (length g.steps) max_steps) N.gates l.gates l.steps) in
    let c : OfBytes wires =
    fields_of_bytes (λ (w : Wire). field (tag_of (wire ed 0 [])) (wire_body ed w)) (in_range (wire ed n [])) (wire_of_bytes ed n u.gates_most) N.wires l.wires in
    ltb→lt (get_or (encode N) i 0) 256
    (every_at byte (encode N) i 0 (joined (head ++ gates) wires (joined head gates a b) c) h)
