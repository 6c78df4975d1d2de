-- The file and the netlist: a netlist within the limits is decoded from its own file (`encode_decodes`), and a file of bytes that is decoded is the file of its netlist, which is within the limits (`decoded_is_encode`, `decoded_is_limited`).
-- The idea: one lemma for a field of any kind each way, then gates by induction, then wires by induction for any wires seen.
-- Assumes nothing.
use mathlib.Core.Path.{◌≡◌, refl, sym, ◌∙◌, ap, subst}
use mathlib.Core.List.{List, [], ◌∷◌, ◌++◌, append_assoc, flat_map}
use mathlib.Core.Bool.{Bool}
use Prim.Native.Nat.{ℕ, zero, suc, ◌≤◌}
use native.Mathlib.Nat.{not-suc-le-zero, le_of_suc-le-suc}
use native.Mathlib.Omega.{arith}
use lib.Dec.{T, leb, leb→le, le→leb}
use lib.ListN.{length, drop, length-drop, drop_of_length-le}
use Rattle.lists.proofs.Bool.{and_left, and_right, and_both}
use Rattle.model.proofs.Fields.{Bytes, bytes_body, stands_tag, stands_inside, stands_body, stands_next, whole_stands}
use Rattle.model.proofs.Fault.{Faultless, faultless_is_0, faultless_from_0, read_found, found_is}
use Rattle.model.proofs.Bodies.{body_of, says_header, says_gate, says_wire, gate_length_fits, wire_length_fits, body_of_says, steps_said, delay_said}
use Rattle.model.proofs.Reading.{read_gates_none, read_gates_first, read_gates_suc, read_wires_ended, read_wires_went_on, read_gates_length, WiresFound, ended, next, wires_found, decode_found, Decoded, decoded_is}
use Rattle.model.specs.Limits.{max_wires, max_steps}
use Rattle.model.specs.Block.{Wire}
use Rattle.model.specs.Netlist.{DrawnGate, Netlist}
use Rattle.model.specs.Field.{field, body_at, body_to}
use Rattle.model.specs.Edition.{delay_fits}
use Rattle.model.specs.File.{Due, block, gate, wire, Value, Header, found, tag_of, length_fits, says, in_range, drops_fall, is_fresh, every, read_field, read_gates, read_wires, decode, encode, netlist, header_of, gate_body, wire_body, all_fresh, fresh, Limited}

-- A FIELD OF ANY KIND. What v must satisfy for its field to be read where k is due.
record Readable (k : Due) (v : Value k) : Type 0 where
  fits : T (length_fits k (length (body_of k v)))
  said : says k (body_of k v) ≡ v
  ranges : T (in_range k v)
  drops : T (drops_fall k v)
  unseen : T (is_fresh k v)

-- the field of v stands at o
abbrev Stands : (k : Due) → Value k → List ℕ → ℕ → List ℕ → Type 0
Stands k v s o back = drop o s ≡ field (tag_of k) (body_of k v) ++ back

module _ (k : Due) (v : Value k) (s : List ℕ) (o : ℕ) (back : List ℕ) (e : Stands k v s o back) (r : Readable k v) where
  says_v : says k (body_at s o) ≡ v
  says_v = ap (says k) (stands_body s o (tag_of k) (body_of k v) back e) ∙ r.said

  stands_faultless : Faultless k s o
  stands_faultless = record {
    inside = stands_inside s o (tag_of k) (body_of k v) back e;
    tag_due = stands_tag s o (tag_of k) (body_of k v) back e;
    length_due = subst (λ (b : List ℕ). T (length_fits k (length b))) (sym (stands_body s o (tag_of k) (body_of k v) back e)) r.fits;
    ranges = subst (λ (x : Value k). T (in_range k x)) (sym says_v) r.ranges;
    drops = subst (λ (x : Value k). T (drops_fall k x)) (sym says_v) r.drops;
    unseen = subst (λ (x : Value k). T (is_fresh k x)) (sym says_v) r.unseen;
  }

  stands_read : read_field k s o ≡ found v (body_to s o)
  stands_read = read_found k s o (faultless_is_0 k s o stands_faultless) ∙ ap (λ (x : Value k). found x (body_to s o)) says_v

-- the field that was read stands at o
found_stands : (k : Due) (s : List ℕ) (o : ℕ) {v : Value k} {p : ℕ} → Bytes s → read_field k s o ≡ found v p → Stands k v s o (drop p s)
found_stands k s o {v} {p} bytes e =
    let f = found_is k s o e in
    let h = faultless_from_0 k s o f.no_fault in
    let b : body_of k v ≡ body_at s o =
    ap (body_of k) f.says_it ∙ body_of_says k (body_at s o) (bytes_body s o bytes h.inside) h.length_due in
    rw (f.ends, b, ← h.tag_due) (whole_stands s o bytes h.inside)

-- FROM NETLIST TO FILE AND BACK
abbrev gate_field : ℕ → DrawnGate → List ℕ
gate_field ed g = field (tag_of (gate ed)) (gate_body g)

abbrev wire_field : ℕ → Wire → List ℕ
wire_field ed w = field (tag_of (wire ed 0 [])) (wire_body ed w)

-- at most as many steps as a gate may have
abbrev few_steps : DrawnGate → Bool
few_steps g = leb (length g.steps) max_steps

-- gates within the limits
record GatesFit (ed : ℕ) (gs : List DrawnGate) : Type 0 where
  ranges : T (every (in_range (gate ed)) gs)
  steps : T (every few_steps gs)
  drops : T (every (drops_fall (gate ed)) gs)

first_gate_readable : {ed : ℕ} {g : DrawnGate} {gs : List DrawnGate} → GatesFit ed (g ∷ gs) → Readable (gate ed) g
unfolding every
first_gate_readable {ed} {g} {gs} f = record {
  fits = gate_length_fits ed g (leb→le (length g.steps) max_steps (and_left (few_steps g) (every few_steps gs) f.steps));
  said = says_gate ed g;
  ranges = and_left (in_range (gate ed) g) (every (in_range (gate ed)) gs) f.ranges;
  drops = and_left (drops_fall (gate ed) g) (every (drops_fall (gate ed)) gs) f.drops;
  unseen = tt;
}

rest_fits : {ed : ℕ} {g : DrawnGate} {gs : List DrawnGate} → GatesFit ed (g ∷ gs) → GatesFit ed gs
unfolding every
rest_fits {ed} {g} {gs} f = record {
  ranges = and_right (in_range (gate ed) g) (every (in_range (gate ed)) gs) f.ranges;
  steps = and_right (few_steps g) (every few_steps gs) f.steps;
  drops = and_right (drops_fall (gate ed) g) (every (drops_fall (gate ed)) gs) f.drops;
}

-- The gates are read from o on, and `back` is left.
record GatesCome (ed : ℕ) (gs : List DrawnGate) (s : List ℕ) (o : ℕ) (back : List ℕ) : Type 0 where
  end : ℕ
  come : read_gates ed (length gs) s o ≡ found gs end
  left : drop end s ≡ back
  inside : end ≤ length s

gates_come : (ed : ℕ) (gs : List DrawnGate) (s : List ℕ) (o : ℕ) (back : List ℕ) → GatesFit ed gs → o ≤ length s → drop o s ≡ flat_map (gate_field ed) gs ++ back → GatesCome ed gs s o back
unfolding flat_map
gates_come ed [] s o back f h e = record { end = o; come = read_gates_none ed s o; left = e; inside = h }
gates_come ed (g ∷ gs) s o back f h e =
    let i : Stands (gate ed) g s o (flat_map (gate_field ed) gs ++ back) = e ∙ append_assoc (gate_field ed g) (flat_map (gate_field ed) gs) back in
    let b : body_to s o ≤ length s = stands_inside s o (tag_of (gate ed)) (gate_body g) (flat_map (gate_field ed) gs ++ back) i in
    let r = gates_come ed gs s (body_to s o) back (rest_fits f) b (stands_next s o (tag_of (gate ed)) (gate_body g) (flat_map (gate_field ed) gs ++ back) i) in
    record {
      end = r.end;
      come = read_gates_first ed s (length gs) o (stands_read (gate ed) g s o (flat_map (gate_field ed) gs ++ back) i (first_gate_readable f)) r.come;
      left = r.left;
      inside = r.inside;
    }

-- wires within the limits, after those seen
record WiresFit (ed n : ℕ) (seen ws : List Wire) : Type 0 where
  ranges : T (every (in_range (wire ed n [])) ws)
  delays : T (every (delay_fits ed) ws)
  unseen : T (all_fresh seen ws)

first_wire_readable : {ed n : ℕ} {seen ws : List Wire} {w : Wire} → WiresFit ed n seen (w ∷ ws) → Readable (wire ed n seen) w
unfolding every all_fresh
first_wire_readable {ed} {n} {seen} {ws} {w} f = record {
  fits = wire_length_fits ed n seen w;
  said = says_wire ed n seen w (and_left (delay_fits ed w) (every (delay_fits ed) ws) f.delays);
  ranges = and_left (in_range (wire ed n []) w) (every (in_range (wire ed n [])) ws) f.ranges;
  drops = tt;
  unseen = and_left (fresh seen w) (all_fresh (w ∷ seen) ws) f.unseen;
}

rest_wires_fit : {ed n : ℕ} {seen ws : List Wire} {w : Wire} → WiresFit ed n seen (w ∷ ws) → WiresFit ed n (w ∷ seen) ws
unfolding every all_fresh
rest_wires_fit {ed} {n} {seen} {ws} {w} f = record {
  ranges = and_right (in_range (wire ed n []) w) (every (in_range (wire ed n [])) ws) f.ranges;
  delays = and_right (delay_fits ed w) (every (delay_fits ed) ws) f.delays;
  unseen = and_right (fresh seen w) (all_fresh (w ∷ seen) ws) f.unseen;
}

wires_come : (ws : List Wire) (room ed n : ℕ) (seen : List Wire) (s : List ℕ) (o : ℕ) → WiresFit ed n seen ws → length ws ≤ room → o ≤ length s → drop o s ≡ flat_map (wire_field ed) ws → read_wires room ed n seen s o ≡ found ws (length s)
unfolding flat_map
wires_come [] room ed n seen s o f l h e =
    let i : o ≡ length s = omega (arith, length-drop o s, ap length e) in
    read_wires_ended ed n seen s o room (omega arith) ∙ ap (found []) i
wires_come (w ∷ ws) zero ed n seen s o f l h e = absurd (not-suc-le-zero l)
wires_come (w ∷ ws) (suc room) ed n seen s o f l h e =
    let b : body_to s o ≤ length s = stands_inside s o (tag_of (wire ed n seen)) (wire_body ed w) (flat_map (wire_field ed) ws) e in
    let r = wires_come ws room ed n (w ∷ seen) s (body_to s o) (rest_wires_fit f) (le_of_suc-le-suc l) b (stands_next s o (tag_of (wire ed n seen)) (wire_body ed w) (flat_map (wire_field ed) ws) e) in
    read_wires_went_on ed n seen s o room (omega arith) (stands_read (wire ed n seen) w s o (flat_map (wire_field ed) ws) e (first_wire_readable f)) ∙ rw r

decodes : (N : Netlist) (s : List ℕ) → Limited N → s ≡ field (tag_of block) (body_of block (header_of N)) ++ (flat_map (gate_field N.edition) N.gates ++ flat_map (wire_field N.edition) N.wires) → decode s ≡ found N (length s)
decodes N s l e =
    let ed = N.edition in
    let rest : List ℕ = flat_map (gate_field ed) N.gates ++ flat_map (wire_field ed) N.wires in
    let r : Readable block (header_of N) = record { fits = tt; said = says_header (header_of N); ranges = l.header; drops = tt; unseen = tt } in
    let h : read_field block s 0 ≡ found (header_of N) (body_to s 0) = stands_read block (header_of N) s 0 rest e r in
    let g = gates_come ed N.gates s (body_to s 0) (flat_map (wire_field ed) N.wires)
    (record { ranges = l.gates; steps = l.steps; drops = l.drops })
    (stands_inside s 0 (tag_of block) (body_of block (header_of N)) rest e)
    (stands_next s 0 (tag_of block) (body_of block (header_of N)) rest e) in
    let w = wires_come N.wires max_wires ed (length N.gates) [] s g.end
    (record { ranges = l.wires; delays = l.delays; unseen = l.no_wire_twice })
    l.wire_count g.inside g.left in
    decode_found s h g.come w

-- A netlist within the limits is decoded from its own file, which is read to its end.
pub encode_decodes : {N : Netlist} → Limited N → decode (encode N) ≡ found N (length (encode N))
unfolding encode
encode_decodes {N} l = decodes N (encode N) l refl

-- FROM FILE TO NETLIST AND BACK
first_gate_fits : (ed : ℕ) (s : List ℕ) (o : ℕ) {g : DrawnGate} {gs : List DrawnGate} {p : ℕ} → read_field (gate ed) s o ≡ found g p → GatesFit ed gs → GatesFit ed (g ∷ gs)
unfolding every
first_gate_fits ed s o {g} {gs} e f =
    let i = found_is (gate ed) s o e in
    let h = faultless_from_0 (gate ed) s o i.no_fault in
    let a : T (few_steps (says (gate ed) (body_at s o))) = le→leb (length (says (gate ed) (body_at s o)).steps) max_steps (steps_said ed (body_at s o) h.length_due) in
    record {
      ranges = and_both (in_range (gate ed) g) (every (in_range (gate ed)) gs) (subst (λ (x : DrawnGate). T (in_range (gate ed) x)) (sym i.says_it) h.ranges) f.ranges;
      steps = and_both (few_steps g) (every few_steps gs) (subst (λ (x : DrawnGate). T (few_steps x)) (sym i.says_it) a) f.steps;
      drops = and_both (drops_fall (gate ed) g) (every (drops_fall (gate ed)) gs) (subst (λ (x : DrawnGate). T (drops_fall (gate ed) x)) (sym i.says_it) h.drops) f.drops;
    }

gates_fit : (ed n : ℕ) (s : List ℕ) (o : ℕ) {gs : List DrawnGate} {p : ℕ} → read_gates ed n s o ≡ found gs p → GatesFit ed gs
unfolding every read_gates
gates_fit ed zero s o {gs} e =
    let x : [] ≡ gs = cc in
    subst (GatesFit ed) x (record { ranges = tt; steps = tt; drops = tt })
gates_fit ed (suc n) s o e =
    let f = read_gates_suc ed s n o e in
    subst (GatesFit ed) (sym f.all) (first_gate_fits ed s o f.first_read (gates_fit ed n s f.behind f.rest_read))

gates_again : (ed n : ℕ) (s : List ℕ) (o : ℕ) {gs : List DrawnGate} {p : ℕ} → Bytes s → read_gates ed n s o ≡ found gs p → drop o s ≡ flat_map (gate_field ed) gs ++ drop p s
unfolding flat_map read_gates
gates_again ed zero s o {gs} {p} bytes e =
    let x : gs ≡ [] = cc in
    let y : o ≡ p = cc in
    rw (x, y)
gates_again ed (suc n) s o {gs} {p} bytes e =
    let f = read_gates_suc ed s n o e in
    found_stands (gate ed) s o bytes f.first_read
    ∙ ap (λ (l : List ℕ). gate_field ed f.first ++ l) (gates_again ed n s f.behind bytes f.rest_read)
    ∙ sym (append_assoc (gate_field ed f.first) (flat_map (gate_field ed) f.rest) (drop p s))
    ∙ ap (λ (l : List DrawnGate). flat_map (gate_field ed) l ++ drop p s) (sym f.all)

first_wire_fits : (ed n : ℕ) (seen : List Wire) (s : List ℕ) (o : ℕ) {w : Wire} {ws : List Wire} {p : ℕ} → read_field (wire ed n seen) s o ≡ found w p → WiresFit ed n (w ∷ seen) ws → WiresFit ed n seen (w ∷ ws)
unfolding every all_fresh
first_wire_fits ed n seen s o {w} {ws} e f =
    let i = found_is (wire ed n seen) s o e in
    let h = faultless_from_0 (wire ed n seen) s o i.no_fault in
    record {
      ranges = and_both (in_range (wire ed n []) w) (every (in_range (wire ed n [])) ws) (subst (λ (x : Wire). T (in_range (wire ed n []) x)) (sym i.says_it) h.ranges) f.ranges;
      delays = and_both (delay_fits ed w) (every (delay_fits ed) ws) (subst (λ (x : Wire). T (delay_fits ed x)) (sym i.says_it) (delay_said ed n seen (body_at s o))) f.delays;
      unseen = and_both (fresh seen w) (all_fresh (w ∷ seen) ws) (subst (λ (x : Wire). T (fresh seen x)) (sym i.says_it) h.unseen) f.unseen;
    }

wires_fit : {ed n : ℕ} {s : List ℕ} {room : ℕ} {seen : List Wire} {o : ℕ} {ws : List Wire} {p : ℕ} → WiresFound ed n s room seen o ws p → WiresFit ed n seen ws
unfolding every all_fresh
wires_fit (ended h) = record { ranges = tt; delays = tt; unseen = tt }
wires_fit {ed = ed} {n = n} {s = s} (next {seen = seen} {o = o} h e f) = first_wire_fits ed n seen s o e (wires_fit f)

wires_count : {ed n : ℕ} {s : List ℕ} {room : ℕ} {seen : List Wire} {o : ℕ} {ws : List Wire} {p : ℕ} → WiresFound ed n s room seen o ws p → length ws ≤ room
wires_count (ended h) = omega arith
wires_count (next h e f) = omega (arith, wires_count f)

wires_again : {ed n : ℕ} {s : List ℕ} {room : ℕ} {seen : List Wire} {o : ℕ} {ws : List Wire} {p : ℕ} → Bytes s → WiresFound ed n s room seen o ws p → drop o s ≡ flat_map (wire_field ed) ws
unfolding flat_map
wires_again {s = s} bytes (ended h) = drop_of_length-le s h
wires_again {ed = ed} {n = n} {s = s} bytes (next {seen = seen} {o = o} {w = w} h e f) =
    found_stands (wire ed n seen) s o bytes e ∙ ap (λ (l : List ℕ). wire_field ed w ++ l) (wires_again bytes f)

-- the header of the netlist found is the header found
header_again : (s : List ℕ) {N : Netlist} {o : ℕ} (d : Decoded s N o) → header_of (netlist d.header d.gates d.wires) ≡ d.header
header_again s d = λ i. record {
  edition = d.header.edition;
  gate_count = read_gates_length d.header.edition s d.header.gate_count d.gates_at d.gates_read i;
  arrival = d.header.arrival;
  deadline = d.header.deadline;
  switching = d.header.switching;
}

-- A file of bytes that is decoded is the file of its netlist.
pub decoded_is_encode : (s : List ℕ) {N : Netlist} {o : ℕ} → Bytes s → decode s ≡ found N o → encode N ≡ s
unfolding encode
decoded_is_encode s {N} {o} bytes e =
    let d = decoded_is s e in
    let ed = d.header.edition in
    let n = d.header.gate_count in
    let a : s ≡ field (tag_of block) (body_of block d.header) ++ drop d.gates_at s = found_stands block s 0 bytes d.header_read in
    let b : drop d.gates_at s ≡ flat_map (gate_field ed) d.gates ++ drop d.wires_at s = gates_again ed n s d.gates_at bytes d.gates_read in
    let c : drop d.wires_at s ≡ flat_map (wire_field ed) d.wires = wires_again bytes (wires_found ed n s max_wires [] d.wires_at d.wires_read) in
    ap encode d.all
    ∙ ap (λ (h : Header). field (tag_of block) (body_of block h) ++ flat_map (gate_field ed) d.gates ++ flat_map (wire_field ed) d.wires) (header_again s d)
    ∙ sym (a ∙ ap (λ (l : List ℕ). field (tag_of block) (body_of block d.header) ++ l) (b ∙ ap (λ (l : List ℕ). flat_map (gate_field ed) d.gates ++ l) c))

-- The netlist of a file that is decoded is within the limits.
pub decoded_is_limited : (s : List ℕ) {N : Netlist} {o : ℕ} → decode s ≡ found N o → Limited N
decoded_is_limited s {N} {o} e =
    let d = decoded_is s e in
    let ed = d.header.edition in
    let n = d.header.gate_count in
    let i = found_is block s 0 d.header_read in
    let h = faultless_from_0 block s 0 i.no_fault in
    let g = gates_fit ed n s d.gates_at d.gates_read in
    let w = wires_found ed n s max_wires [] d.wires_at d.wires_read in
    let v = wires_fit w in
    let l : length d.gates ≡ n = read_gates_length ed s n d.gates_at d.gates_read in
    subst Limited (sym d.all)
    (record {
      header = subst (λ (x : Header). T (in_range block x)) (sym (header_again s d ∙ i.says_it)) h.ranges;
      gates = g.ranges;
      steps = g.steps;
      drops = g.drops;
      wires = subst (λ (m : ℕ). T (every (in_range (wire ed m [])) d.wires)) (sym l) v.ranges;
      delays = v.delays;
      no_wire_twice = v.unseen;
      wire_count = wires_count w;
    })
