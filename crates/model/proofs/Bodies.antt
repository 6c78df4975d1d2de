-- What the body of a field says, and the body that says it: each is got back from the other. A body is got back if it is of bytes and its length is one of its tag's.
-- What differs by edition is one test, `has_wire_delays`: a law of a wire's body is proved for either outcome of it.
-- Assumes nothing.
use mathlib.Core.Path.{◌≡◌, refl, sym, ◌∙◌, ap, subst}
use mathlib.Core.List.{List, [], ◌∷◌, ◌++◌, flat_map}
use mathlib.Core.Bool.{Bool, true, false, cond, ◌&&◌, ◌||◌}
use Prim.Native.Nat.{ℕ, zero, suc, ◌+◌, ◌*◌, ◌-◌, ◌/◌, ◌%◌, ◌<◌, ◌≤◌}
use native.Mathlib.Omega.{arith}
use lib.Dec.{T, leb, eqb, leb→le, le→leb, eqb→eq}
use lib.ListN.{length, get_or, drop, length-drop}
use lib.Seq.{ext_get_or}
use Rattle.lists.specs.Over.{build}
use Rattle.lists.proofs.Bool.{and_left, and_right, and_both}
use Rattle.lists.proofs.Over.{length_build, get_or_build}
use Rattle.model.proofs.Fields.{number_two_bytes, two_bytes_number, Bytes}
use Rattle.model.proofs.Steps.{step_at, steps_by_index}
use Rattle.model.specs.Limits.{max_edition, max_steps}
use Rattle.model.specs.Block.{Step, Wire}
use Rattle.model.specs.Netlist.{DrawnGate}
use Rattle.model.specs.Field.{number, two_bytes}
use Rattle.model.specs.Edition.{has_wire_delays, wire_bytes, delay_fits}
use Rattle.model.specs.File.{Due, block, gate, wire, Value, Header, length_fits, says, steps_in, header_body, step_bytes, gate_body, wire_body}

-- the body of a field that says v
abbrev pub body_of : (k : Due) → Value k → List ℕ
body_of block h = header_body h
body_of (gate ed) g = gate_body g
body_of (wire ed n seen) w = wire_body ed w

-- FROM VALUE TO BODY AND BACK
two_whole : (n : ℕ) → 256 * (n / 256) + n % 256 ≡ n
two_whole n = number_two_bytes n []

pub says_header : (h : Header) → says block (header_body h) ≡ h
says_header h = rw (two_whole h.arrival, two_whole h.deadline, two_whole h.switching)

steps_in_bytes : (ss : List Step) → steps_in (flat_map step_bytes ss) ≡ ss
unfolding steps_in flat_map
steps_in_bytes [] = refl
steps_in_bytes (s ∷ ss) = rw (two_whole s.width, two_whole s.drop, steps_in_bytes ss)

pub says_gate : (ed : ℕ) (g : DrawnGate) → says (gate ed) (gate_body g) ≡ g
says_gate ed g = rw (two_whole g.delay, two_whole g.switching, steps_in_bytes g.steps)

delay_again : (b : Bool) (w : Wire) → T (b || eqb w.delay 0) → cond b (number (w.source ∷ w.target ∷ cond b (two_bytes w.delay) []) 2) 0 ≡ w.delay
delay_again true w t = two_whole w.delay
delay_again false w t = sym (eqb→eq w.delay 0 t)

pub says_wire : (ed n : ℕ) (seen : List Wire) (w : Wire) → T (delay_fits ed w) → says (wire ed n seen) (wire_body ed w) ≡ w
says_wire ed n seen w t = λ i. record { source = w.source; target = w.target; delay = delay_again (has_wire_delays ed) w t i }

length_steps : (ss : List Step) → length (flat_map step_bytes ss) ≡ 4 * length ss
unfolding flat_map
length_steps [] = refl
length_steps (s ∷ ss) = omega (arith, length_steps ss)

-- the length of a wire's body
length_by : (b : Bool) (w : Wire) → T (eqb (length (w.source ∷ w.target ∷ cond b (two_bytes w.delay) [])) (cond b 4 2))
length_by true w = tt
length_by false w = tt

-- it has room for two gates, and is the longest in the last edition
two_or_four : (b : Bool) → (2 ≤ cond b 4 2) × (cond b 4 2 ≤ 4)
two_or_four true = (omega arith, omega arith)
two_or_four false = (omega arith, omega arith)

pub wire_bytes_range : (ed : ℕ) → (2 ≤ wire_bytes ed) × (wire_bytes ed ≤ wire_bytes max_edition)
wire_bytes_range ed = two_or_four (has_wire_delays ed)

pub wire_length_fits : (ed n : ℕ) (seen : List Wire) (w : Wire) → T (length_fits (wire ed n seen) (length (wire_body ed w)))
wire_length_fits ed n seen w = length_by (has_wire_delays ed) w

-- the lengths of a gate's body
steps_fit : (ed l k : ℕ) → l ≡ 4 + 4 * k → k ≤ max_steps → T (length_fits (gate ed) l)
steps_fit ed l k e h =
    let z : 0 ≡ l % 4 = omega arith in
    and_both (leb 4 l && leb l 36) (eqb (l % 4) 0)
    (and_both (leb 4 l) (leb l 36) (le→leb 4 l (omega arith)) (le→leb l 36 (omega arith)))
    (subst (λ (m : ℕ). T (eqb m 0)) z tt)

-- so many steps fill the body of a gate field
pub fitting_steps : (ed l : ℕ) → T (length_fits (gate ed) l) → (k : ℕ) × (l ≡ 4 + 4 * k) × (k ≤ max_steps)
fitting_steps ed l t =
    let a = and_left (leb 4 l && leb l 36) (eqb (l % 4) 0) t in
    let b : l % 4 ≡ 0 = eqb→eq (l % 4) 0 (and_right (leb 4 l && leb l 36) (eqb (l % 4) 0) t) in
    let c : 4 ≤ l = leb→le 4 l (and_left (leb 4 l) (leb l 36) a) in
    let d : l ≤ 36 = leb→le l 36 (and_right (leb 4 l) (leb l 36) a) in
    ((l - 4) / 4, omega arith, omega arith)

pub gate_length_fits : (ed : ℕ) (g : DrawnGate) → length g.steps ≤ max_steps → T (length_fits (gate ed) (length (gate_body g)))
gate_length_fits ed g h = steps_fit ed (length (gate_body g)) (length g.steps) (omega (arith, length_steps g.steps)) h

-- FROM BODY TO VALUE AND BACK
elements : (b : List ℕ) (n : ℕ) → length b ≡ n → b ≡ build n (λ (i : ℕ). get_or b i 0)
elements b n e =
    ext_get_or 0 b (build n (λ (i : ℕ). get_or b i 0)) (e ∙ sym (length_build n (λ (i : ℕ). get_or b i 0)))
    (λ (i : ℕ) (h : i < length b). sym (get_or_build n (λ (j : ℕ). get_or b j 0) i 0 (omega arith)))

two_again : (b : List ℕ) (i : ℕ) → Bytes b → i + 1 < length b → two_bytes (256 * get_or b i 0 + get_or b (i + 1) 0) ≡ get_or b i 0 ∷ get_or b (i + 1) 0 ∷ []
two_again b i bytes h = two_bytes_number (get_or b i 0) (get_or b (i + 1) 0) (bytes i (omega arith)) (bytes (i + 1) h)

header_body_says : (b : List ℕ) → Bytes b → length b ≡ 8 → header_body (says block b) ≡ b
unfolding build
header_body_says b bytes e =
    (λ i.
    get_or b 0 0 ∷ get_or b 1 0 ∷ two_again b 2 bytes (omega arith) i ++ two_again b 4 bytes (omega arith) i ++ two_again b 6 bytes (omega arith) i)
    ∙ sym (elements b 8 e)

steps_again : (r : List ℕ) (k : ℕ) → Bytes r → length r ≡ 4 * k → flat_map step_bytes (steps_in r) ≡ r
unfolding steps_in flat_map
steps_again [] k bytes e = refl
steps_again (a ∷ []) k bytes e = absurd (omega arith)
steps_again (a ∷ b ∷ []) k bytes e = absurd (omega arith)
steps_again (a ∷ b ∷ c ∷ []) k bytes e = absurd (omega arith)
steps_again (a ∷ b ∷ c ∷ d ∷ rest) zero bytes e = absurd (omega arith)
steps_again (a ∷ b ∷ c ∷ d ∷ rest) (suc k) bytes e =
    let p = two_bytes_number a b (bytes 0 (omega arith)) (bytes 1 (omega arith)) in
    let q = two_bytes_number c d (bytes 2 (omega arith)) (bytes 3 (omega arith)) in
    let r = steps_again rest k (λ (i : ℕ) (h : i < length rest). bytes (suc (suc (suc (suc i)))) (omega arith)) (omega arith) in
    λ i. p i ++ q i ++ r i

gate_body_says : (ed : ℕ) (b : List ℕ) (k : ℕ) → Bytes b → length b ≡ 4 + 4 * k → gate_body (says (gate ed) b) ≡ b
gate_body_says ed [] k bytes e = absurd (omega arith)
gate_body_says ed (a ∷ []) k bytes e = absurd (omega arith)
gate_body_says ed (a ∷ b ∷ []) k bytes e = absurd (omega arith)
gate_body_says ed (a ∷ b ∷ c ∷ []) k bytes e = absurd (omega arith)
gate_body_says ed (a ∷ b ∷ c ∷ d ∷ rest) k bytes e =
    let p = two_bytes_number a b (bytes 0 (omega arith)) (bytes 1 (omega arith)) in
    let q = two_bytes_number c d (bytes 2 (omega arith)) (bytes 3 (omega arith)) in
    let r = steps_again rest k (λ (i : ℕ) (h : i < length rest). bytes (suc (suc (suc (suc i)))) (omega arith)) (omega arith) in
    λ i. p i ++ q i ++ r i

wire_body_by : (f : Bool) (b : List ℕ) → Bytes b → length b ≡ cond f 4 2 → get_or b 0 0 ∷ get_or b 1 0 ∷ cond f (two_bytes (cond f (number b 2) 0)) [] ≡ b
unfolding build
wire_body_by true b bytes e = (λ i. get_or b 0 0 ∷ get_or b 1 0 ∷ two_again b 2 bytes (omega arith) i) ∙ sym (elements b 4 e)
wire_body_by false b bytes e = sym (elements b 2 e)

pub body_of_says : (k : Due) (b : List ℕ) → Bytes b → T (length_fits k (length b)) → body_of k (says k b) ≡ b
body_of_says block b bytes t = header_body_says b bytes (eqb→eq (length b) 8 t)
body_of_says (gate ed) b bytes t =
    let f = fitting_steps ed (length b) t in
    gate_body_says ed b f.0 bytes f.1
body_of_says (wire ed n seen) b bytes t = wire_body_by (has_wire_delays ed) b bytes (eqb→eq (length b) (wire_bytes ed) t)

-- the steps that a body says are as many as its length tells
pub steps_said : (ed : ℕ) (b : List ℕ) → T (length_fits (gate ed) (length b)) → length (says (gate ed) b).steps ≤ max_steps
steps_said ed b t =
    let f = fitting_steps ed (length b) t in
    let e : length (drop 4 b) ≡ 4 * f.0 = omega (arith, length-drop 4 b, f.1) in
    omega (arith, ap length (steps_by_index (drop 4 b) f.0 e), length_build f.0 (step_at (drop 4 b)), f.2)

-- the delay that a body says is one that the edition can give a wire
delay_fits_by : (f : Bool) (d : ℕ) → T (f || eqb (cond f d 0) 0)
delay_fits_by true d = tt
delay_fits_by false d = tt

pub delay_said : (ed n : ℕ) (seen : List Wire) (b : List ℕ) → T (delay_fits ed (says (wire ed n seen) b))
delay_said ed n seen b = delay_fits_by (has_wire_delays ed) (number b 2)
