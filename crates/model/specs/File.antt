-- The block file (document 01, "The block file", "Refusals and their places"; document 02, K2 and K3: editions 2 and 3): `decode` from bytes to a netlist or a refusal with its place, and `encode`.
-- Lengths and ranges of each tag stand here and nowhere else, but for what differs by edition (Edition).
use mathlib.Core.List.{List, [], ◌∷◌, ◌++◌, flat_map}
use Rattle.std.specs.Prelude.{Bool, true, false, cond, not, ◌&&◌, ◌||◌, ℕ, zero, suc, ◌+◌, ◌*◌, ◌%◌, ◌≤◌, T, leb, ltb, eqb, length, get_or, drop}
use Rattle.model.specs.declared.Field.{Field}
use Rattle.model.specs.declared.Field.TheVariants.{NoHeader, NoBody, Whole}
use Rattle.model.specs.Limits.{max_edition, max_gates, max_wires, max_steps, max_delay, max_wire_delay, max_width, max_drop, max_time}
use Rattle.model.specs.Block.{Step, Wire, Block}
use Rattle.model.specs.Edition.{wire_bytes, delay_in, delay_bytes, delay_fits, max_switching}
use Rattle.model.specs.Netlist.{DrawnGate, Netlist, block_of}
use Rattle.model.specs.Field.{byte_values, number, two_bytes, field, field_at, body_at, body_to}

-- The numbers of a block field.
pub record Header : Type 0 where
  pub edition : ℕ
  pub gate_count : ℕ
  pub arrival : ℕ
  pub deadline : ℕ
  pub switching : ℕ

-- What is due at a place of the file: the block field; in a file of this edition a gate field; or there, in a block of so many gates, a wire field after the wires that stood before.
pub data Due : Type 0 where
  block : Due
  gate : ℕ → Due
  wire : ℕ → ℕ → List Wire → Due

-- what a field says
abbrev pub Value : Due → Type 0
Value block = Header
Value (gate edition) = DrawnGate
Value (wire edition n seen) = Wire

abbrev pub tag_of : Due → ℕ
tag_of block = 1
tag_of (gate edition) = 2
tag_of (wire edition n seen) = 3

-- the lengths of each tag: 8; 4 + 4k for k from 0 to 8; 2, from edition 2 on 4
abbrev pub length_fits : Due → ℕ → Bool
length_fits block l = eqb l 8
length_fits (gate edition) l = leb 4 l && leb l (4 + 4 * max_steps) && eqb (l % 4) 0
length_fits (wire edition n seen) l = eqb l (wire_bytes edition)

-- steps of width and drop, two bytes each, one after another
unfoldable pub steps_in : List ℕ → List Step
steps_in [] = []
steps_in (a ∷ []) = []
steps_in (a ∷ b ∷ []) = []
steps_in (a ∷ b ∷ c ∷ []) = []
steps_in (a ∷ b ∷ c ∷ d ∷ rest) = record { width = byte_values * a + b; drop = byte_values * c + d } ∷ steps_in rest

-- what the body of a field says
abbrev pub says : (k : Due) → List ℕ → Value k
says block b =
    record {
      edition = get_or b 0 0;
      gate_count = get_or b 1 0;
      arrival = number b 2;
      deadline = number b 4;
      switching = number b 6;
    }
says (gate edition) b = record { delay = number b 0; switching = number b 2; steps = steps_in (drop 4 b) }
says (wire edition n seen) b = record { source = get_or b 0 0; target = get_or b 1 0; delay = delay_in edition b }

-- the test passes at every element
unfoldable pub every : {A : Type 0} → (A → Bool) → List A → Bool
every test [] = true
every test (x ∷ xs) = test x && every test xs

-- the test passes at some element
unfoldable pub some : {A : Type 0} → (A → Bool) → List A → Bool
some test [] = false
some test (x ∷ xs) = test x || some test xs

-- width 1 to 4,095 and drop 1 to 1,000
abbrev pub step_in_range : Step → Bool
step_in_range s = leb 1 s.width && leb s.width max_width && leb 1 s.drop && leb s.drop max_drop

-- every number of a field is in its range
abbrev pub in_range : (k : Due) → Value k → Bool
in_range block h =
    leb 1 h.edition
    && leb h.edition max_edition
    && leb 1 h.gate_count
    && leb h.gate_count max_gates
    && leb h.arrival max_time
    && leb h.deadline max_time
    && leb h.switching (max_switching h.edition)
in_range (gate edition) g = leb g.delay max_delay && leb g.switching (max_switching edition) && every step_in_range g.steps
in_range (wire edition n seen) w = ltb w.source n && ltb w.target n && leb w.delay max_wire_delay

-- "Drops fall strictly": the first is below the bound, each other below the one before
unfoldable pub falls_below : ℕ → List Step → Bool
falls_below bound [] = true
falls_below bound (s ∷ ss) = ltb s.drop bound && falls_below s.drop ss

unfoldable pub falls : List Step → Bool
falls [] = true
falls (s ∷ ss) = falls_below s.drop ss

abbrev pub drops_fall : (k : Due) → Value k → Bool
drops_fall block h = true
drops_fall (gate edition) g = falls g.steps
drops_fall (wire edition n seen) w = true

-- two wires lead from the same gate to the same gate, whatever their delays
abbrev pub same_ends : Wire → Wire → Bool
same_ends v w = eqb v.source w.source && eqb v.target w.target

-- the wire joins two gates, and none of those before it joined them
abbrev pub fresh : List Wire → Wire → Bool
fresh seen w = not (eqb w.source w.target) && not (some (same_ends w) seen)

abbrev pub is_fresh : (k : Due) → Value k → Bool
is_fresh block h = true
is_fresh (gate edition) g = true
is_fresh (wire edition n seen) w = fresh seen w

-- the refusal's number where the test fails, else what the further tests say
abbrev pub unless : Bool → ℕ → ℕ → ℕ
unless passed k further = cond passed further k

-- The number of the refusal of a field where k is due, 0 if it has no fault. "Within one: 7, short header (1), 2, 3, short body (1), 4, 5, 6"; for 7 see `read_wires`.
abbrev pub fault_of : Due → Field → List ℕ → ℕ
fault_of k NoHeader body = 1
fault_of k (NoBody tag len) body = unless (eqb tag (tag_of k)) 2 (unless (length_fits k len) 3 1)
fault_of k (Whole tag a b) body =
    unless (eqb tag (tag_of k)) 2
    (unless (length_fits k (length body)) 3
    (unless (in_range k (says k body)) 4 (unless (drops_fall k (says k body)) 5 (unless (is_fresh k (says k body)) 6 0))))

unfoldable pub fault : Due → List ℕ → ℕ → ℕ
fault k s o = fault_of k (field_at s o) (body_at s o)

-- What reading finds: a value and the offset behind it, or a refusal's number and place.
pub data Reading (A : Type 0) : Type 0 where
  found : A → ℕ → Reading A
  refused : ℕ → ℕ → Reading A

-- reading goes on with what was found
abbrev pub and_then : {A B : Type 0} → Reading A → (A → ℕ → Reading B) → Reading B
and_then (found a o) next = next a o
and_then (refused k o) next = refused k o

-- a field without fault is what it says, and one with a fault is refused at its own offset
abbrev pub unless_fault : {A : Type 0} → ℕ → ℕ → A → ℕ → Reading A
unless_fault zero o value next = found value next
unless_fault (suc k) o value next = refused (suc k) o

-- the field at offset o, where k is due
unfoldable pub read_field : (k : Due) → List ℕ → ℕ → Reading (Value k)
read_field k s o = unless_fault (fault k s o) o (says k (body_at s o)) (body_to s o)

-- so many gate fields of an edition from offset o on
unfoldable pub read_gates : ℕ → ℕ → List ℕ → ℕ → Reading (List DrawnGate)
read_gates edition zero s o = found [] o
read_gates edition (suc n) s o =
    and_then (read_field (gate edition) s o)
    (λ (g : DrawnGate) (p : ℕ). and_then (read_gates edition n s p) (λ (gs : List DrawnGate) (q : ℕ). found (g ∷ gs) q))

-- "Wire fields follow until the bytes end": from offset o on, with room for so many; a byte beyond them is refusal 7
unfoldable pub read_wires : ℕ → ℕ → ℕ → List Wire → List ℕ → ℕ → Reading (List Wire)
read_wires zero edition n seen s o = cond (leb (length s) o) (found [] o) (refused 7 o)
read_wires (suc room) edition n seen s o =
    elim (leb (length s) o) [
      | true ↦ found [] o
      | false ↦
          and_then (read_field (wire edition n seen) s o)
          (λ (w : Wire) (p : ℕ). and_then (read_wires room edition n (w ∷ seen) s p) (λ (ws : List Wire) (q : ℕ). found (w ∷ ws) q))
    ]

abbrev pub netlist : Header → List DrawnGate → List Wire → Netlist
netlist h gs ws =
    record {
      edition = h.edition;
      arrival = h.arrival;
      deadline = h.deadline;
      switching = h.switching;
      gates = gs;
      wires = ws;
    }

-- "The order is one block, n gates, then wires." The netlist that the bytes hold, with the offset behind the last field, or the first refusal of 1 to 7.
unfoldable pub decode : List ℕ → Reading Netlist
decode s =
    and_then (read_field block s 0)
    (λ (h : Header) (o : ℕ).
    and_then (read_gates h.edition h.gate_count s o)
    (λ (gs : List DrawnGate) (p : ℕ).
    and_then (read_wires max_wires h.edition h.gate_count [] s p) (λ (ws : List Wire) (q : ℕ). found (netlist h gs ws) q)))

-- the block that the bytes hold, or the first refusal of 1 to 7
unfoldable pub read_block : List ℕ → Reading Block
read_block s = and_then (decode s) (λ (N : Netlist) (o : ℕ). found (block_of N) o)

abbrev pub header_of : Netlist → Header
header_of N =
    record {
      edition = N.edition;
      gate_count = length N.gates;
      arrival = N.arrival;
      deadline = N.deadline;
      switching = N.switching;
    }

-- the body of a block field, of a gate field, and of a wire field in an edition
abbrev pub header_body : Header → List ℕ
header_body h =
    h.edition ∷ h.gate_count ∷ two_bytes h.arrival ++ two_bytes h.deadline ++ two_bytes h.switching

abbrev pub step_bytes : Step → List ℕ
step_bytes s = two_bytes s.width ++ two_bytes s.drop

abbrev pub gate_body : DrawnGate → List ℕ
gate_body g = two_bytes g.delay ++ two_bytes g.switching ++ flat_map step_bytes g.steps

abbrev pub wire_body : ℕ → Wire → List ℕ
wire_body edition w = w.source ∷ w.target ∷ delay_bytes edition w.delay

-- the file that says a netlist
unfoldable pub encode : Netlist → List ℕ
encode N =
    field (tag_of block) (header_body (header_of N))
    ++ flat_map (λ (g : DrawnGate). field (tag_of (gate N.edition)) (gate_body g)) N.gates
    ++ flat_map (λ (w : Wire). field (tag_of (wire N.edition 0 [])) (wire_body N.edition w)) N.wires

-- no wire joins a gate to itself, stands twice or stands among those seen
unfoldable pub all_fresh : List Wire → List Wire → Bool
all_fresh seen [] = true
all_fresh seen (w ∷ ws) = fresh seen w && all_fresh (w ∷ seen) ws

-- The netlist is within the limits: it can stand in a file of its edition.
pub record Limited (N : Netlist) : Type 0 where
  pub header : T (in_range block (header_of N))
  pub gates : T (every (in_range (gate N.edition)) N.gates)
  pub steps : T (every (λ (g : DrawnGate). leb (length g.steps) max_steps) N.gates)
  pub drops : T (every (drops_fall (gate N.edition)) N.gates)
  pub wires : T (every (in_range (wire N.edition (length N.gates) [])) N.wires)
  pub delays : T (every (delay_fits N.edition) N.wires)
  pub no_wire_twice : T (all_fresh [] N.wires)
  pub wire_count : length N.wires ≤ max_wires
