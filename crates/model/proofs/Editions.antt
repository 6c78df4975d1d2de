-- The editions of the block file, compared (document 02, K2 and K3). In edition 1 no wire takes time (`edition_one`; K2: "edition 1 wires have delay 0"), so that document 01's words hold of its blocks, "a path .. lasts the sum of its gates' delays". What an edition gives for a net's switching matters by the net's activity alone: two files whose activities and other numbers agree describe the same block (`same_block`). Each block of an edition is also that of a file of every later one (`raised`): wires that had no delay have delay 0, and in edition 3 each net has its activity.
-- Assumes nothing.
use mathlib.Core.Path.{◌≡◌, refl, sym, ◌∙◌, ap, subst}
use mathlib.Core.List.{List, [], map, map-map}
use mathlib.Core.Bool.{Bool, true, false, cond, ◌||◌}
use Prim.Native.Nat.{ℕ, ◌<◌, ◌≤◌}
use native.Mathlib.Omega.{arith}
use borrow.Author.Tests.{lt-leb, le-leb}
use lib.Dec.{T, leb, eqb, eqb→eq, leb→le, le→leb}
use lib.ListN.{length, length-map}
use lib.Seq.{ext_get_or}
use Rattle.lists.specs.Sum.{total}
use Rattle.lists.proofs.Member.{placed}
use Rattle.model.proofs.Every.{every_at, every_map, every_weaker}
use Rattle.model.proofs.Reading.{read_block_found}
use Rattle.model.proofs.File.{encode_decodes, decoded_is_limited}
use Rattle.model.proofs.Limited.{switching_range, gate_ranges, gate_in_range, drawn_gate, gate_is, header_limits, header_in_range}
use Rattle.model.proofs.Path.{Passes, Undelayed, ByGates, lasts_its_gates, gates_make_a_path}
use Rattle.model.specs.Limits.{max_edition, max_steps, max_probability, max_activity}
use Rattle.model.specs.Activity.{activity}
use Rattle.model.specs.Block.{Wire, Block, no_gate}
use Rattle.model.specs.Edition.{has_wire_delays, delay_fits, has_activities, max_switching, activity_of}
use Rattle.model.specs.Netlist.{DrawnGate, Netlist, block_of, gate_of}
use Rattle.model.specs.Path.{Path}
use Rattle.model.specs.File.{gate, wire, in_range, drops_fall, every, header_of, Limited, found, decode, encode, read_block}

-- EDITION 1
all_undelayed : (ws : List Wire) → T (every (delay_fits 1) ws) → Undelayed ws
all_undelayed ws t a b w m =
    let v : Wire = record { source = a; target = b; delay = w } in
    let r = placed ws v m in
    eqb→eq w 0 (subst (λ (u : Wire). T (delay_fits 1 u)) r.2 (every_at (delay_fits 1) ws r.0 v t r.1))

module _ (s : List ℕ) {N : Netlist} {o : ℕ} (read : decode s ≡ found N o) (one : N.edition ≡ 1) where
  pub edition_one : Undelayed (block_of N).wires
  edition_one = all_undelayed N.wires (subst (λ (ed : ℕ). T (every (delay_fits ed) N.wires)) one (decoded_is_limited s read).delays)

  -- a path lasts the sum of its gates' delays ..
  pub edition_one_lasts : {d : ℕ → ℕ} {a b t : ℕ} → Path (block_of N).wires d a b t → ByGates (block_of N).wires d a b t
  edition_one_lasts = lasts_its_gates edition_one

  -- .. and every path of gates is a path that lasts so long
  pub edition_one_path : (d : ℕ → ℕ) {a b : ℕ} {gs : List ℕ} → Passes (block_of N).wires a b gs → Path (block_of N).wires d a b (total d gs)
  edition_one_path d = gates_make_a_path d edition_one

-- SWITCHING. "Editions 1 and 2 keep the formula", ..
pub by_formula : (ed v : ℕ) → ed ≤ 2 → activity_of ed v ≡ activity v
by_formula ed v h = ap (λ (f : Bool). cond f v (activity v)) (lt-leb _ ed (omega arith))

-- .. and from edition 3 on the number is the activity.
pub as_measured : (ed v : ℕ) → 3 ≤ ed → activity_of ed v ≡ v
as_measured ed v h = ap (λ (f : Bool). cond f v (activity v)) (le-leb _ ed (omega arith))

-- THE SAME BLOCK. Gate g of two netlists has the same delay, activity and steps.
pub record GateAgrees (M N : Netlist) (g : ℕ) : Type 0 where
  pub delay : (drawn_gate M g).delay ≡ (drawn_gate N g).delay
  pub activity : activity_of M.edition (drawn_gate M g).switching ≡ activity_of N.edition (drawn_gate N g).switching
  pub steps : (drawn_gate M g).steps ≡ (drawn_gate N g).steps

-- Two netlists agree: in the activity of each net and in every other number. Their editions are free.
pub record Agree (M N : Netlist) : Type 0 where
  pub arrival : M.arrival ≡ N.arrival
  pub deadline : M.deadline ≡ N.deadline
  pub activity : activity_of M.edition M.switching ≡ activity_of N.edition N.switching
  pub gate_count : length M.gates ≡ length N.gates
  pub gates : (g : ℕ) → g < length M.gates → GateAgrees M N g
  pub wires : M.wires ≡ N.wires

same_gate : {M N : Netlist} {g : ℕ} → GateAgrees M N g → gate_of M.edition (drawn_gate M g) ≡ gate_of N.edition (drawn_gate N g)
same_gate a = λ i. record { delay = a.delay i; activity = a.activity i; steps = a.steps i }

pub same_block : (M N : Netlist) → Agree M N → block_of M ≡ block_of N
same_block M N a =
    let m : length (map (gate_of M.edition) M.gates) ≡ length M.gates = length-map M.gates (gate_of M.edition) in
    let n : length (map (gate_of N.edition) N.gates) ≡ length N.gates = length-map N.gates (gate_of N.edition) in
    let gates : map (gate_of M.edition) M.gates ≡ map (gate_of N.edition) N.gates =
    ext_get_or no_gate (map (gate_of M.edition) M.gates) (map (gate_of N.edition) N.gates) (m ∙ a.gate_count ∙ sym n)
    (λ (g : ℕ) (h : g < length (map (gate_of M.edition) M.gates)). gate_is M g ∙ same_gate (a.gates g (omega (arith, m))) ∙ sym (gate_is N g)) in
    λ i. record { arrival = a.arrival i; deadline = a.deadline i; activity = a.activity i; gates = gates i; wires = a.wires i }

-- Two files whose netlists agree describe the same block.
pub same_block_read : (s t : List ℕ) {M N : Netlist} {o p : ℕ} → decode s ≡ found M o → decode t ≡ found N p → Agree M N → (read_block s ≡ found (block_of M) o) × (read_block t ≡ found (block_of M) p)
same_block_read s t {M} {N} {o} {p} d e a = (read_block_found s d, read_block_found t e ∙ ap (λ (B : Block). found B p) (sym (same_block M N a)))

-- A LATER EDITION. What it gives for a net's switching where an earlier edition gave v: the net's activity, or v again.
abbrev pub switching_in : ℕ → ℕ → ℕ → ℕ
switching_in later earlier v = cond (has_activities later) (activity_of earlier v) v

abbrev gate_in : ℕ → ℕ → DrawnGate → DrawnGate
gate_in later earlier g = record { delay = g.delay; switching = switching_in later earlier g.switching; steps = g.steps }

-- A netlist in a later edition: the same wires, and the same gates but for the numbers of their nets.
abbrev pub in_edition : ℕ → Netlist → Netlist
in_edition later N =
    record {
      edition = later;
      arrival = N.arrival;
      deadline = N.deadline;
      switching = switching_in later N.edition N.switching;
      gates = map (gate_in later N.edition) N.gates;
      wires = N.wires;
    }

-- what an edition has, every later one has
still : (k earlier later : ℕ) → earlier ≤ later → T (leb k earlier) → T (leb k later)
still k earlier later h t = le→leb k later (omega (arith, leb→le k earlier t))

-- the activity is the same, and the number is in its range: by whether the later edition and the earlier give activities
activity_again : (f e : Bool) → (T e → T f) → (v : ℕ) → cond f (cond f (cond e v (activity v)) v) (activity (cond f (cond e v (activity v)) v)) ≡ cond e v (activity v)
activity_again true e s v = refl
activity_again false true s v = absurd (s tt)
activity_again false false s v = refl

range_again : (f e : Bool) → (T e → T f) → (v : ℕ) → cond e v (activity v) ≤ max_activity → v ≤ cond e max_activity max_probability → cond f (cond e v (activity v)) v ≤ cond f max_activity max_probability
range_again true e s v a h = a
range_again false true s v a h = absurd (s tt)
range_again false false s v a h = h

delay_again : (f e : Bool) → (T e → T f) → (d : ℕ) → T (e || eqb d 0) → T (f || eqb d 0)
delay_again true e s d t = tt
delay_again false true s d t = absurd (s tt)
delay_again false false s d t = t

module _ {N : Netlist} (l : Limited N) (later : ℕ) (not_Earlier : N.edition ≤ later) (known : later ≤ max_edition) where
  number_fits : (v : ℕ) → v ≤ max_switching N.edition → switching_in later N.edition v ≤ max_switching later
  number_fits v h = range_again (has_activities later) (has_activities N.edition) (still _ N.edition later not_Earlier) v (switching_range N.edition v h).1 h

  gate_fits : (g : DrawnGate) → T (in_range (gate N.edition) g) → T (in_range (gate later) (gate_in later N.edition g))
  gate_fits g t =
      let r = gate_ranges N.edition g t in
      gate_in_range later (gate_in later N.edition g) r.0 (number_fits g.switching r.1) r.2

  raised_limits : Limited (in_edition later N)
  raised_limits =
      let h = header_limits (header_of N) l.header in
      let n : length (map (gate_in later N.edition) N.gates) ≡ length N.gates = length-map N.gates (gate_in later N.edition) in
      record {
        header =
            header_in_range (header_of (in_edition later N))
            (record {
              edition_least = omega (arith, h.edition_least);
              edition_most = known;
              some_gate = rw n h.some_gate;
              gates_most = rw n h.gates_most;
              arrival_most = h.arrival_most;
              deadline_most = h.deadline_most;
              switching_most = number_fits N.switching h.switching_most;
            });
        gates =
            subst T (sym (every_map (in_range (gate later)) (gate_in later N.edition) N.gates))
            (every_weaker (in_range (gate N.edition)) (λ (g : DrawnGate). in_range (gate later) (gate_in later N.edition g)) gate_fits N.gates l.gates);
        steps = subst T (sym (every_map (λ (g : DrawnGate). leb (length g.steps) max_steps) (gate_in later N.edition) N.gates)) l.steps;
        drops = subst T (sym (every_map (drops_fall (gate later)) (gate_in later N.edition) N.gates)) l.drops;
        wires = subst (λ (m : ℕ). T (every (in_range (wire later m [])) N.wires)) (sym n) l.wires;
        delays =
            every_weaker (delay_fits N.edition) (delay_fits later)
            (λ (w : Wire). delay_again (has_wire_delays later) (has_wire_delays N.edition) (still _ N.edition later not_Earlier) w.delay)
            N.wires l.delays;
        no_wire_twice = l.no_wire_twice;
        wire_count = l.wire_count;
      }

  same_activity : (v : ℕ) → activity_of later (switching_in later N.edition v) ≡ activity_of N.edition v
  same_activity = activity_again (has_activities later) (has_activities N.edition) (still _ N.edition later not_Earlier)

  raised_block : block_of (in_edition later N) ≡ block_of N
  raised_block =
      let gates : map (gate_of later) (map (gate_in later N.edition) N.gates) ≡ map (gate_of N.edition) N.gates =
      map-map (gate_of later) (gate_in later N.edition) N.gates
      ∙ (λ i. map (λ (g : DrawnGate). record { delay = g.delay; activity = same_activity g.switching i; steps = g.steps }) N.gates) in
      λ i. record { arrival = N.arrival; deadline = N.deadline; activity = same_activity N.switching i; gates = gates i; wires = N.wires }

  -- A block of an edition in a file of a later one.
  pub raised : read_block (encode (in_edition later N)) ≡ found (block_of N) (length (encode (in_edition later N)))
  raised =
      read_block_found (encode (in_edition later N)) (encode_decodes raised_limits)
      ∙ ap (λ (B : Block). found B (length (encode (in_edition later N)))) raised_block
