-- The limits of a block that a file holds, as bounds on its numbers: for every gate, step and wire (document 01, "The block file"; document 02, K2 and K3). The last theorem, `read_limits`, is what other crates cite for whatever `read_block` finds.
-- Assumes nothing.
use mathlib.Core.Path.{◌≡◌, refl, sym, ◌∙◌, ap, subst}
use mathlib.Core.Logic.{◌≢◌, ⊎_elim}
use mathlib.Core.List.{List, [], ◌∷◌, map}
use mathlib.Core.Bool.{Bool, true, false, cond, not, ◌&&◌}
use Prim.Native.Nat.{ℕ, zero, suc, ◌+◌, ◌*◌, ◌-◌, ◌<◌, ◌≤◌}
use native.Mathlib.Nat.{mul-le-mul_right, not-suc-le-zero, le_of_suc-le-suc, le_refl}
use native.Mathlib.Omega.{arith}
use lib.Dec.{T, leb, ltb, eqb, leb→le, le→leb, ltb→lt, eqb_refl, T_not}
use lib.ListN.{length, get_or, length-map, get_or-map}
use Rattle.lists.proofs.Bool.{and_left, and_right, and_both, is_true}
use Rattle.lists.specs.Sum.{total}
use Rattle.lists.proofs.Compare.{le_or_lt}
use Rattle.lists.proofs.Member.{placed}
use Rattle.model.proofs.Every.{every_at, every_anywhere, some_passes}
use Rattle.model.proofs.File.{decoded_is_limited}
use Rattle.model.proofs.Reading.{made_found}
use Rattle.model.specs.Limits.{max_edition, max_gates, max_wires, max_steps, max_probability, max_delay, max_wire_delay, max_width, max_drop, max_time, max_activity}
use Rattle.model.specs.Activity.{activity}
use Rattle.model.specs.Block.{Step, Gate, Wire, Block, no_gate, gate_count, widths, Joined}
use Rattle.model.specs.Block as Block
use Rattle.model.specs.Edition.{has_activities, max_switching, activity_of}
use Rattle.model.specs.Netlist.{DrawnGate, Netlist, gate_of, block_of}
use Rattle.model.specs.File.{gate, wire, block, every, in_range, drops_fall, step_in_range, falls, falls_below, fresh, some, same_ends, all_fresh, header_of, Header, Limited, found, decode, read_block}

-- ACTIVITY. The product of two numbers of sum 256 is at most 128 × 128: the one is as far below 128 as the other is above it.
product_at_most : (p q : ℕ) → p ≤ 128 → p + q ≡ 256 → p * q ≤ 16384
product_at_most p q h e =
    let d : ℕ = 128 - p in
    let f : q ≡ 128 + d = omega arith in
    rw f (omega (arith, mul-le-mul_right d h))

twice_at_most : (p q : ℕ) → p * q ≤ 16384 → 2 * p * q ≤ 32768
twice_at_most p q h = omega arith

none_at_most : (p q : ℕ) → q ≡ 0 → p * q ≤ 16384
none_at_most p q e = rw e (omega arith)

turned : (p q : ℕ) → q * p ≤ 16384 → p * q ≤ 16384
turned p q h = omega arith

-- by the formula no activity is above that of p = 128
pub activity_at_most : (p : ℕ) → activity p ≤ 32768
unfolding activity
activity_at_most p =
    twice_at_most p (256 - p)
    (⊎_elim (λ (h : p ≤ 128). product_at_most p (256 - p) h (omega arith))
    (λ (h : 128 < p).
    ⊎_elim (λ (k : p ≤ 256). turned p (256 - p) (product_at_most (256 - p) p (omega arith) (omega arith)))
    (λ (k : 256 < p). none_at_most p (256 - p) (omega arith))
    (le_or_lt p 256))
    (le_or_lt p 128))

switching_by : (f : Bool) (v : ℕ) → v ≤ cond f max_activity max_probability → (v ≤ max_activity) × (cond f v (activity v) ≤ max_activity)
switching_by true v h = (h, h)
switching_by false v h = (omega arith, omega (arith, activity_at_most v))

-- the number for a net's switching and the net's activity have the same bound in every edition
pub switching_range : (ed v : ℕ) → v ≤ max_switching ed → (v ≤ max_activity) × (activity_of ed v ≤ max_activity)
switching_range ed = switching_by (has_activities ed)

-- STEPS
pub record StepLimits (s : Step) : Type 0 where
  pub width_least : 1 ≤ s.width
  pub width_most : s.width ≤ max_width
  pub drop_least : 1 ≤ s.drop
  pub drop_most : s.drop ≤ max_drop

pub step_limits : (s : Step) → T (step_in_range s) → StepLimits s
step_limits s t =
    let a = leb 1 s.width in
    let b = leb s.width max_width in
    let c = leb 1 s.drop in
    let d = leb s.drop max_drop in
    let u : T (a && b && c) = and_left (a && b && c) d t in
    let v : T (a && b) = and_left (a && b) c u in
    record {
      width_least = leb→le 1 s.width (and_left a b v);
      width_most = leb→le s.width max_width (and_right a b v);
      drop_least = leb→le 1 s.drop (and_right (a && b) c u);
      drop_most = leb→le s.drop max_drop (and_right (a && b && c) d t);
    }

falls_below_at : (s : Step) (ss : List Step) (j : ℕ) (d : Step) → T (falls_below s.drop ss) → j < length ss → (get_or ss j d).drop < (get_or (s ∷ ss) j d).drop
unfolding falls_below
falls_below_at s [] j d t h = absurd (not-suc-le-zero h)
falls_below_at s (r ∷ ss) zero d t h = ltb→lt r.drop s.drop (and_left (ltb r.drop s.drop) (falls_below r.drop ss) t)
falls_below_at s (r ∷ ss) (suc j) d t h = falls_below_at r ss j d (and_right (ltb r.drop s.drop) (falls_below r.drop ss) t) (le_of_suc-le-suc h)

falls_at : (ss : List Step) (j : ℕ) (d : Step) → T (falls ss) → suc j < length ss → (get_or ss (suc j) d).drop < (get_or ss j d).drop
unfolding falls
falls_at [] j d t h = absurd (not-suc-le-zero h)
falls_at (s ∷ ss) j d t h = falls_below_at s ss j d t (le_of_suc-le-suc h)

-- GATES
pub record GateLimits (g : Gate) : Type 0 where
  pub delay_most : g.delay ≤ max_delay
  pub activity_most : g.activity ≤ max_activity
  pub step_count : length g.steps ≤ max_steps
  pub step_limits : (j : ℕ) (d : Step) → j < length g.steps → StepLimits (get_or g.steps j d)
  pub drops_fall : (j : ℕ) (d : Step) → suc j < length g.steps → (get_or g.steps (suc j) d).drop < (get_or g.steps j d).drop

-- so many steps of at most the greatest width
widths_at_most : (ss : List Step) → ((j : ℕ) (d : Step) → j < length ss → StepLimits (get_or ss j d)) → widths ss ≤ length ss * max_width
unfolding total
widths_at_most [] each = le_refl 0
widths_at_most (s ∷ ss) each =
    omega (
      arith,
      (each 0 s (omega arith)).width_most,
      widths_at_most ss (λ (j : ℕ) (d : Step) (h : j < length ss). each (suc j) d (omega arith)),
    )

-- how far a gate can be slowed
pub widths_most : {g : Gate} → GateLimits g → widths g.steps ≤ max_steps * max_width
widths_most {g} l = omega (arith, widths_at_most g.steps l.step_limits, l.step_count)

-- the numbers of a gate field
pub gate_ranges : (ed : ℕ) (g : DrawnGate) → T (in_range (gate ed) g) → (g.delay ≤ max_delay) × (g.switching ≤ max_switching ed) × T (every step_in_range g.steps)
gate_ranges ed g r =
    let a = leb g.delay max_delay in
    let b = leb g.switching (max_switching ed) in
    let c = every step_in_range g.steps in
    let u : T (a && b) = and_left (a && b) c r in
    (leb→le g.delay max_delay (and_left a b u), leb→le g.switching (max_switching ed) (and_right a b u), and_right (a && b) c r)

pub gate_in_range : (ed : ℕ) (g : DrawnGate) → g.delay ≤ max_delay → g.switching ≤ max_switching ed → T (every step_in_range g.steps) → T (in_range (gate ed) g)
gate_in_range ed g d v ss =
    let a = leb g.delay max_delay in
    let b = leb g.switching (max_switching ed) in
    and_both (a && b) (every step_in_range g.steps) (and_both a b (le→leb g.delay max_delay d) (le→leb g.switching (max_switching ed) v)) ss

drawn_limits : (ed : ℕ) (g : DrawnGate) → T (in_range (gate ed) g) → T (leb (length g.steps) max_steps) → T (drops_fall (gate ed) g) → GateLimits (gate_of ed g)
drawn_limits ed g r c f =
    let l = gate_ranges ed g r in
    record {
      delay_most = l.0;
      activity_most = (switching_range ed g.switching l.1).1;
      step_count = leb→le (length g.steps) max_steps c;
      step_limits = λ (j : ℕ) (d : Step) (h : j < length g.steps). step_limits (get_or g.steps j d) (every_at step_in_range g.steps j d l.2 h);
      drops_fall = λ (j : ℕ) (d : Step) (h : suc j < length g.steps). falls_at g.steps j d f h;
    }

-- a drawn gate that no number names, and the one of number g
abbrev no_drawn : DrawnGate
no_drawn = record { delay = 0; switching = 0; steps = [] }

abbrev pub drawn_gate : Netlist → ℕ → DrawnGate
drawn_gate N g = get_or N.gates g no_drawn

-- a net with the number 0 has no transitions
never_switches : (f : Bool) → cond f 0 (activity 0) ≡ 0
unfolding activity
never_switches true = refl
never_switches false = refl

pub gate_is : (N : Netlist) (g : ℕ) → Block.gate (block_of N) g ≡ gate_of N.edition (drawn_gate N g)
gate_is N g =
    let none : no_gate ≡ gate_of N.edition no_drawn = λ i. record { delay = 0; activity = sym (never_switches (has_activities N.edition)) i; steps = [] } in
    ap (get_or (map (gate_of N.edition) N.gates) g) none ∙ get_or-map (gate_of N.edition) N.gates g no_drawn

gate_limits : {N : Netlist} → Limited N → (g : ℕ) → GateLimits (Block.gate (block_of N) g)
unfolding every falls
gate_limits {N} l g =
    rw (gate_is N g)
    (drawn_limits N.edition (drawn_gate N g) (every_anywhere (in_range (gate N.edition)) N.gates g no_drawn l.gates (gate_in_range N.edition no_drawn (omega arith) (omega arith) tt))
    (every_anywhere (λ (x : DrawnGate). leb (length x.steps) max_steps) N.gates g no_drawn l.steps tt)
    (every_anywhere (drops_fall (gate N.edition)) N.gates g no_drawn l.drops tt))

-- WIRES
pub record WireLimits (n : ℕ) (w : Wire) : Type 0 where
  pub source_below : w.source < n
  pub target_below : w.target < n
  pub apart : w.source ≢ w.target
  pub delay_most : w.delay ≤ max_wire_delay

eqb_of : (a b : ℕ) → a ≡ b → T (eqb a b)
eqb_of a b e = subst (λ (k : ℕ). T (eqb a k)) e (eqb_refl a)

fresh_apart : (seen : List Wire) (w : Wire) → T (fresh seen w) → w.source ≢ w.target
fresh_apart seen w t e =
    T_not (eqb w.source w.target) (and_left (not (eqb w.source w.target)) (not (some (same_ends w) seen)) t) (eqb_of w.source w.target e)

all_apart : (seen ws : List Wire) (i : ℕ) (d : Wire) → T (all_fresh seen ws) → i < length ws → (get_or ws i d).source ≢ (get_or ws i d).target
unfolding all_fresh
all_apart seen [] i d t h = absurd (not-suc-le-zero h)
all_apart seen (w ∷ ws) zero d t h = fresh_apart seen w (and_left (fresh seen w) (all_fresh (w ∷ seen) ws) t)
all_apart seen (w ∷ ws) (suc i) d t h = all_apart (w ∷ seen) ws i d (and_right (fresh seen w) (all_fresh (w ∷ seen) ws) t) (le_of_suc-le-suc h)

fresh_unseen : (seen : List Wire) (w : Wire) (k : ℕ) (d : Wire) → T (fresh seen w) → k < length seen → T (same_ends w (get_or seen k d)) → ⊥
fresh_unseen seen w k d t h s =
    T_not (some (same_ends w) seen) (and_right (not (eqb w.source w.target)) (not (some (same_ends w) seen)) t)
    (subst T (sym (some_passes (same_ends w) seen k d h (is_true (same_ends w (get_or seen k d)) s))) tt)

unseen_at : (seen ws : List Wire) (k j : ℕ) (d : Wire) → T (all_fresh seen ws) → k < length seen → j < length ws → T (same_ends (get_or ws j d) (get_or seen k d)) → ⊥
unfolding all_fresh
unseen_at seen [] k j d t h l s = not-suc-le-zero l
unseen_at seen (w ∷ ws) k zero d t h l s = fresh_unseen seen w k d (and_left (fresh seen w) (all_fresh (w ∷ seen) ws) t) h s
unseen_at seen (w ∷ ws) k (suc j) d t h l s = unseen_at (w ∷ seen) ws (suc k) j d (and_right (fresh seen w) (all_fresh (w ∷ seen) ws) t) (omega arith) (le_of_suc-le-suc l) s

none_twice : (seen ws : List Wire) (i j : ℕ) (d : Wire) → T (all_fresh seen ws) → i < j → j < length ws → T (same_ends (get_or ws j d) (get_or ws i d)) → ⊥
unfolding all_fresh
none_twice seen [] i j d t h l s = not-suc-le-zero l
none_twice seen (w ∷ ws) i zero d t h l s = not-suc-le-zero h
none_twice seen (w ∷ ws) zero (suc j) d t h l s = unseen_at (w ∷ seen) ws 0 j d (and_right (fresh seen w) (all_fresh (w ∷ seen) ws) t) (omega arith) (le_of_suc-le-suc l) s
none_twice seen (w ∷ ws) (suc i) (suc j) d t h l s = none_twice (w ∷ seen) ws i j d (and_right (fresh seen w) (all_fresh (w ∷ seen) ws) t) (le_of_suc-le-suc h) (le_of_suc-le-suc l) s

-- the numbers of a wire field
pub wire_ranges : (ed n : ℕ) (seen : List Wire) (w : Wire) → T (in_range (wire ed n seen) w) → (w.source < n) × (w.target < n) × (w.delay ≤ max_wire_delay)
wire_ranges ed n seen w r =
    let a = ltb w.source n in
    let b = ltb w.target n in
    let c = leb w.delay max_wire_delay in
    let u : T (a && b) = and_left (a && b) c r in
    (ltb→lt w.source n (and_left a b u), ltb→lt w.target n (and_right a b u), leb→le w.delay max_wire_delay (and_right (a && b) c r))

wire_limits : (ed n : ℕ) (seen : List Wire) (w : Wire) → T (in_range (wire ed n seen) w) → w.source ≢ w.target → WireLimits n w
wire_limits ed n seen w r apart =
    let l = wire_ranges ed n seen w r in
    record { source_below = l.0; target_below = l.1; apart = apart; delay_most = l.2 }

-- THE BLOCK
pub record BlockLimits (B : Block) : Type 0 where
  pub some_gate : 1 ≤ gate_count B
  pub gates_most : gate_count B ≤ max_gates
  pub arrival_most : B.arrival ≤ max_time
  pub deadline_most : B.deadline ≤ max_time
  pub activity_most : B.activity ≤ max_activity
  pub gate_limits : (g : ℕ) → GateLimits (Block.gate B g)
  pub wires_most : length B.wires ≤ max_wires
  pub wire_limits : (i : ℕ) (d : Wire) → i < length B.wires → WireLimits (gate_count B) (get_or B.wires i d)
  pub no_wire_twice : (i j : ℕ) (d : Wire) → i < j → j < length B.wires → (get_or B.wires j d).source ≡ (get_or B.wires i d).source → (get_or B.wires j d).target ≢ (get_or B.wires i d).target

-- a wire joins gates of the block
pub wires_join : {B : Block} → BlockLimits B → (u v : ℕ) → Joined B.wires u v → (u < gate_count B) × (v < gate_count B)
wires_join {B} limits u v j =
    let d : Wire = record { source = 0; target = 0; delay = 0 } in
    let r = placed B.wires d j.1 in
    let l = limits.wire_limits r.0 d r.1 in (
      subst (λ (w : Wire). w.source < gate_count B) r.2 l.source_below,
      subst (λ (w : Wire). w.target < gate_count B) r.2 l.target_below,
    )

wire_limits_at : {N : Netlist} → Limited N → (i : ℕ) (d : Wire) → i < length N.wires → WireLimits (length N.gates) (get_or N.wires i d)
wire_limits_at {N} l i d h =
    let w = get_or N.wires i d in
    let n = length N.gates in
    wire_limits N.edition n [] w (every_at (in_range (wire N.edition n [])) N.wires i d l.wires h) (all_apart [] N.wires i d l.no_wire_twice h)

-- the numbers of a block field
pub record HeaderLimits (h : Header) : Type 0 where
  pub edition_least : 1 ≤ h.edition
  pub edition_most : h.edition ≤ max_edition
  pub some_gate : 1 ≤ h.gate_count
  pub gates_most : h.gate_count ≤ max_gates
  pub arrival_most : h.arrival ≤ max_time
  pub deadline_most : h.deadline ≤ max_time
  pub switching_most : h.switching ≤ max_switching h.edition

pub header_limits : (h : Header) → T (in_range block h) → HeaderLimits h
header_limits h t =
    let n = h.gate_count in
    let y = leb 1 h.edition in
    let z = leb h.edition max_edition in
    let a = y && z in
    let b = leb 1 n in
    let c = leb n max_gates in
    let d = leb h.arrival max_time in
    let e = leb h.deadline max_time in
    let f = leb h.switching (max_switching h.edition) in
    let u : T (a && b && c && d && e) = and_left (a && b && c && d && e) f t in
    let v : T (a && b && c && d) = and_left (a && b && c && d) e u in
    let w : T (a && b && c) = and_left (a && b && c) d v in
    let x : T (a && b) = and_left (a && b) c w in
    record {
      edition_least = leb→le 1 h.edition (and_left y z (and_left a b x));
      edition_most = leb→le h.edition max_edition (and_right y z (and_left a b x));
      some_gate = leb→le 1 n (and_right a b x);
      gates_most = leb→le n max_gates (and_right (a && b) c w);
      arrival_most = leb→le h.arrival max_time (and_right (a && b && c) d v);
      deadline_most = leb→le h.deadline max_time (and_right (a && b && c && d) e u);
      switching_most = leb→le h.switching (max_switching h.edition) (and_right (a && b && c && d && e) f t);
    }

pub header_in_range : (h : Header) → HeaderLimits h → T (in_range block h)
header_in_range h l =
    let n = h.gate_count in
    let a = leb 1 h.edition in
    let b = leb h.edition max_edition in
    let c = leb 1 n in
    let d = leb n max_gates in
    let e = leb h.arrival max_time in
    let f = leb h.deadline max_time in
    let g = leb h.switching (max_switching h.edition) in
    and_both (a && b && c && d && e && f) g
    (and_both (a && b && c && d && e) f
    (and_both (a && b && c && d) e
    (and_both (a && b && c) d
    (and_both (a && b) c
    (and_both a b (le→leb 1 h.edition l.edition_least) (le→leb h.edition max_edition l.edition_most))
    (le→leb 1 n l.some_gate))
    (le→leb n max_gates l.gates_most))
    (le→leb h.arrival max_time l.arrival_most))
    (le→leb h.deadline max_time l.deadline_most))
    (le→leb h.switching (max_switching h.edition) l.switching_most)

pub limited_block : {N : Netlist} → Limited N → BlockLimits (block_of N)
limited_block {N} l =
    let h = header_limits (header_of N) l.header in
    let m : gate_count (block_of N) ≡ length N.gates = length-map N.gates (gate_of N.edition) in
    record {
      some_gate = rw m h.some_gate;
      gates_most = rw m h.gates_most;
      arrival_most = h.arrival_most;
      deadline_most = h.deadline_most;
      activity_most = (switching_range N.edition N.switching h.switching_most).1;
      gate_limits = gate_limits l;
      wires_most = l.wire_count;
      wire_limits = λ (i : ℕ) (y : Wire) (h : i < length N.wires). rw m (wire_limits_at l i y h);
      no_wire_twice = λ (i j : ℕ) (y : Wire) (h : i < j) (k : j < length N.wires)
          (p : (get_or N.wires j y).source ≡ (get_or N.wires i y).source)
          (q : (get_or N.wires j y).target ≡ (get_or N.wires i y).target).
          none_twice [] N.wires i j y l.no_wire_twice h k
          (and_both (eqb (get_or N.wires j y).source (get_or N.wires i y).source) (eqb (get_or N.wires j y).target (get_or N.wires i y).target)
          (eqb_of (get_or N.wires j y).source (get_or N.wires i y).source p)
          (eqb_of (get_or N.wires j y).target (get_or N.wires i y).target q));
    }

-- Whatever block a file holds is within the limits.
pub read_limits : (s : List ℕ) {B : Block} {o : ℕ} → read_block s ≡ found B o → BlockLimits B
unfolding read_block
read_limits s e =
    let d = made_found (decode s) block_of e in
    subst BlockLimits (sym d.made) (limited_block (decoded_is_limited s d.was_found))
