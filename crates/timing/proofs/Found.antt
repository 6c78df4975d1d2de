-- The times found gate after gate, along the order: those of the gates placed before k are right, and one gate more makes it so for k + 1.
-- Assumes nothing.
use mathlib.Core.Path.{◌≡◌, refl, sym, ◌∙◌, ap}
use mathlib.Core.Logic.{◌≢◌}
use mathlib.Core.List.{List}
use Prim.Native.Nat.{ℕ, zero, suc, ◌+◌, ◌*◌, ◌≤◌, ◌<◌}
use native.Mathlib.Decide.{ℕ_discrete}
use native.Mathlib.Omega.{arith}
use lib.ListN.{length, get_or, set, length-set}
use lib.Seq.{get_or-set_same, get_or-set_other}
use Rattle.lists.proofs.Over.{mem_build}
use Rattle.model.specs.Limits.{max_time}
use Rattle.model.specs.Block.{Wire, Stands}
use Rattle.model.specs.Slack.{latest_in, source_by}
use Rattle.model.specs.Arrays.{wire_at, wires_in}
use Rattle.model.proofs.Source.{Along, Came, at_base, by_wire, latest_same, latest_attained, source_equation}
use Rattle.ordering.specs.Wires.{Lent, Wired}
use Rattle.ordering.specs.Order.{Order, SameBeyond}
use Rattle.ordering.proofs.Front.{set_beyond, front_written}
use Rattle.timing.specs.Times.{most_delay, time_bound, Walkable, Ready, source_in, LatestTimes}

-- a wire of the arrays' list stands at some place of the arrays
pub wired : (m : ℕ) (sources targets delays : List ℕ) (a b w : ℕ) → Stands (wires_in m sources targets delays) a b w → Wired m sources targets a b
wired m sources targets delays a b w on =
    let r = mem_build m (wire_at sources targets delays) on in
    record {
      place = r.0;
      below = r.1;
      source = ap (λ (v : Wire). v.source) (sym r.2);
      target = ap (λ (v : Wire). v.target) (sym r.2);
    }

abbrev pub along : (n m : ℕ) (sources targets delays order : List ℕ) → Lent n m sources targets → Order (Wired m sources targets) n order → Along (wires_in m sources targets delays) n
along n m sources targets delays order lent ordered =
    record {
      place = ordered.place;
      below = ordered.has_place;
      grows = λ (a b w : ℕ) (on : Stands (wires_in m sources targets delays) a b w). ordered.forward a b (wired m sources targets delays a b w on);
      in_range =
          λ (a b w : ℕ) (on : Stands (wires_in m sources targets delays) a b w).
          let r = wired m sources targets delays a b w on in (
            rw r.source at (lent.source_is_gate r.place r.below),
            rw r.target at (lent.target_is_gate r.place r.below),
          );
    }

-- each gate passed adds at most a gate's and a wire's longest delay
pub source_bounded : (n m : ℕ) (sources targets delays : List ℕ) (d : ℕ → ℕ) (base : ℕ)
    → ((i : ℕ) → i < m → (get_or delays i 0 ≤ max_time) × (get_or sources i 0 < n))
    → ((g : ℕ) → g < n → d g ≤ most_delay)
    → (f g : ℕ)
    → g < n
    → source_by f (wires_in m sources targets delays) d base g ≤ base + f * (most_delay + max_time)
unfolding source_by
source_bounded n m sources targets delays d base of_wire of_gate zero g h = omega arith
source_bounded n m sources targets delays d base of_wire of_gate (suc f) g h =
    by (latest_attained ws (source_by f ws d base) base g) (source_bounded n m sources targets delays d base of_wire of_gate f)
  where
    ws : List Wire
    ws = wires_in m sources targets delays

    by : Came ws (source_by f ws d base) base g (latest_in ws (source_by f ws d base) base g)
        → ((x : ℕ) → x < n → source_by f ws d base x ≤ base + f * (most_delay + max_time))
        → latest_in ws (source_by f ws d base) base g + d g ≤ base + suc f * (most_delay + max_time)
    by (at_base e) below = omega (arith, of_gate g h)
    by (by_wire a w on e) below =
        let r = mem_build m (wire_at sources targets delays) on in
        let is : w ≡ get_or delays r.0 0 = ap (λ (v : Wire). v.delay) r.2 in
        let from : get_or sources r.0 0 ≡ a = ap (λ (v : Wire). v.source) (sym r.2) in
        let in_block : a < n = rw from at (of_wire r.0 r.1).1 in
        omega (arith, of_gate g h, below a in_block, (of_wire r.0 r.1).0)

module _ (n m : ℕ) (order sources targets wire_delays gate_delays heads links : List ℕ) (base : ℕ) (lent_times : List ℕ) (ready : Ready n m order sources targets wire_delays gate_delays heads links base lent_times) where
  abbrev source_time : ℕ → ℕ
  source_time = source_in n m sources targets wire_delays gate_delays base

  source_small : (g : ℕ) → g < n → source_time g ≤ time_bound
  source_small g h =
      omega (
        arith,
        source_bounded n m sources targets wire_delays (λ (x : ℕ). get_or gate_delays x 0) base (λ (i : ℕ) (l : i < m). (ready.walkable.of_wire i l, ready.walkable.lent.source_is_gate i l)) ready.delays.of_gate n g h,
        ready.base_small,
        ready.walkable.lent.gates,
      )

  -- the times of the gates placed before k are right
  pub record Found (k : ℕ) (times : List ℕ) : Type 0 where
    pub within : k ≤ n
    pub same_length : length times ≡ length lent_times
    pub bounded : (g : ℕ) → get_or times g 0 ≤ time_bound
    pub right : (g : ℕ) → g < n → ready.ordered.place g < k → get_or times g 0 ≡ source_time g
    pub beyond : SameBeyond n lent_times times

  pub found_none : Found 0 lent_times
  found_none =
      record {
        within = omega arith;
        same_length = refl;
        bounded = ready.walkable.bounded;
        right = λ (g : ℕ) (h : g < n) (l : ready.ordered.place g < 0). absurd (omega arith);
        beyond = λ (i : ℕ) (h : n ≤ i). refl;
      }

  pub found_walkable : (k : ℕ) (times : List ℕ) → Found k times → Walkable n m sources targets wire_delays heads links times
  found_walkable k times f =
      let w = ready.walkable in
      record {
        lent = w.lent;
        wires_long = w.wires_long;
        of_wire = w.of_wire;
        heads_long = w.heads_long;
        links_long = w.links_long;
        chained = w.chained;
        times_long = omega (arith, w.times_long, f.same_length);
        bounded = f.bounded;
      }

  -- the gate placed at k has its right time once the latest time of its wires in is known
  pub right_time : (k g latest : ℕ) (times : List ℕ)
      → Found k times
      → k < n
      → g ≡ get_or order k 0
      → latest ≡ latest_in (wires_in m sources targets wire_delays) (λ (a : ℕ). get_or times a 0) base g
      → latest + get_or gate_delays g 0 ≡ source_time g
  right_time k g latest times f h e is =
      let ws = wires_in m sources targets wire_delays in
      let d : ℕ → ℕ = λ (x : ℕ). get_or gate_delays x 0 in
      let in_block : g < n = rw (← e) at (ready.ordered.names_gate k h) in
      let placed : ready.ordered.place g ≡ k = rw e (ready.ordered.place_of k h) in
      let o = along n m sources targets wire_delays order ready.walkable.lent ready.ordered in
      let same =
      latest_same ws (λ (a : ℕ). get_or times a 0) source_time base g
      (λ (a w : ℕ) (on : Stands ws a g w). f.right a (o.in_range a g w on).0 (omega (arith, o.grows a g w on))) in
      omega (arith, source_equation ws d base n o g in_block)

  pub found_more : (k g latest : ℕ) (times : List ℕ)
      → Found k times
      → k < n
      → g ≡ get_or order k 0
      → latest ≡ latest_in (wires_in m sources targets wire_delays) (λ (a : ℕ). get_or times a 0) base g
      → Found (k + 1) (set times g (latest + get_or gate_delays g 0))
  found_more k g latest times f h e is =
      record {
        within = omega arith;
        same_length = length-set times g (latest + get_or gate_delays g 0) ∙ f.same_length;
        bounded = small;
        right = all_right;
        beyond = set_beyond n g (latest + get_or gate_delays g 0) lent_times times in_block f.beyond;
      }
    where
      in_block : g < n
      in_block = rw (← e) at (ready.ordered.names_gate k h)

      in_times : g < length times
      in_times = omega (arith, (found_walkable k times f).times_long, ready.ordered.names_gate k h)

      here : latest + get_or gate_delays g 0 ≡ source_time g
      here = right_time k g latest times f h e is

      small : (x : ℕ) → get_or (set times g (latest + get_or gate_delays g 0)) x 0 ≤ time_bound
      small x = by (ℕ_discrete x g)
        where
          by : Dec (x ≡ g) → get_or (set times g (latest + get_or gate_delays g 0)) x 0 ≤ time_bound
          by (yes s) = rw (s, get_or-set_same times g (latest + get_or gate_delays g 0) 0 in_times, here) (source_small g in_block)
          by (no o) = rw (get_or-set_other times g x (latest + get_or gate_delays g 0) 0 o) (f.bounded x)

      all_right : (x : ℕ) → x < n → ready.ordered.place x < k + 1 → get_or (set times g (latest + get_or gate_delays g 0)) x 0 ≡ source_time x
      all_right x l p = by (ℕ_discrete x g)
        where
          by : Dec (x ≡ g) → get_or (set times g (latest + get_or gate_delays g 0)) x 0 ≡ source_time x
          by (yes s) = rw (s, get_or-set_same times g (latest + get_or gate_delays g 0) 0 in_times) here
          by (no o) =
              let other : ready.ordered.place x ≢ k = λ (q : ready.ordered.place x ≡ k). o (sym (ready.ordered.stands_there x l) ∙ ap (λ (y : ℕ). get_or order y 0) q ∙ sym e) in
              get_or-set_other times g x (latest + get_or gate_delays g 0) 0 o ∙ f.right x l (omega arith)

  pub found_all : (times : List ℕ) → Found n times → LatestTimes n m sources targets wire_delays gate_delays base lent_times times
  found_all times f =
      front_written n source_time lent_times times ready.walkable.times_long f.same_length
      (λ (g : ℕ) (h : g < n). f.right g h (ready.ordered.has_place g h))
      f.beyond

  pub found_fits : (k g latest : ℕ) (times : List ℕ)
      → Found k times
      → k < n
      → g ≡ get_or order k 0
      → latest ≡ latest_in (wires_in m sources targets wire_delays) (λ (a : ℕ). get_or times a 0) base g
      → latest + get_or gate_delays g 0 ≤ time_bound
  found_fits k g latest times f h e is =
      rw (right_time k g latest times f h e is) (source_small g (rw (← e) at (ready.ordered.names_gate k h)))
