-- A well-formed file's block in the calls' arrays: its network may be timed, its input activities found, and what is found is the block's start, slacks and input activities.
-- Assumes nothing.
use mathlib.Core.Path.{◌≡◌, refl, sym, ◌∙◌, subst}
use mathlib.Core.List.{List}
use Prim.Native.Nat.{ℕ, ◌-◌, ◌≤◌, ◌<◌}
use native.Mathlib.Omega.{arith}
use lib.IntN.{ℤ, pos}
use lib.ListN.{length, get_or}
use Rattle.model.specs.Limits.{max_gates}
use Rattle.model.specs.Block.{Block, gate_count}
use Rattle.model.specs.Gain.{input_activity}
use Rattle.model.specs.InTime.{no_increase, drawn}
use Rattle.model.specs.Slack.{source_delay, required_time, slack, start}
use Rattle.model.proofs.Limited.{BlockLimits}
use Rattle.model.proofs.SameDelays.{source_same, required_same}
use Rattle.model.proofs.Source.{Along}
use Rattle.blockfile.specs.Held.{GateArrays, WireArrays}
use Rattle.ordering.specs.Wires.{Lent}
use Rattle.ordering.proofs.Front.{front_at}
use Rattle.timing.specs.Times.{Delays}
use Rattle.timing.specs.Start.{Startable, StartIs}
use Rattle.timing.specs.Slacks.{Slackable, slack_in}
use Rattle.timing.proofs.Found.{along}
use Rattle.gains.specs.Activities.{input_in, Summable, InputActivities}
use Rattle.gains.proofs.Activities.{input_is, held_activity}
use Rattle.loading.specs.Loads.{block_held}
use Rattle.loading.specs.HeldFile.{HeldFile}
use Rattle.loading.proofs.Held.{gates_are, lent, some_gate, delay_is, delay_most, wire_delay_most}
use Rattle.loading.proofs.Refused.{wire_room}
use Rattle.loading.proofs.Held as Held

module _ {file : List ℕ} {n m arrival deadline activity : ℕ} {G : GateArrays} {W : WireArrays} {order : List ℕ} (h : HeldFile file n m arrival deadline activity G W order) where
  abbrev pub block : Block
  block = block_held n m arrival deadline activity G W

  pub count : gate_count block ≡ n
  count = gates_are file n m arrival deadline activity G W h.well.end h.well.reads

  pub the_limits : BlockLimits block
  the_limits = Held.limits file n m arrival deadline activity G W h.well.end h.well.reads

  pub the_lent : Lent n m W.sources W.targets
  the_lent = lent file n m arrival deadline activity G W h.well.end h.well.reads (wire_room h.sources_long h.targets_long h.wire_delays_long)

  pub some : 1 ≤ n
  some = some_gate file n m arrival deadline activity G W h.well.end h.well.reads

  pub the_along : Along block.wires n
  the_along = along n m W.sources W.targets W.delays order the_lent h.ordered

  -- the same, as the laws of slack ask it
  pub along_all : Along block.wires (gate_count block)
  along_all = subst (Along block.wires) (sym count) the_along

  -- the delays of the arrays are those drawn
  delay_same : (x : ℕ) → x < n → get_or G.delays x 0 ≡ drawn block x
  delay_same x l = sym (delay_is file n m arrival deadline activity G W h.well.end h.well.reads x l)

  the_delays : Delays n m W.delays G.delays
  the_delays =
      record {
        wires_long = omega (arith, the_lent.wires, h.wire_delays_long);
        gates_long = omega (arith, h.delays_long, the_lent.gates);
        of_wire = wire_delay_most file n m arrival deadline activity G W h.well.end h.well.reads;
        of_gate =
            λ (g : ℕ) (l : g < n).
            omega (arith, delay_most file n m arrival deadline activity G W h.well.end h.well.reads g l);
      }

  pub startable : Startable n m order W.sources W.targets W.delays G.delays
  startable =
      record { some = some; lent = the_lent; ordered = h.ordered; order_long = omega (arith, h.order_long, the_lent.gates); delays = the_delays }

  pub start_found : {r : ℕ} → StartIs n m W.sources W.targets W.delays G.delays r → r ≡ start block
  unfolding start
  start_found s =
      s.is
      ∙ rw count
      (source_same block.wires n (λ (x : ℕ). get_or G.delays x 0) (drawn block) the_along.in_range delay_same 0 n (n - 1) (omega (arith, some)))

  pub slackable : (lent_out : List ℤ) → n ≤ length lent_out → Slackable n m order W.sources W.targets W.delays G.delays arrival deadline lent_out
  slackable lent_out long =
      record {
        lent = the_lent;
        ordered = h.ordered;
        order_long = omega (arith, h.order_long, the_lent.gates);
        delays = the_delays;
        arrival_small = the_limits.arrival_most;
        deadline_small = the_limits.deadline_most;
        out_long = long;
      }

  pub slack_is : (g : ℕ) → g < n → slack_in n m W.sources W.targets W.delays G.delays arrival deadline g ≡ slack block g
  unfolding slack required_time source_delay
  slack_is g l =
      rw (
        required_same block.wires n (λ (x : ℕ). get_or G.delays x 0) (drawn block) the_along.in_range delay_same (pos deadline) n g l,
        source_same block.wires n (λ (x : ℕ). get_or G.delays x 0) (drawn block) the_along.in_range delay_same arrival n g l,
        count,
      )

  pub summable : Summable n m W.sources W.targets G.activities (no_increase max_gates)
  summable =
      record {
        lent = the_lent;
        activities_long = omega (arith, h.activities_long, the_lent.gates);
        activity_small =
            λ (g : ℕ) (b : g < n).
            rw (held_activity block n m W.sources W.targets W.delays G.delays G.activities G.counts G.step_widths G.drops refl refl the_lent g b) at (the_limits.gate_limits g).activity_most;
        out_long = the_lent.gates;
      }

  pub inputs_are : (inputs : List ℕ) → InputActivities n m W.sources W.targets G.activities 0 activity (no_increase max_gates) inputs
      → (g : ℕ) → g < n → get_or inputs g 0 ≡ input_activity block g
  inputs_are inputs right g b =
      front_at n (input_in m W.sources W.targets G.activities 0 activity) (no_increase max_gates) inputs right g b
      ∙ input_is block n m W.sources W.targets W.delays G.delays G.activities G.counts G.step_widths G.drops refl refl the_lent g
