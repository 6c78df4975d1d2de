-- What loading leaves in a call's own arrays is a held file; and a slice shorter than the gates is refused.
-- Assumes nothing.
use mathlib.Core.Path.{◌≡◌, refl, sym}
use mathlib.Core.List.{List}
use Prim.Native.Nat.{ℕ, ◌*◌, ◌<◌}
use native.Mathlib.Omega.{arith}
use lib.ListN.{length}
use Rattle.model.specs.Limits.{max_gates, max_wires, max_steps}
use Rattle.model.specs.Block.{Block, gate_count}
use Rattle.model.specs.Refusal.{WellFormed}
use Rattle.model.specs.Answer.{refusal, Outcome, Line, fits, Judged, well_formed, Shorter}
use Rattle.blockfile.specs.Held.{GateArrays, WireArrays}
use Rattle.ordering.specs.Wires.{Wired}
use Rattle.ordering.specs.Order.{Order}
use Rattle.loading.specs.Loads.{block_held}
use Rattle.loading.proofs.Held.{gates_are}
use Rattle.loading.specs.HeldFile.{HeldFile}
use Rattle.loading.specs.declared.block.HeldBlock.{HeldBlock}
use Rattle.loading.specs.HeldBlock.{Holds, HoldsTimes}

module _ (file : List ℕ) (n m arrival deadline activity : ℕ) (G : GateArrays) (W : WireArrays) (order : List ℕ) where
  abbrev B : Block
  B = block_held n m arrival deadline activity G W

  pub held_file : {Beyond : Type 0} → WellFormed file B × Order (Wired m W.sources W.targets) n order × Beyond
      → length G.delays ≡ max_gates
      → length G.activities ≡ max_gates
      → length G.counts ≡ max_gates
      → length G.step_widths ≡ max_gates * max_steps
      → length G.drops ≡ max_gates * max_steps
      → length W.sources ≡ max_wires
      → length W.targets ≡ max_wires
      → length W.delays ≡ max_wires
      → length order ≡ max_gates
      → HeldFile file n m arrival deadline activity G W order
  held_file l d a c s p f t w o =
      record {
        well = l.0;
        ordered = l.1;
        delays_long = d;
        activities_long = a;
        counts_long = c;
        widths_long = s;
        drops_long = p;
        sources_long = f;
        targets_long = t;
        wire_delays_long = w;
        order_long = o;
      }

  -- 10, for a call whose first line of its own is the room in one slice for the gates
  pub too_short : {A S : Type 0} {lent : S} {further : Block → Outcome S → Type 0} (slice : List A)
      → WellFormed file B
      → length slice < n
      → Judged file lent (λ (C : Block). Line lent 10 (Shorter slice (gate_count C)) (further C)) (record { answer = refusal 10 n; memory = lent })
  too_short slice well short =
      let count = gates_are file n m arrival deadline activity G W well.end well.reads in
      well_formed B well (fits n (sym count, omega arith) refl)

-- a block that is the file's own has the file's times
pub times_held : {file : List ℕ} {b : HeldBlock} → Holds file b → HoldsTimes file b
times_held {b = b} h =
    record { activity = b.activity; activities = b.activities; counts = b.counts; step_widths = b.step_widths; drops = b.drops; held = h }
