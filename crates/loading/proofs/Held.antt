-- What a block that a file holds is in the arrays: as many gates and wires, each number within its limits, each wire between two gates.
-- Assumes nothing.
use mathlib.Core.Path.{◌≡◌, refl, subst, ap}
use mathlib.Core.List.{List}
use Prim.Native.Nat.{ℕ, ◌≤◌, ◌<◌}
use native.Mathlib.Omega.{arith}
use lib.ListN.{length, get_or}
use Rattle.lists.proofs.Over.{length_build, get_or_build}
use Rattle.model.specs.Limits.{max_delay, max_time}
use Rattle.model.specs.Block.{Gate, Wire, Block, no_gate, gate, gate_count}
use Rattle.model.specs.Arrays.{wire_at, gate_at}
use Rattle.model.specs.File.{found, read_block}
use Rattle.model.proofs.Limited.{BlockLimits, read_limits}
use Rattle.blockfile.specs.Held.{GateArrays, WireArrays, WireRoom}
use Rattle.ordering.specs.Wires.{Lent, InArrays}
use Rattle.loading.specs.Loads.{block_held}

module _ (file : List ℕ) (n m arrival deadline activity : ℕ) (G : GateArrays) (W : WireArrays) (o : ℕ) (reads : read_block file ≡ found (block_held n m arrival deadline activity G W) o) where
  abbrev B : Block
  B = block_held n m arrival deadline activity G W

  pub gates_are : gate_count B ≡ n
  gates_are = length_build n (gate_at G.delays G.activities G.counts G.step_widths G.drops)

  pub wires_are : length B.wires ≡ m
  wires_are = length_build m (wire_at W.sources W.targets W.delays)

  pub limits : BlockLimits B
  limits = read_limits file reads

  -- a wire's gates are below n
  ends_below : (i : ℕ) → i < m → (get_or W.sources i 0 < n) × (get_or W.targets i 0 < n)
  ends_below i h =
      let d = wire_at W.sources W.targets W.delays 0 in
      let is = get_or_build m (wire_at W.sources W.targets W.delays) i d h in
      let l = limits.wire_limits i d (rw wires_are h) in (
        rw gates_are at (subst (λ (w : Wire). w.source < gate_count B) is l.source_below),
        rw gates_are at (subst (λ (w : Wire). w.target < gate_count B) is l.target_below),
      )

  pub lent : WireRoom W → Lent n m W.sources W.targets
  lent room =
      record {
        gates = rw gates_are at limits.gates_most;
        wires = rw wires_are at limits.wires_most;
        sources_long = omega (arith, room.sources, rw wires_are at limits.wires_most);
        targets_long = omega (arith, room.targets, rw wires_are at limits.wires_most);
        source_is_gate = λ (i : ℕ) (h : i < m). (ends_below i h).0;
        target_is_gate = λ (i : ℕ) (h : i < m). (ends_below i h).1;
      }

  pub some_gate : 1 ≤ n
  some_gate = rw gates_are at limits.some_gate

  pub in_arrays : InArrays B n m W.sources W.targets
  in_arrays = record { delays = W.delays; gates = gates_are; wires = refl }

  -- gate g, as the arrays have it
  pub gate_is : (g : ℕ) → g < n → gate B g ≡ gate_at G.delays G.activities G.counts G.step_widths G.drops g
  gate_is g h = get_or_build n (gate_at G.delays G.activities G.counts G.step_widths G.drops) g no_gate h

  pub delay_is : (g : ℕ) → g < n → (gate B g).delay ≡ get_or G.delays g 0
  delay_is g h = ap (λ (x : Gate). x.delay) (gate_is g h)

  pub delay_most : (g : ℕ) → g < n → get_or G.delays g 0 ≤ max_delay
  delay_most g h = rw (delay_is g h) at (limits.gate_limits g).delay_most

  pub wire_delay_most : (i : ℕ) → i < m → get_or W.delays i 0 ≤ max_time
  wire_delay_most i h =
      let d = wire_at W.sources W.targets W.delays 0 in
      let is = get_or_build m (wire_at W.sources W.targets W.delays) i d h in
      omega (arith, (limits.wire_limits i d (rw wires_are h)).delay_most, ap (λ (w : Wire). w.delay) is)

  pub arrival_most : arrival ≤ max_time
  arrival_most = limits.arrival_most

  pub deadline_most : deadline ≤ max_time
  deadline_most = limits.deadline_most
