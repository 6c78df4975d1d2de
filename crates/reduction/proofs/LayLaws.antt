-- The beginning: what the arrays hold once the wires are laid out (`laid_going`, `laid_ready`, `laid_moment`). Assumes nothing.
use mathlib.Core.Path.{◌≡◌, refl, sym, ◌∙◌, ap, subst, subst₂, fun_ext}
use mathlib.Core.Logic.{inl}
use mathlib.Core.List.{List, Memᴰ}
use Prim.Native.Nat.{ℕ, ◌+◌, ◌-◌, ◌<◌}
use native.Mathlib.Decide.{dec_lt}
use native.Mathlib.Omega.{arith}
use lib.ListN.{get_or}
use Rattle.model.specs.Block.{Block, gate_count, Stands, Joined}
use Rattle.parts.specs.Slots.{initial}
use Rattle.parts.specs.Invariant.{Reducing}
use Rattle.parts.specs.Network.{wire_at, Network}
use Rattle.parts.specs.Nodes.{leaf, shape_of, Weighed, tree_of}
use Rattle.parts.proofs.Nodes.{tree_wire}
use Rattle.parts.proofs.Start.{initial_at, initial_beyond, stands_at, start}
use Rattle.tallies.proofs.TallyLaws.{end_gates_few}
use Rattle.model.specs.Limits.{max_gates}
use Rattle.tallies.specs.Tallies.{TalliedBy}
use Rattle.tallies.specs.Queue.{LinedUp}
use Rattle.slots.specs.declared.wires.ChainedWires.{ChainedWires}
use Rattle.reduction.specs.declared.Reduction.{Reduction}
use Rattle.reduction.specs.Arrays.{Arrays, held, Room}
use Rattle.reduction.specs.Going.{Going, Ready, Queued}
use Rattle.reduction.specs.State.{state, Moment}
use Rattle.reduction.specs.Wired.{Wired, Given, Laid}
use Rattle.reduction.proofs.Held.{held_out, held_slot}
use Rattle.reduction.proofs.QueueLaws.{queued_start}

-- The wires in the arrays join gates of the block.
module _ {N : Block} {n k : ℕ} {froms tos delays : List ℕ} (net : Network N) (w : Wired N n k froms tos delays) where
  wire_stands : (i : ℕ) → i < k → Memᴰ (wire_at N.wires i) N.wires
  wire_stands i h = stands_at N.wires i (subst (λ z. i < z) (sym w.count) h)

  wire_below : (i : ℕ) → i < k → ((wire_at N.wires i).source < gate_count N) × ((wire_at N.wires i).target < gate_count N)
  wire_below i h = net.below (wire_at N.wires i).source (wire_at N.wires i).target ((wire_at N.wires i).delay, wire_stands i h)

  pub source_below : (i : ℕ) → i < k → get_or froms i 0 < n
  source_below i h = subst₂ ◌<◌ (sym (w.source i h)) w.gates (wire_below i h).0

  pub target_below : (i : ℕ) → i < k → get_or tos i 0 < n
  target_below i h = subst₂ ◌<◌ (sym (w.target i h)) w.gates (wire_below i h).1

-- The wires laid out, with room for the nodes to come.
module _ {N : Block} {n k : ℕ} {froms tos delays : List ℕ} (net : Network N) (w : Wired N n k froms tos delays) (A : Arrays) (same : A.froms ≡ froms) (d : Laid k tos delays A.lives A.tos A.tops A.tree.kinds A.tree.gates) where
  leaf_at : (i : ℕ) → i < k → tree_of A.tree (get_or A.tops i 0) ≡ leaf (wire_at N.wires i).delay
  leaf_at i h =
      let l = d i h in
      ap (tree_of A.tree) l.top ∙ tree_wire A.tree i l.kind ∙ ap leaf (l.delay ∙ w.delay i h)

  from_at : (i : ℕ) → i < k → get_or A.froms i 0 ≡ (wire_at N.wires i).source
  from_at i h = ap (λ xs. get_or xs i 0) same ∙ w.source i h

  to_at : (i : ℕ) → i < k → get_or A.tos i 0 ≡ (wire_at N.wires i).target
  to_at i h = (d i h).target ∙ w.target i h

  held_initial : (i : ℕ) → held k A i ≡ initial N.wires i
  unfolding shape_of
  held_initial i = go (dec_lt i k)
    where
      go : Dec (i < k) → held k A i ≡ initial N.wires i
      go (yes h) = held_slot k A h (d i h).live (from_at i h) (to_at i h) (ap shape_of (leaf_at i h)) ∙ sym (initial_at N.wires i (subst (λ z. i < z) (sym w.count) h))
      go (no o) = held_out k A i (omega arith) ∙ sym (initial_beyond N.wires i (omega (arith, w.count)))

  pub laid_going : Going N n k k A
  unfolding Weighed
  laid_going =
      record {
        gates = w.gates;
        reducing = subst (Reducing (Joined N.wires)) (sym (fun_ext held_initial)) (start net);
        formed =
            record {
              tops_below = λ i h. subst (λ z. z < k) (sym (d i h).top) h;
              children = λ j h. inl (d j h).kind;
              weighed = λ i h l. subst (Weighed N.wires (get_or A.froms i 0) (get_or A.tos i 0)) (sym (leaf_at i h)) (subst₂ (λ x y. Stands N.wires x y (wire_at N.wires i).delay) (sym (from_at i h)) (sym (to_at i h)) (wire_stands net w i h));
            };
      }

  pub laid_ready : Room k (k + (n + n)) A → Ready n k k A
  laid_ready r =
      record {
        room = r;
        from_below = λ i h. subst₂ ◌<◌ (sym (from_at i h)) w.gates (wire_below net w i h).0;
        to_below = λ i h. subst₂ ◌<◌ (sym (to_at i h)) w.gates (wire_below net w i h).1;
        budget = omega (arith, end_gates_few A.lives A.froms k n);
      }

-- The beginning is a moment between two turns.
pub laid_moment :
    {w : ChainedWires} {R : Reduction} {targets delays : List ℕ}
    → Given w.gates w.count w.sources.now targets delays
    → Laid w.count targets delays R.slots.live R.slots.to R.slots.top R.nodes.kind R.nodes.gate
    → Room w.count (w.count + (w.gates + w.gates)) (state w R)
    → R.nodes.count ≡ w.count
    → TalliedBy R.slots.live R.slots.to max_gates w.count R.tallies.ins
    → TalliedBy R.slots.live w.sources.now max_gates w.count R.tallies.outs
    → LinedUp w.gates R.queue.gates R.queue.places
    → (R.queue.head ≡ 0) × (R.queue.tail ≡ w.gates)
    → Moment w R
laid_moment {w} {R} given laid room count ins outs line (head, tail) =
    record {
      sound =
          record {
            block = given.block;
            network = given.network;
            going = subst (λ z. Going given.block w.gates w.count z (state w R)) (sym count) (laid_going given.network given.wired (state w R) refl laid);
          };
      ready = subst (λ z. Ready w.gates w.count z (state w R)) (sym count) ready;
      tallied = record { ins_right = λ g h. ins g (omega (arith, w.few_gates)); outs_right = λ g h. outs g (omega (arith, w.few_gates)) };
      queued = subst₂ (Queued w.gates 0 (w.gates - 1) R.tallies.ins R.tallies.outs R.queue.gates R.queue.places) (sym head) (sym tail) (queued_start line);
      room = omega (arith, ready.budget, tail);
    }
  where
    ready : Ready w.gates w.count w.count (state w R)
    ready = laid_ready given.network given.wired (state w R) refl laid room
