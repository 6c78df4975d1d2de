-- Heads stored: what stands at a place is a gate's or a node's head, and a head written is one gate's or one node's.
-- Assumes nothing.
use mathlib.Core.Path.{◌≡◌, refl, sym, ◌∙◌, ap}
use mathlib.Core.List.{List, map}
use Prim.Native.Nat.{ℕ, ◌<◌}
use native.Mathlib.Omega.{arith}
use lib.ListN.{length, get_or, set}
use Rattle.std.proofs.lemmas.List.{length-map, map-set}
use Rattle.std.proofs.Math.ListN.{get_or-map}
use Rattle.model.specs.Limits.{max_gates}
use Rattle.planting.specs.Copy.{max_nodes}
use Rattle.ties.specs.declared.Head.{Head as Coded}
use Rattle.ties.specs.Code.{head_of, of_key}
use Rattle.ties.proofs.Keys.{key_back}
use Rattle.heads.specs.declared.store.Heads.{Heads}
use Rattle.heads.specs.Stored.{Room, GateRoom, NodeRoom, NodeWritten, GateWritten, AllThere, stored, stored_in, head_at, put, gate_heads, node_heads}

-- the head where there is none
abbrev pub no_coded : Coded
no_coded = record { key = 0; width = 0 }

stored_at : (heads : List Coded) (k : ℕ) → head_of (get_or heads k no_coded) ≡ head_at (stored_in heads) k
stored_at heads k =
    λ t. of_key (sym (get_or-map (λ (a : Coded). a.width) heads k no_coded) t) (sym (get_or-map (λ (a : Coded). a.key) heads k no_coded) t)

stored_put : (heads : List Coded) (k : ℕ) (a : Coded) → stored_in (set heads k a) ≡ put (stored_in heads) k (head_of a)
stored_put heads k a =
    λ t.
    stored (map-set (λ (b : Coded). b.width) heads k a t)
    ((map-set (λ (b : Coded). b.key) heads k a ∙ ap (set (map (λ (b : Coded). b.key) heads) k) (sym (key_back a.width a.key))) t)

room_there : (heads : List Coded) (k : ℕ) → Room (stored_in heads) k → k < length heads
room_there heads k r = rw (length-map heads (λ (a : Coded). a.width)) at r.in_widths

there_room : (heads : List Coded) (k : ℕ) → k < length heads → Room (stored_in heads) k
there_room heads k l =
    record {
      in_widths = rw (length-map heads (λ (a : Coded). a.width)) l;
      in_keys = rw (length-map heads (λ (a : Coded). a.key)) l;
    }

module _ (kept : Heads) (k : ℕ) where
  pub gate_there : GateRoom kept k → k < length kept.gates
  unfolding gate_heads
  gate_there at = room_there kept.gates k at.room

  pub node_there : NodeRoom kept k → k < length kept.nodes
  unfolding node_heads
  node_there at = room_there kept.nodes k at.room

  pub gate_read : head_of (get_or kept.gates k no_coded) ≡ head_at (gate_heads kept) k
  unfolding gate_heads
  gate_read = stored_at kept.gates k

  pub node_read : head_of (get_or kept.nodes k no_coded) ≡ head_at (node_heads kept) k
  unfolding node_heads
  node_read = stored_at kept.nodes k

  pub gate_stored : (a : Coded) → GateWritten kept (record kept { gates = set kept.gates k a }) k (head_of a)
  unfolding gate_heads node_heads
  gate_stored a = record { gates = stored_put kept.gates k a; nodes = refl }

  pub node_stored : (a : Coded) → NodeWritten kept (record kept { nodes = set kept.nodes k a }) k (head_of a)
  unfolding gate_heads node_heads
  node_stored a = record { gates = refl; nodes = stored_put kept.nodes k a }

-- where they are all there, every gate and every node has its head
module _ (kept : Heads) (all : AllThere kept) where
  pub gate_place : (g : ℕ) → g < max_gates → Room (gate_heads kept) g
  unfolding gate_heads
  gate_place g l = there_room kept.gates g (omega (arith, all.gates))

  pub node_place : (k : ℕ) → k < max_nodes → Room (node_heads kept) k
  unfolding node_heads
  node_place k l = there_room kept.nodes k (omega (arith, all.nodes))
