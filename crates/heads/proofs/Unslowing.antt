-- Heads of gates without increase, gate after gate.
-- Assumes nothing.
use mathlib.Core.Path.{◌≡◌, refl, ◌∙◌}
use mathlib.Core.List.{List}
use Prim.Native.Nat.{ℕ, ◌+◌, ◌<◌}
use native.Mathlib.Decide.{ℕ_discrete}
use native.Mathlib.Omega.{arith}
use lib.ListN.{length, get_or, set}
use lib.Seq.{get_or-set_same, get_or-set_other}
use Rattle.optimum.specs.Head.{Head}
use Rattle.ties.specs.Code.{ranks}
use Rattle.heads.specs.declared.store.Heads.{Heads}
use Rattle.heads.specs.Stored.{GateRoom, GateWritten, gate_heads, head_at, put}
use Rattle.heads.specs.GateHeads.{GatesUnslowed}
use Rattle.heads.proofs.Written.{at_put, beside_put, room_put}

pub unslowed_none : (heads : ℕ → ℕ → Head) (x : List ℕ) (kept : Heads) → GatesUnslowed heads 0 x kept kept
unslowed_none heads x kept =
    record {
      unslowed = record { no_increase = λ g l. absurd (omega arith); right = λ g l. absurd (omega arith) };
      room = λ g r. r;
      nodes = refl;
    }

-- the heads of one gate more
pub unslowed_more : {heads : ℕ → ℕ → Head} {x : List ℕ} {kept₀ kept : Heads} {g : ℕ} → GatesUnslowed heads g x kept₀ kept → g < length x → GateRoom kept₀ g
    → {a : Head} {kept' : Heads} → a ≡ heads g 0 → a.rank < ranks → GateWritten kept kept' g a
    → GatesUnslowed heads (g + 1) (set x g 0) kept₀ kept'
unslowed_more {heads} {x} {kept₀} {kept} {g} before l place {a} {kept'} e low w =
    record {
      unslowed = record {
        no_increase = λ k b. at_gate k b (ℕ_discrete k g);
        right = λ k b. rw (w.gates, e) (at_head k b (ℕ_discrete k g));
      };
      room = λ k r. rw w.gates (room_put (gate_heads kept) g k a (before.room k r));
      nodes = w.nodes ∙ before.nodes;
    }
  where
    at_gate : (k : ℕ) → k < g + 1 → Dec (k ≡ g) → get_or (set x g 0) k 0 ≡ 0
    at_gate k b (yes s) = rw s (get_or-set_same x g 0 0 l)
    at_gate k b (no d) = get_or-set_other x g k 0 0 d ∙ before.unslowed.no_increase k (omega arith)

    at_head : (k : ℕ) → k < g + 1 → Dec (k ≡ g) → head_at (put (gate_heads kept) g (heads g 0)) k ≡ heads k 0
    at_head k b (yes s) = rw s (at_put (gate_heads kept) g (heads g 0) (rw e at low) (before.room g place.room))
    at_head k b (no d) = beside_put (gate_heads kept) g k (heads g 0) d ∙ before.unslowed.right k (omega arith)
