-- From arrays with room to the raised start, and what can be done there.
-- Assumes nothing.
use mathlib.Core.Path.{◌≡◌, ◌∙◌, sym, ap}
use mathlib.Core.List.{List}
use Prim.Native.Nat.{ℕ, ◌*◌, ◌≤◌, ◌<◌}
use native.Mathlib.Omega.{arith}
use lib.ListN.{length}
use Rattle.model.specs.Limits.{max_steps, max_width}
use Rattle.optimum.specs.Head.{Head}
use Rattle.heads.specs.Plan.{Plan, most_gates, node_count, kind, gate, parent}
use Rattle.heads.specs.Stored.{Stored, Room}
use Rattle.handout.specs.State.{State, Ready}
use Rattle.sizing.specs.Raise.{root, Raisable, Raised, Sizable}
use Rattle.heads.specs.GateHeads.{Unslowed}
use Rattle.sizing.specs.Pairs.{Curvable}
use Rattle.heads.proofs.Locals.{gate_below}

module _ {P : Plan} {S : State} (able : Sizable P S) where
  root_in : root P < node_count P.nodes
  root_in = omega (arith, able.some_node)

  root_above : root P < parent P.parents (root P)
  root_above = able.above (root P) root_in

  pub raisable : {x : List ℕ} {G : Stored} → Unslowed P.heads P.gate_count x G → length x ≡ length S.increases
      → ((g : ℕ) → g < P.gate_count → Room G g) → Raisable P (record { increases = x; gates = G; nodes = S.nodes })
  raisable {x} {G} unslowed same room =
      record {
        sound = able.sound;
        above = able.above;
        some_node = able.some_node;
        whole = able.whole;
        lent = record {
          room = able.room;
          gate_room = λ k l e. room (gate P.nodes k) (in_gates k l e);
          gate_gain = λ k l e.
              omega (arith, ap (λ (a : Head). a.gain) (unslowed.right (gate P.nodes k) (in_gates k l e)), able.sound.small (gate P.nodes k) 0);
        };
        fresh = record {
          long = omega (arith, able.one_each);
          room = room;
          right = λ g l. unslowed.right g l ∙ ap (P.heads g) (sym (unslowed.no_increase g l));
        };
        one_each = same ∙ able.one_each;
        no_increase = unslowed.no_increase;
      }
    where
      in_gates : (k : ℕ) → k < node_count P.nodes → kind P.nodes k ≡ 1 → gate P.nodes k < P.gate_count
      in_gates k l e = gate_below P.nodes P.parents P.gate_count k able.sound.shaped l e (able.sound.below k l)

  module _ {d : ℕ → ℕ} {S' : State} (raised : Raised P d S') where
    -- at the raised start ticks can be handed out at the root
    root_ready : Ready P S' (root P)
    root_ready =
        record {
          sound = able.sound;
          lent = raised.lent;
          fresh = raised.fresh;
          node = root_in;
          local = λ k l. raised.local k (omega (arith, able.some_node));
        }

    -- .. and its runs can be noted
    pub root_curvable : {steps : ℕ} → ((g k : ℕ) → (P.heads g k).width ≤ max_width) → steps ≤ most_gates * max_steps → Curvable P S' (root P) steps
    root_curvable widths few = record { ready = root_ready; above = root_above; widths = widths; few = few }
