-- A block within the limits whose network is sound is one that the reduction and the theorem (optimum) may take: its wires join its gates, none stands twice, its drops fall, its activities and drops are bounded.
-- Assumes nothing.
use mathlib.Core.Path.{◌≡◌, refl, sym, ap}
use mathlib.Core.Logic.{◌≢◌, ◌⊎◌, inl, inr}
use mathlib.Core.Bool.{Bool, true, false, cond}
use mathlib.Core.List.{List, [], ◌∷◌}
use Prim.Native.Nat.{ℕ, suc, ◌-◌, ◌≤◌, ◌<◌}
use native.Mathlib.Omega.{arith}
use lib.Dec.{ltb}
use lib.ListN.{length, get_or}
use Rattle.lists.proofs.Compare.{compared}
use Rattle.lists.proofs.Member.{placed}
use Rattle.model.specs.Limits.{max_activity, max_drop}
use Rattle.model.specs.Block.{Step, Wire, Block, gate, gate_count, first, last, Joined}
use Rattle.model.specs.Gain.{drop_of}
use Rattle.model.specs.Refusal.{SoundNetwork, into_first, out_of_last}
use Rattle.model.proofs.Limited.{StepLimits, BlockLimits, wires_join}
use Rattle.model.proofs.Slack.{entered, left}
use Rattle.model.proofs.Turned.{stands_unturned}
use Rattle.optimum.specs.Gates.{first_drop, Descending}
use Rattle.optimum.specs.BlockTree.{WiresJoinGates, NoneTwice, Ranges}
use Rattle.parts.specs.Network.{Network, wire_at}

-- no two places of the list hold wires between the same gates
abbrev Apart : List Wire → Type 0
Apart ws =
    (i j : ℕ) (d : Wire) → i < j → j < length ws → (get_or ws j d).source ≡ (get_or ws i d).source → (get_or ws j d).target ≢ (get_or ws i d).target

none_twice : (ws : List Wire) → Apart ws → NoneTwice ws
none_twice [] apart = tt
none_twice (v ∷ ws) apart = (
  λ (j : Joined ws v.source v.target).
      let r = placed ws v j.1 in
      let l = r.1 in
      apart 0 (suc r.0) v (omega arith) (omega arith) (ap (λ (u : Wire). u.source) r.2) (ap (λ (u : Wire). u.target) r.2),
  none_twice ws (λ (i j : ℕ) (d : Wire) (h : i < j) (l : j < length ws). apart (suc i) (suc j) d (omega arith) (omega arith)),
)

-- each step drops less than the step before it
abbrev Falling : List Step → Type 0
Falling ss = (j : ℕ) (d : Step) → suc j < length ss → (get_or ss (suc j) d).drop < (get_or ss j d).drop

falling_descends : (ss : List Step) → Falling ss → Descending ss
falling_descends [] falls = tt
falling_descends (s ∷ ss) falls =
    (next ss falls, falling_descends ss (λ (j : ℕ) (d : Step) (h : suc j < length ss). falls (suc j) d (omega arith)))
  where
    next : (rest : List Step) → Falling (s ∷ rest) → first_drop rest ≤ s.drop
    next [] f = omega arith
    next (r ∷ rest) f = omega (arith, f 0 r (omega arith))

-- a drop is that of a step, or 0
drop_most : (ss : List Step) → ((j : ℕ) (d : Step) → j < length ss → StepLimits (get_or ss j d)) → (k : ℕ) → drop_of ss k ≤ max_drop
unfolding drop_of
drop_most [] within k = omega arith
drop_most (s ∷ ss) within k =
    go (ltb k s.width) (drop_most ss (λ (j : ℕ) (d : Step) (h : j < length ss). within (suc j) d (omega arith)) (k - s.width))
  where
    go : (b : Bool) → drop_of ss (k - s.width) ≤ max_drop → cond b s.drop (drop_of ss (k - s.width)) ≤ max_drop
    go true rest = (within 0 s (omega arith)).drop_most
    go false rest = rest

-- What the limits alone give.
module _ (B : Block) (limits : BlockLimits B) where
  pub descending : (g : ℕ) → Descending (gate B g).steps
  descending g = falling_descends (gate B g).steps (limits.gate_limits g).drops_fall

  pub ranges : Ranges B max_activity max_drop
  ranges =
      record {
        input = limits.activity_most;
        nets = λ (g : ℕ). (limits.gate_limits g).activity_most;
        drops = λ (g : ℕ). drop_most (gate B g).steps (limits.gate_limits g).step_limits;
      }

module _ (B : Block) (limits : BlockLimits B) (sound : SoundNetwork B) where
  pub join : WiresJoinGates B
  join = wires_join limits

  pub no_wire_twice : NoneTwice B.wires
  no_wire_twice = none_twice B.wires limits.no_wire_twice

  same_place : (i j : ℕ) → i < length B.wires → j < length B.wires
      → (wire_at B.wires i).source ≡ (wire_at B.wires j).source
      → (wire_at B.wires i).target ≡ (wire_at B.wires j).target
      → i ≡ j
  same_place i j hi hj s t = by (compared i j)
    where
      d : Wire
      d = record { source = 0; target = 0; delay = 0 }

      by : (i < j) ⊎ (i ≡ j) ⊎ (j < i) → i ≡ j
      by (inl l) = absurd (limits.no_wire_twice i j d l hj (sym s) (sym t))
      by (inr (inl e)) = e
      by (inr (inr l)) = absurd (limits.no_wire_twice j i d l hi s t)

  pub network : Network B
  network =
      record {
        some_gate = limits.some_gate;
        below = join;
        once = same_place;
        acyclic = sound.no_loop;
        first_none = λ (x : ℕ) (j : Joined B.wires x (first B)). sound.ends (first B) (into_first x refl j);
        wire_into =
            λ (g : ℕ) (h : g < gate_count B) (other : g ≢ first B).
            let r = entered B sound g h other in
            (r.0, (r.1, r.2));
        last_none = λ (y : ℕ) (j : Joined B.wires (last B) y). sound.ends (last B) (out_of_last y refl j);
        wire_from =
            λ (g : ℕ) (h : g < gate_count B) (other : g ≢ last B).
            let r = left B sound g h other in
            (r.0, (r.1, stands_unturned B.wires r.2));
      }
