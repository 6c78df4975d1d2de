-- The main theorems: for a series-parallel block whose wires join its gates and whose drops do not rise,
-- `optimum`: for any time T of at least the start, the list after T − start ticks is the best of the lists within T;
-- `best`: the same in document 01's words, the best of the lists in time, unless the block is late;
-- `curve`: the record of gains from the raised start on is the block's curve;
-- `pair_count`, `pair_range`: its pairs are no more than the steps, and no pair's gain is above (n − 1) × A × D, n being at least 2.
-- Assumes nothing.
use mathlib.Core.Path.{◌≡◌, subst}
use mathlib.Core.List.{List, Memᴰ}
use Prim.Native.Nat.{ℕ, ◌+◌, ◌*◌, ◌-◌, ◌≤◌, max}
use native.Mathlib.Nat.{le_trans}
use native.Mathlib.Omega.{arith}
use lib.ListN.{length}
use Rattle.model.specs.Block.{Block, gate, gate_count}
use Rattle.model.specs.Part.{SeriesParallel}
use Rattle.model.specs.Gain.{saving}
use Rattle.model.specs.InTime.{Sizing}
use Rattle.model.specs.Best.{BestWithin, Best}
use Rattle.model.specs.Curve.{Pair, IsCurve}
use Rattle.optimum.specs.Gates.{Descending}
use Rattle.optimum.specs.BlockTree.{block_tree, WiresJoinGates, NoneTwice, start_of, increases, step_count, pairs_of, Ranges}
use Rattle.optimum.proofs.BlockTree.{block_is_tree}
use Rattle.optimum.proofs.Within.{best_after}
use Rattle.optimum.proofs.Curve.{is_curve, pairs_few, pairs_at_most}
use Rattle.optimum.proofs.Range.{block_gain}

-- a list all of whose paths are timed well is one whose paths meet a weaker demand
in_time : {B : Block} {x : List ℕ} {ok well : ℕ → Type 0} → ((t : ℕ) → ok t → well t) → Sizing B ok x → Sizing B well x
in_time weaker s =
    record { one_each = s.one_each; within_widths = s.within_widths; paths = λ t p. weaker t (s.paths t p) }

module _ (B : Block) (s : SeriesParallel B) (join : WiresJoinGates B) (descending : (g : ℕ) → Descending (gate B g).steps) where
  pub optimum : (T : ℕ) → start_of B (block_tree B s) ≤ T → BestWithin B T (increases B (block_tree B s) (T - start_of B (block_tree B s)))
  optimum T l =
      let t = block_tree B s in
      let k = T - start_of B t in
      let e : start_of B t + k ≡ T = omega arith in
      subst (λ (u : ℕ). BestWithin B u (increases B t k)) e (best_after B t (block_is_tree B s join) descending k)

  pub curve : IsCurve B (start_of B (block_tree B s)) (saving B (increases B (block_tree B s) 0)) (pairs_of B (block_tree B s))
  curve = is_curve B (block_tree B s) (block_is_tree B s join) descending

  -- the curve has no more pairs than the block has steps
  pub pair_count : length (pairs_of B (block_tree B s)) ≤ step_count B
  pair_count = pairs_few B (block_tree B s) (block_is_tree B s join) descending

  -- "No pair's gain is above" that of all gates but one, each of the greatest activity and the greatest drop.
  pub pair_range : (A D : ℕ) → Ranges B A D → NoneTwice B.wires → (p : Pair) → Memᴰ p (pairs_of B (block_tree B s))
      → p.gain ≤ max 1 (gate_count B - 1) * (A * D)
  pair_range A D ranges none_twice p m =
      le_trans (pairs_at_most B (block_tree B s) (block_is_tree B s join) descending p m) (block_gain B A D ranges join none_twice s _)

  -- the list for the block's own arrival and deadline
  pub best : B.arrival + start_of B (block_tree B s) ≤ B.deadline
      → Best B (increases B (block_tree B s) (B.deadline - B.arrival - start_of B (block_tree B s)))
  best l =
      let b = optimum (B.deadline - B.arrival) (omega arith) in
      record {
        is_ok = in_time (λ u m. omega arith) b.is_ok;
        beats = λ y w. b.beats y (in_time (λ u m. omega arith) w);
      }
