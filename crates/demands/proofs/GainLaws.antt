-- The gains of the pairs of a curve: none is above that of `max_gates` − 1 gates, each of the greatest activity and the greatest drop (document 01).
-- The idea: a block has one curve, and of the one that the handing-out of ticks records this is known. Assumes nothing.
use mathlib.Core.Path.{subst}
use mathlib.Core.List.{List, Memᴰ}
use Prim.Native.Nat.{ℕ, ◌-◌, ◌*◌, ◌≤◌, max}
use native.Mathlib.Nat.{mul_assoc, le_trans, mul-le-mul_right}
use native.Mathlib.Omega.{arith}
use Rattle.model.specs.Limits.{max_gates, max_drop}
use Rattle.model.specs.Block.{Block, gate_count}
use Rattle.model.specs.Netlist.{Netlist, block_of}
use Rattle.model.specs.Curve.{Pair, IsCurve}
use Rattle.model.specs.Part.{SeriesParallel}
use Rattle.model.specs.Refusal.{SoundNetwork}
use Rattle.model.proofs.Curve.{curve_unique}
use Rattle.model.proofs.Limited.{BlockLimits, activity_at_most, gate_is}
use Rattle.model.proofs.Editions.{by_formula}
use Rattle.optimum.specs.BlockTree.{Ranges}
use Rattle.optimum.proofs.Optimum as Optimum
use Rattle.shaping.proofs.Facts.{descending, ranges, join, no_wire_twice}

-- where no activity is above A
pub pair_gain : (B : Block) → BlockLimits B → SoundNetwork B → SeriesParallel B → (A : ℕ) → Ranges B A max_drop → {s a : ℕ} {ps : List Pair} → IsCurve B s a ps
    → (p : Pair) → Memᴰ p ps
    → p.gain ≤ (max_gates - 1) * A * max_drop
pair_gain B limits sound sp A within c p m =
    let few : max 1 (gate_count B - 1) ≤ max_gates - 1 = omega (arith, limits.gates_most) in
    let recorded = Optimum.curve B sp (join B limits sound) (descending B limits) in
    let same = curve_unique B _ _ _ _ _ _ c recorded in
    rw mul_assoc
    (le_trans
    (Optimum.pair_range B sp (join B limits sound) (descending B limits) A max_drop within (no_wire_twice B limits sound) p (subst (Memᴰ p) same.2 m))
    (mul-le-mul_right (A * max_drop) few))

-- no activity by the formula is above 32,768, that of p = 128
pub formula_ranges : (N : Netlist) → N.edition ≤ 2 → BlockLimits (block_of N) → Ranges (block_of N) 32768 max_drop
formula_ranges N early limits =
    record {
      input = rw (by_formula N.edition N.switching early) (activity_at_most N.switching);
      nets = λ (g : ℕ). rw (gate_is N g, by_formula N.edition _ early) (activity_at_most _);
      drops = (ranges (block_of N) limits).drops;
    }
