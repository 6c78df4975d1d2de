-- How long parts last, node after node: the length of a node is made from those of its children.
-- Assumes nothing.
use mathlib.Core.Path.{◌≡◌, refl, ◌∙◌}
use mathlib.Core.Logic.{◌≢◌}
use mathlib.Core.List.{List}
use Prim.Native.Nat.{ℕ, ◌+◌, ◌<◌, ◌^◌, max}
use native.Mathlib.Decide.{ℕ_discrete}
use native.Mathlib.Omega.{arith}
use lib.ListN.{length, get_or, set}
use lib.Seq.{get_or-set_same, get_or-set_other}
use Rattle.parts.specs.Nodes.{Nodes}
use Rattle.optimum.specs.Tree.{zeros, longest}
use Rattle.heads.specs.Plan.{node_count, part, kind, left, gate, right}
use Rattle.sizing.specs.Raise.{Lengths, Measurable, delays_in}
use Rattle.heads.proofs.Trees.{part_wire, part_series, part_parallel}

module _ {N : Nodes} {delays lengths : List ℕ} {i : ℕ} (able : Measurable N delays lengths) (known : Lengths N (delays_in delays) lengths i) (node : i < node_count N) where
  abbrev long : ℕ → ℕ
  long k = longest (delays_in delays) (part N k) (zeros (part N k))

  pub wire_long : kind N i ≡ 0 → gate N i ≡ long i
  wire_long e = rw (part_wire N i e) refl

  pub in_left_of : {l : ℕ} → kind N i ≢ 0 → l ≡ left N i → l < length lengths
  in_left_of d e = omega (arith, able.left_below i node (omega arith), able.lengths_long)

  module _ {l r : ℕ} (d : kind N i ≢ 0) (el : l ≡ left N i) (er : r ≡ right N i) where
    below_left : left N i < i
    below_left = able.left_below i node (omega arith)

    below_right : right N i < i
    below_right = able.right_below i node (omega arith)

    pub in_right : r < length lengths
    in_right = omega (arith, below_right, able.lengths_long)

    pub series_long : {g : ℕ} → g ≡ gate N i → kind N i ≡ 1 → get_or lengths l 0 + get_or delays g 0 + get_or lengths r 0 ≡ long i
    series_long eg e =
        rw (part_series N i below_left below_right e) (rw (el, er, eg, known.right (left N i) below_left, known.right (right N i) below_right) (omega arith))

    pub series_short : {g : ℕ} → g ≡ gate N i → kind N i ≡ 1 → get_or lengths l 0 + get_or delays g 0 + get_or lengths r 0 < 2 ^ 32
    series_short eg e = rw (series_long eg e) (able.short i node)

    pub parallel_long : kind N i ≢ 1 → max (get_or lengths l 0) (get_or lengths r 0) ≡ long i
    parallel_long s =
        rw (part_parallel N i below_left below_right (omega arith)) (rw (el, er, known.right (left N i) below_left, known.right (right N i) below_right) refl)

  -- one length more
  pub lengths_more : {v : ℕ} → v ≡ long i → Lengths N (delays_in delays) (set lengths i v) (i + 1)
  lengths_more {v} e = record { right = λ k l. go k l (ℕ_discrete k i) }
    where
      go : (k : ℕ) → k < i + 1 → Dec (k ≡ i) → get_or (set lengths i v) k 0 ≡ long k
      go k l (yes s) = rw s (get_or-set_same lengths i v 0 (omega (arith, able.lengths_long)) ∙ e)
      go k l (no d) = get_or-set_other lengths i k v 0 d ∙ known.right k (omega arith)

pub measurable_on : {N : Nodes} {delays lengths lengths' : List ℕ} → Measurable N delays lengths → length lengths' ≡ length lengths → Measurable N delays lengths'
measurable_on able e =
    record {
      left_below = able.left_below;
      right_below = able.right_below;
      few_nodes = able.few_nodes;
      lengths_long = omega (arith, able.lengths_long);
      gate_in = able.gate_in;
      short = able.short;
    }
