-- The wires of the arrays, as the wires of a block.
-- Assumes nothing.
use mathlib.Core.Path.{sym, ap}
use mathlib.Core.List.{List}
use Prim.Native.Nat.{ℕ, ◌<◌}
use native.Mathlib.Omega.{arith}
use lib.ListN.{get_or}
use Rattle.lists.proofs.Over.{mem_build, build_mem}
use Rattle.model.specs.Block.{Wire, Block, Joined}
use Rattle.model.specs.Arrays.{wire_at}
use Rattle.model.specs.Refusal.{OnLoop}
use Rattle.ordering.specs.Wires.{Lent, Wired, InArrays}
use Rattle.ordering.proofs.Reach.{Reach, reach_map, from_reaches, to_reaches}

pub wired_gates : {n m : ℕ} {sources targets : List ℕ} → Lent n m sources targets → (a b : ℕ) → Wired m sources targets a b → (a < n) × (b < n)
wired_gates L a b w =
    let s = L.source_is_gate w.place w.below in
    let t = L.target_is_gate w.place w.below in
    let e = w.source in
    let f = w.target in
    (omega arith, omega arith)

-- The wires of the arrays are those of the block.
module _ (B : Block) (n m : ℕ) (sources targets : List ℕ) (I : InArrays B n m sources targets) where
  pub wired_joined : (a b : ℕ) → Wired m sources targets a b → Joined B.wires a b
  wired_joined a b w = (
    get_or I.delays w.place 0,
    rw (I.wires, ← w.source, ← w.target) (build_mem m (wire_at sources targets I.delays) w.place w.below),
  )

  pub joined_wired : (a b : ℕ) → Joined B.wires a b → Wired m sources targets a b
  joined_wired a b j =
      let f = mem_build m (wire_at sources targets I.delays) (rw I.wires at j.1) in
      record {
        place = f.0;
        below = f.1;
        source = sym (ap (λ (w : Wire). w.source) f.2);
        target = sym (ap (λ (w : Wire). w.target) f.2);
      }

  pub wired_loop : (g : ℕ) → Reach (Wired m sources targets) g g → OnLoop B g
  wired_loop g r = to_reaches (reach_map wired_joined r)

  pub loop_wired : (g : ℕ) → OnLoop B g → Reach (Wired m sources targets) g g
  loop_wired g r = reach_map joined_wired (from_reaches r)
