-- A well-formed file's block in the calls' arrays may be planted, and its tree lasts as long as its longest path.
-- Assumes nothing.
use mathlib.Core.Path.{◌≡◌, sym, ap}
use mathlib.Core.List.{List}
use Prim.Native.Nat.{ℕ, ◌<◌}
use native.Mathlib.Omega.{arith}
use lib.ListN.{get_or}
use Rattle.lists.proofs.Over.{get_or_build}
use Rattle.model.specs.Block.{Wire}
use Rattle.model.specs.Part.{SeriesParallel}
use Rattle.model.specs.Slack.{start}
use Rattle.model.specs.Arrays.{wire_at}
use Rattle.model.proofs.Slack.{start_is}
use Rattle.model.proofs.Curve.{start_unique}
use Rattle.blockfile.specs.Held.{GateArrays, WireArrays}
use Rattle.loading.specs.HeldFile.{HeldFile}
use Rattle.loading.proofs.Held.{wires_are}
use Rattle.holding.proofs.HeldLaws.{block, count, the_limits, the_lent, some, along_all}
use Rattle.reduction.specs.Wired.{Wired}
use Rattle.optimum.specs.BlockTree.{block_tree, start_of}
use Rattle.optimum.proofs.BlockTree.{block_is_tree}
use Rattle.optimum.proofs.Within.{start_is_start}
use Rattle.shaping.specs.PlantedBlock.{Given, WiresLong}
use Rattle.shaping.proofs.Facts.{join}

module _ {file : List ℕ} {n m arrival deadline activity : ℕ} {G : GateArrays} {W : WireArrays} {order : List ℕ} (h : HeldFile file n m arrival deadline activity G W order) where
  -- the wires, as the reduction has them
  wires : Wired (block h) n m W.sources W.targets W.delays
  wires =
      record {
        gates = count h;
        count = wires_are file n m arrival deadline activity G W h.well.end h.well.reads;
        source = λ i l. sym (ap (λ (w : Wire). w.source) (wire_is i l));
        target = λ i l. sym (ap (λ (w : Wire). w.target) (wire_is i l));
        delay = λ i l. sym (ap (λ (w : Wire). w.delay) (wire_is i l));
      }
    where
      wire_is : (i : ℕ) → i < m → get_or (block h).wires i (record { source = 0; target = 0; delay = 0 }) ≡ wire_at W.sources W.targets W.delays i
      wire_is i l = get_or_build m (wire_at W.sources W.targets W.delays) i (record { source = 0; target = 0; delay = 0 }) l

  pub given : Given (block h) n m W.sources W.targets W.delays
  given = record { limits = the_limits h; sound = h.well.network; wired = wires }

  pub wires_long : WiresLong m W.sources W.targets W.delays
  wires_long =
      record {
        sources_long = omega (arith, (the_lent h).wires, h.sources_long);
        targets_long = omega (arith, (the_lent h).wires, h.targets_long);
        delays_long = omega (arith, (the_lent h).wires, h.wire_delays_long);
      }

  -- the tree lasts as long as the longest path
  pub start_same : (sp : SeriesParallel (block h)) → start_of (block h) (block_tree (block h) sp) ≡ start (block h)
  start_same sp =
      start_unique (block h) _ _ (start_is_start (block h) (block_tree (block h) sp) (block_is_tree (block h) sp (join (block h) (the_limits h) h.well.network)))
      (start_is (block h) h.well.network (along_all h) (omega (arith, count h, some h)))
