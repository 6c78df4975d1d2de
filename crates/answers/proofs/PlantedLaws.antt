-- Once the tree of a held file's block is planted and its input activities are found, the block is in arrays and its tree planted (`tree_held`).
-- Assumes nothing.
use mathlib.Core.Path.{◌≡◌, sym, ◌∙◌, ap, subst}
use mathlib.Core.List.{List}
use Prim.Native.Nat.{ℕ, ◌≤◌, ◌<◌}
use native.Mathlib.Omega.{arith}
use lib.ListN.{length, take}
use lib.Seq.{length-take-le, get_or-take}
use Rattle.lists.proofs.Over.{build_same}
use Rattle.model.specs.Limits.{max_gates}
use Rattle.model.specs.InTime.{no_increase}
use Rattle.model.specs.InTime.{drawn}
use Rattle.model.specs.Slack.{start}
use Rattle.model.specs.Arrays.{gate_at}
use Rattle.blockfile.specs.Held.{GateArrays, WireArrays}
use Rattle.timing.specs.Times.{time_bound}
use Rattle.gains.specs.Activities.{InputActivities}
use Rattle.loading.specs.HeldFile.{HeldFile}
use Rattle.holding.proofs.HeldLaws.{block, count, the_limits, the_lent, inputs_are}
use Rattle.optimum.specs.BlockTree.{block_tree, start_of, IsTree}
use Rattle.optimum.specs.Tree.{zeros, longest}
use Rattle.optimum.proofs.BlockTree.{block_is_tree}
use Rattle.planting.specs.Planted.{as_tree, Planted}
use Rattle.planting.specs.declared.tree.Tree.{Tree}
use Rattle.planting.specs.TreeWords.{tree_nodes}
use Rattle.planting.proofs.HeldNodes.{held_plot, kinds_held, held_planted}
use Rattle.planting.proofs.Shaping.{own_gate, once, below, few}
use Rattle.heads.specs.Plan.{node_count, part}
use Rattle.sizing.specs.Raise.{delays_in}
use Rattle.sizing.proofs.Blocks.{Held, delays_are}
use Rattle.shaping.specs.PlantedBlock.{PlantedBlock}
use Rattle.shaping.proofs.Facts.{join}
use Rattle.spending.specs.TreeHeld.{tree_arrays, TreeHeld}
use Rattle.answers.proofs.Plantable.{start_same}

module _
    {file : List ℕ}
    {n m arrival deadline activity : ℕ}
    {G : GateArrays}
    {W : WireArrays}
    {order : List ℕ}
    (h : HeldFile file n m arrival deadline activity G W order)
    {c : ℕ}
    {before tree : Tree}
    (p : PlantedBlock (block h) c before tree)
  where
    tree_is : IsTree (block h) (as_tree p.tree)
    tree_is = subst (IsTree (block h)) (sym p.is_tree) (block_is_tree (block h) p.fits (join (block h) (the_limits h) h.well.network))

    module _ (inputs : List ℕ) (inputs_long : length inputs ≡ max_gates)
        (right : InputActivities n m W.sources W.targets G.activities 0 activity (no_increase max_gates) inputs) {r : ℕ} (is : r ≡ start (block h)) (small : r ≤ time_bound) where
      planted : Planted p.tree c (held_plot tree)
      planted = held_planted tree p.some p.planted p.held

      nodes_are : node_count (tree_nodes tree) ≡ c
      nodes_are = kinds_held tree ∙ p.held

      gates_few : n ≤ max_gates
      gates_few = (the_lent h).gates

      delays_cut : length (take n G.delays) ≡ n
      delays_cut = length-take-le n G.delays (omega (arith, h.delays_long, gates_few))

      held : Held (block h) n (take n G.delays) G.activities G.counts G.step_widths G.drops inputs
      held =
          record {
            gates =
                build_same n (gate_at G.delays G.activities G.counts G.step_widths G.drops)
                (gate_at (take n G.delays) G.activities G.counts G.step_widths G.drops)
                (λ g l. rw (get_or-take n G.delays g 0 l));
            one_delay_each = delays_cut;
            activity = inputs_are h inputs right;
          }

      pub tree_held : TreeHeld (block h) n (tree_arrays tree G.counts G.step_widths G.drops inputs (take n G.delays))
      tree_held =
          record {
            limits = the_limits h;
            sound = h.well.network;
            fits = p.fits;
            top = rw nodes_are (ap as_tree planted.top ∙ p.is_tree);
            short = omega (arith, start_same h p.fits);
            activities = G.activities;
            held = held;
            shaped =
                record {
                  few_nodes = omega (arith, nodes_are, p.few);
                  left_below = λ k l. planted.left_below k (omega (arith, nodes_are));
                  right_below = λ k l. planted.right_below k (omega (arith, nodes_are));
                  left_parent = λ k l. planted.left_parent k (omega (arith, nodes_are));
                  right_parent = λ k l. planted.right_parent k (omega (arith, nodes_are));
                  own_gate = λ j k a b. own_gate (block h) tree_is planted j k (omega (arith, nodes_are)) (omega (arith, nodes_are));
                  once = λ k l. once (block h) tree_is planted k (omega (arith, nodes_are));
                  few = λ k l. omega (arith, few (block h) tree_is planted k (omega (arith, nodes_are)), count h, gates_few);
                };
            below = λ k l. rw (count h) at (below (block h) tree_is planted k (omega (arith, nodes_are)));
            above = λ k l. planted.above k (omega (arith, nodes_are));
            lasts = λ k l. lasts k (omega (arith, nodes_are));
            some_node = omega (arith, nodes_are, p.some);
            counts_long = omega (arith, h.counts_long, gates_few);
            widths_long = omega (arith, h.widths_long, gates_few);
            drops_long = omega (arith, h.drops_long, gates_few);
            inputs_long = omega (arith, gates_few);
          }
        where
          lasts : (k : ℕ) → k < c → longest (delays_in (take n G.delays)) (part (tree_nodes tree) k) (zeros (part (tree_nodes tree) k)) ≤ start_of (block h) (block_tree (block h) p.fits)
          lasts k l = rw (delays_are held) (rw p.is_tree at ((planted.inside k l).lasts (drawn (block h))))
