-- What a block whose tree is planted gives the functions of sizing: all that they ask, and what their results are to the block.
-- Assumes nothing.
use mathlib.Core.Path.{◌≡◌, refl, sym, ◌∙◌, ap}
use mathlib.Core.List.{List, [], ◌∷◌, map}
use Prim.Native.Nat.{ℕ, zero, suc, ◌+◌, ◌*◌, ◌≤◌, ◌<◌}
use native.Mathlib.Nat.{mul-le-mul_right}
use native.Mathlib.Omega.{arith}
use Rattle.std.specs.List.{sum as sum_listed}
use Rattle.std.proofs.lemmas.List.Sums.{sum_by-append}
use lib.Seq.{take-suc}
use lib.ListN.{length, get_or, take, replicate, length-map, length-replicate, get_or-map}
use Rattle.lists.specs.Sum.{sum}
use Rattle.lists.specs.Over.{over}
use Rattle.lists.proofs.Sum.{sum_same, sum_le}
use Rattle.lists.proofs.Over.{length_build, get_or_build}
use Rattle.model.specs.Limits.{max_gates, max_steps, max_width, max_pairs}
use Rattle.model.specs.Block.{Block, gate, gate_count}
use Rattle.model.specs.Gain.{saving}
use Rattle.model.specs.Curve.{Pair}
use Rattle.ordering.proofs.Front.{is_over}
use Rattle.gains.specs.Steps as Gains
use Rattle.gains.specs.Savings.{Earnable, ListSaving, most_of_gate}
use Rattle.gains.proofs.Sums.{sum_constant}
use Rattle.gains.proofs.Held.{held_lent, held_steps}
use Rattle.gains.proofs.Sources.{input_most}
use Rattle.gains.proofs.Earnings.{block_earnable}
use Rattle.optimum.specs.Tree.{Tree}
use Rattle.optimum.specs.Head.{Head}
use Rattle.optimum.specs.Increases.{sized}
use Rattle.optimum.specs.BlockTree.{block_tree, increases, step_count, pairs_of, IsTree}
use Rattle.optimum.proofs.BlockTree.{block_is_tree}
use Rattle.planting.specs.Copy.{max_nodes}
use Rattle.heads.specs.Plan.{Plan, part, heads_in, Sound, StepsLent}
use Rattle.heads.specs.declared.store.Heads.{Heads}
use Rattle.heads.specs.Stored.{AllThere}
use Rattle.heads.proofs.Heads.{no_coded, gate_place, node_place}
use Rattle.handout.specs.State.{State, state}
use Rattle.sizing.specs.Raise.{root, delays_in, Measurable, Raised, Sizable}
use Rattle.sizing.specs.Pairs.{pair, pairs_in, Curvable, NodeCurve}
use Rattle.sizing.proofs.Blocks.{as_many, heads_sound, increases_are, pairs_are}
use Rattle.sizing.proofs.Bounds.{gains_small, widths_small, reach_small}
use Rattle.heads.proofs.Locals.{gate_below}
use Rattle.sizing.proofs.Starting.{root_curvable}
use Rattle.sizing.proofs.Spent.{whole_curve}
use Rattle.shaping.proofs.Facts.{join, descending}
use Rattle.spending.specs.declared.tree.TreeCurve.{TreeCurve}
use Rattle.spending.specs.TreeHeld.{TreeArrays, TreeHeld, tree_plan, RunsFound, CurveFound}

-- the sum of the first n numbers of a list, as std has it
sum_taken : (xs : List ℕ) (n : ℕ) → n ≤ length xs → sum_listed (take n xs) ≡ sum n (λ (g : ℕ). get_or xs g 0)
unfolding sum
sum_taken xs zero l = refl
sum_taken xs (suc n) l = rw (take-suc xs n 0 (omega arith)) (sum_by-append (λ (x : ℕ). x) (take n xs) (get_or xs n 0 ∷ []) ∙ omega (arith, sum_taken xs n (omega arith)))

module _ {B : Block} {n : ℕ} {A : TreeArrays} (h : TreeHeld B n A) where
  abbrev heads : ℕ → ℕ → Head
  heads = heads_in n A.counts A.step_widths A.drops A.inputs

  abbrev pub plan_of : Plan
  plan_of = tree_plan n A

  abbrev tree : Tree
  tree = block_tree B h.fits

  pub is_tree : IsTree B tree
  is_tree = block_is_tree B h.fits (join B h.limits h.sound)

  pub count_is : gate_count B ≡ n
  count_is = as_many h.held

  pub gates_few : n ≤ max_gates
  gates_few = omega (arith, count_is, h.limits.gates_most)

  abbrev gains_held : Gains.Held B n A.counts A.step_widths A.drops
  gains_held = record { delays = A.delays; activities = h.activities; gates = h.held.gates }

  steps_of : (g : ℕ) → g < n → Gains.StepsLent A.counts A.step_widths A.drops g
  steps_of = held_lent B n A.counts A.step_widths A.drops gains_held h.limits h.counts_long h.widths_long h.drops_long

  pub counts_small : (g : ℕ) → g < n → get_or A.counts g 0 ≤ max_steps
  counts_small g l = (steps_of g l).widths_lent.few

  narrow : (g j : ℕ) → g < n → j < get_or A.counts g 0 → get_or A.step_widths (g * max_steps + j) 0 ≤ max_width
  narrow g j l b = (steps_of g l).widths_lent.width_small j b

  pub steps_lent : StepsLent n A.counts A.step_widths A.drops A.inputs
  steps_lent =
      record {
        gates = omega (arith, gates_few);
        few = counts_small;
        drop_small = λ g j l b. (steps_of g l).drop_small j b;
        input_small = λ g l. omega (arith, h.held.activity g l, input_most B h.limits g (omega (arith, count_is)));
      }

  pub sound : Sound plan_of
  sound =
      record {
        shaped = h.shaped;
        below = h.below;
        heads = heads_sound h.held (descending B h.limits);
        small = gains_small steps_lent;
        near = reach_small steps_lent narrow;
      }

  pub sizable : {x : List ℕ} (kept : Heads) → length x ≡ n → AllThere kept → Sizable plan_of (state x kept)
  sizable kept one_each all =
      record {
        sound = sound;
        above = h.above;
        some_node = h.some_node;
        whole = λ g l. rw h.top (omega (arith, is_tree.all g (omega (arith, count_is))));
        room = λ k l. node_place kept all k (omega (arith, h.shaped.few_nodes));
        gate_room = λ g l. gate_place kept all g (omega (arith, gates_few));
        one_each = one_each;
      }

  pub measurable : {lengths : List ℕ} → max_nodes ≤ length lengths → Measurable A.nodes A.delays lengths
  measurable long =
      record {
        left_below = h.shaped.left_below;
        right_below = h.shaped.right_below;
        few_nodes = h.shaped.few_nodes;
        lengths_long = omega (arith, h.shaped.few_nodes);
        gate_in = λ k l e.
            omega (arith, gate_below A.nodes A.parents n k h.shaped l e (h.below k l), h.held.one_delay_each);
        short = λ k l. omega (arith, h.lasts k l, h.short);
      }

  -- the increases after k ticks, as sizing has them, are the block's
  pub list_is : (k : ℕ) {x : List ℕ}
      → x ≡ sized (delays_in A.delays) heads (part A.nodes (root plan_of)) n k
      → x ≡ increases B tree k
  list_is k e = e ∙ rw h.top (increases_are h.held tree k)

  pub earnable : {x : List ℕ} → length x ≡ n → Earnable n A.counts A.step_widths A.drops A.inputs x
  earnable {x} one_each =
      block_earnable n A.counts A.step_widths A.drops A.inputs x B h.limits gains_held h.held.activity
      h.counts_long h.widths_long h.drops_long h.inputs_long (omega arith)

  pub saved_is : {x : List ℕ} {r : ℕ} → ListSaving n A.counts A.step_widths A.drops A.inputs x r → r ≡ saving B x
  saved_is s = s.of_all B gains_held h.held.activity

  pub steps_counted : {steps : ℕ} → steps ≡ sum_listed (take n A.counts) → steps ≡ sum n (λ (g : ℕ). get_or A.counts g 0)
  steps_counted e = e ∙ sum_taken A.counts n h.counts_long

  -- the steps counted are the block's
  pub steps_are : sum n (λ (g : ℕ). get_or A.counts g 0) ≡ step_count B
  unfolding step_count
  steps_are =
      rw count_is
      (sum_same n (λ (g : ℕ). get_or A.counts g 0) (λ (g : ℕ). length (gate B g).steps)
      (λ g l. sym (ap (λ ss. length ss) (held_steps B n A.counts A.step_widths A.drops gains_held g l) ∙ length_build (get_or A.counts g 0) _)))

  pub steps_few : sum n (λ (g : ℕ). get_or A.counts g 0) ≤ max_pairs
  steps_few = omega (arith, sum_most n, gates_few)
    where
      sum_most : (k : ℕ) → sum n (λ (g : ℕ). get_or A.counts g 0) ≤ n * max_steps
      sum_most k = omega (arith, sum_le n (λ (g : ℕ). get_or A.counts g 0) (λ (g : ℕ). max_steps) counts_small, sum_constant n (λ (g : ℕ). max_steps) max_steps (λ i l. refl))

  -- from the raised start on, all runs can be noted
  pub curvable : {S : State} {s : ℕ} → Raised plan_of (delays_in A.delays) S
      → s ≡ sum n (λ (g : ℕ). get_or A.counts g 0) → Curvable plan_of S (root plan_of) s
  curvable raised e = root_curvable at_rest raised (widths_small steps_lent narrow) (omega (arith, steps_few))
    where
      no_heads : Heads
      no_heads = record { gates = replicate max_gates no_coded; nodes = replicate max_nodes no_coded }

      at_rest : Sizable plan_of (state (replicate n 0) no_heads)
      at_rest =
          sizable no_heads (length-replicate {A = ℕ} n 0)
          (record { gates = omega (arith, length-replicate max_gates no_coded); nodes = omega (arith, length-replicate max_nodes no_coded) })

  -- with ticks for all steps, the pairs noted are those of the block's curve
  module _ {after ws gs ws' gs' : List ℕ} {ticks : ℕ} {r : TreeCurve} (found : RunsFound B h.fits n A ticks after ws gs ws' gs' r) (enough : max_pairs * max_width ≤ ticks) where
    noted : NodeCurve plan_of found.start (root plan_of) (sum n (λ (g : ℕ). get_or A.counts g 0)) r.pairs ws gs ws' gs'
    noted = whole_curve sound.heads (widths_small steps_lent narrow) found.spent (omega (arith, steps_few))

    all_pairs : pairs_in r.pairs ws' gs' ≡ pairs_of B tree
    all_pairs = noted.pairs ∙ rw (h.top, found.at_start, steps_are) (rw (increases_are h.held tree 0) at (pairs_are h.held tree))

    pair_count : r.pairs ≡ length (pairs_of B tree)
    pair_count = sym (length_build r.pairs (λ (i : ℕ). pair (get_or ws' i 0) (get_or gs' i 0))) ∙ ap (λ ps. length ps) all_pairs

    -- one of the two slices: f is the width or the gain of a pair
    one_slice : (f : Pair → ℕ) (old new : List ℕ) → f (pair 0 0) ≡ 0 → max_pairs ≤ length old → length new ≡ length old
        → ((i : ℕ) → get_or new i 0 ≡ f (pair (get_or ws' i 0) (get_or gs' i 0)))
        → ((i : ℕ) → r.pairs ≤ i → get_or new i 0 ≡ get_or old i 0)
        → new ≡ over (map f (pairs_of B tree)) old
    one_slice f old new none long same holds behind =
        is_over (map f (pairs_of B tree)) old new (omega (arith, as_long, noted.few, steps_few)) same
        (λ i l. holds i ∙ sym (ap f (here i (omega (arith, as_long)))) ∙ sym (rw none at (get_or-map f (pairs_of B tree) i (pair 0 0))))
        (λ i l. behind i (omega (arith, as_long)))
      where
        as_long : length (map f (pairs_of B tree)) ≡ r.pairs
        as_long = length-map (pairs_of B tree) f ∙ sym pair_count

        here : (i : ℕ) → i < r.pairs → get_or (pairs_of B tree) i (pair 0 0) ≡ pair (get_or ws' i 0) (get_or gs' i 0)
        here i l = rw all_pairs at (get_or_build r.pairs (λ (j : ℕ). pair (get_or ws' j 0) (get_or gs' j 0)) i (pair 0 0) l)

    pub curve_found : max_pairs ≤ length ws → max_pairs ≤ length gs → length ws' ≡ length ws → length gs' ≡ length gs → CurveFound B h.fits ws gs ws' gs' r
    curve_found wl gl ws_same gs_same =
        record {
          saved = saved_is found.saves ∙ ap (saving B) found.at_start;
          small = omega (arith, found.saves.small, mul-le-mul_right most_of_gate gates_few);
          count = pair_count;
          widths = one_slice (λ (p : Pair). p.width) ws ws' refl wl ws_same (λ i. refl) noted.other_widths;
          gains = one_slice (λ (p : Pair). p.gain) gs gs' refl gl gs_same (λ i. refl) noted.other_gains;
        }
