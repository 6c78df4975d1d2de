-- The record of gains from the raised start on, neighbours of one gain joined, is the block's curve; it has no more pairs than the block has steps.
-- Assumes nothing.
use mathlib.Core.Path.{◌≡◌, refl, sym, ◌∙◌, ap}
use mathlib.Core.Logic.{◌≢◌, ◌⊎◌, inl, inr}
use mathlib.Core.List.{List, Memᴰ}
use Prim.Native.Nat.{ℕ, zero, suc, ◌+◌, ◌≤◌, ◌<◌}
use native.Mathlib.Nat.{le_refl, le_trans, le_of_eq}
use native.Mathlib.Decide.{dec_le}
use native.Mathlib.Omega.{arith}
use lib.ListN.{length, get_or}
use Rattle.lists.specs.Sum.{sum}
use Rattle.lists.proofs.Sum.{sum_le}
use Rattle.model.specs.Block.{Block, gate, gate_count}
use Rattle.model.specs.Gain.{saving}
use Rattle.model.specs.InTime.{drawn, Within}
use Rattle.model.specs.Curve.{Pair, first_gain, count_off, IsCurve}
use Rattle.optimum.specs.Tree.{Tree, Once, across, worth}
use Rattle.optimum.specs.Head.{Head, Heads}
use Rattle.optimum.specs.Handout.{head, ticks}
use Rattle.optimum.specs.Increases.{read, give_list}
use Rattle.optimum.specs.Gates.{Descending, gate_head}
use Rattle.optimum.specs.Runs.{runs, runs_list}
use Rattle.optimum.specs.BlockTree.{IsTree, start_of, increases, step_count, gains_of, pairs_of}
use Rattle.optimum.proofs.Handout.{plain}
use Rattle.optimum.proofs.Increases.{Placed, give_frame, read_give, length_sized, read_sized}
use Rattle.optimum.proofs.Sums.{across_gates}
use Rattle.optimum.proofs.Gates.{gate_heads, gate_left, gate_left_at_most, gate_steps}
use Rattle.optimum.proofs.Runs.{runs_sink, runs_few, ticks_earn, joined_counts, runs_first, joined_first, first_is_most, joined_falls, joined_few}
use Rattle.optimum.proofs.Within.{saving_earned, start_is_start, best_after}

-- the runs on a list are those of the increases read off it
runs_read : (h : ℕ → ℕ → Head) (t : Tree) (f : ℕ) (x : List ℕ) → Once t → Placed t x → runs_list h t f x ≡ runs h t f (read t x)
unfolding runs runs_list
runs_read h t zero x once p = refl
runs_read h t (suc f) x once p =
    let w = (head h t (read t x)).width in
    let rest =
    runs_read h t f (give_list h t w x) once (λ g l. omega (arith, p g l, (give_frame h t w x).same_length))
    ∙ ap (runs h t f) (read_give h t w x once p)
    in
    rw rest refl

module _ (B : Block) (t : Tree) (tree : IsTree B t) (descending : (g : ℕ) → Descending (gate B g).steps) where
  heads : Heads (gate_count B) (gate_head B)
  heads = gate_heads B descending

  pub placed : (k : ℕ) → Placed t (increases B t k)
  placed k g l = omega (arith, tree.below g l, length_sized (gate_head B) (drawn B) t (gate_count B) k)

  -- what a list saves is what the tree's increases are worth in plain gains
  saving_worth : (y : List ℕ) → saving B y ≡ worth (plain (gate_head B)) t (read t y)
  saving_worth y = saving_earned B y ∙ sym (across_gates (λ (g k : ℕ). sum k (plain (gate_head B) g)) (gate_count B) t y tree.below tree.all)

  -- there are as many steps left as steps, or fewer
  pub few_steps : (y : List ℕ) → across (gate_left B) t (read t y) ≤ step_count B
  unfolding step_count
  few_steps y =
      le_trans (le_of_eq (across_gates (gate_left B) (gate_count B) t y tree.below tree.all))
      (sum_le (gate_count B) _ _ (λ g l. gate_left_at_most B g (get_or y g 0)))

  -- the raised start
  abbrev start : List ℕ
  start = increases B t 0

  pub gains_read : gains_of B t ≡ runs (gate_head B) t (step_count B) (read t start)
  gains_read = runs_read (gate_head B) t (step_count B) start tree.once (placed 0)

  -- the increases after k ticks are k ticks from the raised start on
  read_after : (k : ℕ) → read t (increases B t k) ≡ ticks (gate_head B) t k (read t start)
  read_after k =
      read_sized (gate_head B) (drawn B) t (gate_count B) k tree.once tree.below
      ∙ ap (ticks (gate_head B) t k) (sym (read_sized (gate_head B) (drawn B) t (gate_count B) 0 tree.once tree.below))

  -- after k ticks a list saves what the raised start saves and the first k ticks of the curve earn
  pub saving_after : (k : ℕ) → saving B (increases B t k) ≡ saving B start + count_off (pairs_of B t) k
  saving_after k =
      rw (saving_worth (increases B t k), saving_worth start, read_after k, joined_counts (gains_of B t) k, gains_read)
      (ticks_earn (gate_count B) (gate_head B) heads (gate_left B) (gate_steps B) t (step_count B) (read t start) (few_steps start) k)

  -- no list within the time saves more than the list after k ticks
  saves_most : (k : ℕ) (y : List ℕ) → Within B (start_of B t + k) y → saving B y ≤ saving B (increases B t k)
  saves_most k y w = from (dec_le (saving B y) (saving B (increases B t k)))
    where
      other : ¬ (saving B y ≤ saving B (increases B t k)) → y ≢ increases B t k
      other n e = n (rw e (le_refl _))

      least : {Later : Type 0} → (saving B y < saving B (increases B t k)) ⊎ ((saving B y ≡ saving B (increases B t k)) × Later)
          → saving B y ≤ saving B (increases B t k)
      least (inl l) = omega arith
      least (inr (e, _)) = omega arith

      from : Dec (saving B y ≤ saving B (increases B t k)) → saving B y ≤ saving B (increases B t k)
      from (yes l) = l
      from (no n) = least ((best_after B t tree descending k).beats y w (other n))

  pub is_curve : IsCurve B (start_of B t) (saving B start) (pairs_of B t)
  is_curve =
      record {
        starts = start_is_start B t tree;
        falls = joined_falls (gains_of B t) (rw gains_read (runs_sink (gate_count B) (gate_head B) heads t (step_count B) (read t start)));
        best = λ k.
            record {
              list = increases B t k;
              within = (best_after B t tree descending k).is_ok;
              saves = saving_after k;
              greatest = λ y w. rw (← saving_after k) (saves_most k y w);
            };
      }

  -- the curve has at most as many pairs as there are steps
  pub pairs_few : length (pairs_of B t) ≤ step_count B
  pairs_few =
      le_trans (joined_few (gains_of B t)) (rw gains_read (le_trans
      (runs_few (gate_count B) (gate_head B) heads (gate_left B) (gate_steps B) t (step_count B) (read t start)) (few_steps start)))

  -- no pair's gain is above that of the head at the raised start
  pub pairs_at_most : (p : Pair) → Memᴰ p (pairs_of B t) → p.gain ≤ (head (gate_head B) t (read t start)).gain
  pairs_at_most p m =
      omega (
        arith,
        first_is_most (pairs_of B t) p is_curve.falls m,
        joined_first (gains_of B t) ∙ ap first_gain gains_read,
        runs_first (gate_count B) (gate_head B) heads t (step_count B) (read t start),
      )
