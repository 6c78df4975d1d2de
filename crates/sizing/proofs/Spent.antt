-- Ticks spent run by run: they earn what they earn counted off the whole curve; with room for as many runs as there are steps, they lead to the list that single ticks lead to; and with ticks for all runs, the runs are whole.
-- Assumes nothing.
use mathlib.Core.Path.{◌≡◌, refl, sym, ◌∙◌, ap}
use mathlib.Core.Logic.{◌⊎◌, inl, inr}
use mathlib.Core.List.{List, [], ◌∷◌}
use Prim.Native.Nat.{ℕ, zero, suc, ◌+◌, ◌*◌, ◌-◌, ◌≤◌, ◌<◌, min}
use native.Mathlib.Nat.{le_refl, eq-zero-or-pos, suc-mul}
use native.Mathlib.Omega.{arith}
use borrow.Author.Tests.{eq-eqb, ne_eqb}
use Rattle.lists.proofs.Compare.{le_or_lt}
use Rattle.model.specs.Limits.{max_width}
use Rattle.model.specs.Block.{Block, gate, gate_count}
use Rattle.model.specs.Curve.{Pair, count_off}
use Rattle.optimum.specs.Tree.{Tree, wire, series, parallel, St, Once, across}
use Rattle.optimum.specs.Head.{Head, Heads, Item}
use Rattle.optimum.specs.Handout.{head}
use Rattle.optimum.specs.Increases.{read, give_list, ticks_list}
use Rattle.optimum.specs.Gates.{Descending, gate_head}
use Rattle.optimum.specs.Runs.{runs_list, joined}
use Rattle.optimum.specs.BlockTree.{IsTree, increases, step_count, gains_of, pairs_of}
use Rattle.optimum.proofs.Order.{by_sides}
use Rattle.optimum.proofs.Handout.{item_head, by_item, some_width}
use Rattle.optimum.proofs.Increases.{Placed, give_frame, read_give}
use Rattle.optimum.proofs.Loop.{ticks_list_add, give_list_is_ticks, ticks_list_none}
use Rattle.optimum.proofs.Gates.{gate_heads, gate_left, gate_steps}
use Rattle.optimum.proofs.Runs.{Steps, run_ends_step, no_steps, joined_counts}
use Rattle.optimum.proofs.Curve.{placed, few_steps}
use Rattle.heads.specs.Plan.{Plan, part}
use Rattle.sizing.specs.Pairs.{pair, next_run, spent_runs, spent_list, NodeCurve, Spent}
use Rattle.sizing.proofs.Ticking.{run_none, run_some}

-- without ticks nothing is earned
count_off_none : (ps : List Pair) → count_off ps 0 ≡ 0
unfolding count_off
count_off_none [] = refl
count_off_none (p ∷ ps) =
    let e : 0 - p.width ≡ 0 = omega arith in
    let m : min 0 p.width ≡ 0 = omega arith in
    rw (e, m) (omega (arith, count_off_none ps))

neither_earns : (ps qs : List Pair) (j k : ℕ) → j ≡ 0 → k ≡ 0 → count_off ps j ≡ count_off qs k
neither_earns ps qs j k y z = rw (y, z) (count_off_none ps ∙ sym (count_off_none qs))

-- no head is wider than the gates' are
pub width_bounded : (h : ℕ → ℕ → Head) (W : ℕ) → ((g k : ℕ) → (h g k).width ≤ W) → (t : Tree) (s : St t) → (head h t s).width ≤ W
width_bounded h W bound (wire d) s = omega arith
width_bounded h W bound (series P m Q) s =
    by_item h P m Q s (λ (i : Item). (item_head h P m Q s i).width ≤ W) (λ a b. width_bounded h W bound P s.0) (λ a b. bound m s.1)
    (λ a b. width_bounded h W bound Q s.2)
width_bounded h W bound (parallel P Q) s =
    by_sides (head h P s.0) (head h Q s.1) (λ (r : Head). r.width ≤ W) (λ z. width_bounded h W bound Q s.1)
    (λ p z. width_bounded h W bound P s.0) (λ p q. omega (arith, width_bounded h W bound P s.0))

module _ (n : ℕ) (h : ℕ → ℕ → Head) (heads : Heads n h) (t : Tree) where
  abbrev gain : List ℕ → ℕ
  gain x = (head h t (read t x)).gain

  abbrev width : List ℕ → ℕ
  width x = (head h t (read t x)).width

  -- There is no next run, for want of ticks or of a head; or it is the whole head; or it is all the ticks that are left.
  by_run : (k : ℕ) (x : List ℕ) (C : Type 0) → (next_run h t k x ≡ 0 → k ≡ 0 → 0 < gain x → C) → (next_run h t k x ≡ 0 → gain x ≡ 0 → C)
      → (0 < gain x → 0 < width x → width x ≤ k → next_run h t k x ≡ width x → C)
      → (0 < gain x → 0 < k → k < width x → next_run h t k x ≡ k → C) → C
  by_run k x C no_ticks no_head whole rest = go (eq-zero-or-pos (gain x)) (eq-zero-or-pos k) (le_or_lt (width x) k)
    where
      is : (r : ℕ) → 0 < gain x → r ≡ min k (width x) → next_run h t k x ≡ r
      is r p e = sym (run_some k (gain x) (width x) r (λ z. omega arith) e)

      go : (gain x ≡ 0) ⊎ (0 < gain x) → (k ≡ 0) ⊎ (0 < k) → (width x ≤ k) ⊎ (k < width x) → C
      go (inl z) _ _ = no_head (sym (run_none k (gain x) (width x) z)) z
      go (inr p) (inl z) _ = no_ticks (is 0 p (omega arith)) z p
      go (inr p) (inr q) (inl l) = whole p (some_width n h heads t (read t x) p) l (is (width x) p (omega arith))
      go (inr p) (inr q) (inr l) = rest p q l (is k p (omega arith))

  -- the ticks earn on the runs on which they are spent what they earn on the whole ones
  spent_counts : (f k : ℕ) (x : List ℕ) → count_off (spent_runs h t f k x) k ≡ count_off (runs_list h t f x) k
  unfolding spent_runs runs_list count_off
  spent_counts zero k x = refl
  spent_counts (suc f) k x =
      by_run k x (count_off (spent_runs h t (suc f) k x) k ≡ count_off (runs_list h t (suc f) x) k)
      (λ r z p. neither_earns (spent_runs h t (suc f) k x) (runs_list h t (suc f) x) k k z z)
      (λ r z. rw (eq-eqb _ 0 r, eq-eqb _ 0 z))
      (λ p w l r.
      rw (ne_eqb (next_run h t k x) 0 (λ z. omega arith), ne_eqb (gain x) 0 (λ z. omega arith)) (rw r
      (ap (λ (e : ℕ). min k (width x) * gain x + e) (spent_counts f (k - width x) (give_list h t (width x) x)))))
      (λ p q l r.
      let m : min k (width x) ≡ min k k = omega arith in
      rw (ne_eqb (next_run h t k x) 0 (λ z. omega arith), ne_eqb (gain x) 0 (λ z. omega arith)) (rw (r, m)
      (ap (λ (e : ℕ). min k k * gain x + e) (neither_earns (spent_runs h t f (k - k) (give_list h t k x)) (runs_list h t f (give_list h t (width x) x)) (k - k) (k - width x)
      (omega arith) (omega arith)))))

  -- with ticks for f runs of the greatest width, the runs are whole
  spent_whole : (W : ℕ) → ((g k : ℕ) → (h g k).width ≤ W) → (f k : ℕ) (x : List ℕ) → f * W ≤ k → spent_runs h t f k x ≡ runs_list h t f x
  unfolding spent_runs runs_list
  spent_whole W bound zero k x l = refl
  spent_whole W bound (suc f) k x l =
      let m : suc f * W ≡ f * W + W = suc-mul f W in
      let b = width_bounded h W bound t (read t x) in
      by_run k x (spent_runs h t (suc f) k x ≡ runs_list h t (suc f) x)
      (λ r z p. absurd (omega (arith, some_width n h heads t (read t x) p)))
      (λ r z. rw (eq-eqb _ 0 r, eq-eqb _ 0 z))
      (λ p w e r.
      rw (ne_eqb (next_run h t k x) 0 (λ z. omega arith), ne_eqb (gain x) 0 (λ z. omega arith)) (rw r
      (ap (λ (L : List Pair). pair (width x) (gain x) ∷ L) (spent_whole W bound f (k - width x) (give_list h t (width x) x) (omega arith)))))
      (λ p q e r. absurd (omega arith))

  -- no ticks change nothing
  spent_none : (f k : ℕ) (x : List ℕ) → k ≡ 0 → spent_list h t f k x ≡ x
  unfolding spent_list
  spent_none zero k x z = refl
  spent_none (suc f) k x z =
      by_run k x (spent_list h t (suc f) k x ≡ x) (λ r _ _. rw (eq-eqb _ 0 r)) (λ r _. rw (eq-eqb _ 0 r)) (λ p w l r. absurd (omega arith))
      (λ p q l r. absurd (omega arith))

  module _ (left : ℕ → ℕ → ℕ) (steps : Steps h left) (once : Once t) where
    give_placed : (w : ℕ) (x : List ℕ) → Placed t x → Placed t (give_list h t w x)
    give_placed w x placed g l = omega (arith, placed g l, (give_frame h t w x).same_length)

    give_ticks : (w : ℕ) (x : List ℕ) → Placed t x → 0 < gain x → 0 < w → w ≤ width x → give_list h t w x ≡ ticks_list h t w x
    give_ticks zero x placed p q l = absurd (omega arith)
    give_ticks (suc w) x placed p q l = give_list_is_ticks n h heads t w x once placed p l

    -- with room for as many runs as there are steps, the list is that after k ticks
    spent_all : (f k : ℕ) (x : List ℕ) → Placed t x → across left t (read t x) ≤ f → spent_list h t f k x ≡ ticks_list h t k x
    unfolding spent_list
    spent_all zero k x placed few = sym (ticks_list_none n h heads t k x once placed (no_steps n h heads left steps t (read t x) few))
    spent_all (suc f) k x placed few =
        by_run k x (spent_list h t (suc f) k x ≡ ticks_list h t k x)
        (λ r z p. rw (eq-eqb _ 0 r) (ap (λ (j : ℕ). ticks_list h t j x) (sym z)))
        (λ r z. rw (eq-eqb _ 0 r) (sym (ticks_list_none n h heads t k x once placed z)))
        (λ p w l r.
        let e : width x + (k - width x) ≡ k = omega arith in
        let ended : across left t (read t (give_list h t (width x) x)) ≤ f =
        rw (read_give h t (width x) x once placed) (omega (arith, run_ends_step n h heads left steps t (width x) (read t x) refl p)) in
        rw (ne_eqb (next_run h t k x) 0 (λ z. omega arith)) (rw r
        (spent_all f (k - width x) (give_list h t (width x) x) (give_placed (width x) x placed) ended
        ∙ ap (ticks_list h t (k - width x)) (give_ticks (width x) x placed p w (le_refl _))
        ∙ sym (ticks_list_add h t (width x) (k - width x) x)
        ∙ ap (λ (j : ℕ). ticks_list h t j x) e)))
        (λ p q l r.
        rw (ne_eqb (next_run h t k x) 0 (λ z. omega arith)) (rw r
        (spent_none f (k - k) (give_list h t k x) (omega arith) ∙ give_ticks k x placed p q (omega arith))))

module _ (B : Block) (t : Tree) (tree : IsTree B t) (descending : (g : ℕ) → Descending (gate B g).steps) where
  -- from the raised start on, k ticks are spent to the list after k ticks
  pub spent_increases : (k : ℕ) → spent_list (gate_head B) t (step_count B) k (increases B t 0) ≡ increases B t k
  spent_increases k =
      spent_all (gate_count B) (gate_head B) (gate_heads B descending) t (gate_left B) (gate_steps B) tree.once (step_count B) k (increases B t 0)
      (placed B t tree descending 0) (few_steps B t tree descending (increases B t 0))

  -- and earn what they earn counted off the block's curve
  pub spent_earns : (k : ℕ) → count_off (joined (spent_runs (gate_head B) t (step_count B) k (increases B t 0))) k ≡ count_off (pairs_of B t) k
  spent_earns k =
      joined_counts (spent_runs (gate_head B) t (step_count B) k (increases B t 0)) k
      ∙ spent_counts (gate_count B) (gate_head B) (gate_heads B descending) t (step_count B) k (increases B t 0)
      ∙ sym (joined_counts (gains_of B t) k)

-- with ticks for all steps at the greatest width, the pairs are those of the node's curve
pub whole_curve : {P : Plan} {x x' : List ℕ} {i ticks steps r : ℕ} {widths gains widths' gains' : List ℕ} → Heads P.gate_count P.heads
    → ((g k : ℕ) → (P.heads g k).width ≤ max_width) → Spent P x x' i ticks steps r widths gains widths' gains' → steps * max_width ≤ ticks
    → NodeCurve P x i steps r widths gains widths' gains'
whole_curve {P} {x} {i = i} {ticks = ticks} {steps = steps} sound narrow spent enough =
    record {
      pairs = spent.pairs
          ∙ ap joined (spent_whole P.gate_count P.heads sound (part P.nodes i) max_width narrow steps ticks x enough);
      few = spent.few;
      other_widths = spent.other_widths;
      other_gains = spent.other_gains;
    }
