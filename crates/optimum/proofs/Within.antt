-- For a block with a tree, and drops that do not rise, the list after k ticks from the raised start is the best of the lists within start + k. A base above every gate's widths and the number of gates makes the values of the ticks.
-- Assumes nothing.
use mathlib.Core.Path.{◌≡◌, refl, sym, subst, fun_ext}
use mathlib.Core.Logic.{◌⊎◌}
use mathlib.Core.List.{List, []}
use Prim.Native.Nat.{ℕ, zero, suc, ◌+◌, ◌≤◌, ◌<◌}
use native.Mathlib.Nat.{add-zero, le_trans}
use native.Mathlib.Decide.{dec_lt}
use native.Mathlib.Omega.{arith}
use lib.ListN.{length, get_or, get_or-eq_default}
use Rattle.lists.specs.Sum.{sum, total}
use Rattle.model.specs.Block.{Block, no_gate, gate, gate_count, first, last, widths}
use Rattle.model.specs.Path.{Longest}
use Rattle.model.specs.Gain.{gain, saving}
use Rattle.model.specs.InTime.{drawn, Within, IsStart}
use Rattle.model.specs.Best.{BestWithin}
use Rattle.optimum.specs.Tree.{Tree, size, longest}
use Rattle.optimum.specs.Head.{Heads}
use Rattle.optimum.specs.Handout.{head}
use Rattle.optimum.specs.Increases.{read}
use Rattle.optimum.specs.Gates.{Descending, gate_head}
use Rattle.optimum.specs.BlockTree.{IsTree, start_of, increases}
use Rattle.optimum.proofs.Handout.{plain}
use Rattle.optimum.proofs.Value.{Proper}
use Rattle.optimum.proofs.Increases.{length_sized, read_zeros}
use Rattle.optimum.proofs.Sums.{sum_member, earned, earned_same}
use Rattle.optimum.proofs.Ties.{sized_gains, sized_lasts, sized_lasts_exactly, sized_beats}
use Rattle.optimum.proofs.Gates.{gate_gain, within_widths, gate_heads}

-- what model's lists save is what their ticks earn in plain gains
pub saving_earned : (B : Block) (y : List ℕ) → saving B y ≡ earned (plain (gate_head B)) (gate_count B) y
unfolding saving
saving_earned B y = earned_same (gate_count B) y (gain B) (plain (gate_head B)) (λ g l i l'. sym (gate_gain B g i))

module _ (B : Block) (t : Tree) (tree : IsTree B t) where
  -- a tree of the block, with no increase, lasts as long as its longest path
  pub start_is_start : IsStart B (start_of B t)
  start_is_start =
      subst
      (λ (f : ℕ → ℕ). Longest B.wires f (first B) (last B) (start_of B t)) (fun_ext (λ g. add-zero (drawn B g)))
      (rw (← read_zeros 0 t) (tree.lasts (drawn B) []))

  -- lists are within a time exactly where the tree lasts no longer
  pub within_lasts : (T : ℕ) (y : List ℕ) → Within B T y → longest (drawn B) t (read t y) ≤ T
  within_lasts T y w = w.paths _ (tree.lasts (drawn B) y).attained

  pub lasts_within : (T : ℕ) (y : List ℕ) → length y ≡ gate_count B
      → ((g : ℕ) → g < gate_count B → get_or y g 0 ≤ widths (gate B g).steps) → longest (drawn B) t (read t y) ≤ T → Within B T y
  lasts_within T y one_each in_widths l =
      record {
        one_each = one_each;
        within_widths = in_widths;
        paths = λ u p. le_trans ((tree.lasts (drawn B) y).greatest u p) l;
      }

  -- more than any gate's widths, and than the number of gates
  base : ℕ
  base = 2 + size t + sum (gate_count B) (λ (g : ℕ). widths (gate B g).steps)

  widths_below : (g : ℕ) → widths (gate B g).steps < base
  unfolding base total
  widths_below g = go (dec_lt g (gate_count B))
    where
      go : Dec (g < gate_count B) → widths (gate B g).steps < base
      go (yes l) = omega (arith, sum_member (gate_count B) (λ (g : ℕ). widths (gate B g).steps) g l)
      go (no l) =
          let k : gate_count B ≤ g = omega arith in
          rw (get_or-eq_default B.gates no_gate k) (omega arith)

  positive : 0 < base
  unfolding base
  positive = omega arith

  proper : Proper base (gate_count B) t
  unfolding base
  proper = record { once = tree.once; below = tree.below; small = omega arith }

  bounded : (g k : ℕ) → 0 < (gate_head B g k).gain → suc k < base
  bounded g k p = omega (arith, within_widths B g k p, widths_below g)

  module _ (descending : (g : ℕ) → Descending (gate B g).steps) (k : ℕ) where
    heads : Heads (gate_count B) (gate_head B)
    heads = gate_heads B descending

    -- no gate is slowed beyond its widths
    in_widths : (g : ℕ) → g < gate_count B → get_or (increases B t k) g 0 ≤ widths (gate B g).steps
    in_widths g l = go (get_or (increases B t k) g 0) refl
      where
        go : (a : ℕ) → get_or (increases B t k) g 0 ≡ a → a ≤ widths (gate B g).steps
        go zero e = omega arith
        go (suc a) e =
            within_widths B g a (sized_gains base (gate_count B) positive (gate_head B) heads bounded (drawn B) t proper tree.all k g l a
            (omega arith))

    within : Within B (start_of B t + k) (increases B t k)
    within =
        lasts_within (start_of B t + k) (increases B t k) (length_sized (gate_head B) (drawn B) t (gate_count B) k) in_widths
        (sized_lasts base (gate_count B) positive (gate_head B) heads bounded (drawn B) t proper tree.all k)

    -- it lasts exactly start + k while a tick was left
    pub lasts_exactly : (longest (drawn B) t (read t (increases B t k)) ≡ start_of B t + k)
        ⊎ ((head (gate_head B) t (read t (increases B t k))).gain ≡ 0)
    lasts_exactly =
        sized_lasts_exactly base (gate_count B) positive (gate_head B) heads bounded (drawn B) t proper tree.all k

    -- the list after k ticks is the best within start + k
    pub best_after : BestWithin B (start_of B t + k) (increases B t k)
    best_after =
        record {
          is_ok = within;
          beats = λ y w other.
              rw (saving_earned B y, saving_earned B (increases B t k)) (sized_beats base (gate_count B) positive (gate_head B) heads
              bounded (drawn B) t proper tree.all k y
              (record { length_is = w.one_each; below = λ g l. omega (arith, w.within_widths g l, widths_below g) })
              (within_lasts (start_of B t + k) y w) other);
        }
