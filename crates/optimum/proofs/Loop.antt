-- What a loop that hands out run by run on the list reaches: w ticks at once, w at most the width of the head, are w single ticks; and where no head is left, ticks change nothing.
-- Assumes nothing.
use mathlib.Core.Path.{◌≡◌, refl, sym, ◌∙◌}
use mathlib.Core.List.{List}
use Prim.Native.Nat.{ℕ, zero, suc, ◌+◌, ◌≤◌, ◌<◌}
use native.Mathlib.Nat.{zero-add, suc-add}
use Rattle.optimum.specs.Tree.{Tree, Once}
use Rattle.optimum.specs.Head.{Head, Heads}
use Rattle.optimum.specs.Handout.{head}
use Rattle.optimum.specs.Increases.{read, give_list, ticks_list}
use Rattle.optimum.proofs.Handout.{give_is_ticks, ticks_none}
use Rattle.optimum.proofs.Increases.{Placed, give_frame, ticks_frame, frame_none, same_lists, read_give, read_ticks}

-- j + k ticks are j and then k
pub ticks_list_add : (h : ℕ → ℕ → Head) (t : Tree) (j k : ℕ) (x : List ℕ) → ticks_list h t (j + k) x ≡ ticks_list h t k (ticks_list h t j x)
ticks_list_add h t zero k x = rw zero-add refl
ticks_list_add h t (suc j) k x = rw suc-add (ticks_list_add h t j k (give_list h t 1 x))

module _ (n : ℕ) (h : ℕ → ℕ → Head) (heads : Heads n h) where
  -- On the list too, w ticks at once are w single ticks, while w is at most the width of the head.
  pub give_list_is_ticks : (t : Tree) (w : ℕ) (x : List ℕ) → Once t → Placed t x → 0 < (head h t (read t x)).gain
      → suc w ≤ (head h t (read t x)).width → give_list h t (suc w) x ≡ ticks_list h t (suc w) x
  give_list_is_ticks t w x once p pos l =
      same_lists t x _ _ (give_frame h t (suc w) x) (ticks_frame h t (suc w) x) (read_give h t (suc w) x once p
      ∙ give_is_ticks n h heads t w (read t x) pos l
      ∙ sym (read_ticks h t (suc w) x once p))

  -- without a head, ticks change nothing
  pub ticks_list_none : (t : Tree) (k : ℕ) (x : List ℕ) → Once t → Placed t x → (head h t (read t x)).gain ≡ 0 → ticks_list h t k x ≡ x
  ticks_list_none t k x once p z =
      same_lists t x _ _ (ticks_frame h t k x) (frame_none t x) (read_ticks h t k x once p ∙ ticks_none n h heads t k (read t x) z)
