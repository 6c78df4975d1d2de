-- The head of a gate, found by passing its steps one after another: after j steps, what is left of the increase and the steps left make the same head.
-- Assumes nothing.
use mathlib.Core.Path.{◌≡◌, refl, sym, ◌∙◌, ap}
use mathlib.Core.List.{List, [], ◌∷◌, ◌++◌}
use Prim.Native.Nat.{ℕ, zero, suc, ◌+◌, ◌-◌, ◌*◌, ◌≤◌, ◌<◌}
use native.Mathlib.Nat.{zero-mul}
use native.Mathlib.Omega.{arith}
use borrow.Author.Tests.{lt-ltb, le-ltb, eq-eqb, ne_eqb}
use lib.ListN.{get_or, set}
use Rattle.lists.specs.Over.{build}
use Rattle.model.specs.Limits.{max_steps}
use Rattle.model.specs.Block.{Step}
use Rattle.model.specs.Gain.{drop_of}
use Rattle.model.specs.Arrays.{step_at}
use Rattle.ties.specs.Code.{ranks}
use Rattle.optimum.specs.Head.{Head, no_head, rank}
use Rattle.optimum.specs.Gates.{room}
use Rattle.heads.specs.Plan.{step_head, heads_in}
use Rattle.heads.specs.declared.store.Heads.{Heads}
use Rattle.heads.specs.Stored.{GateWritten}
use Rattle.heads.specs.GateHeads.{GateAdded}

-- the m steps f j, f (j + 1), ..
unfoldable pub from : (ℕ → Step) → ℕ → ℕ → List Step
from f zero j = []
from f (suc m) j = f j ∷ from f m (suc j)

from_last : (f : ℕ → Step) (m j : ℕ) → from f (suc m) j ≡ from f m j ++ (f (j + m) ∷ [])
unfolding from
from_last f zero j = let e : j + 0 ≡ j = omega arith in rw e
from_last f (suc m) j =
    let e : suc j + m ≡ j + suc m = omega arith in
    ap (λ (ss : List Step). f j ∷ ss) (from_last f m (suc j) ∙ rw e)

pub all_from : (f : ℕ → Step) (m : ℕ) → build m f ≡ from f m 0
unfolding build from
all_from f zero = refl
all_from f (suc m) =
    let e : 0 + m ≡ m = omega arith in
    ap (λ (ss : List Step). ss ++ (f m ∷ [])) (all_from f m) ∙ sym (from_last f m 0 ∙ rw e)

-- the head made by steps ss where k ticks of them are given
steps_head : ℕ → ℕ → List Step → ℕ → Head
steps_head r a ss k = step_head r a (room ss k) (drop_of ss k)

module _ (r a : ℕ) where
  in_step : (s : Step) (ss : List Step) (k : ℕ) → k < s.width → steps_head r a (s ∷ ss) k ≡ step_head r a (s.width - k) s.drop
  unfolding steps_head room drop_of
  in_step s ss k l = rw (lt-ltb k s.width l)

  past_step : (s : Step) (ss : List Step) (k : ℕ) → s.width ≤ k → steps_head r a (s ∷ ss) k ≡ steps_head r a ss (k - s.width)
  unfolding steps_head room drop_of
  past_step s ss k l = rw (le-ltb k s.width l)

  no_step : (k : ℕ) → steps_head r a [] k ≡ no_head
  unfolding steps_head room drop_of step_head
  no_step k = rw (zero-mul a)

-- j of the gate's steps are passed, and `left` of the increase is left
pub record Passed (n : ℕ) (counts step_widths drops inputs : List ℕ) (g k j left : ℕ) : Type 0 where
  pub within : j ≤ get_or counts g 0
  same : heads_in n counts step_widths drops inputs g k
      ≡ steps_head (rank n g) (get_or inputs g 0) (from (step_at step_widths drops g) (get_or counts g 0 - j) j) left

pub passed_none : (n : ℕ) (counts step_widths drops inputs : List ℕ) (g k : ℕ) → g < n → Passed n counts step_widths drops inputs g k 0 k
unfolding heads_in steps_head
passed_none n counts step_widths drops inputs g k l =
    record {
      within = omega arith;
      same = let e : get_or counts g 0 - 0 ≡ get_or counts g 0 = omega arith in
          rw (lt-ltb g n l, all_from (step_at step_widths drops g) (get_or counts g 0), e);
    }

module _ {n : ℕ} {counts step_widths drops inputs : List ℕ} {g k j left : ℕ} (passed : Passed n counts step_widths drops inputs g k j left) where
  -- one more step before those behind it
  steps_left : j < get_or counts g 0
      → from (step_at step_widths drops g) (get_or counts g 0 - j) j
      ≡ step_at step_widths drops g j ∷ from (step_at step_widths drops g) (get_or counts g 0 - (j + 1)) (j + 1)
  unfolding from
  steps_left l =
      let e : get_or counts g 0 - j ≡ suc (get_or counts g 0 - (j + 1)) = omega arith in
      let f : j + 1 ≡ suc j = omega arith in
      rw (e, f)

  pub passed_more : {width : ℕ} → j < get_or counts g 0 → width ≡ get_or step_widths (g * max_steps + j) 0 → width ≤ left
      → Passed n counts step_widths drops inputs g k (j + 1) (left - width)
  passed_more l w b =
      record {
        within = omega arith;
        same = passed.same ∙ ap (λ (ss : List Step). steps_head (rank n g) (get_or inputs g 0) ss left) (steps_left l)
            ∙ rw w (past_step (rank n g) (get_or inputs g 0) (step_at step_widths drops g j) _ left (rw w at b));
      }

  pub found_step : {width drop input r : ℕ} {a : Head} → j < get_or counts g 0 → width ≡ get_or step_widths (g * max_steps + j) 0
      → left < width → drop ≡ get_or drops (g * max_steps + j) 0 → input ≡ get_or inputs g 0 → r ≡ rank n g → a ≡ step_head r input (width - left) drop
      → a ≡ heads_in n counts step_widths drops inputs g k
  found_step l w b d t q e =
      e ∙ rw (q, t, d, w) (sym (passed.same ∙ ap (λ (ss : List Step). steps_head (rank n g) (get_or inputs g 0) ss left) (steps_left l)
      ∙ in_step (rank n g) (get_or inputs g 0) (step_at step_widths drops g j) _ left (rw w at b)))

  pub found_none : get_or counts g 0 ≤ j → no_head ≡ heads_in n counts step_widths drops inputs g k
  unfolding from
  found_none l =
      let e : get_or counts g 0 - j ≡ 0 = omega arith in
      sym (passed.same ∙ ap (λ (m : ℕ). steps_head (rank n g) (get_or inputs g 0) (from (step_at step_widths drops g) m j) left) e
      ∙ no_step (rank n g) (get_or inputs g 0) left)

-- the head of a tick, with a gain and without
pub tick_none : (r a width drop : ℕ) → drop * a ≡ 0 → no_head ≡ step_head r a width drop
unfolding step_head
tick_none r a width drop z = rw (eq-eqb (drop * a) 0 z)

pub tick_some : (r a width drop : ℕ) → ¬ (drop * a ≡ 0) → record { width = width; gain = drop * a; rank = r } ≡ step_head r a width drop
unfolding step_head
tick_some r a width drop d = rw (ne_eqb (drop * a) 0 d)

-- an increase and the head that goes with it, stored
pub gate_added : (heads : ℕ → ℕ → Head) (x : List ℕ) {kept : Heads} (g w : ℕ) {kept' : Heads} {a : Head} → a ≡ heads g (get_or x g 0 + w)
    → a.rank < ranks → GateWritten kept kept' g a → GateAdded heads x (set x g (get_or x g 0 + w)) kept kept' g w
gate_added heads x g w e l f =
    record { added = record { increases = refl; written = f.gates ∙ rw e; low = rw e at l }; nodes = f.nodes }
