-- The steps gathered in the words of a block give its gates the heads that the arrays give.
-- Assumes nothing.
use mathlib.Core.Path.{◌≡◌}
use mathlib.Core.Logic.{◌⊎◌, inl, inr}
use mathlib.Core.List.{List}
use Prim.Native.Nat.{ℕ, ◌≤◌, ◌<◌}
use borrow.Author.Tests.{lt-ltb, le-ltb}
use Rattle.lists.proofs.Compare.{le_or_lt}
use Rattle.blockwords.specs.Gathered.{Gathered}
use Rattle.blockwords.proofs.Steps.{same_steps}
use Rattle.heads.specs.Plan.{StepsLent, StepsHeld, heads_in, heads_of}

module _ {n : ℕ} {counts step_widths drops inputs block : List ℕ} (x : Gathered n counts step_widths drops inputs block) where
  pub steps_held : StepsLent n counts step_widths drops inputs → StepsHeld block
  steps_held lent =
      rw x.gates
      (record {
        gates = lent.gates;
        few = λ g l. rw (x.each g l).count (lent.few g l);
        drop_small = λ g j l b. let m = rw (x.each g l).count at b in rw ((x.each g l).drop j m) (lent.drop_small g j l m);
        input_small = λ g l. rw (x.each g l).input (lent.input_small g l);
      })

  same_head : (g k : ℕ) → (n ≤ g) ⊎ (g < n) → heads_of block g k ≡ heads_in n counts step_widths drops inputs g k
  unfolding heads_in
  same_head g k (inl l) = rw (x.gates, le-ltb g n l)
  same_head g k (inr l) = rw (x.gates, lt-ltb g n l, (x.each g l).input, same_steps x g l)

  pub heads_gathered : heads_of block ≡ heads_in n counts step_widths drops inputs
  heads_gathered = λ t g k. same_head g k (le_or_lt n g) t
