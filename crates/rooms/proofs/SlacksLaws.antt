-- The answer of the slacks for a lent slice that is long enough.
-- Assumes nothing.
use mathlib.Core.Path.{◌≡◌, refl}
use mathlib.Core.List.{List, [], ◌∷◌}
use Prim.Native.Nat.{ℕ, ◌≤◌}
use native.Mathlib.Omega.{arith}
use lib.IntN.{ℤ}
use lib.ListN.{length}
use Rattle.lists.specs.Over.{build, over}
use Rattle.lists.proofs.Over.{build_same}
use Rattle.model.specs.Slack.{slack}
use Rattle.model.specs.Answer.{accepted, well_formed, passes, AnswersSlacks}
use Rattle.blockfile.specs.Held.{GateArrays, WireArrays}
use Rattle.timing.specs.Slacks.{slack_in}
use Rattle.loading.specs.HeldFile.{HeldFile}
use Rattle.holding.proofs.HeldLaws.{block, count, slack_is}

pub slacks_given : {file : List ℕ} {n m arrival deadline activity : ℕ} {G : GateArrays} {W : WireArrays} {order : List ℕ} (h : HeldFile file n m arrival deadline activity G W order)
    (lent_out after : List ℤ)
    → n ≤ length lent_out
    → after ≡ over (build n (slack_in n m W.sources W.targets W.delays G.delays arrival deadline)) lent_out
    → AnswersSlacks file lent_out (record { answer = accepted (n ∷ []); memory = after })
slacks_given {n = n} {m = m} {arrival = arrival} {deadline = deadline} {G = G} {W = W} h lent_out after long e =
    well_formed (block h) h.well
    (passes (λ p s. omega (arith, s.1, count h))
    (rw (count h, e, build_same n (slack_in n m W.sources W.targets W.delays G.delays arrival deadline) (slack (block h)) (slack_is h)) refl))
