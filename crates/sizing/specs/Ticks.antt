-- Ticks handed out at a node run by run.
use Rattle.std.specs.Prelude.{◌≡◌, cond, ℕ, min, eqb}
use Rattle.optimum.specs.Increases.{ticks_list}
use Rattle.heads.specs.Plan.{Plan, part, parent}
use Rattle.heads.specs.Stored.{Keeps, Lent}
use Rattle.handout.specs.State.{State, Fresh}

-- k ticks have been handed out at node i, run by run: heads that were right still are, but for that of i's parent
pub record TickedOut (P : Plan) (S S' : State) (i k : ℕ) : Type 0 where
  pub increases : S'.increases ≡ ticks_list P.heads (part P.nodes i) k S.increases
  pub lent : Lent P.nodes S'.gates S'.nodes
  pub fresh : Fresh P S'
  pub keeps : Keeps P.nodes S.gates S.nodes S'.gates S'.nodes (parent P.parents i)

-- the ticks of the next run: as many as are left, at most the width of the head
unfoldable pub run_of : ℕ → ℕ → ℕ → ℕ
run_of ticks gain width = cond (eqb gain 0) 0 (min ticks width)
