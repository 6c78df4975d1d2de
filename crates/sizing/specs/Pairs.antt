-- Pairs of a curve in two arrays, and what noting one run more leaves there; and the runs on which so many ticks are spent.
use Rattle.std.specs.Prelude.{◌≡◌, cond, List, [], ◌∷◌, ℕ, zero, suc, ◌+◌, ◌-◌, ◌*◌, ◌≤◌, ◌<◌, eqb, get_or}
use Rattle.lists.specs.Over.{build}
use Rattle.model.specs.Limits.{max_steps, max_width}
use Rattle.model.specs.Curve.{Pair}
use Rattle.optimum.specs.Tree.{Tree}
use Rattle.optimum.specs.Head.{Head}
use Rattle.optimum.specs.Handout.{head}
use Rattle.optimum.specs.Increases.{read, give_list}
use Rattle.optimum.specs.Runs.{runs_list, joined}
use Rattle.heads.specs.Plan.{Plan, most_gates, part, parent}
use Rattle.handout.specs.State.{State, Ready}
use Rattle.sizing.specs.Ticks.{run_of}

abbrev pub pair : ℕ → ℕ → Pair
pair w g = record { width = w; gain = g }

-- the first c pairs of the arrays
abbrev pub pairs_in : ℕ → List ℕ → List ℕ → List Pair
pairs_in c widths gains = build c (λ (i : ℕ). pair (get_or widths i 0) (get_or gains i 0))

-- a pair at the end of a curve, joined to its last pair where the gain is the same
unfoldable pub extend : List Pair → Pair → List Pair
extend [] q = q ∷ []
extend (a ∷ []) q = cond (eqb a.gain q.gain) (pair (a.width + q.width) q.gain ∷ []) (a ∷ q ∷ [])
extend (a ∷ b ∷ L) q = a ∷ extend (b ∷ L) q

-- The pair w, g has been noted behind c pairs, which are r pairs now; the elements behind them are as before, and no width has grown by more than w.
pub record Noted (c r : ℕ) (widths gains widths' gains' : List ℕ) (w g : ℕ) : Type 0 where
  pub pairs : pairs_in r widths' gains' ≡ extend (pairs_in c widths gains) (pair w g)
  pub few : r ≤ c + 1
  pub no_fewer : c ≤ r
  pub other_widths : (i : ℕ) → r ≤ i → get_or widths' i 0 ≡ get_or widths i 0
  pub other_gains : (i : ℕ) → r ≤ i → get_or gains' i 0 ≡ get_or gains i 0
  pub wide : (b : ℕ) → ((i : ℕ) → i < c → get_or widths i 0 ≤ b) → (i : ℕ) → i < r → get_or widths' i 0 ≤ b + w

-- The runs of node i can be noted: no sum of widths is too great.
pub record Curvable (P : Plan) (S : State) (i steps : ℕ) : Type 0 where
  pub ready : Ready P S i
  pub above : i < parent P.parents i
  pub widths : (g k : ℕ) → (P.heads g k).width ≤ max_width
  pub few : steps ≤ most_gates * max_steps

-- The first r elements of the arrays are the pairs of the curve of node i's first runs, as many as `steps`; the others are as before.
pub record NodeCurve (P : Plan) (x : List ℕ) (i steps r : ℕ) (widths gains widths' gains' : List ℕ) : Type 0 where
  pub pairs : pairs_in r widths' gains' ≡ joined (runs_list P.heads (part P.nodes i) steps x)
  pub few : r ≤ steps
  pub other_widths : (j : ℕ) → r ≤ j → get_or widths' j 0 ≡ get_or widths j 0
  pub other_gains : (j : ℕ) → r ≤ j → get_or gains' j 0 ≡ get_or gains j 0

-- the ticks of the next run of a part, of `ticks` ticks that are left
abbrev pub next_run : (ℕ → ℕ → Head) → Tree → ℕ → List ℕ → ℕ
next_run h t ticks x = run_of ticks (head h t (read t x)).gain (head h t (read t x)).width

-- The runs on which `ticks` ticks are spent from the list x on, at most f of them: each as wide as its head, the last no wider than the ticks that are left.
unfoldable pub spent_runs : (ℕ → ℕ → Head) → Tree → ℕ → ℕ → List ℕ → List Pair
spent_runs h t zero ticks x = []
spent_runs h t (suc f) ticks x =
    cond (eqb (next_run h t ticks x) 0) []
    (pair (next_run h t ticks x) (head h t (read t x)).gain ∷ spent_runs h t f (ticks - next_run h t ticks x) (give_list h t (next_run h t ticks x) x))

-- the list after these runs
unfoldable pub spent_list : (ℕ → ℕ → Head) → Tree → ℕ → ℕ → List ℕ → List ℕ
spent_list h t zero ticks x = x
spent_list h t (suc f) ticks x =
    cond (eqb (next_run h t ticks x) 0) x (spent_list h t f (ticks - next_run h t ticks x) (give_list h t (next_run h t ticks x) x))

-- `ticks` ticks have been spent at node i, on at most `steps` runs: the increases are those after them, and the first r elements of the arrays are the pairs of their curve; the others are as before.
pub record Spent (P : Plan) (x x' : List ℕ) (i ticks steps r : ℕ) (widths gains widths' gains' : List ℕ) : Type 0 where
  pub increases : x' ≡ spent_list P.heads (part P.nodes i) steps ticks x
  pub pairs : pairs_in r widths' gains' ≡ joined (spent_runs P.heads (part P.nodes i) steps ticks x)
  pub few : r ≤ steps
  pub other_widths : (j : ℕ) → r ≤ j → get_or widths' j 0 ≡ get_or widths j 0
  pub other_gains : (j : ℕ) → r ≤ j → get_or gains' j 0 ≡ get_or gains j 0
