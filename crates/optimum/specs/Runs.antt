-- The record of gains: the heads of a part, each handed out over its whole width, until none is left; and the curve that it makes.
use Rattle.std.specs.Prelude.{cond, List, [], ◌∷◌, ℕ, zero, suc, ◌+◌, eqb}
use Rattle.model.specs.Curve.{Pair}
use Rattle.optimum.specs.Tree.{Tree, St}
use Rattle.optimum.specs.Head.{Head}
use Rattle.optimum.specs.Handout.{head, give}
use Rattle.optimum.specs.Increases.{read, give_list}

-- the width and the gain of a head
abbrev pub pair_of : Head → Pair
pair_of a = record { width = a.width; gain = a.gain }

-- the runs of a part from its increases s on, at most f of them
unfoldable pub runs : (ℕ → ℕ → Head) → (t : Tree) → ℕ → St t → List Pair
runs h t zero s = []
runs h t (suc f) s =
    cond (eqb (head h t s).gain 0) [] (pair_of (head h t s) ∷ runs h t f (give h t (head h t s).width s))

-- the same from a list of increases on
unfoldable pub runs_list : (ℕ → ℕ → Head) → Tree → ℕ → List ℕ → List Pair
runs_list h t zero x = []
runs_list h t (suc f) x =
    cond (eqb (head h t (read t x)).gain 0) []
    (pair_of (head h t (read t x)) ∷ runs_list h t f (give_list h t (head h t (read t x)).width x))

-- a pair in front of a curve, joined to its first pair where the gain is the same
unfoldable pub onto : Pair → List Pair → List Pair
onto p [] = p ∷ []
onto p (q ∷ qs) =
    cond (eqb p.gain q.gain) (record { width = p.width + q.width; gain = q.gain } ∷ qs) (p ∷ q ∷ qs)

-- the curve of a record of gains: neighbours of one gain are joined
unfoldable pub joined : List Pair → List Pair
joined [] = []
joined (p ∷ ps) = onto p (joined ps)
