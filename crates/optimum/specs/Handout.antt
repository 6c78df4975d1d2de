-- Handing out ticks by heads: to the item that leads in a series part, to both sides of a parallel part.
use Rattle.std.specs.Prelude.{ℕ, zero, suc, ◌+◌, ◌-◌}
use Rattle.optimum.specs.Tree.{wire, series, parallel, Tree, St, zeros, longest}
use Rattle.optimum.specs.Head.{Head, no_head, item, turn, best_of, beside}

-- the head of a part
abbrev pub head : (ℕ → ℕ → Head) → (t : Tree) → St t → Head
head h (wire w) s = no_head
head h (series P m Q) s = best_of (head h P s.0) (h m s.1) (head h Q s.2)
head h (parallel P Q) s = beside (head h P s.0) (head h Q s.1)

-- w ticks handed out at once, w at most the width of the head; a part without a head stays as it is
abbrev pub give : (ℕ → ℕ → Head) → (t : Tree) → ℕ → St t → St t
give h (wire l) w s = s
give h (series P m Q) w s =
    item (turn (head h P s.0) (h m s.1) (head h Q s.2)) (give h P w s.0, s.1, s.2) (s.0, s.1 + w, s.2)
    (s.0, s.1, give h Q w s.2)
give h (parallel P Q) w s = (give h P w s.0, give h Q w s.1)

-- k ticks handed out one by one
abbrev pub ticks : (ℕ → ℕ → Head) → (t : Tree) → ℕ → St t → St t
ticks h t zero s = s
ticks h t (suc k) s = ticks h t k (give h t 1 s)

-- from no increase, inside out, each side of a parallel part gets the ticks that it lacks to the longer side, as far as its gates go
abbrev pub raise : (ℕ → ℕ) → (ℕ → ℕ → Head) → (t : Tree) → St t
raise d h (wire w) = tt
raise d h (series P m Q) = (raise d h P, 0, raise d h Q)
raise d h (parallel P Q) = (
  ticks h P (longest d Q (zeros Q) - longest d P (zeros P)) (raise d h P),
  ticks h Q (longest d P (zeros P) - longest d Q (zeros Q)) (raise d h Q),
)
