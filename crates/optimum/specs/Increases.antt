-- Increases as a list, gate g's at place g: the increases of a part read off the list, and ticks handed out on it.
use Rattle.std.specs.Prelude.{List, ℕ, zero, suc, ◌+◌, ◌-◌, get_or, set, replicate}
use Rattle.optimum.specs.Tree.{wire, series, parallel, Tree, St, zeros, longest}
use Rattle.optimum.specs.Head.{Head, item, turn}
use Rattle.optimum.specs.Handout.{head}

-- the increases of the gates of a part
abbrev pub read : (t : Tree) → List ℕ → St t
read (wire d) x = tt
read (series P m Q) x = (read P x, get_or x m 0, read Q x)
read (parallel P Q) x = (read P x, read Q x)

-- w more ticks for gate g
abbrev pub add : List ℕ → ℕ → ℕ → List ℕ
add x g w = set x g (get_or x g 0 + w)

-- `give` on the list
abbrev pub give_list : (ℕ → ℕ → Head) → Tree → ℕ → List ℕ → List ℕ
give_list h (wire l) w x = x
give_list h (series P m Q) w x =
    item (turn (head h P (read P x)) (h m (get_or x m 0)) (head h Q (read Q x))) (give_list h P w x) (add x m w) (give_list h Q w x)
give_list h (parallel P Q) w x = give_list h Q w (give_list h P w x)

-- `ticks` on the list
abbrev pub ticks_list : (ℕ → ℕ → Head) → Tree → ℕ → List ℕ → List ℕ
ticks_list h t zero x = x
ticks_list h t (suc k) x = ticks_list h t k (give_list h t 1 x)

-- `raise` on the list, which has no increase at the part's gates
abbrev pub raise_list : (ℕ → ℕ) → (ℕ → ℕ → Head) → Tree → List ℕ → List ℕ
raise_list d h (wire w) x = x
raise_list d h (series P m Q) x = raise_list d h Q (raise_list d h P x)
raise_list d h (parallel P Q) x =
    ticks_list h Q (longest d P (zeros P) - longest d Q (zeros Q)) (ticks_list h P (longest d Q (zeros Q) - longest d P (zeros P))
    (raise_list d h Q (raise_list d h P x)))

-- the list of n increases after k ticks from the raised start
abbrev pub sized : (ℕ → ℕ) → (ℕ → ℕ → Head) → Tree → ℕ → ℕ → List ℕ
sized d h t n k = ticks_list h t k (raise_list d h t (replicate n 0))
