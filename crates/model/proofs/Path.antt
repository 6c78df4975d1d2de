-- With wire delays 0 a path lasts the sum of its gates' delays (document 01: "a path .. lasts the sum of its gates' delays"), and a path of gates is a path in time.
-- Assumes nothing.
use mathlib.Core.Path.{◌≡◌, sym}
use mathlib.Core.List.{List, [], ◌∷◌}
use Prim.Native.Nat.{ℕ, ◌+◌}
use native.Mathlib.Nat.{add-zero}
use native.Mathlib.Omega.{arith}
use Rattle.lists.specs.Sum.{total}
use Rattle.model.specs.Block.{Wire, Stands, Joined}
use Rattle.model.specs.Path.{Path, stay, go}

-- the gates that a path from a to b passes, both ends included
pub data Passes (ws : List Wire) : ℕ → ℕ → List ℕ → Type 0 where
  here : {a : ℕ} → Passes ws a a (a ∷ [])
  along : {a b c : ℕ} {gs : List ℕ} → Joined ws a c → Passes ws c b gs → Passes ws a b (a ∷ gs)

-- no wire takes time
abbrev pub Undelayed : List Wire → Type 0
Undelayed ws = (a b w : ℕ) → Stands ws a b w → w ≡ 0

-- a path that passes the gates and lasts the sum of their delays
abbrev pub ByGates : List Wire → (ℕ → ℕ) → ℕ → ℕ → ℕ → Type 0
ByGates ws d a b t = (gs : List ℕ) × Passes ws a b gs × (t ≡ total d gs)

further : {ws : List Wire} (d : ℕ → ℕ) {a b c w t : ℕ} → w ≡ 0 → Stands ws a c w → ByGates ws d c b t → ByGates ws d a b (d a + w + t)
unfolding total
further d {a = a} {w = w} none on r = let e = r.2 in (a ∷ r.0, along (w, on) r.1, omega arith)

pub lasts_its_gates : {ws : List Wire} {d : ℕ → ℕ} {a b t : ℕ} → Undelayed ws → Path ws d a b t → ByGates ws d a b t
unfolding total
lasts_its_gates {d = d} {a = a} none stay = (a ∷ [], here, sym (add-zero (d a)))
lasts_its_gates {d = d} none (go {a = a} {c = c} {w = w} on rest) = further d (none a c w on) on (lasts_its_gates none rest)

pub gates_make_a_path : {ws : List Wire} (d : ℕ → ℕ) {a b : ℕ} {gs : List ℕ} → Undelayed ws → Passes ws a b gs → Path ws d a b (total d gs)
unfolding total
gates_make_a_path d none (here {a = a}) = rw (add-zero (d a)) stay
gates_make_a_path {ws} d none (along {a = a} {b = b} {c = c} {gs = gs} on rest) =
    let e : d a + on.0 + total d gs ≡ d a + total d gs = omega (arith, none a c on.0 on.1) in
    rw e at (go on.1 (gates_make_a_path d none rest))
