-- An element of a list has a place there.
-- Assumes nothing.
use mathlib.Core.Path.{◌≡◌, sym}
use mathlib.Core.Logic.{◌⊎◌, inl, inr}
use mathlib.Core.List.Memᴰ
use mathlib.Core.List.{List, [], ◌∷◌, Memᴰ}
use Prim.Native.Nat.{ℕ, suc, ◌<◌}
use native.Mathlib.Omega.{arith}
use lib.ListN.{length, get_or}

pub placed : {A : Type 0} {x : A} (xs : List A) (d : A) → Memᴰ x xs → (i : ℕ) × (i < length xs) × (get_or xs i d ≡ x)
placed [] d m = absurd (Memᴰ.not-nil m)
placed {A} {x} (y ∷ ys) d m = by (Memᴰ.cases_cons m) (placed ys d)
  where
    by : (x ≡ y) ⊎ Memᴰ x ys
        → (Memᴰ x ys → (i : ℕ) × (i < length ys) × (get_or ys i d ≡ x))
        → (i : ℕ) × (i < suc (length ys)) × (get_or (y ∷ ys) i d ≡ x)
    by (inl e) rest = (0, omega arith, sym e)
    by (inr n) rest = let r = rest n in let l = r.1 in (suc r.0, omega arith, r.2)
