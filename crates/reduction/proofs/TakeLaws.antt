-- The array changes of a taking, put together from those of its parts. Assumes nothing.
use mathlib.Core.Path.{◌≡◌, ◌∙◌}
use Rattle.std.specs.Prelude.{Some, None}
use mathlib.Core.List.{List}
use Prim.Native.Nat.{ℕ, ◌+◌}
use native.Mathlib.Omega.{arith}
use lib.ListN.{get_or, set}
use Rattle.slots.specs.Sought.{Found, Leads}
use Rattle.reduction.specs.Arrays.{arrays, joined, taken_up, Went, by_joining, by_taking_up}

pub went_joined :
    {k c m i j r : ℕ} {lives froms tos tops kinds lefts gates rights lives' tos' tops' kinds' lefts' gates' rights' : List ℕ}
    → Found (Leads lives froms tos (get_or froms i 0) (get_or tos j 0)) k None
    → r ≡ c + 1
    → lives' ≡ set lives j 0
    → tos' ≡ set tos i (get_or tos j 0)
    → tops' ≡ set tops i c
    → kinds' ≡ set kinds c 1
    → lefts' ≡ set lefts c (get_or tops i 0)
    → gates' ≡ set gates c m
    → rights' ≡ set rights c (get_or tops j 0)
    → Went k c m i j (arrays lives froms tos tops kinds lefts gates rights) (arrays lives' froms tos' tops' kinds' lefts' gates' rights') r
unfolding joined
went_joined {froms = froms} s e a b d f g h n =
    by_joining s
    (λ z. arrays (a z) froms (b z) (d z) (f z) (g z) (h z) (n z)) e

pub went_taken_up :
    {k c m i j l d r : ℕ} {lives froms tos tops kinds lefts gates rights lives' tos' tops' kinds₁ lefts₁ gates₁ rights₁ kinds' lefts' gates' rights' : List ℕ}
    → Found (Leads lives froms tos (get_or froms i 0) (get_or tos j 0)) k (Some l)
    → d ≡ c + 1
    → r ≡ d + 1
    → lives' ≡ set (set lives i 0) j 0
    → tos' ≡ tos
    → tops' ≡ set tops l (c + 1)
    → kinds₁ ≡ set kinds c 1
    → lefts₁ ≡ set lefts c (get_or tops i 0)
    → gates₁ ≡ set gates c m
    → rights₁ ≡ set rights c (get_or tops j 0)
    → kinds' ≡ set kinds₁ d 2
    → lefts' ≡ set lefts₁ d (get_or tops l 0)
    → gates' ≡ set gates₁ d 0
    → rights' ≡ set rights₁ d c
    → Went k c m i j (arrays lives froms tos tops kinds lefts gates rights) (arrays lives' froms tos' tops' kinds' lefts' gates' rights') r
unfolding taken_up
went_taken_up {c = c} {l = l} {froms = froms} {tos = tos} {tops = tops} (inside, leads) e o a b d f g h n f' g' h' n' =
    by_taking_up l inside leads
    (λ z. arrays (a z) froms (b z) (d z)
    ((f' ∙ (λ y. set (f y) (e y) 2)) z)
    ((g' ∙ (λ y. set (g y) (e y) (get_or tops l 0))) z)
    ((h' ∙ (λ y. set (h y) (e y) 0)) z)
    ((n' ∙ (λ y. set (n y) (e y) c)) z))
    (omega arith)
