-- The steps of a gate's body element by element, for code that reads them by index, and falling drops one step at a time.
-- Assumes nothing.
use mathlib.Core.Path.{◌≡◌, refl, sym, ◌∙◌, ap}
use mathlib.Core.List.{List, [], ◌∷◌, ◌++◌}
use mathlib.Core.Bool.{Bool, true, false, ◌&&◌}
use Prim.Native.Nat.{ℕ, zero, suc, ◌+◌, ◌*◌, ◌<◌, ◌≤◌}
use mathlib.Core.Logic.{⊎_elim}
use native.Mathlib.Nat.{not-suc-le-zero, le_of_suc-le-suc, eq-or-lt_of_le}
use borrow.Author.Tests.{lt-ltb, le-ltb}
use native.Mathlib.Omega.{arith}
use lib.Dec.{ltb}
use lib.ListN.{length}
use lib.Seq.{append_snoc}
use Rattle.lists.specs.Over.{build}
use Rattle.lists.proofs.Over.{build_same}
use Rattle.model.proofs.Every.{and_true, and_assoc, and_false}
use Rattle.model.specs.Block.{Step}
use Rattle.model.specs.Field.{number}
use Rattle.model.specs.File.{steps_in, falls, falls_below}

-- a `build` from its front
build_front : {A : Type 0} (n : ℕ) (f : ℕ → A) → build (suc n) f ≡ f 0 ∷ build n (λ (i : ℕ). f (suc i))
unfolding build
build_front zero f = refl
build_front (suc n) f = rw (build_front n f)

-- step i of the steps written from the front of b on
abbrev pub step_at : List ℕ → ℕ → Step
step_at b i = record { width = number b (4 * i); drop = number b (4 * i + 2) }

step_at_next : (a b c d : ℕ) (rest : List ℕ) (i : ℕ) → step_at (a ∷ b ∷ c ∷ d ∷ rest) (suc i) ≡ step_at rest i
step_at_next a b c d rest i =
    let p : 4 * suc i + 2 + 1 ≡ suc (suc (suc (suc (4 * i + 2 + 1)))) = omega arith in
    let q : 4 * suc i + 2 ≡ suc (suc (suc (suc (4 * i + 2)))) = omega arith in
    let r : 4 * suc i + 1 ≡ suc (suc (suc (suc (4 * i + 1)))) = omega arith in
    let t : 4 * suc i ≡ suc (suc (suc (suc (4 * i)))) = omega arith in
    rw (p, q, r, t)

-- k steps are those at 0 to k − 1
pub steps_by_index : (b : List ℕ) (k : ℕ) → length b ≡ 4 * k → steps_in b ≡ build k (step_at b)
unfolding steps_in build
steps_by_index [] zero e = refl
steps_by_index [] (suc k) e = absurd (omega arith)
steps_by_index (a ∷ []) k e = absurd (omega arith)
steps_by_index (a ∷ b ∷ []) k e = absurd (omega arith)
steps_by_index (a ∷ b ∷ c ∷ []) k e = absurd (omega arith)
steps_by_index (a ∷ b ∷ c ∷ d ∷ rest) zero e = absurd (omega arith)
steps_by_index (a ∷ b ∷ c ∷ d ∷ rest) (suc k) e =
    ap (◌∷◌ (step_at (a ∷ b ∷ c ∷ d ∷ rest) 0))
    (steps_by_index rest k (omega arith)
    ∙ build_same k (step_at rest) (λ (i : ℕ). step_at (a ∷ b ∷ c ∷ d ∷ rest) (suc i)) (λ (i : ℕ) (h : i < k). sym (step_at_next a b c d rest i)))
    ∙ sym (build_front k (step_at (a ∷ b ∷ c ∷ d ∷ rest)))

and_regroup : (a b : Bool) → a && (b && true) ≡ (a && true) && b
and_regroup true true = refl
and_regroup true false = refl
and_regroup false b = refl

falls_below_snoc : (bound : ℕ) (xs : List Step) (x y : Step) → falls_below bound (xs ++ (x ∷ y ∷ [])) ≡ falls_below bound (xs ++ (x ∷ [])) && ltb y.drop x.drop
unfolding falls_below
falls_below_snoc bound [] x y = and_regroup (ltb x.drop bound) (ltb y.drop x.drop)
falls_below_snoc bound (s ∷ ss) x y =
    ap (◌&&◌ (ltb s.drop bound)) (falls_below_snoc s.drop ss x y)
    ∙ and_assoc (ltb s.drop bound) (falls_below s.drop (ss ++ (x ∷ []))) (ltb y.drop x.drop)

falls_snoc : (xs : List Step) (x y : Step) → falls (xs ++ (x ∷ y ∷ [])) ≡ falls (xs ++ (x ∷ [])) && ltb y.drop x.drop
unfolding falls falls_below
falls_snoc [] x y = and_true (ltb y.drop x.drop)
falls_snoc (s ∷ ss) x y = falls_below_snoc s.drop ss x y

-- no step and one step fall ..
pub falls_none : (f : ℕ → Step) → falls (build 0 f) ≡ true
unfolding falls build
falls_none f = refl

pub falls_one : (f : ℕ → Step) → falls (build 1 f) ≡ true
unfolding falls build falls_below
falls_one f = refl

-- .. and one more step falls if it is below the one before
pub falls_more : (n : ℕ) (f : ℕ → Step) → falls (build (suc (suc n)) f) ≡ falls (build (suc n) f) && ltb (f (suc n)).drop (f n).drop
unfolding build
falls_more n f = rw (append_snoc (build n f) (f n) (f (suc n) ∷ [])) (falls_snoc (build n f) (f n) (f (suc n)))

-- every step is below the one before ..
pub falls_passes : (n : ℕ) (f : ℕ → Step) → ((i : ℕ) → suc i < n → (f (suc i)).drop < (f i).drop) → falls (build n f) ≡ true
falls_passes zero f p = falls_none f
falls_passes (suc zero) f p = falls_one f
falls_passes (suc (suc n)) f p =
    falls_more n f
    ∙ rw (falls_passes (suc n) f (λ (i : ℕ) (h : suc i < suc n). p i (omega arith)), lt-ltb (f (suc n)).drop (f n).drop (p n (omega arith)))

-- .. or one is not
pub falls_fails : (n : ℕ) (f : ℕ → Step) (i : ℕ) → suc i < n → (f i).drop ≤ (f (suc i)).drop → falls (build n f) ≡ false
falls_fails zero f i h l = absurd (not-suc-le-zero h)
falls_fails (suc zero) f i h l = absurd (omega arith)
falls_fails (suc (suc n)) f i h l =
    falls_more n f
    ∙ ⊎_elim
    (λ (e : i ≡ n).
    rw (← e, le-ltb (f (suc i)).drop (f i).drop l) (and_false (falls (build (suc i) f))))
    (λ (k : i < n). rw (falls_fails (suc n) f i (omega arith) l))
    (eq-or-lt_of_le (le_of_suc-le-suc (le_of_suc-le-suc h)))
