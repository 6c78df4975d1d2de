-- Laws of `every` and `some`: a list that grows at its end, and the tests element by element, for code that goes by index.
-- Assumes nothing.
use mathlib.Core.Path.{◌≡◌, refl, ◌∙◌, ap}
use mathlib.Core.List.{List, [], ◌∷◌, ◌++◌, map, reverse, reverse-cons}
use mathlib.Core.Bool.{Bool, true, false, ◌&&◌, ◌||◌}
use Prim.Native.Nat.{ℕ, zero, suc, ◌<◌}
use native.Mathlib.Nat.{not-suc-le-zero, le_of_suc-le-suc}
use native.Mathlib.Omega.{arith}
use lib.Dec.{T}
use lib.ListN.{length, get_or}
use Rattle.lists.proofs.Bool.{and_left, and_right, and_both}
use Rattle.lists.specs.Over.{build}
use Rattle.model.specs.File.{every, some}

pub and_assoc : (a b c : Bool) → a && (b && c) ≡ (a && b) && c
and_assoc true b c = refl
and_assoc false b c = refl

pub and_true : (a : Bool) → a && true ≡ a
and_true true = refl
and_true false = refl

pub and_false : (a : Bool) → a && false ≡ false
and_false true = refl
and_false false = refl

or_assoc : (a b c : Bool) → a || (b || c) ≡ (a || b) || c
or_assoc true b c = refl
or_assoc false b c = refl

or_comm : (a b : Bool) → a || b ≡ b || a
or_comm true true = refl
or_comm true false = refl
or_comm false true = refl
or_comm false false = refl

or_false : (a : Bool) → a || false ≡ a
or_false true = refl
or_false false = refl

or_true : (a : Bool) → a || true ≡ true
or_true true = refl
or_true false = refl

module _ {A : Type 0} (test : A → Bool) where
  pub every_append : (xs ys : List A) → every test (xs ++ ys) ≡ every test xs && every test ys
  unfolding every
  every_append [] ys = refl
  every_append (x ∷ xs) ys = ap (◌&&◌ (test x)) (every_append xs ys) ∙ and_assoc (test x) (every test xs) (every test ys)

  pub every_snoc : (xs : List A) (x : A) → every test (xs ++ (x ∷ [])) ≡ every test xs && test x
  unfolding every
  every_snoc xs x = every_append xs (x ∷ []) ∙ ap (◌&&◌ (every test xs)) (and_true (test x))

  -- one more element of a `build`
  pub every_more : (n : ℕ) (f : ℕ → A) → every test (build (suc n) f) ≡ every test (build n f) && test (f n)
  unfolding build
  every_more n f = every_snoc (build n f) (f n)

  -- every element passes ..
  pub every_passes : (n : ℕ) (f : ℕ → A) → ((i : ℕ) → i < n → test (f i) ≡ true) → every test (build n f) ≡ true
  unfolding every build
  every_passes zero f p = refl
  every_passes (suc n) f p = every_more n f ∙ rw (every_passes n f (λ (i : ℕ) (h : i < n). p i (omega arith)), p n (omega arith))

  -- .. or one fails
  pub every_fails : (xs : List A) (i : ℕ) (d : A) → i < length xs → test (get_or xs i d) ≡ false → every test xs ≡ false
  unfolding every
  every_fails [] i d h e = absurd (not-suc-le-zero h)
  every_fails (x ∷ xs) zero d h e = rw e
  every_fails (x ∷ xs) (suc i) d h e = rw (every_fails xs i d (le_of_suc-le-suc h) e) (and_false (test x))

  -- what every element passes, each passes ..
  pub every_at : (xs : List A) (i : ℕ) (d : A) → T (every test xs) → i < length xs → T (test (get_or xs i d))
  unfolding every
  every_at [] i d t h = absurd (not-suc-le-zero h)
  every_at (x ∷ xs) zero d t h = and_left (test x) (every test xs) t
  every_at (x ∷ xs) (suc i) d t h = every_at xs i d (and_right (test x) (every test xs) t) (le_of_suc-le-suc h)

  -- .. and so does what stands for a place beyond the end, if it passes
  pub every_anywhere : (xs : List A) (i : ℕ) (d : A) → T (every test xs) → T (test d) → T (test (get_or xs i d))
  unfolding every
  every_anywhere [] i d t u = u
  every_anywhere (x ∷ xs) zero d t u = and_left (test x) (every test xs) t
  every_anywhere (x ∷ xs) (suc i) d t u = every_anywhere xs i d (and_right (test x) (every test xs) t) u

  -- so it is seen through f
  pub every_map : {B : Type 0} (f : B → A) (xs : List B) → every test (map f xs) ≡ every (λ (x : B). test (f x)) xs
  unfolding every
  every_map f [] = refl
  every_map f (x ∷ xs) = ap (◌&&◌ (test (f x))) (every_map f xs)

  -- a weaker test passes, too
  pub every_weaker : (weaker : A → Bool) → ((x : A) → T (test x) → T (weaker x)) → (xs : List A) → T (every test xs) → T (every weaker xs)
  unfolding every
  every_weaker weaker w [] t = tt
  every_weaker weaker w (x ∷ xs) t =
      and_both (weaker x) (every weaker xs) (w x (and_left (test x) (every test xs) t)) (every_weaker weaker w xs (and_right (test x) (every test xs) t))

  pub some_append : (xs ys : List A) → some test (xs ++ ys) ≡ some test xs || some test ys
  unfolding some
  some_append [] ys = refl
  some_append (x ∷ xs) ys = ap (◌||◌ (test x)) (some_append xs ys) ∙ or_assoc (test x) (some test xs) (some test ys)

  pub some_reverse : (xs : List A) → some test (reverse xs) ≡ some test xs
  unfolding some
  some_reverse [] = refl
  some_reverse (x ∷ xs) =
      ap (some test) (reverse-cons x xs)
      ∙ some_append (reverse xs) (x ∷ [])
      ∙ rw (some_reverse xs, or_false (test x)) (or_comm (some test xs) (test x))

  -- one element passes ..
  pub some_passes : (xs : List A) (i : ℕ) (d : A) → i < length xs → test (get_or xs i d) ≡ true → some test xs ≡ true
  unfolding some
  some_passes [] i d h e = absurd (not-suc-le-zero h)
  some_passes (x ∷ xs) zero d h e = rw e
  some_passes (x ∷ xs) (suc i) d h e = rw (some_passes xs i d (le_of_suc-le-suc h) e) (or_true (test x))

  -- .. or every element fails
  pub some_fails : (xs : List A) (d : A) → ((i : ℕ) → i < length xs → test (get_or xs i d) ≡ false) → some test xs ≡ false
  unfolding some
  some_fails [] d p = refl
  some_fails (x ∷ xs) d p = rw (p 0 (omega arith)) (some_fails xs d (λ (i : ℕ) (h : i < length xs). p (suc i) (omega arith)))
