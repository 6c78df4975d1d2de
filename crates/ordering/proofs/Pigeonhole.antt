-- Numbers below m that f sends below n, and that g sends back, are at most n. By induction on n: the number that f sends to the last place is sent where f sends the last number.
-- Assumes nothing.
use mathlib.Core.Path.{◌≡◌, refl, sym, ◌∙◌, ap}
use mathlib.Core.Logic.{◌≢◌}
use Prim.Native.Nat.{ℕ, zero, suc, ◌≤◌, ◌<◌}
use native.Mathlib.Nat.{not-suc-le-zero}
use native.Mathlib.Omega.{arith}
use native.Mathlib.Decide.{ℕ_discrete}

-- f sends the numbers below m below n, and g sends them back.
pub record Sent (m n : ℕ) (f g : ℕ → ℕ) : Type 0 where
  pub below : (i : ℕ) → i < m → f i < n
  pub back : (i : ℕ) → i < m → g (f i) ≡ i

-- x where the numbers are equal, else y
abbrev pick : {a b : ℕ} → Dec (a ≡ b) → ℕ → ℕ → ℕ
pick (yes e) x y = x
pick (no d) x y = y

pick_equal : {a b : ℕ} (d : Dec (a ≡ b)) (x y : ℕ) → a ≡ b → pick d x y ≡ x
pick_equal (yes e) x y h = refl
pick_equal (no d) x y h = absurd (d h)

pick_other : {a b : ℕ} (d : Dec (a ≡ b)) (x y : ℕ) → a ≢ b → pick d x y ≡ y
pick_other (yes e) x y h = absurd (h e)
pick_other (no d) x y h = refl

module _ (m n : ℕ) (f g : ℕ → ℕ) (s : Sent (suc m) (suc n) f g) where
  abbrev f' : ℕ → ℕ
  f' i = pick (ℕ_discrete (f i) n) (f m) (f i)

  abbrev g' : ℕ → ℕ
  g' j = pick (ℕ_discrete j (f m)) (g n) (g j)

  -- different numbers are sent to different numbers
  apart : (i : ℕ) → i < m → f i ≢ f m
  apart i h e =
      let a = s.back i (omega arith) in
      let b = s.back m (omega arith) in
      let same : i ≡ m = sym a ∙ ap g e ∙ b in
      omega arith

  below' : (i : ℕ) → i < m → (d : Dec (f i ≡ n)) → pick d (f m) (f i) < n
  below' i h (yes e) =
      let a = s.below m (omega arith) in
      let b : f m ≢ n = λ x. apart i h (e ∙ sym x) in
      omega arith
  below' i h (no d) = let a = s.below i (omega arith) in omega arith

  back' : (i : ℕ) → i < m → (d : Dec (f i ≡ n)) → g' (pick d (f m) (f i)) ≡ i
  back' i h (yes e) = pick_equal (ℕ_discrete (f m) (f m)) (g n) (g (f m)) refl ∙ ap g (sym e) ∙ s.back i (omega arith)
  back' i h (no d) = pick_other (ℕ_discrete (f i) (f m)) (g n) (g (f i)) (apart i h) ∙ s.back i (omega arith)

  fewer : Sent m n f' g'
  fewer =
      record {
        below = λ i h. below' i h (ℕ_discrete (f i) n);
        back = λ i h. back' i h (ℕ_discrete (f i) n);
      }

pub pigeonhole : (m n : ℕ) (f g : ℕ → ℕ) → Sent m n f g → m ≤ n
pigeonhole zero n f g s = omega arith
pigeonhole (suc m) zero f g s = absurd (not-suc-le-zero (s.below m (omega arith)))
pigeonhole (suc m) (suc n) f g s = let h = pigeonhole m n (f' m n f g s) (g' m n f g s) (fewer m n f g s) in omega arith

module _ (m n : ℕ) (f g : ℕ → ℕ) (s : Sent m n f g) (x : ℕ) (inside : x < n) (free : (i : ℕ) → i < m → f i ≢ x) where
  abbrev f⁺ : ℕ → ℕ
  f⁺ i = pick (ℕ_discrete i m) x (f i)

  abbrev g⁺ : ℕ → ℕ
  g⁺ j = pick (ℕ_discrete j x) m (g j)

  below⁺ : (i : ℕ) → i < suc m → (d : Dec (i ≡ m)) → pick d x (f i) < n
  below⁺ i h (yes e) = inside
  below⁺ i h (no d) = s.below i (omega arith)

  back⁺ : (i : ℕ) → i < suc m → (d : Dec (i ≡ m)) → g⁺ (pick d x (f i)) ≡ i
  back⁺ i h (yes e) = pick_equal (ℕ_discrete x x) m (g x) refl ∙ sym e
  back⁺ i h (no d) =
      let l : i < m = omega arith in
      pick_other (ℕ_discrete (f i) x) m (g (f i)) (free i l) ∙ s.back i l

  -- where nothing is sent to some number below n, there is room for one more
  pub room_left : m < n
  room_left =
      pigeonhole (suc m) n f⁺ g⁺
      (record {
        below = λ i h. below⁺ i h (ℕ_discrete i m);
        back = λ i h. back⁺ i h (ℕ_discrete i m);
      })
