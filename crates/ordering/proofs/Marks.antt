-- Marks that are set one after another.
-- Assumes nothing.
use Rattle.std.proofs.Common.{Option, Some, None, MatchOption}
use mathlib.Core.Path.{◌≡◌, sym, ◌∙◌, ap}
use mathlib.Core.Logic.{◌≢◌, ◌⊎◌, inl, inr}
use mathlib.Core.List.{List}
use Prim.Native.Nat.{ℕ, ◌+◌, ◌<◌, ◌≤◌}
use native.Mathlib.Nat.{eq-or-lt_of_le}
use native.Mathlib.Omega.{arith}
use native.Mathlib.Decide.{ℕ_discrete}
use lib.ListN.{length, get_or, set}
use lib.Seq.{get_or-set_same, get_or-set_other}
use Rattle.lists.specs.Search.{LowestBelow}
use Rattle.ordering.specs.Marks.{Marks, Among, First}

-- where Q is P and x, the mark of x is set
module _ (P Q : ℕ → Type 0) (n : ℕ) (marks : List ℕ) (x : ℕ) (long : x < length marks) (more : (g : ℕ) → P g → Q g) (here : Q x) (only : (g : ℕ) → Q g → (g ≡ x) ⊎ P g) (M : Marks P n marks) where
  right⁺ : (g : ℕ) → g < n → Dec (g ≡ x) → get_or (set marks x 1) g 0 ≢ 0 → Q g
  right⁺ g h (yes e) d = rw e here
  right⁺ g h (no u) d = more g (M.right g h (λ z. d (get_or-set_other marks x g 1 0 u ∙ z)))

  set_here : (g : ℕ) → g ≡ x → get_or (set marks x 1) g 0 ≡ 1
  set_here g e = ap (λ (i : ℕ). get_or (set marks x 1) i 0) e ∙ get_or-set_same marks x 1 0 long

  whole⁺ : (g : ℕ) → g < n → Dec (g ≡ x) → (g ≡ x) ⊎ P g → get_or (set marks x 1) g 0 ≢ 0
  whole⁺ g h (yes e) q z = let s = set_here g e in omega arith
  whole⁺ g h (no u) (inl e) z = absurd (u e)
  whole⁺ g h (no u) (inr p) z = M.whole g h p (sym (get_or-set_other marks x g 1 0 u) ∙ z)

  pub marks_more : Marks Q n (set marks x 1)
  marks_more =
      record {
        right = λ g h. right⁺ g h (ℕ_discrete g x);
        whole = λ g h q. whole⁺ g h (ℕ_discrete g x) (only g q);
      }

module _ (keys : List ℕ) (i : ℕ) where
  among_more : (g : ℕ) → Among keys i g → Among keys (i + 1) g
  among_more g w = let l = w.below in record { place = w.place; below = omega arith; key = w.key }

  among_last : (g : ℕ) → Among keys (i + 1) g → (g ≡ get_or keys i 0) ⊎ Among keys i g
  among_last g w = go (eq-or-lt_of_le (let l = w.below in omega arith))
    where
      go : (w.place ≡ i) ⊎ (w.place < i) → (g ≡ get_or keys i 0) ⊎ Among keys i g
      go (inl e) = inl (sym w.key ∙ ap (λ (j : ℕ). get_or keys j 0) e)
      go (inr l) = inr (record { place = w.place; below = l; key = w.key })

  -- the mark of the next key is set
  pub among_marked : (n : ℕ) (marks : List ℕ) (x : ℕ) → x ≡ get_or keys i 0 → x < length marks → Marks (Among keys i) n marks → Marks (Among keys (i + 1)) n (set marks x 1)
  among_marked n marks x e long M =
      marks_more (Among keys i) (Among keys (i + 1)) n marks x long among_more
      (record { place = i; below = omega arith; key = sym e })
      (λ g w. rw e (among_last g w)) M

-- The lowest number below n at which P holds is the lowest for Q where the two agree below n.
pub lowest_same : (P Q : ℕ → Type 0) (n : ℕ) → ((g : ℕ) → g < n → P g → Q g) → ((g : ℕ) → g < n → Q g → P g)
    → (r : Option ℕ) → LowestBelow P n r → LowestBelow Q n r
lowest_same P Q n to from (Some r) (h, l) = (h, record { holds = to r h l.holds; none_below = λ q b x. l.none_below q b (from q (omega arith) x) })
lowest_same P Q n to from None none = λ q h x. none q h (from q h x)

-- What a search through the numbers below n finds is the lowest at which P holds.
pub lowest_searched : (P : ℕ → Type 0) (n : ℕ) (r : Option ℕ)
    → MatchOption r ((k : ℕ) → 0 ≤ k → k < n → ¬ (P k)) (λ i. (0 ≤ i) × (i < n) × P i × ((k : ℕ) → 0 ≤ k → k < i → ¬ (P k)))
    → LowestBelow P n r
lowest_searched P n (Some r) f = (f.1, record { holds = f.2; none_below = λ q b. f.3 q (omega arith) b })
lowest_searched P n None f = λ q h. f q (omega arith) h

-- A search for P is one for Q where the two agree below n.
pub first_same : (P Q : ℕ → Type 0) (n : ℕ) → ((g : ℕ) → g < n → P g → Q g) → ((g : ℕ) → g < n → Q g → P g) → (r : ℕ) → First P n r → First Q n r
first_same P Q n to from r F =
    record {
      within = F.within;
      found = λ h. to r h (F.found h);
      none_below = λ q h x. let w = F.within in F.none_below q h (from q (omega arith) x);
    }

-- The search has passed every number below n.
pub first_none : (P : ℕ → Type 0) (n r : ℕ) → r ≡ n → ((q : ℕ) → q < r → ¬ (P q)) → First P n r
first_none P n r e none = record { within = omega arith; found = λ h. absurd (omega arith); none_below = none }

-- It has found one.
pub first_found : (P : ℕ → Type 0) (n r : ℕ) → r < n → ((q : ℕ) → q < r → ¬ (P q)) → P r → First P n r
first_found P n r h none p = record { within = omega arith; found = λ l. p; none_below = none }
