-- What the searches of the computing reduction find (`find_finds`, `sole_finds`). Assumes nothing.
use mathlib.Core.Path.{◌≡◌, refl, sym, ◌∙◌, ap}
use mathlib.Core.Logic.{◌⊎◌, inl, inr, ◌↔◌, ⊎_elim}
use mathlib.Core.Bool.{Bool, true, false, ◌&&◌, ◌||◌, not, false≢true}
use mathlib.Core.Option.{Option, none, some}
use Prim.Native.Nat.{ℕ, zero, suc, ◌<◌}
use native.Mathlib.Decide.{ℕ_discrete}
use native.Mathlib.Omega.{arith}
use borrow.Author.Tests.{eqb-false, not-true, ne_eqb}
use lib.Dec.{eqb}
use Rattle.parts.specs.Reduce.{found, find, alone_of, sole}

pub and_iff : (a b : Bool) → ((a && b) ≡ true) ↔ ((a ≡ true) × (b ≡ true))
and_iff true b = (λ h. (refl, h), λ h. h.1)
and_iff false b = (λ h. absurd (false≢true h), λ h. h.0)

pub or_iff : (a b : Bool) → ((a || b) ≡ true) ↔ ((a ≡ true) ⊎ (b ≡ true))
or_iff true b = (λ h. inl refl, λ h. refl)
or_iff false b = (inr, ⊎_elim (λ h. absurd (false≢true h)) (λ h. h))

-- the answer of a search below k
abbrev pub Finds : (ℕ → Bool) → ℕ → Option ℕ → Type 0
Finds p k none = (j : ℕ) → j < k → p j ≡ true → ⊥
Finds p k (some i) = (i < k) × (p i ≡ true)

pub find_finds : (p : ℕ → Bool) (k : ℕ) → Finds p k (find p k)
unfolding find
find_finds p zero = λ j h. absurd (omega arith)
find_finds p (suc k) = go (p k) refl (find p k) (find_finds p k)
  where
    go : (b : Bool) → p k ≡ b → (r : Option ℕ) → Finds p k r → Finds p (suc k) (found b k r)
    go true e r h = (omega arith, e)
    go false e none h = λ j l t. by (ℕ_discrete j k) h l t
      where
        by : {j : ℕ} → Dec (j ≡ k) → Finds p k none → j < suc k → p j ≡ true → ⊥
        by (yes f) h l t = false≢true (sym e ∙ ap p (sym f) ∙ t)
        by {j} (no n) h l t = h j (omega arith) t
    go false e (some i) h = (omega arith, h.1)

-- the answer of a search for the only one below k
abbrev pub FindsSole : (ℕ → Bool) → ℕ → Option ℕ → Type 0
FindsSole p k none = (i : ℕ) → i < k → p i ≡ true → ((j : ℕ) → j < k → p j ≡ true → j ≡ i) → ⊥
FindsSole p k (some i) = (i < k) × (p i ≡ true) × ((j : ℕ) → j < k → p j ≡ true → j ≡ i)

pub sole_finds : (p : ℕ → Bool) (k : ℕ) → FindsSole p k (sole p k)
unfolding sole
sole_finds p k = go (find p k) (find_finds p k)
  where
    other : (i : ℕ) → ℕ → Bool
    other i j = p j && not (eqb j i)

    same : (i j : ℕ) → Dec (j ≡ i) → j < k → p j ≡ true → Finds (other i) k none → j ≡ i
    same i j (yes e) l t f = e
    same i j (no n) l t f = absurd (f j l ((and_iff (p j) (not (eqb j i))).1 (t, ap not (ne_eqb j i n))))

    among : (i : ℕ) → (i < k) × (p i ≡ true) → (o : Option ℕ) → Finds (other i) k o → FindsSole p k (elim o [ none ↦ some i | some j ↦ none ])
    among i h none f = (h.0, h.1, λ j l t. same i j (ℕ_discrete j i) l t f)
    among i h (some j) f =
        λ n l t only.
        let (pj, ne) = (and_iff (p j) (not (eqb j i))).0 f.1 in
        eqb-false j i (not-true (eqb j i) ne) (only j f.0 pj ∙ sym (only i h.0 h.1))

    go : (r : Option ℕ) → Finds p k r → FindsSole p k (alone_of (λ i. find (other i) k) r)
    go none h = λ i l t only. h i l t
    go (some i) h = among i h (find (other i) k) (find_finds (other i) k)
