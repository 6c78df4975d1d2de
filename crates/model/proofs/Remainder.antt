-- Laws of the reduction's counted wires: which wires stand after a move (`gone`, `kept`, `fewer`, `wires_stay`), that at first the wires of the block stand (`counted`), and between which gates one that remains stands (`remains_inside`).
-- Assumes nothing.
use mathlib.Core.Path.{◌≡◌, refl, sym, ap, subst₂}
use mathlib.Core.Logic.{◌≢◌, ◌⊎◌, inl, inr, ◌↔◌}
use mathlib.Core.Bool.{Bool, true, false, cond, ◌||◌}
use mathlib.Core.List.Memᴰ
use mathlib.Core.List.{List, [], ◌∷◌, Memᴰ}
use Prim.Native.Nat.{ℕ, ◌+◌, ◌-◌, ◌≤◌, ◌<◌}
use native.Mathlib.Decide.{ℕ_discrete}
use native.Mathlib.Omega.{arith}
use lib.Dec.{eqb}
use borrow.Author.Tests.{eq-eqb, ne_eqb}
use Rattle.lists.specs.Sum.{total}
use Rattle.model.specs.Block.{Wire, Block, first, last, Stands, Joined}
use Rattle.model.specs.Remainder.{one_at, wires_between, Moment, without, one_fewer, Move, take, merge, Remains}

-- Where the one more, or the one fewer, is.
pub at_pair : (a b x y : ℕ) → x ≡ a → y ≡ b → one_at a b x y ≡ 1
at_pair a b x y e f = rw (eq-eqb x a e, eq-eqb y b f)

pub off_pair : (a b x y : ℕ) → ((x ≡ a) × (y ≡ b)) ⊎ (one_at a b x y ≡ 0)
off_pair a b x y = go (ℕ_discrete x a) (ℕ_discrete y b)
  where
    go : Dec (x ≡ a) → Dec (y ≡ b) → ((x ≡ a) × (y ≡ b)) ⊎ (one_at a b x y ≡ 0)
    go (yes e) (yes f) = inl (e, f)
    go (yes e) (no n) = inr (rw (eq-eqb x a e, ne_eqb y b n))
    go (no n) f = inr (rw (ne_eqb x a n))

-- A gate taken away has no wire.
pub gone : (E : ℕ → ℕ → ℕ) (m a b x y : ℕ) → (x ≡ m) ⊎ (y ≡ m) → without m a b E x y ≡ 0
unfolding without
gone E m a b x y (inl e) = rw (eq-eqb x m e)
gone E m a b x y (inr e) = go (eqb x m) refl
  where
    go : (t : Bool) → eqb x m ≡ t → cond (eqb x m || eqb y m) 0 (E x y + one_at a b x y) ≡ 0
    go true f = rw f
    go false f = rw (f, eq-eqb y m e)

-- Between other gates the wires stand that stood, and one more from a to b.
pub kept : (E : ℕ → ℕ → ℕ) (m a b x y : ℕ) → x ≢ m → y ≢ m → without m a b E x y ≡ E x y + one_at a b x y
unfolding without
kept E m a b x y p q = rw (ne_eqb x m p, ne_eqb y m q)

pub fewer : (E : ℕ → ℕ → ℕ) (a b x y : ℕ) → one_fewer a b E x y ≡ E x y - one_at a b x y
unfolding one_fewer
fewer E a b x y = refl

-- Between gates that are left a move takes no last wire away: of doubled wires one stays.
pub wires_stay : {M N : Moment} → Move M N → (x y : ℕ) → ¬ (Memᴰ x N.taken) → ¬ (Memᴰ y N.taken) → 0 < M.wires x y → 0 < N.wires x y
wires_stay {M} (take m a b into out) x y l r p =
    omega (arith, kept M.wires m a b x y (λ e. l (Memᴰ.head e)) (λ e. r (Memᴰ.head e)))
wires_stay {M} (merge a b doubled) x y l r p = go (off_pair a b x y)
  where
    go : ((x ≡ a) × (y ≡ b)) ⊎ (one_at a b x y ≡ 0) → 0 < one_fewer a b M.wires x y
    go (inl (e, f)) =
        let two : 2 ≤ M.wires x y = subst₂ (λ (u v : ℕ). 2 ≤ M.wires u v) (sym e) (sym f) doubled in
        omega (arith, fewer M.wires a b x y, at_pair a b x y e f)
    go (inr none) = omega (arith, fewer M.wires a b x y)

-- At first a wire stands where one of the block does.
pub counted : (ws : List Wire) (a b : ℕ) → (0 < wires_between ws a b) ↔ Joined ws a b
unfolding wires_between total
counted [] a b = (λ h. absurd (omega arith), λ j. absurd (Memᴰ.not-nil j.1))
counted (w ∷ ws) a b = (there (counted ws a b).0 (off_pair a b w.source w.target), λ j. back (λ d m. (counted ws a b).1 (d, m)) j.1)
  where
    more : ℕ
    more = wires_between ws a b

    there : (0 < more → Joined ws a b) → ((w.source ≡ a) × (w.target ≡ b)) ⊎ (one_at a b w.source w.target ≡ 0) → 0 < one_at a b w.source w.target + more → Joined (w ∷ ws) a b
    there later (inl (e, f)) h = (w.delay, Memᴰ.head (λ i. record { source = sym e i; target = sym f i; delay = w.delay }))
    there later (inr z) h = let (d, m) = later (omega arith) in (d, Memᴰ.tail m)

    back : {d : ℕ} → ((d : ℕ) → Stands ws a b d → 0 < more) → Stands (w ∷ ws) a b d → 0 < one_at a b w.source w.target + more
    back later (Memᴰ.head e) = omega (arith, at_pair a b w.source w.target (ap (λ (v : Wire). v.source) (sym e)) (ap (λ (v : Wire). v.target) (sym e)))
    back {d} later (Memᴰ.tail m) = omega (arith, later d m)

-- A gate that remains stands between the first and the last.
pub remains_inside : {B : Block} {g : ℕ} → Remains B g → (first B < g) × (g < last B)
remains_inside r = (omega (arith, r.below, r.not_first), omega (arith, r.below, r.not_last))
