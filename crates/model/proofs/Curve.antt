-- Counting ticks off a curve, and that a curve is unique: two falling lists of pairs that earn the same at every count of ticks are equal, since the first tick shows the first gain, and the first tick that earns less shows the first width.
-- Assumes nothing.
use mathlib.Core.Path.{◌≡◌, refl, sym, ◌∙◌}
use mathlib.Core.Logic.{◌⊎◌, inl, inr}
use mathlib.Core.List.{List, [], ◌∷◌}
use Prim.Native.Nat.{ℕ, ◌+◌, ◌*◌, ◌-◌, ◌≤◌, ◌<◌, min}
use native.Mathlib.Nat.{le_antisymm, zero-mul, one-mul, add-mul, add_left_cancel, mul-le-mul_right}
use native.Mathlib.Omega.{arith}
use Rattle.lists.specs.Sum.{total}
use Rattle.lists.proofs.Compare.{compared}
use Rattle.model.specs.Block.{Block}
use Rattle.model.specs.InTime.{IsStart}
use Rattle.model.specs.Curve.{Pair, first_gain, Falling, all_ticks, count_off, IsCurve}
use Rattle.model.proofs.Best.{best_saving_unique}

pub count_off_none : (ps : List Pair) → count_off ps 0 ≡ 0
unfolding count_off
count_off_none [] = refl
count_off_none (p ∷ ps) =
    let m : min 0 p.width ≡ 0 = omega arith in
    let d : 0 - p.width ≡ 0 = omega arith in
    rw (m, d, count_off_none ps, zero-mul) refl

-- ticks within the first pair earn its gain
pub count_off_within : (p : Pair) (ps : List Pair) (k : ℕ) → k ≤ p.width → count_off (p ∷ ps) k ≡ k * p.gain
unfolding count_off
count_off_within p ps k h =
    let m : min k p.width ≡ k = omega arith in
    let d : k - p.width ≡ 0 = omega arith in
    rw (m, d, count_off_none ps) (omega arith)

-- ticks beyond the first pair are counted off the rest
pub count_off_beyond : (p : Pair) (ps : List Pair) (k : ℕ) → count_off (p ∷ ps) (p.width + k) ≡ p.width * p.gain + count_off ps k
unfolding count_off
count_off_beyond p ps k =
    let m : min (p.width + k) p.width ≡ p.width = omega arith in
    let d : p.width + k - p.width ≡ k = omega arith in
    rw (m, d) refl

-- more ticks earn no less
pub count_off_grows : (ps : List Pair) (j k : ℕ) → j ≤ k → count_off ps j ≤ count_off ps k
unfolding count_off
count_off_grows [] j k h = omega arith
count_off_grows (p ∷ ps) j k h =
    let here : min j p.width * p.gain ≤ min k p.width * p.gain = mul-le-mul_right p.gain (omega arith) in
    omega (arith, count_off_grows ps (j - p.width) (k - p.width) (omega arith))

-- the whole curve earns the most
pub count_off_whole : (ps : List Pair) (k : ℕ) → count_off ps k ≤ count_off ps (all_ticks ps)
unfolding count_off total
count_off_whole [] k = omega arith
count_off_whole (p ∷ ps) k =
    let here : min k p.width * p.gain ≤ p.width * p.gain = mul-le-mul_right p.gain (omega arith) in
    omega (arith, count_off_whole ps (k - p.width), count_off_beyond p ps (all_ticks ps))

-- the first tick earns the first gain
pub count_off_one : (ps : List Pair) → Falling ps → count_off ps 1 ≡ first_gain ps
unfolding count_off
count_off_one [] f = refl
count_off_one (p ∷ ps) f = count_off_within p ps 1 f.0 ∙ one-mul p.gain

-- the same count at every number of ticks
abbrev Same : List Pair → List Pair → Type 0
Same ps qs = (k : ℕ) → count_off ps k ≡ count_off qs k

same_gain : (p q : Pair) (ps qs : List Pair) → Falling (p ∷ ps) → Falling (q ∷ qs) → Same (p ∷ ps) (q ∷ qs) → p.gain ≡ q.gain
same_gain p q ps qs f g s = sym (count_off_one (p ∷ ps) f) ∙ s 1 ∙ count_off_one (q ∷ qs) g

-- one tick beyond a shorter first pair would earn less than its gain on one side and the whole gain on the other
not_shorter : (p q : Pair) (ps qs : List Pair) → Falling (p ∷ ps) → Same (p ∷ ps) (q ∷ qs) → p.gain ≡ q.gain → ¬ (p.width < q.width)
not_shorter p q ps qs f s e l =
    let beyond = count_off_beyond p ps 1 in
    let within = count_off_within q qs (p.width + 1) (omega arith) in
    let product : (p.width + 1) * q.gain ≡ p.width * p.gain + p.gain = rw (add-mul, one-mul, e) in
    let lesser = f.1 in
    omega (arith, s (p.width + 1), count_off_one ps f.2)

same_width : (p q : Pair) (ps qs : List Pair) → Falling (p ∷ ps) → Falling (q ∷ qs) → Same (p ∷ ps) (q ∷ qs) → p.width ≡ q.width
same_width p q ps qs f g s = go (compared p.width q.width)
  where
    e : p.gain ≡ q.gain
    e = same_gain p q ps qs f g s

    go : (p.width < q.width) ⊎ (p.width ≡ q.width) ⊎ (q.width < p.width) → p.width ≡ q.width
    go (inl l) = absurd (not_shorter p q ps qs f s e l)
    go (inr (inl w)) = w
    go (inr (inr l)) = absurd (not_shorter q p qs ps g (λ (k : ℕ). sym (s k)) (sym e) l)

same_rest : (p q : Pair) (ps qs : List Pair) → Falling (p ∷ ps) → Falling (q ∷ qs) → Same (p ∷ ps) (q ∷ qs) → Same ps qs
same_rest p q ps qs f g s k =
    let w = same_width p q ps qs f g s in
    let e = same_gain p q ps qs f g s in
    add_left_cancel (p.width * p.gain)
    (sym (count_off_beyond p ps k) ∙ s (p.width + k) ∙ rw (w, e) (count_off_beyond q qs k))

pub falling_unique : (ps qs : List Pair) → Falling ps → Falling qs → Same ps qs → ps ≡ qs
falling_unique [] [] f g s = refl
falling_unique [] (q ∷ qs) f g s = let l = g.1 in absurd (omega (arith, s 1, count_off_one [] tt, count_off_one (q ∷ qs) g))
falling_unique (p ∷ ps) [] f g s = let l = f.1 in absurd (omega (arith, s 1, count_off_one [] tt, count_off_one (p ∷ ps) f))
falling_unique (p ∷ ps) (q ∷ qs) f g s =
    let same : p ≡ q = λ i. record { width = same_width p q ps qs f g s i; gain = same_gain p q ps qs f g s i } in
    rw (same, falling_unique ps qs f.2 g.2 (same_rest p q ps qs f g s))

pub start_unique : (B : Block) (s t : ℕ) → IsStart B s → IsStart B t → s ≡ t
start_unique B s t a b = le_antisymm (b.greatest s a.attained) (a.greatest t b.attained)

-- what the curves of a block save with k ticks is the same
saves_same : (B : Block) (s t a b : ℕ) (ps qs : List Pair) → IsCurve B s a ps → IsCurve B t b qs → (k : ℕ) → a + count_off ps k ≡ b + count_off qs k
saves_same B s t a b ps qs c d k =
    best_saving_unique (c.best k) (rw (start_unique B s t c.starts d.starts) (d.best k))

at_start_unique : (B : Block) (s t a b : ℕ) (ps qs : List Pair) → IsCurve B s a ps → IsCurve B t b qs → a ≡ b
at_start_unique B s t a b ps qs c d = omega (arith, saves_same B s t a b ps qs c d 0, count_off_none ps, count_off_none qs)

pub curve_unique : (B : Block) (s t a b : ℕ) (ps qs : List Pair) → IsCurve B s a ps → IsCurve B t b qs → (s ≡ t) × (a ≡ b) × (ps ≡ qs)
curve_unique B s t a b ps qs c d = (
  start_unique B s t c.starts d.starts,
  at_start_unique B s t a b ps qs c d,
  falling_unique ps qs c.falls d.falls
      (λ (k : ℕ). omega (arith, saves_same B s t a b ps qs c d k, at_start_unique B s t a b ps qs c d)),
)
