-- What ticks counted off a curve earn at most, and that of a falling curve fewer ticks than all earn less.
-- Assumes nothing.
use mathlib.Core.Path.{◌≡◌, refl}
use mathlib.Core.Logic.{◌⊎◌, inl, inr}
use mathlib.Core.List.{List, [], ◌∷◌, Memᴰ}
use Prim.Native.Nat.{ℕ, ◌+◌, ◌*◌, ◌-◌, ◌≤◌, ◌<◌, min}
use native.Mathlib.Nat.{mul-le-mul_left, mul-le-mul_right, add-mul, one-mul}
use native.Mathlib.Omega.{arith}
use Rattle.lists.specs.Sum.{total}
use Rattle.lists.proofs.Compare.{le_or_lt}
use Rattle.model.specs.Curve.{Pair, Falling, all_ticks, count_off}
use Rattle.model.proofs.Curve.{count_off_whole, count_off_beyond}

-- k ticks counted off earn at most k times the greatest gain
pub count_off_most : (g : ℕ) (ps : List Pair) → ((p : Pair) → Memᴰ p ps → p.gain ≤ g) → (k : ℕ) → count_off ps k ≤ k * g
unfolding count_off
count_off_most g [] bound k = omega arith
count_off_most g (p ∷ ps) bound k =
    let first : min k p.width * p.gain ≤ min k p.width * g = mul-le-mul_left (min k p.width) (bound p (Memᴰ.head refl)) in
    let rest = count_off_most g ps (λ q m. bound q (Memᴰ.tail m)) (k - p.width) in
    let both : (min k p.width + (k - p.width)) * g ≡ min k p.width * g + (k - p.width) * g = add-mul (min k p.width) (k - p.width) g in
    let all : min k p.width + (k - p.width) ≡ k = omega arith in
    omega (arith, rw all at both)

-- fewer ticks than all of a falling curve earn less: its last gain is above 0
pub fewer_earn_less : (ps : List Pair) → Falling ps → (j : ℕ) → j < all_ticks ps → count_off ps j < count_off ps (all_ticks ps)
unfolding count_off total
fewer_earn_less [] f j l = absurd (omega arith)
fewer_earn_less (p ∷ ps) f j l = go (le_or_lt p.width j) (λ i b. fewer_earn_less ps f.2 i b)
  where
    all : count_off (p ∷ ps) (p.width + all_ticks ps) ≡ p.width * p.gain + count_off ps (all_ticks ps)
    all = count_off_beyond p ps (all_ticks ps)

    go : (p.width ≤ j) ⊎ (j < p.width) → ((i : ℕ) → i < all_ticks ps → count_off ps i < count_off ps (all_ticks ps)) → count_off (p ∷ ps) j < count_off (p ∷ ps) (p.width + all_ticks ps)
    go (inl h) less =
        let m : min j p.width ≡ p.width = omega arith in
        rw m (omega (arith, all, less (j - p.width) (omega arith)))
    go (inr h) less =
        let m : min j p.width ≡ j = omega arith in
        let most : (j + 1) * p.gain ≤ p.width * p.gain = mul-le-mul_right p.gain (omega arith) in
        let some : j * p.gain < (j + 1) * p.gain = let g = f.1 in omega (arith, add-mul j 1 p.gain, one-mul p.gain) in
        rw m (omega (arith, all, count_off_whole ps (j - p.width)))
