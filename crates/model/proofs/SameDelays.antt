-- Source delays and required times depend on the delays of the block's own gates alone: two delay functions that agree below n give the same times, where every wire joins gates below n.
-- Assumes nothing.
use mathlib.Core.Path.{◌≡◌, refl, sym}
use mathlib.Core.List.Memᴰ
use mathlib.Core.List.{List, [], ◌∷◌}
use Prim.Native.Nat.{ℕ, zero, suc, ◌<◌}
use lib.Dec.{eqb}
use lib.IntN.{ℤ, pos, ◌-ℤ◌}
use borrow.Author.Tests.{eqb-true}
use Rattle.lists.proofs.Bool.{cases}
use Rattle.model.specs.Block.{Wire, Stands}
use Rattle.model.specs.Slack.{source_by, least_out, required_by}
use Rattle.model.proofs.Source.{latest_same}

-- only the times of the wires' targets matter
least_same : (ws : List Wire) (time other : ℕ → ℤ) (base : ℤ) (g : ℕ)
    → ((b w : ℕ) → Stands ws g b w → time b ≡ other b)
    → least_out ws time base g ≡ least_out ws other base g
unfolding least_out
least_same [] time other base g e = refl
least_same (v ∷ ws) time other base g e =
    let rest = least_same ws time other base g (λ (b w : ℕ) (m : Stands ws g b w). e b w (Memᴰ.tail m)) in
    cases (eqb v.source g)
    (λ t.
    let here = eqb-true v.source g t in
    rw (
      t,
      rest,
      e v.target v.delay (Memᴰ.head (λ i. record { source = sym here i; target = v.target; delay = v.delay })),
    ))
    (λ t. rw (t, rest))

module _ (ws : List Wire) (n : ℕ) (d e : ℕ → ℕ) (below : (a b w : ℕ) → Stands ws a b w → (a < n) × (b < n)) (same : (g : ℕ) → g < n → d g ≡ e g) where
  pub source_same : (base f g : ℕ) → g < n → source_by f ws d base g ≡ source_by f ws e base g
  unfolding source_by
  source_same base zero g h = refl
  source_same base (suc f) g h =
      rw (
        latest_same ws (source_by f ws d base) (source_by f ws e base) base g
            (λ (a w : ℕ) (on : Stands ws a g w). source_same base f a (below a g w on).0),
        same g h,
      )

  pub required_same : (base : ℤ) (f g : ℕ) → g < n → required_by f ws d base g ≡ required_by f ws e base g
  unfolding required_by
  required_same base zero g h = refl
  required_same base (suc f) g h =
      least_same ws (λ (x : ℕ). required_by f ws d base x -ℤ pos (d x)) (λ (x : ℕ). required_by f ws e base x -ℤ pos (e x)) base g
      (λ (b w : ℕ) (on : Stands ws g b w).
      let in_block = (below g b w on).1 in
      rw (required_same base f b in_block, same b in_block))
