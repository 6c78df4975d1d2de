-- The latest time over the first wires, and over those in a gate's chain: wires to other gates do not count.
-- Assumes nothing.
use mathlib.Core.Path.{◌≡◌, refl, ◌∙◌}
use mathlib.Core.Bool.{cond}
use mathlib.Core.List.{List, [], ◌∷◌, ◌++◌}
use Prim.Native.Nat.{ℕ, zero, suc, ◌+◌, max}
use native.Mathlib.Omega.{arith}
use lib.Dec.{eqb}
use lib.ListN.{get_or}
use borrow.Author.Tests.{eq-eqb}
use Rattle.lists.specs.Over.{build}
use Rattle.lists.proofs.Bool.{cases}
use Rattle.model.specs.Block.{Wire}
use Rattle.model.specs.Slack.{latest_in}
use Rattle.model.specs.Arrays.{wire_at, wires_in}
use Rattle.ordering.specs.Chain.{last_before}

-- the latest time over one wire more at the end
latest_snoc : (ws : List Wire) (w : Wire) (time : ℕ → ℕ) (base g : ℕ)
    → latest_in (ws ++ (w ∷ [])) time base g
    ≡ cond (eqb w.target g) (max (time w.source + w.delay) (latest_in ws time base g)) (latest_in ws time base g)
unfolding latest_in
latest_snoc [] w time base g = refl
latest_snoc (v ∷ ws) w time base g =
    rw (latest_snoc ws w time base g)
    (cases (eqb w.target g)
    (λ p. rw p (cases (eqb v.target g) (λ q. rw q (omega arith)) (λ q. rw q)))
    (λ p. rw p))

module _ (sources targets delays : List ℕ) (time : ℕ → ℕ) (base g : ℕ) where
  -- the latest time over the first k wires
  abbrev pub over_first : ℕ → ℕ
  over_first k = latest_in (wires_in k sources targets delays) time base g

  over_more : (k : ℕ)
      → over_first (suc k)
      ≡ cond (eqb (get_or targets k 0) g) (max (time (get_or sources k 0) + get_or delays k 0) (over_first k)) (over_first k)
  over_more k = (unfold build in latest_snoc (wires_in k sources targets delays) (wire_at sources targets delays k) time base g)

  pub over_none : over_first 0 ≡ base
  unfolding latest_in build
  over_none = refl

  -- a wire to the gate counts
  pub over_linked : (i : ℕ) → get_or targets i 0 ≡ g → over_first (suc i) ≡ max (time (get_or sources i 0) + get_or delays i 0) (over_first i)
  over_linked i e = over_more i ∙ rw (eq-eqb (get_or targets i 0) g e)

  -- wires to other gates do not
  pub over_last : (k : ℕ) → over_first k ≡ over_first (last_before targets k g)
  unfolding last_before
  over_last zero = refl
  over_last (suc k) =
      cases (eqb (get_or targets k 0) g)
      (λ p. rw p)
      (λ p. rw p (over_more k ∙ rw p (over_last k)))
