-- Renewing along the parents: at node k on the way, every node but k that was right, and those renewed, are right.
-- Assumes nothing.
use mathlib.Core.Path.{◌≡◌, sym, subst}
use mathlib.Core.Logic.{◌≢◌}
use mathlib.Core.List.{List}
use Prim.Native.Nat.{ℕ, ◌≤◌, ◌<◌}
use native.Mathlib.Decide.{ℕ_discrete}
use native.Mathlib.Omega.{arith}
use Rattle.parts.specs.Nodes.{Nodes}
use Rattle.heads.specs.Plan.{node_count, parent}
use Rattle.heads.specs.Stored.{Stored, Made, Local, Lent, Up, top, over, Renewable, Renewed, put, head_below}
use Rattle.heads.proofs.Written.{local_renewed, local_beside, lent_put}
use Rattle.heads.proofs.Making.{can_make}

pub up_within : (parents : List ℕ) (i j : ℕ) → Up parents i j → j ≤ i
up_within parents i j top = omega arith
up_within parents i j (over _ l u) = omega (arith, up_within parents i (parent parents j) u)

-- below i the way goes on
up_on : (parents : List ℕ) (i j : ℕ) → Up parents i j → j < i → (j < parent parents j) × Up parents i (parent parents j)
up_on parents i j top l = absurd (omega arith)
up_on parents i j (over _ l u) _ = (l, u)

-- every node but k that was right, and those renewed, are right
pub record Climbed (N : Nodes) (parents : List ℕ) (G H : Stored) (j i : ℕ) (H' : Stored) (k : ℕ) : Type 0 where
  pub lent : Lent N G H'
  pub up : Up parents i k
  pub still : (m : ℕ) → m < node_count N → m ≢ k → (m ≢ j → Local N G H m) → Local N G H' m

module _ {N : Nodes} {parents : List ℕ} {G H : Stored} {j i : ℕ} (able : Renewable N parents G H j i) where
  pub climb_starts : Climbed N parents G H j i H j
  climb_starts = record { lent = able.lent; up = able.up; still = λ m l d at. at d }

  module _ {H' : Stored} {k : ℕ} (climbed : Climbed N parents G H j i H' k) where
    within : k ≤ i
    within = up_within parents i k climbed.up

    pub climb_makes : Made N G H' k
    climb_makes =
        let w = within in
        can_make N parents G H' k able.shaped climbed.lent (omega (arith, able.node))
        (λ m l. climbed.still m (omega (arith, able.node)) (λ e. omega arith) (λ d. able.local m (omega arith) d))

    -- node k renewed: all are right but its parent
    module _ {H'' : Stored} (e : H'' ≡ put H' k (head_below N G H' k)) where
      after : (m : ℕ) → m < node_count N → m ≢ parent parents k → (m ≢ j → Local N G H m) → Local N G H'' m
      after m l d at = subst (λ (T : Stored). Local N G T m) (sym e) (go (ℕ_discrete m k))
        where
          go : Dec (m ≡ k) → Local N G (put H' k (head_below N G H' k)) m
          go (yes s) =
              subst (λ (n : ℕ). Local N G (put H' k (head_below N G H' k)) n) (sym s)
              (local_renewed N parents able.shaped G H' k (rw s at l) climb_makes.room)
          go (no o) = local_beside N parents able.shaped G H' k m _ l o d (climbed.still m l o at)

      lent_after : Lent N G H''
      lent_after = subst (λ (T : Stored). Lent N G T) (sym e) (lent_put N G H' k _ climbed.lent)

      pub climb_further : {p : ℕ} → p ≡ parent parents k → k < i → Climbed N parents G H j i H'' p
      climb_further s l = rw s (record { lent = lent_after; up = (up_on parents i k climbed.up l).1; still = after })

      pub climb_ends : k ≡ i → Renewed N parents G H H'' j i
      climb_ends s = record { lent = lent_after; still = λ m l d. after m l (λ q. d (rw s at q)) }

    pub climb_rises : {p : ℕ} → p ≡ parent parents k → k < i → (k < p) × (p ≤ i)
    climb_rises s l =
        let u = up_on parents i k climbed.up l in
        let v = up_within parents i _ u.1 in (omega (arith, u.0), omega arith)
