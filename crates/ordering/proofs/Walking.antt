-- A walk along the chain of the wires at gate g: of the wires at g, none behind the next one is as sought, so that at the chain's end none is (`walking_ends`).
-- Assumes nothing.
use mathlib.Core.Path.{◌≡◌, sym, ◌∙◌, ap}
use mathlib.Core.Logic.{⊎_elim}
use mathlib.Core.List.{List}
use Prim.Native.Nat.{ℕ, suc, ◌≤◌, ◌<◌}
use native.Mathlib.Decide.{ℕ_discrete}
use native.Mathlib.Omega.{arith}
use lib.ListN.{get_or}
use Rattle.lists.proofs.Compare.{le_or_lt}
use Rattle.ordering.specs.Chain.{last_before, Chained}
use Rattle.ordering.proofs.Chains.{last_leads_there, last_at_most, none_after_last}

-- `next` is one more than the wire to look at next, 0 at the chain's end: it is at g, and of the m wires none from `next` on is at g and as sought
pub record Walking (ends : List ℕ) (m g : ℕ) (Sought : ℕ → Type 0) (next : ℕ) : Type 0 where
  pub within : next ≤ m
  pub here : (i : ℕ) → next ≡ suc i → get_or ends i 0 ≡ g
  pub none : (q : ℕ) → next ≤ q → q < m → get_or ends q 0 ≡ g → ¬ (Sought q)

module _ (ends heads links : List ℕ) (m g : ℕ) (Sought : ℕ → Type 0) (chained : Chained ends m heads links) where
  pub walking_starts : (next : ℕ) → next ≡ get_or heads g 0 → Walking ends m g Sought next
  walking_starts next e =
      let is : next ≡ last_before ends m g = e ∙ chained.head g in
      record {
        within = rw is (last_at_most ends m g);
        here = λ i s. (last_leads_there ends m g i (sym is ∙ s)).1;
        none = λ q l b f o. none_after_last ends m g q (rw is at l) b f;
      }

  -- the chain goes on behind wire i
  module _ (next i further : ℕ) (w : Walking ends m g Sought next) (s : next ≡ suc i) (l : further ≡ get_or links i 0) where
    goes_on : further ≡ last_before ends i g
    goes_on =
        let below : i < m = omega (arith, w.within) in
        l ∙ chained.link i below ∙ ap (last_before ends i) (w.here i s)

    pub walking_shortens : further < next
    walking_shortens = let most : further ≤ i = rw goes_on (last_at_most ends i g) in omega arith

    -- where wire i is not as sought, it is passed
    pub walking_on : ¬ (Sought i) → Walking ends m g Sought further
    walking_on not =
        record {
          within = omega (arith, walking_shortens, w.within);
          here = λ j e. (last_leads_there ends i g j (sym goes_on ∙ e)).1;
          none = λ q a b f o.
              ⊎_elim
              (λ (z : suc i ≤ q). w.none q (omega arith) b f o)
              (λ (z : q < suc i). last q (ℕ_discrete q i) (omega arith) (rw goes_on at a) f o)
              (le_or_lt (suc i) q);
        }
      where
        last : (q : ℕ) → Dec (q ≡ i) → q ≤ i → last_before ends i g ≤ q → get_or ends q 0 ≡ g → Sought q → ⊥
        last q (yes e) a l f o = not (rw e at o)
        last q (no d) a l f o = none_after_last ends i g q l (omega (arith, d)) f

pub walking_ends : {ends : List ℕ} {m g next : ℕ} {Sought : ℕ → Type 0} → Walking ends m g Sought next → next ≤ 0 → (q : ℕ) → q < m → get_or ends q 0 ≡ g → ¬ (Sought q)
walking_ends w l q b = w.none q (omega arith) b
