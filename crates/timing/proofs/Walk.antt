-- Walking a gate's chain of wires: the latest time found so far and the latest over the wires that are left make the latest over all.
-- Assumes nothing.
use mathlib.Core.Path.{◌≡◌, sym, ◌∙◌, ap}
use mathlib.Core.List.{List}
use Prim.Native.Nat.{ℕ, suc, ◌+◌, ◌≤◌, ◌<◌, max}
use native.Mathlib.Nat.{le_refl}
use native.Mathlib.Omega.{arith}
use lib.ListN.{get_or}
use Rattle.model.specs.Arrays.{wires_in}
use Rattle.model.proofs.Source.{latest_base}
use Rattle.ordering.specs.Chain.{last_before, Chained}
use Rattle.ordering.proofs.Chains.{last_leads_there, last_at_most}
use Rattle.timing.proofs.Chains.{over_first, over_none, over_last, over_linked}

module _ (sources targets delays times : List ℕ) (base g m : ℕ) where
  -- the latest time over the first k wires
  abbrev first_wires : ℕ → ℕ
  first_wires = over_first sources targets delays (λ (a : ℕ). get_or times a 0) base g

  -- `latest` is the latest time so far, and `next` is one more than the wire to look at next, 0 at the chain's end
  pub record Walk (latest next : ℕ) : Type 0 where
    pub left : ℕ
    pub left_in : left ≤ m
    pub next_is : next ≡ last_before targets left g
    pub next_in : next ≤ m
    pub together : max latest (first_wires next) ≡ first_wires m
    pub at_least : base ≤ latest

  pub walk_starts : (heads links : List ℕ) (next : ℕ) → Chained targets m heads links → next ≡ get_or heads g 0 → Walk base next
  walk_starts heads links next chained e =
      let is : next ≡ last_before targets m g = e ∙ chained.head g in
      record {
        left = m;
        left_in = le_refl m;
        next_is = is;
        next_in = omega (arith, last_at_most targets m g);
        together =
            let all : first_wires m ≡ first_wires next = rw is (over_last sources targets delays (λ (a : ℕ). get_or times a 0) base g m) in
            omega (arith, latest_base (wires_in m sources targets delays) (λ (a : ℕ). get_or times a 0) base g);
        at_least = le_refl base;
      }

  -- the next wire is among the m, and leads to the gate
  pub walk_at : (latest next i : ℕ) → Walk latest next → next ≡ suc i → (i < m) × (get_or targets i 0 ≡ g)
  walk_at latest next i w h =
      let r = last_leads_there targets w.left g i (sym w.next_is ∙ h) in
      (omega (arith, r.0, w.left_in), r.1)

  pub walk_goes_on : (heads links : List ℕ) (latest next i later further : ℕ)
      → Chained targets m heads links
      → Walk latest next
      → next ≡ suc i
      → later ≡ max latest (get_or times (get_or sources i 0) 0 + get_or delays i 0)
      → further ≡ get_or links i 0
      → Walk later further
  walk_goes_on heads links latest next i later further chained w h e l =
      let at = walk_at latest next i w h in
      let is : further ≡ last_before targets i g = l ∙ chained.link i at.0 ∙ ap (last_before targets i) at.1 in
      let linked = over_linked sources targets delays (λ (a : ℕ). get_or times a 0) base g i at.1 in
      let linked_next : first_wires next ≡ max (get_or times (get_or sources i 0) 0 + get_or delays i 0) (first_wires i) = rw h linked in
      let rest : first_wires i ≡ first_wires further = rw is (over_last sources targets delays (λ (a : ℕ). get_or times a 0) base g i) in
      record {
        left = i;
        left_in = omega (arith, at.0);
        next_is = is;
        next_in = omega (arith, at.0, last_at_most targets i g);
        together = omega (arith, w.together);
        at_least = omega (arith, w.at_least);
      }

  -- each wire of the chain stands before the one that names it
  pub walk_falls : (heads links : List ℕ) (latest next i further : ℕ)
      → Chained targets m heads links
      → Walk latest next
      → next ≡ suc i
      → further ≡ get_or links i 0
      → further < next
  walk_falls heads links latest next i further chained w h l =
      let at = walk_at latest next i w h in
      omega (arith, chained.link i at.0, last_at_most targets i (get_or targets i 0))

  pub walk_ends : (latest next : ℕ) → Walk latest next → next ≡ 0 → latest ≡ first_wires m
  walk_ends latest next w e =
      let none : first_wires next ≡ base = rw e (over_none sources targets delays (λ (a : ℕ). get_or times a 0) base g) in
      omega (arith, w.together, w.at_least)
