-- Chains of wires: one wire more keeps them, and what the last wire at a gate is.
-- Assumes nothing.
use mathlib.Core.Path.{◌≡◌, sym, ◌∙◌}
use mathlib.Core.Logic.{◌≢◌, ⊎_elim}
use mathlib.Core.List.{List}
use Prim.Native.Nat.{ℕ, zero, suc, ◌+◌, ◌≤◌, ◌<◌}
use native.Mathlib.Numerals.{add-one}
use native.Mathlib.Nat.{not-suc-le-zero, le_of_suc-le-suc, eq-or-lt_of_le, le_refl, suc_inj}
use native.Mathlib.Decide.{ℕ_discrete}
use native.Mathlib.Omega.{arith}
use lib.Dec.{eqb}
use lib.ListN.{length, get_or, set}
use lib.Seq.{get_or-set_same, get_or-set_other}
use borrow.Author.Tests.{eqb-true, eqb-false, eq-eqb, ne_eqb}
use Rattle.lists.proofs.Bool.{cases}
use Rattle.model.specs.Limits.{max_gates, max_wires}
use Rattle.model.specs.InTime.{no_increase}
use Rattle.model.proofs.Slack.{zeros}
use Rattle.ordering.specs.Chain.{last_before, Chained, Chainable}

-- arrays of zeros have no chain begun
pub zeros_chainable : {n m : ℕ} (ends : List ℕ) → n ≤ max_gates → m ≤ max_wires → m ≤ length ends → ((i : ℕ) → i < m → get_or ends i 0 < n)
    → Chainable ends m (no_increase max_gates) (no_increase max_wires)
zeros_chainable ends few wires long gate =
    record {
      count = wires;
      all_ends = long;
      room = wires;
      to_gates = λ i h. let l = gate i h in omega arith;
      begun = zeros max_gates;
    }

pub chained_none : (ends : List ℕ) (m : ℕ) (heads links : List ℕ) → Chainable ends m heads links → Chained ends 0 heads links
unfolding last_before
chained_none ends m heads links c = record { head = c.begun; link = λ (i : ℕ) (h : i < 0). absurd (not-suc-le-zero h) }

-- wire i joins the chain of the gate at its end
pub chained_more : (ends : List ℕ) (i g : ℕ) (heads links : List ℕ)
    → get_or ends i 0 ≡ g
    → g < length heads
    → i < length links
    → Chained ends i heads links
    → Chained ends (i + 1) (set heads g (i + 1)) (set links i (get_or heads g 0))
unfolding last_before
chained_more ends i g heads links e in_heads in_links c = rw (add-one i) (record { head = heads_right; link = links_right })
  where
    heads_right : (h : ℕ) → get_or (set heads g (suc i)) h 0 ≡ last_before ends (suc i) h
    heads_right h = by (ℕ_discrete h g)
      where
        by : Dec (h ≡ g) → get_or (set heads g (suc i)) h 0 ≡ last_before ends (suc i) h
        by (yes s) = rw (s, get_or-set_same heads g (suc i) 0 in_heads, eq-eqb (get_or ends i 0) g e)
        by (no n) =
            rw (ne_eqb (get_or ends i 0) h (λ (q : get_or ends i 0 ≡ h). n (sym q ∙ e)), get_or-set_other heads g h (suc i) 0 n)
            (c.head h)

    links_right : (k : ℕ) → k < suc i → get_or (set links i (get_or heads g 0)) k 0 ≡ last_before ends k (get_or ends k 0)
    links_right k l = ⊎_elim here before (eq-or-lt_of_le (le_of_suc-le-suc l))
      where
        here : k ≡ i → get_or (set links i (get_or heads g 0)) k 0 ≡ last_before ends k (get_or ends k 0)
        here s = rw (s, get_or-set_same links i (get_or heads g 0) 0 in_links, e) (c.head g)

        before : k < i → get_or (set links i (get_or heads g 0)) k 0 ≡ last_before ends k (get_or ends k 0)
        before b = get_or-set_other links i k (get_or heads g 0) 0 (λ (q : k ≡ i). omega arith) ∙ c.link k b

-- what `last_before` names is a wire at the gate, among the first k
pub last_leads_there : (ends : List ℕ) (k g i : ℕ) → last_before ends k g ≡ suc i → (i < k) × (get_or ends i 0 ≡ g)
unfolding last_before
last_leads_there ends zero g i e = absurd (omega arith)
last_leads_there ends (suc k) g i e =
    cases (eqb (get_or ends k 0) g)
    (λ p.
    let s : k ≡ i = suc_inj (rw p at e) in
    (omega arith, rw s at (eqb-true (get_or ends k 0) g p)))
    (λ p.
    let r = last_leads_there ends k g i (rw p at e) in
    (omega (arith, r.0), r.1))

pub last_at_most : (ends : List ℕ) (k g : ℕ) → last_before ends k g ≤ k
unfolding last_before
last_at_most ends zero g = le_refl 0
last_at_most ends (suc k) g =
    cases (eqb (get_or ends k 0) g) (λ p. rw p (le_refl (suc k))) (λ p. rw p (omega (arith, last_at_most ends k g)))

-- no wire after the last is at the gate
pub none_after_last : (ends : List ℕ) (k g i : ℕ) → last_before ends k g ≤ i → i < k → get_or ends i 0 ≢ g
unfolding last_before
none_after_last ends zero g i h l e = not-suc-le-zero l
none_after_last ends (suc k) g i h l e =
    cases (eqb (get_or ends k 0) g)
    (λ p. let m : suc k ≤ i = rw p at h in omega arith)
    (λ p.
    ⊎_elim
    (λ s. eqb-false (get_or ends k 0) g p (rw s at e))
    (λ b. none_after_last ends k g i (rw p at h) b e)
    (eq-or-lt_of_le (le_of_suc-le-suc l)))
