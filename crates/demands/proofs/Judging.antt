-- Judging: its lines accept a list exactly when it is in time, and then with the list's saving.
-- Assumes nothing.
use mathlib.Core.Path.{◌≡◌, refl, sym, ap, subst}
use mathlib.Core.Logic.{◌↔◌, ◌⊎◌, inl, inr, ⊎_elim}
use mathlib.Core.List.{List, [], ◌∷◌}
use Prim.Native.Nat.{ℕ, zero, suc, ◌+◌, ◌≤◌, ◌<◌}
use native.Mathlib.Decide.{dec_lt}
use native.Mathlib.Nat.{not-suc-le-zero, eq-or-lt_of_le, le_of_suc-le-suc}
use native.Mathlib.Omega.{arith}
use lib.ListN.{length, get_or, take, length-take}
use Rattle.lists.specs.Search.{Lowest}
use Rattle.lists.proofs.Compare.{le_or_lt}
use Rattle.model.specs.Block.{Block, gate, gate_count, widths}
use Rattle.model.specs.Gain.{saving}
use Rattle.model.specs.InTime.{InTime}
use Rattle.model.specs.Answer.{Outcome, accepted, fits, passes, Exceeds}
use Rattle.demands.proofs.CallLaws.{JudgeLines}

-- two facts that can be decided can be decided together
decide_both : {P Q : Type 0} → Dec P → Dec Q → Dec (P × Q)
decide_both (yes p) (yes q) = yes (p, q)
decide_both (yes p) (no n) = no (λ w. n w.1)
decide_both (no n) d = no (λ w. n w.0)

-- where something holds that can be decided, it holds at a lowest number
lowest_of : {P : ℕ → Type 0} → ((g : ℕ) → Dec (P g)) → (n : ℕ) → ((r : ℕ) × Lowest P r) ⊎ ((g : ℕ) → g < n → ¬ (P g))
lowest_of decide zero = inr (λ g h. absurd (not-suc-le-zero h))
lowest_of {P} decide (suc n) = by (lowest_of decide n) (decide n)
  where
    by : ((r : ℕ) × Lowest P r) ⊎ ((g : ℕ) → g < n → ¬ (P g)) → Dec (P n) → ((r : ℕ) × Lowest P r) ⊎ ((g : ℕ) → g < suc n → ¬ (P g))
    by (inl low) d = inl low
    by (inr none) (yes p) = inl (n, record { holds = p; none_below = none })
    by (inr none) (no q) = inr (λ g h. ⊎_elim (λ (e : g ≡ n). subst (λ (k : ℕ). ¬ (P k)) (sym e) q) (none g) (eq-or-lt_of_le (le_of_suc-le-suc h)))

module _ (B : Block) (lent : List ℕ) where
  -- the list that is judged
  abbrev x : List ℕ
  x = take (gate_count B) lent

  -- no lowest increase that exceeds its widths, so none
  within : ((g : ℕ) → ¬ (Lowest (Exceeds B x) g)) → (g : ℕ) → g < gate_count B → get_or x g 0 ≤ widths (gate B g).steps
  within none g h =
      ⊎_elim (λ low. absurd (none low.0 low.1))
      (λ nowhere.
      ⊎_elim (λ (k : get_or x g 0 ≤ widths (gate B g).steps). k) (λ (k : widths (gate B g).steps < get_or x g 0). absurd (nowhere g h (h, k)))
      (le_or_lt (get_or x g 0) (widths (gate B g).steps)))
      (lowest_of (λ (g : ℕ). decide_both (dec_lt g (gate_count B)) (dec_lt (widths (gate B g).steps) (get_or x g 0))) (gate_count B))

  pub accepted_in_time : {o : Outcome (List ℕ)} → gate_count B ≤ length lent → JudgeLines lent B o → (o.answer.number ≡ 0) ↔ InTime B x
  accepted_in_time long (fits g low e) =
      (λ q. absurd (let is = ap (λ o. o.answer.number) e in omega arith), λ ok. absurd (let most = ok.within_widths g low.holds.0 in let more = low.holds.1 in omega arith))
  accepted_in_time long (passes none (fits p (z, late) e)) =
      (λ q. absurd (let is = ap (λ o. o.answer.number) e in omega arith), λ ok. absurd (let by_then = ok.paths late.0 late.1 in let after = late.2 in omega arith))
  accepted_in_time long (passes none (passes on e)) = (
    λ q.
        record {
          one_each = rw (length-take (gate_count B) lent) (omega arith);
          within_widths = within none;
          paths =
              λ (t : ℕ) p.
              ⊎_elim (λ (k : B.arrival + t ≤ B.deadline). k) (λ (k : B.deadline < B.arrival + t). absurd (on 0 (refl, (t, p, k))))
              (le_or_lt (B.arrival + t) B.deadline);
        },
    λ ok. ap (λ o. o.answer.number) e,
  )

  pub accepted_saves : {o : Outcome (List ℕ)} → o.answer.number ≡ 0 → JudgeLines lent B o → o ≡ record { answer = accepted (saving B (take (gate_count B) lent) ∷ []); memory = lent }
  accepted_saves is_accepted (fits g low e) = absurd (let is = ap (λ o. o.answer.number) e in omega arith)
  accepted_saves is_accepted (passes none (fits p late e)) = absurd (let is = ap (λ o. o.answer.number) e in omega arith)
  accepted_saves is_accepted (passes none (passes on e)) = e
