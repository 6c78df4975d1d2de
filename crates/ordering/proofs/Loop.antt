-- If every gate of a set has a predecessor in the set, some gate reaches itself. By induction on a bound of the gates' numbers: the greatest gate is left out, and the ways through it become steps of their own. The set is decidable, so no pigeonhole is needed.
-- Assumes nothing.
use mathlib.Core.Path.{◌≡◌, subst}
use mathlib.Core.Logic.{◌≢◌, ◌⊎◌, inl, inr, ⊎_elim}
use Prim.Native.Nat.{ℕ, zero, suc, ◌<◌}
use native.Mathlib.Nat.{not-suc-le-zero, eq-or-lt_of_le, le_of_suc-le-suc}
use native.Mathlib.Decide.{ℕ_discrete}
use Rattle.ordering.proofs.Reach.{Reach, step, on, reach_bind}

-- Every gate of the set S is below k and has a predecessor in S.
pub record Fed (E : ℕ → ℕ → Type 0) (S : ℕ → Type 0) (k : ℕ) : Type 0 where
  pub bounded : (g : ℕ) → S g → g < k
  pub decided : (g : ℕ) → Dec (S g)
  pub fed : (g : ℕ) → S g → (p : ℕ) × S p × E p g

below : {g k : ℕ} → g < suc k → g ≢ k → g < k
below h d = ⊎_elim (λ e. absurd (d e)) (λ l. l) (eq-or-lt_of_le (le_of_suc-le-suc h))

-- a step of E, or two through gate k
abbrev Past : (ℕ → ℕ → Type 0) → ℕ → ℕ → ℕ → Type 0
Past E k a b = E a b ⊎ (E a k × E k b)

abbrev Without : (ℕ → Type 0) → ℕ → ℕ → Type 0
Without S k g = S g × (g ≢ k)

module _ (E : ℕ → ℕ → Type 0) (S : ℕ → Type 0) (k : ℕ) where
  past_reach : (a b : ℕ) → Past E k a b → Reach E a b
  past_reach a b (inl e) = step e
  past_reach a b (inr w) = on w.0 (step w.1)

  without_decided : (g : ℕ) → Dec (S g) → Dec (g ≡ k) → Dec (Without S k g)
  without_decided g (yes s) (yes e) = no (λ w. w.1 e)
  without_decided g (yes s) (no d) = yes (s, d)
  without_decided g (no n) d = no (λ w. n w.0)

  -- the predecessor of g in the set without k: its own, or k's where that is k
  fed_past : (p : ℕ) → Without S k p → E p k → (g q : ℕ) → S q → E q g → Dec (q ≡ k) → (r : ℕ) × Without S k r × Past E k r g
  fed_past p sp e g q sq f (yes i) = (p, sp, inr (e, subst (λ (x : ℕ). E x g) i f))
  fed_past p sp e g q sq f (no d) = (q, (sq, d), inl f)

  fed_without : (p : ℕ) → Fed E S (suc k) → Without S k p → E p k → Fed (Past E k) (Without S k) k
  fed_without p F sp e =
      record {
        bounded = λ g s. below (F.bounded g s.0) s.1;
        decided = λ g. without_decided g (F.decided g) (ℕ_discrete g k);
        fed = λ g s. let f = F.fed g s.0 in fed_past p sp e g f.0 f.1 f.2 (ℕ_discrete f.0 k);
      }

  fed_below : Fed E S (suc k) → ¬ (S k) → Fed E S k
  fed_below F n =
      record {
        bounded = λ g s. below (F.bounded g s) (λ e. n (subst S e s));
        decided = F.decided;
        fed = F.fed;
      }

abbrev LoopBelow : ℕ → Type 1
LoopBelow k = (E : ℕ → ℕ → Type 0) (S : ℕ → Type 0) → Fed E S k → (g : ℕ) → S g → (h : ℕ) × Reach E h h

loop_through : (k : ℕ) → LoopBelow k → (E : ℕ → ℕ → Type 0) (S : ℕ → Type 0) → Fed E S (suc k)
    → (p : ℕ) → S p → E p k → Dec (p ≡ k) → (h : ℕ) × Reach E h h
loop_through k rest E S F p sp e (yes i) = (k, step (subst (λ (x : ℕ). E x k) i e))
loop_through k rest E S F p sp e (no d) =
    let l = rest (Past E k) (Without S k) (fed_without E S k p F (sp, d) e) p (sp, d) in
    (l.0, reach_bind (past_reach E S k) l.1)

loop_next : (k : ℕ) → LoopBelow k → (E : ℕ → ℕ → Type 0) (S : ℕ → Type 0) → Fed E S (suc k)
    → (g : ℕ) → S g → Dec (S k) → (h : ℕ) × Reach E h h
loop_next k rest E S F g s (yes sk) =
    let f = F.fed k sk in
    loop_through k rest E S F f.0 f.1 f.2 (ℕ_discrete f.0 k)
loop_next k rest E S F g s (no n) = rest E S (fed_below E S k F n) g s

pub loop_in : (k : ℕ) → LoopBelow k
loop_in zero E S F g s = absurd (not-suc-le-zero (F.bounded g s))
loop_in (suc k) E S F g s = loop_next k (loop_in k) E S F g s (F.decided k)
