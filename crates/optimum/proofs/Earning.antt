-- Every tick that has been handed out is worth something: so no gate is slowed beyond its steps, and none without gain.
-- Assumes nothing.
use mathlib.Core.Path.{◌≡◌}
use Prim.Native.Nat.{ℕ, ◌+◌, ◌-◌, ◌<◌}
use native.Mathlib.Decide.{dec_lt}
use native.Mathlib.Omega.{arith}
use Rattle.optimum.specs.Tree.{wire, series, parallel, Tree, St, next, to_left, to_gate, to_right, Side, stays, gets, Given, Run, done, ended, more, Raised}

module _ (v : ℕ → ℕ → ℕ) where
  -- every tick given is worth something
  abbrev pub Earning : (t : Tree) → St t → Type 0
  Earning (wire w) s = Unit {0}
  Earning (series P m Q) s = Earning P s.0 × ((i : ℕ) → i < s.1 → 0 < v m i) × Earning Q s.2
  Earning (parallel P Q) s = Earning P s.0 × Earning Q s.1

  gate_earning : (f : ℕ → ℕ) (k w : ℕ) → ((i : ℕ) → i < k → 0 < f i) → ((i : ℕ) → i < w → f (k + i) ≡ f k) → 0 < f k → (i : ℕ) → i < k + w → 0 < f i
  gate_earning f k w before alike pos i l = go (dec_lt i k)
    where
      go : Dec (i < k) → 0 < f i
      go (yes h) = before i h
      go (no h) =
          let e : k + (i - k) ≡ i = omega arith in
          let m = alike (i - k) (omega arith) in
          let m' : f i ≡ f k = rw e at m in
          omega arith

  side_earning : (t : Tree) (w : ℕ) (s s' : St t) → Earning t s → (0 < next v t s → Given v t w s s' → Earning t s')
      → Side (next v t s) (s' ≡ s) (Given v t w s s') → Earning t s'
  side_earning t w s s' e go (stays z same) = rw same e
  side_earning t w s s' e go (gets pos g) = go pos g

  given_earning : (t : Tree) (w : ℕ) (s s' : St t) → 0 < next v t s → Earning t s → Given v t w s s' → Earning t s'
  given_earning (wire l) w s s' pos e g = tt
  given_earning (series P m Q) w s s' pos e (to_left mp qp (g, em, eq)) =
      (given_earning P w s.0 s'.0 (omega arith) e.0 g, rw em e.1, rw eq e.2)
  given_earning (series P m Q) w s s' pos e (to_gate pm qm (ep, em, eq, alike)) =
      (rw ep e.0, rw em (gate_earning (v m) s.1 w e.1 alike (omega arith)), rw eq e.2)
  given_earning (series P m Q) w s s' pos e (to_right pq mq (ep, em, g)) =
      (rw ep e.0, rw em e.1, given_earning Q w s.2 s'.2 (omega arith) e.2 g)
  given_earning (parallel P Q) w s s' pos e (gp, gq) = (
    side_earning P w s.0 s'.0 e.0 (λ h. given_earning P w s.0 s'.0 h e.0) gp,
    side_earning Q w s.1 s'.1 e.1 (λ h. given_earning Q w s.1 s'.1 h e.1) gq,
  )

  pub run_earning : (t : Tree) (k : ℕ) (r s : St t) → Earning t r → Run v t k r s → Earning t s
  run_earning t k r s e done = e
  run_earning t k r s e (ended z) = e
  run_earning t k r s e (more w {k = j} {s' = u} pos worth g rest) =
      run_earning t j u s (given_earning t w r u worth e g) rest

  pub raised_earning : (d : ℕ → ℕ) (t : Tree) (s : St t) → Raised d v t s → Earning t s
  raised_earning d (wire w) s r = tt
  raised_earning d (series P m Q) s (p, z, q) =
      (raised_earning d P s.0 p, λ i l. absurd (omega arith), raised_earning d Q s.2 q)
  raised_earning d (parallel P Q) s (p, q, hp, hq, runP, runQ) = (
    run_earning P _ p s.0 (raised_earning d P p hp) runP,
    run_earning Q _ q s.1 (raised_earning d Q q hq) runQ,
  )
