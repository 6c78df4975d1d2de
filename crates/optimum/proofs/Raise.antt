-- The raised start lasts as long as no increase, and is priced at every number from the worth of its next tick on. The shorter side of a parallel part is priced at what its last ticks were worth, the longer side, which got none, at all the rest.
-- Assumes nothing.
use mathlib.Core.Path.{◌≡◌, refl}
use mathlib.Core.Logic.{◌⊎◌, inl, inr}
use Prim.Native.Nat.{ℕ, suc, ◌+◌, ◌-◌, ◌≤◌, ◌<◌}
use native.Mathlib.Nat.{le_refl}
use native.Mathlib.Decide.{dec_le}
use native.Mathlib.Omega.{arith}
use Rattle.optimum.specs.Tree.{wire, series, parallel, Tree, St, zeros, longest, next, Given, Run, done, ended, more, Raised, Priced}
use Rattle.optimum.proofs.Tick.{lower, next_at_most_price, ticked}

-- a run of no tick changes nothing
no_run : (v : ℕ → ℕ → ℕ) (t : Tree) (k : ℕ) (r s : St t) → Run v t k r s → k ≡ 0 → s ≡ r
no_run v t k r s done e = refl
no_run v t k r s (ended z) e = refl
no_run v t k r s (more w pos worth g rest) e = absurd (omega arith)

module _ (d : ℕ → ℕ) (v : ℕ → ℕ → ℕ) (falls : (g k : ℕ) → v g (suc k) ≤ v g k) where
  -- The invariant of handing out: a part is priced at what its next tick is worth.
  abbrev pub Good : (t : Tree) → St t → Type 0
  Good t s = Priced d v t s (next v t s)

  pub given_good : (t : Tree) (w : ℕ) (s s' : St t) → 0 < next v t s → Good t s → Given v t w s s' → Good t s'
  given_good t w s s' pos good g =
      let r = ticked d v falls t w s s' (next v t s) refl pos good g in
      lower d v t s' (next v t s) (next v t s') r.priced (le_refl _) (next_at_most_price d v t s' (next v t s) r.priced)

  -- what k ticks, or fewer where nothing more is to be gained, do to a good part
  pub record Ran (t : Tree) (k : ℕ) (r s : St t) : Type 0 where
    pub good : Good t s
    pub length : (longest d t s ≡ longest d t r + k) ⊎ (next v t s ≡ 0)
    pub at_most : longest d t s ≤ longest d t r + k

  further : (t : Tree) (w k : ℕ) (r s u : St t) → longest d t s ≡ longest d t r + w → Ran t k s u → Ran t (w + k) r u
  further t w k r s u e ran = record { good = ran.good; length = go ran.length; at_most = omega (arith, ran.at_most) }
    where
      go : (longest d t u ≡ longest d t s + k) ⊎ (next v t u ≡ 0) → (longest d t u ≡ longest d t r + (w + k)) ⊎ (next v t u ≡ 0)
      go (inl l) = inl (omega arith)
      go (inr z) = inr z

  pub run_good : (t : Tree) (k : ℕ) (r s : St t) → Good t r → Run v t k r s → Ran t k r s
  run_good t k r s good done = record { good = good; length = inl (omega arith); at_most = omega arith }
  run_good t k r s good (ended z) = record { good = good; length = inr z; at_most = omega arith }
  run_good t k r s good (more w {k = j} {s' = u} pos worth g rest) =
      further t w j r u s (ticked d v falls t w r u (next v t r) refl worth good g).longer
      (run_good t j u s (given_good t w r u worth good g) rest)

  pub record Raise (t : Tree) (s : St t) : Type 0 where
    pub length : longest d t s ≡ longest d t (zeros t)
    pub priced : (c : ℕ) → next v t s ≤ c → Priced d v t s c

  -- A short and a long side, raised: the short one is as long as the long one, or has nothing more to gain; the long one is as it was.
  record Evened (S L : Tree) (s : St S) (l : St L) : Type 0 where
    short_good : Good S s
    length : (longest d L l ≤ longest d S s) ⊎ (next v S s ≡ 0)
    at_most : longest d S s ≤ longest d L l
    long : Raise L l
    shorter : longest d S (zeros S) ≤ longest d L (zeros L)

  evened : (S L : Tree) (s₀ s : St S) (l₀ l : St L) → Raise S s₀ → Raise L l₀ → longest d S (zeros S) ≤ longest d L (zeros L)
      → Run v S (longest d L (zeros L) - longest d S (zeros S)) s₀ s → Run v L (longest d S (zeros S) - longest d L (zeros L)) l₀ l
      → Evened S L s l
  evened S L s₀ s l₀ l short long h runS runL =
      record {
        short_good = ran.good;
        length = go ran.length;
        at_most = omega (arith, ran.at_most, short.length, long'.length);
        long = long';
        shorter = h;
      }
    where
      ran : Ran S (longest d L (zeros L) - longest d S (zeros S)) s₀ s
      ran = run_good S _ s₀ s (short.priced _ (le_refl _)) runS

      long' : Raise L l
      long' = rw (no_run v L _ l₀ l runL (omega arith)) long

      go : (longest d S s ≡ longest d S s₀ + (longest d L (zeros L) - longest d S (zeros S))) ⊎ (next v S s ≡ 0)
          → (longest d L l ≤ longest d S s) ⊎ (next v S s ≡ 0)
      go (inl e) = inl (omega (arith, short.length, long'.length))
      go (inr z) = inr z

  -- a side as long as the longer one is as long as the whole
  as_whole : (own other whole : ℕ) {End : Type 0} → whole ≤ other → (other ≤ own) ⊎ End → (whole ≤ own) ⊎ End
  as_whole own other whole h (inl e) = inl (omega arith)
  as_whole own other whole h (inr z) = inr z

  raised_sides : (P Q : Tree) (s : St (parallel P Q)) → Evened P Q s.0 s.1 ⊎ Evened Q P s.1 s.0 → Raise (parallel P Q) s
  raised_sides P Q s (inl e) =
      let m = e.at_most in
      record {
        length = omega (arith, e.long.length, e.shorter);
        priced = λ c h. (
          next v P s.0,
          c - next v P s.0,
          omega arith,
          e.short_good,
          e.long.priced _ (omega arith),
          as_whole _ _ _ (omega arith) e.length,
          inl (omega arith),
        );
      }
  raised_sides P Q s (inr e) =
      let m = e.at_most in
      record {
        length = omega (arith, e.long.length, e.shorter);
        priced = λ c h. (
          c - next v Q s.1,
          next v Q s.1,
          omega arith,
          e.long.priced _ (omega arith),
          e.short_good,
          inl (omega arith),
          as_whole _ _ _ (omega arith) e.length,
        );
      }

  raised_parallel : (P Q : Tree) (s : St (parallel P Q)) (p : St P) (q : St Q) → Raise P p → Raise Q q
      → Run v P (longest d Q (zeros Q) - longest d P (zeros P)) p s.0 → Run v Q (longest d P (zeros P) - longest d Q (zeros Q)) q s.1
      → Raise (parallel P Q) s
  raised_parallel P Q s p q rp rq runP runQ = raised_sides P Q s (go (dec_le _ _))
    where
      go : Dec (longest d P (zeros P) ≤ longest d Q (zeros Q)) → Evened P Q s.0 s.1 ⊎ Evened Q P s.1 s.0
      go (yes l) = inl (evened P Q p s.0 q s.1 rp rq l runP runQ)
      go (no l) = inr (evened Q P q s.1 p s.0 rq rp (omega arith) runQ runP)

  pub raised : (t : Tree) (s : St t) → Raised d v t s → Raise t s
  raised (wire w) s h = record { length = refl; priced = λ c n. tt }
  raised (series P m Q) s (p, z, q) =
      let rp = raised P s.0 p in
      let rq = raised Q s.2 q in
      record {
        length = omega (arith, rp.length, rq.length);
        priced = λ c n. (rp.priced c (omega arith), omega arith, λ i l. absurd (omega arith), rq.priced c (omega arith));
      }
  raised (parallel P Q) s (p, q, hp, hq, runP, runQ) = raised_parallel P Q s p q (raised P p hp) (raised Q q hq) runP runQ
