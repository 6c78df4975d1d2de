-- Laws of the tables of refusals (`Judged` and `Line` of model): which line an outcome comes from, by what holds of the file and the lent slices.
-- Assumes nothing.
use mathlib.Core.Path.{◌≡◌, refl, sym, ◌∙◌, ap, subst}
use mathlib.Core.Logic.{◌↔◌}
use mathlib.Core.List.{List}
use Prim.Native.Nat.{ℕ, ◌≤◌, ◌<◌}
use native.Mathlib.Omega.{arith}
use lib.ListN.{get_or}
use Rattle.model.specs.Block.{Block}
use Rattle.model.specs.Part.{SeriesParallel}
use Rattle.model.specs.Netlist.{block_of}
use Rattle.model.specs.File.{found, decode, read_block}
use Rattle.model.specs.Refusal.{WellFormed, IllFormed, unread, loop, ends}
use Rattle.model.specs.Answer.{Answer, Outcome, refusal, Line, fits, passes, At, Judged, ill_formed, well_formed, NotSeriesParallelAt}
use Rattle.model.proofs.Reading.{made_refused}
use Rattle.model.proofs.Place.{refused_at_fault, at_fault_number}
use Rattle.model.proofs.Answer.{not_both, carried, well_not_ill}

-- answers with different numbers
pub apart : {a b : Answer} → a ≡ b → ¬ (a.number ≡ b.number) → ⊥
apart e d = d (ap (λ (a : Answer). a.number) e)

-- the refusals that every call has in common are numbered 1 to 9
pub ill_formed_number : (file : List ℕ) {k p : ℕ} → IllFormed file k p → (1 ≤ k) × (k ≤ 9)
unfolding read_block
ill_formed_number file (unread e) =
    let n = at_fault_number (refused_at_fault file (made_refused (decode file) block_of e)) in
    (n.0, let most = n.1 in omega arith)
ill_formed_number file (loop B o e low is) = (omega arith, omega arith)
ill_formed_number file (ends B o e none low is) = (omega arith, omega arith)

-- files that hold the same block are ill-formed alike
alike : {s t : List ℕ} {B : Block} {m n k p : ℕ} → read_block s ≡ found B m → read_block t ≡ found B n → IllFormed s k p → IllFormed t k p
alike x y (unread e) = absurd (not_both x e)
alike {t = t} {n = n} x y (loop C o e low is) = loop C n (carried (λ (X : Block). read_block t ≡ found X n) x e y) low is
alike {t = t} {n = n} x y (ends C o e none low is) = ends C n (carried (λ (X : Block). read_block t ≡ found X n) x e y) none low is

module _ {S : Type 0} {lent : S} {o : Outcome S} where
  -- .. and have the same outcomes
  pub same_outcomes : {s t : List ℕ} {B : Block} {m n : ℕ} (further : Block → Outcome S → Type 0) → read_block s ≡ found B m → read_block t ≡ found B n → Judged s lent further o → Judged t lent further o
  same_outcomes further x y (ill_formed k p i e) = ill_formed k p (alike x y i) e
  same_outcomes {t = t} {n = n} further x y (well_formed C w f) =
      well_formed C (record { end = n; reads = carried (λ (X : Block). read_block t ≡ found X n) x w.reads y; network = w.network }) f

  -- of a well-formed file the further lines decide, for its own block
  pub own_lines : {file : List ℕ} {B : Block} (further : Block → Outcome S → Type 0) → WellFormed file B → Judged file lent further o → further B o
  own_lines further well (ill_formed k p i e) = absurd (well_not_ill well i)
  own_lines further well (well_formed C w f) = carried (λ (X : Block). further X o) w.reads well.reads f

  -- a line that fits no place is passed
  pub passed : {k : ℕ} {when : ℕ → Type 0} {further : Outcome S → Type 0} → ((p : ℕ) → ¬ (when p)) → Line lent k when further o → further o
  passed none (fits p w e) = absurd (none p w)
  passed none (passes n f) = f

  -- a slice that is long enough passes the line of 10
  pub roomy : {long needed : ℕ} {further : Outcome S → Type 0} → needed ≤ long → Line lent 10 (At needed (long < needed)) further o → further o
  roomy enough = passed (λ p s. let short = s.1 in omega arith)

  -- a line that fits decides
  pub decided : {k place : ℕ} {when : Type 0} {further : Outcome S → Type 0} → when → Line lent k (At place when) further o
      → o ≡ record { answer = refusal k place; memory = lent }
  decided {k} h (fits p (z, w) e) = e ∙ ap (λ (q : ℕ). record { answer = refusal k q; memory = lent }) z
  decided {place = place} h (passes n f) = absurd (n place (refl, h))

  -- A line with a place is answered exactly where it fits, if it fits one place at most and no further line has its number.
  pub answered_at : {k : ℕ} {when : ℕ → Type 0} {further : Outcome S → Type 0} → ((p q : ℕ) → when p → when q → p ≡ q) → (further o → ¬ (o.answer.number ≡ k)) → Line lent k when further o
      → (p : ℕ) → (o.answer ≡ refusal k p) ↔ when p
  answered_at {when = when} one other (fits q w e) p = (
    λ is. subst when (ap (λ (a : Answer). get_or a.values 0 0) (sym (ap (λ o. o.answer) e) ∙ is)) w,
    λ v. ap (λ o. o.answer) e ∙ ap (refusal _) (one q p w v),
  )
  answered_at one other (passes n f) p = (λ is. absurd (other f (ap (λ (a : Answer). a.number) is)), λ v. absurd (n p v))

  -- 11 is answered exactly where the block is not series-parallel, if the further lines are for series-parallel blocks and do not answer it.
  pub eleven_line : {B : Block} {further : Outcome S → Type 0} → (further o → (¬ (o.answer.number ≡ 11)) × SeriesParallel B) → Line lent 11 (NotSeriesParallelAt B) further o
      → ((p : ℕ) × (o.answer ≡ refusal 11 p)) ↔ ¬ (SeriesParallel B)
  eleven_line other (fits p w e) = (λ is. w.0, λ unfit. (p, ap (λ o. o.answer) e))
  eleven_line other (passes n f) = (λ (p, is). absurd ((other f).0 (ap (λ (a : Answer). a.number) is)), λ unfit. absurd (unfit (other f).1))

-- A line with the number k behind that of 11, for series-parallel blocks, and then what is given, which is accepted and of such a block: 11 does not come there, and k comes exactly where its line fits.
module _ {S : Type 0} {B : Block} {lent : S} {given : Outcome S → Type 0} {o : Outcome S} {k : ℕ} {when : Type 0} (later : 11 < k) (accepts : given o → (o.answer.number ≡ 0) × SeriesParallel B) where
  pub after_eleven : Line lent k (At 0 (SeriesParallel B × when)) given o → (¬ (o.answer.number ≡ 11)) × SeriesParallel B
  after_eleven (fits p (z, w) e) = (λ q. let is = ap (λ o. o.answer.number) e in omega arith, w.0)
  after_eleven (passes n g) = let (none, sp) = accepts g in (λ q. omega arith, sp)

  pub behind_eleven_exactly : Line lent 11 (NotSeriesParallelAt B) (Line lent k (At 0 (SeriesParallel B × when)) given) o → (o.answer ≡ refusal k 0) ↔ (SeriesParallel B × when)
  behind_eleven_exactly (fits p (none, low) e) = (λ q. absurd (apart (sym (ap (λ o. o.answer) e) ∙ q) (λ same. omega arith)), λ w. absurd (none w.0))
  behind_eleven_exactly (passes n (fits p (z, w) e)) = (λ q. w, λ v. ap (λ o. o.answer) e ∙ ap (refusal k) z)
  behind_eleven_exactly (passes n (passes m g)) =
      (λ q. let a = ap (λ (a : Answer). a.number) q in let none = (accepts g).0 in absurd (omega arith), λ w. absurd (m 0 (refl, w)))
