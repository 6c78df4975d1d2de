-- A call has one outcome at most: two outcomes that its table allows are equal, the answer, the place and every element afterwards.
-- With it a promise that names the table settles everything; `answers_best_unique` is what makes the best increases and their saving unique.
-- Assumes nothing.
use mathlib.Core.Path.{◌≡◌, sym, ◌∙◌, subst}
use mathlib.Core.Logic.{◌⊎◌, inl, inr}
use mathlib.Core.List.{List}
use Prim.Native.Nat.{ℕ, ◌<◌}
use native.Mathlib.Omega.{arith}
use lib.IntN.{ℤ}
use Rattle.lists.specs.Search.{Lowest}
use Rattle.lists.proofs.Compare.{compared}
use Rattle.model.specs.Block.{Block}
use Rattle.model.specs.File.{Reading, found, refused}
use Rattle.model.specs.Refusal.{OnLoop, EndFault, WellFormed, IllFormed, unread, loop, ends}
use Rattle.model.specs.Layout.{GivesLayout, laid, AnswersLayout}
use Rattle.model.specs.Answer.{Outcome, Line, fits, passes, At, Judged, ill_formed, well_formed, Gives, NotSeriesParallelAt, Slices, GivesCurve, curve, GivesBest, best, SizingLines, GivesTicks, fewest, AnswersSlacks, AnswersJudge, AnswersCurve, AnswersBest, AnswersTicks}
use Rattle.model.proofs.Best.{best_unique}
use Rattle.model.proofs.Curve.{curve_unique}

pub lowest_unique : {P : ℕ → Type 0} (q r : ℕ) → Lowest P q → Lowest P r → q ≡ r
lowest_unique q r a b = by (compared q r)
  where
    by : (q < r) ⊎ (q ≡ r) ⊎ (r < q) → q ≡ r
    by (inl l) = absurd (b.none_below q l a.holds)
    by (inr (inl e)) = e
    by (inr (inr l)) = absurd (a.none_below r l b.holds)

at_unique : {n : ℕ} {when : Type 0} (p q : ℕ) → At n when p → At n when q → p ≡ q
at_unique p q a b = a.0 ∙ sym b.0

pub eleven_unique : {B : Block} (p q : ℕ) → NotSeriesParallelAt B p → NotSeriesParallelAt B q → p ≡ q
eleven_unique p q a b = lowest_unique p q a.1 b.1

same_block : {r : Reading Block} {B C : Block} {o p : ℕ} → r ≡ found B o → r ≡ found C p → B ≡ C
same_block e q = cc

pub not_both : {r : Reading Block} {B : Block} {o k p : ℕ} → r ≡ found B o → r ≡ refused k p → ⊥
not_both e q = let z : ◌≡◌ {A = ℕ} 0 1 = cc in omega arith

-- what is said of the block that a file holds is said of every block that it holds
pub carried : {r : Reading Block} {B C : Block} {o p : ℕ} (P : Block → Type 0) → r ≡ found B o → r ≡ found C p → P B → P C
carried P e q h = subst P (same_block e q) h

-- a file that holds a well-formed block is not refused
pub well_not_ill : {file : List ℕ} {B : Block} {k p : ℕ} → WellFormed file B → IllFormed file k p → ⊥
well_not_ill w (unread e) = not_both w.reads e
well_not_ill {p = p} w (loop C o e low k) =
    w.network.no_loop p (carried (λ (X : Block). OnLoop X p) e w.reads low.holds)
well_not_ill {p = p} w (ends C o e acyclic low k) =
    w.network.ends p (carried (λ (X : Block). EndFault X p) e w.reads low.holds)

pub ill_unique : {file : List ℕ} {k p l q : ℕ} → IllFormed file k p → IllFormed file l q → (k ≡ l) × (p ≡ q)
ill_unique (unread e) (unread f) = (cc, cc)
ill_unique (unread e) (loop C o f low m) = absurd (not_both f e)
ill_unique (unread e) (ends C o f acyclic low m) = absurd (not_both f e)
ill_unique (loop B o e low k) (unread f) = absurd (not_both e f)
ill_unique {p = p} {q = q} (loop B o e low k) (loop C n f lowest m) =
    (k ∙ sym m, lowest_unique p q (carried (λ (X : Block). Lowest (OnLoop X) p) e f low) lowest)
ill_unique {p = p} (loop B o e low k) (ends C n f acyclic lowest m) =
    absurd (acyclic p (carried (λ (X : Block). OnLoop X p) e f low.holds))
ill_unique (ends B o e acyclic low k) (unread f) = absurd (not_both e f)
ill_unique {q = q} (ends B o e acyclic low k) (loop C n f lowest m) =
    absurd (acyclic q (carried (λ (X : Block). OnLoop X q) f e lowest.holds))
ill_unique {p = p} {q = q} (ends B o e acyclic low k) (ends C n f also lowest m) =
    (k ∙ sym m, lowest_unique p q (carried (λ (X : Block). Lowest (EndFault X) p) e f low) lowest)

-- two outcomes that are allowed are equal
abbrev pub Unique : {S : Type 0} → (Outcome S → Type 0) → Type 0
Unique {S} allowed = (o q : Outcome S) → allowed o → allowed q → o ≡ q

pub line_unique : {S : Type 0} {lent : S} {k : ℕ} {when : ℕ → Type 0} {further : Outcome S → Type 0}
    → ((p q : ℕ) → when p → when q → p ≡ q)
    → Unique further
    → Unique (Line lent k when further)
line_unique place rest o q (fits p a e) (fits r b f) = let same = place p r a b in cc
line_unique place rest o q (fits p a e) (passes n further) = absurd (n p a)
line_unique place rest o q (passes n further) (fits r b f) = absurd (n r b)
line_unique place rest o q (passes n further) (passes m more) = rest o q further more

pub judged_unique : {S : Type 0} {file : List ℕ} {lent : S} {further : Block → Outcome S → Type 0}
    → ((B : Block) → Unique (further B))
    → Unique (Judged file lent further)
judged_unique rest o q (ill_formed k p a e) (ill_formed l r b f) = let same = ill_unique a b in cc
judged_unique rest o q (ill_formed k p a e) (well_formed C w b) = absurd (well_not_ill w a)
judged_unique rest o q (well_formed B w a) (ill_formed l r b f) = absurd (well_not_ill w b)
judged_unique {further = further} rest o q (well_formed B w a) (well_formed C v b) =
    rest C o q (carried (λ (X : Block). further X o) w.reads v.reads a) b

gives_unique : {S : Type 0} {values : List ℕ} {after : S} → Unique (Gives values after)
gives_unique o q a b = a ∙ sym b

pub answers_slacks_unique : (file : List ℕ) (lent : List ℤ) → Unique (AnswersSlacks file lent)
answers_slacks_unique file lent = judged_unique (λ (B : Block). line_unique at_unique gives_unique)

pub answers_judge_unique : (file lent : List ℕ) → Unique (AnswersJudge file lent)
answers_judge_unique file lent =
    judged_unique (λ (B : Block). line_unique at_unique (line_unique lowest_unique (line_unique at_unique gives_unique)))

gives_curve_unique : {B : Block} {lent : Slices} → Unique (GivesCurve B lent)
gives_curve_unique {B} o q (curve s a ps sp c e) (curve t b qs sq d f) =
    let same = curve_unique B s t a b ps qs c d in
    let start = same.0 in
    let saved = same.1 in
    let pairs = same.2 in
    cc

pub answers_curve_unique : (file : List ℕ) (lent : Slices) → Unique (AnswersCurve file lent)
answers_curve_unique file lent =
    judged_unique
    (λ (B : Block). line_unique at_unique (line_unique at_unique (line_unique eleven_unique gives_curve_unique)))

sizing_unique : {S : Type 0} {B : Block} {lent : S} {given : Outcome S → Type 0} → Unique given → Unique (SizingLines B lent given)
sizing_unique given = line_unique eleven_unique (line_unique at_unique given)

gives_best_unique : {B : Block} {lent : List ℕ} → Unique (GivesBest B lent)
gives_best_unique {B} o q (best x sp a e) (best y sq b f) = let same = best_unique B x y a b in cc

pub answers_best_unique : (file lent : List ℕ) → Unique (AnswersBest file lent)
answers_best_unique file lent =
    judged_unique (λ (B : Block). line_unique at_unique (sizing_unique gives_best_unique))

gives_layout_unique : {B : Block} {lent : List ℕ} → Unique (GivesLayout B lent)
gives_layout_unique {B} o q (laid x sp a e) (laid y sq b f) = let same = best_unique B x y a b in cc

pub answers_layout_unique : (file lent : List ℕ) → Unique (AnswersLayout file lent)
answers_layout_unique file lent =
    judged_unique (λ (B : Block). line_unique at_unique (sizing_unique gives_layout_unique))

gives_ticks_unique : {B : Block} {wanted : ℕ} → Unique (GivesTicks B wanted)
gives_ticks_unique o q (fewest j sp a e) (fewest k sq b f) = let same = lowest_unique j k a b in cc

pub answers_ticks_unique : (file : List ℕ) (wanted : ℕ) → Unique (AnswersTicks file wanted)
answers_ticks_unique file wanted =
    judged_unique (λ (B : Block). line_unique eleven_unique (line_unique at_unique gives_ticks_unique))
