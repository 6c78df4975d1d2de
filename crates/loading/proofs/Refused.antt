-- Refusals of 1 to 9, which every call passes on with the lent memory unchanged.
-- Assumes nothing.
use mathlib.Core.Path.{◌≡◌, refl, sym, ap, subst}
use mathlib.Core.List.{List, ◌∷◌}
use Prim.Native.Nat.{ℕ, suc}
use native.Mathlib.Omega.{arith}
use lib.ListN.{length, get_or}
use Rattle.std.specs.Prelude.{Result, IsErrAnd}
use Rattle.std.proofs.lemmas.Result.{err_from_is_err_and}
use Rattle.model.specs.declared.Refusal.{Refusal}
use Rattle.model.specs.declared.Refusal.TheVariants.{Short, Tag, Length, Range, Drops, Wire, Excess, Loop, Ends, Room, NotSeriesParallel, Late, Widths, PathLate, Unreached}
use Rattle.model.specs.Block.{Block}
use Rattle.model.specs.Refusal.{IllFormed}
use Rattle.model.specs.Answer.{Answer, accepted, refusal, refusal_answer, answer_of, Outcome, Judged, ill_formed}
use Rattle.model.specs.Limits.{max_wires}
use Rattle.blockfile.specs.Held.{WireArrays, WireRoom}
use Rattle.loading.specs.Loads.{number_of, place_of}

-- a refusal's answer has a number other than 0, and one value
pub refusal_numbered : (x : Refusal) → (k : ℕ) × (p : ℕ) × (refusal_answer x ≡ refusal (suc k) p)
refusal_numbered (Short o) = (0, o, refl)
refusal_numbered (Tag o) = (1, o, refl)
refusal_numbered (Length o) = (2, o, refl)
refusal_numbered (Range o) = (3, o, refl)
refusal_numbered (Drops o) = (4, o, refl)
refusal_numbered (Wire o) = (5, o, refl)
refusal_numbered (Excess o) = (6, o, refl)
refusal_numbered (Loop g) = (7, g, refl)
refusal_numbered (Ends g) = (8, g, refl)
refusal_numbered (Room n) = (9, n, refl)
refusal_numbered (NotSeriesParallel g) = (10, g, refl)
refusal_numbered Late = (11, 0, refl)
refusal_numbered (Widths g) = (12, g, refl)
refusal_numbered PathLate = (13, 0, refl)
refusal_numbered Unreached = (16, 0, refl)

-- it is its number and its place
pub refusal_is : (x : Refusal) → refusal_answer x ≡ refusal (number_of x) (place_of x)
refusal_is x = let (k, p, e) = refusal_numbered x in subst (λ (a : Answer). a ≡ refusal a.number (get_or a.values 0 0)) (sym e) refl

-- a refusal has one value: an accepted answer with two or more is none
pub not_refused : {A : Type 0} {a b k p : ℕ} {vs : List ℕ} → accepted (a ∷ b ∷ vs) ≡ refusal k p → A
not_refused e = let values = ap (λ (x : Answer). length x.values) e in absurd (omega arith)

pub passed_on : {S : Type 0} {file : List ℕ} {lent : S} {further : Block → Outcome S → Type 0} (x : Refusal)
    → IllFormed file (number_of x) (place_of x)
    → Judged file lent further (record { answer = refusal_answer x; memory = lent })
passed_on {lent = lent} x ill =
    ill_formed (number_of x) (place_of x) ill (ap (λ (a : Answer). record { answer = a; memory = lent }) (refusal_is x))

-- the same of what a call hands up by `?`
pub passed_up : {S A : Type 0} {file : List ℕ} {lent : S} {further : Block → Outcome S → Type 0} (values : A → List ℕ) (r : Result A Refusal) (x : Refusal)
    → IsErrAnd r (λ (y : Refusal). y ≡ x)
    → IllFormed file (number_of x) (place_of x)
    → Judged file lent further (record { answer = answer_of values r; memory = lent })
passed_up values r x is ill = let e = err_from_is_err_and r is in rw (e.1, e.2) (passed_on x ill)

-- room for every wire, from the lengths of the calls' own arrays
pub wire_room : {W : WireArrays} → length W.sources ≡ max_wires → length W.targets ≡ max_wires → length W.delays ≡ max_wires → WireRoom W
wire_room s t d = record { sources = omega arith; targets = omega arith; delays = omega arith }
