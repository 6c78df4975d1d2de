-- The fault of a field in two parts: what header and length show, and, where they show nothing, what the numbers do.
-- Assumes nothing.
use mathlib.Core.Path.{◌≡◌, refl, ◌∙◌, ap}
use mathlib.Core.Bool.{Bool, true, false}
use mathlib.Core.List.{List}
use Prim.Native.Nat.{ℕ}
use native.Mathlib.Omega.{arith}
use lib.Dec.{eqb}
use lib.ListN.{length}
use Rattle.model.specs.declared.Field.{Field}
use Rattle.model.specs.declared.Field.TheVariants.{NoHeader, NoBody, Whole}
use Rattle.model.specs.File.{Due, Value, tag_of, length_fits, says, in_range, drops_fall, is_fresh, unless, fault_of}
use Rattle.std.specs.Prelude.{Result, Ok, Err}
use Rattle.std.specs.Result.{IsErrAnd}
use Rattle.faults.specs.declared.Fault.{Fault}
use Rattle.faults.specs.declared.Fault.TheVariants.{Short, Tag, Length, Range, Drops, Wire}
use Rattle.faults.specs.Number.{number_of, fault_number}
use Rattle.faults.specs.Shape.{shape_of}

-- range (4), drops (5), wire (6)
abbrev content_of : (k : Due) → Value k → ℕ
content_of k v = unless (in_range k v) 4 (unless (drops_fall k v) 5 (unless (is_fresh k v) 6 0))

last_of : (t f : Bool) → unless t 2 (unless f 3 1) ≡ 0 → ⊥
last_of true true e = omega arith
last_of true false e = omega arith
last_of false f e = omega arith

passed : (t f : Bool) (c : ℕ) → unless t 2 (unless f 3 0) ≡ 0 → unless t 2 (unless f 3 c) ≡ c
passed true true c e = refl
passed true false c e = absurd (omega arith)
passed false f c e = absurd (omega arith)

-- where the shape has no fault, the numbers decide ..
pub shape_passes : (k : Due) (f : Field) (b : List ℕ) → shape_of k f (length b) ≡ 0 → fault_of k f b ≡ content_of k (says k b)
shape_passes k NoHeader b e = absurd (omega arith)
shape_passes k (NoBody tag len) b e = absurd (last_of (eqb tag (tag_of k)) (length_fits k len) e)
shape_passes k (Whole tag x y) b e = passed (eqb tag (tag_of k)) (length_fits k (length b)) (content_of k (says k b)) e

stays : (t f : Bool) (c : ℕ) → (unless t 2 (unless f 3 0) ≡ 0 → ⊥) → unless t 2 (unless f 3 0) ≡ unless t 2 (unless f 3 c)
stays true true c n = absurd (n refl)
stays true false c n = refl
stays false f c n = refl

-- .. and where it has one, that is the field's
shape_fails : (k : Due) (f : Field) (b : List ℕ) → (shape_of k f (length b) ≡ 0 → ⊥) → shape_of k f (length b) ≡ fault_of k f b
shape_fails k NoHeader b n = refl
shape_fails k (NoBody tag len) b n = refl
shape_fails k (Whole tag x y) b n = stays (eqb tag (tag_of k)) (length_fits k (length b)) (content_of k (says k b)) n

-- a fault has another number than 0
pub not_0 : (e : Fault) → number_of e ≡ 0 → ⊥
not_0 Short z = omega arith
not_0 Tag z = omega arith
not_0 Length z = omega arith
not_0 Range z = omega arith
not_0 Drops z = omega arith
not_0 Wire z = omega arith

-- the same for a fault that is passed on
pub shape_passed_on : (k : Due) (f : Field) (b : List ℕ) (e : Fault) (r : Result (Unit {0}) Fault) → IsErrAnd r (λ (x : Fault). x ≡ e) → number_of e ≡ shape_of k f (length b) → fault_number r ≡ fault_of k f b
shape_passed_on k f b e (Ok x) i n = absurd i
shape_passed_on k f b e (Err x) i n =
    ap number_of i ∙ n ∙ shape_fails k f b (λ (z : shape_of k f (length b) ≡ 0). not_0 e (n ∙ z))
