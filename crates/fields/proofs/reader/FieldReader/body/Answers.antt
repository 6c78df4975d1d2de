-- `fields::reader::FieldReader::body` meets its contract: what `field` found says where the body begins and ends, and that it ends within the file.
-- Assumes nothing.
use mathlib.Core.Path.{◌≡◌, refl, sym, ◌∙◌}
use mathlib.Core.List.{List}
use Prim.Native.Nat.{ℕ, ◌+◌, ◌-◌, ◌≤◌}
use native.Mathlib.Omega.{arith}
use lib.ListN.{length, take, drop, length-take, length-drop}
use denote.Ref.{Bor}
use Rattle.model.proofs.Fields.{whole_is}
use Rattle.fields.specs.Body.{PartOf}
use Rattle.fields.proofs.reader.FieldReader.body.Goals as goal

-- bytes of the file from a to b, where both lie in it, end at b
part : (file : Bor (List ℕ)) (a b : ℕ) (r : Bor (List ℕ)) → a ≤ b → b ≤ length file.now → r.now ≡ take (b - a) (drop a file.now) → r.ref_ptr.0 ≡ file.ref_ptr.0 → r.ref_ptr.1 ≡ a + file.ref_ptr.1
    → PartOf file a b r
part file a b r h k e m p = record { bytes = e; memory = m; begins = p; ends = rw (e, length-take, length-drop) (omega arith) }

pub slice_bounds-result-count : goal.slice_bounds-result-count
slice_bounds-result-count c = let h = whole_is _ _ (sym c.field.ensures ∙ c.in-Whole.is) in omega arith

pub slice_bounds-result-start : goal.slice_bounds-result-start
slice_bounds-result-start c = let h = whole_is _ _ (sym c.field.ensures ∙ c.in-Whole.is) in omega arith

pub slice_bounds-result-end : goal.slice_bounds-result-end
slice_bounds-result-end c = (whole_is _ _ (sym c.field.ensures ∙ c.in-Whole.is)).inside

pub returns-in-Whole : goal.returns-in-Whole
returns-in-Whole c =
    let e = sym c.field.ensures ∙ c.in-Whole.is in
    let w = whole_is _ _ e in
    rw e (part _ _ _ _ (omega (arith, w.from_is, w.to_is)) w.inside refl refl refl)
