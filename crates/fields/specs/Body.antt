-- The body of a field as the caller's own bytes (document 01: "A field's body is handed back as the caller's own bytes, and the promise says which ones").
use Rattle.std.specs.Prelude.{◌≡◌, List, ℕ, ◌+◌, ◌-◌, length, take, drop}
use Rattle.std.specs.Borrow.{Bor}
use Rattle.model.specs.Field.{field_at, starts_at, ends_at}

-- r is `&file[a..b]`: the bytes of the file from a to b, in the file's own memory, beginning a places behind the file's beginning and ending at b
pub record PartOf (file : Bor (List ℕ)) (a b : ℕ) (r : Bor (List ℕ)) : Type 0 where
  pub bytes : r.now ≡ take (b - a) (drop a file.now)
  pub memory : r.ref_ptr.0 ≡ file.ref_ptr.0
  pub begins : r.ref_ptr.1 ≡ a + file.ref_ptr.1
  pub ends : a + length r.now ≡ b

-- r is the body of the field at offset o: `&file[a..b]` with a and b the beginning and the end of the body, both 0 where no whole field stands
abbrev pub BodyOf : Bor (List ℕ) → ℕ → Bor (List ℕ) → Type 0
BodyOf file o = PartOf file (starts_at (field_at file.now o)) (ends_at (field_at file.now o))
