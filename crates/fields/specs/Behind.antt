-- The offset behind a field (document 01: "Fields stand one after another from the first byte on").
use Rattle.std.specs.Prelude.{List, ℕ}
use Rattle.model.specs.declared.Field.{Field}
use Rattle.model.specs.declared.Field.TheVariants.{NoHeader, NoBody, Whole}
use Rattle.model.specs.Field.{field_at}

-- behind the field at offset o: its end; o itself where the field is cut short
abbrev pub behind_field : Field → ℕ → ℕ
behind_field NoHeader o = o
behind_field (NoBody tag len) o = o
behind_field (Whole tag a b) o = b

abbrev pub offset_behind : List ℕ → ℕ → ℕ
offset_behind s o = behind_field (field_at s o) o
