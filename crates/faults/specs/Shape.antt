-- The part of `fault_of` that a field's header and the length of its body decide.
use Rattle.std.specs.Prelude.{ℕ, eqb}
use Rattle.model.specs.declared.Field.{Field}
use Rattle.model.specs.declared.Field.TheVariants.{NoHeader, NoBody, Whole}
use Rattle.model.specs.File.{Due, tag_of, length_fits, unless}

-- short header (1), tag (2), length (3), short body (1); 0 for a whole field of the due tag and one of its lengths
abbrev pub shape_of : Due → Field → ℕ → ℕ
shape_of k NoHeader l = 1
shape_of k (NoBody tag len) l = unless (eqb tag (tag_of k)) 2 (unless (length_fits k len) 3 1)
shape_of k (Whole tag a b) l = unless (eqb tag (tag_of k)) 2 (unless (length_fits k l) 3 0)
