-- The fields of a block file (document 01, "The block file"): "a one-byte tag, a two-byte length, then a body of that length. Numbers of two bytes have the high byte first."
use Rattle.std.specs.Prelude.{List, [], ◌∷◌, ◌++◌, cond, ℕ, ◌+◌, ◌*◌, ◌-◌, ◌/◌, ◌%◌, leb, length, get_or, take, drop}
use Rattle.model.specs.declared.Field.{Field}
use Rattle.model.specs.declared.Field.TheVariants.{NoHeader, NoBody, Whole}

-- values of a byte
abbrev pub byte_values : ℕ
byte_values = 256

-- bytes of a header
abbrev pub header_bytes : ℕ
header_bytes = 3

-- the two-byte number whose high byte stands at place i
abbrev pub number : List ℕ → ℕ → ℕ
number s i = byte_values * get_or s i 0 + get_or s (i + 1) 0

-- a number as two bytes
abbrev pub two_bytes : ℕ → List ℕ
two_bytes n = n / byte_values ∷ n % byte_values ∷ []

-- a whole field
abbrev pub field : ℕ → List ℕ → List ℕ
field tag body = tag ∷ two_bytes (length body) ++ body

-- the length that the header at offset o announces
abbrev pub length_at : List ℕ → ℕ → ℕ
length_at s o = number s (o + 1)

-- where the body of the field at offset o begins, and where the header says that it ends
abbrev pub body_from : ℕ → ℕ
body_from o = o + header_bytes

abbrev pub body_to : List ℕ → ℕ → ℕ
body_to s o = o + header_bytes + length_at s o

-- the field at offset o: whole, or cut short in its header or in its body
unfoldable pub field_at : List ℕ → ℕ → Field
field_at s o =
    cond (leb (body_from o) (length s))
    (cond (leb (body_to s o) (length s)) (Whole (get_or s o 0) (body_from o) (body_to s o)) (NoBody (get_or s o 0) (length_at s o)))
    NoHeader

-- where the body of a field begins and ends; a field that is cut short has none
abbrev pub starts_at : Field → ℕ
starts_at NoHeader = 0
starts_at (NoBody tag len) = 0
starts_at (Whole tag a b) = a

abbrev pub ends_at : Field → ℕ
ends_at NoHeader = 0
ends_at (NoBody tag len) = 0
ends_at (Whole tag a b) = b

-- the bytes of the body of the field at offset o
abbrev pub body_at : List ℕ → ℕ → List ℕ
body_at s o = take (ends_at (field_at s o) - starts_at (field_at s o)) (drop (starts_at (field_at s o)) s)
