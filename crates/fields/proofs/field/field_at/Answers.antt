-- `fields::field::field_at` meets its contract: at each `return` the tests that led there say which case of `field_at` holds.
-- Assumes nothing.
use mathlib.Core.Path.{sym}
use native.Mathlib.Omega.{arith}
use Rattle.model.proofs.Fields.{header_cut, body_cut, whole}
use Rattle.fields.proofs.field.field_at.Goals as goal

pub returns-then-saturating_sub-lt-HEADER_BYTES : goal.returns-then-saturating_sub-lt-HEADER_BYTES
returns-then-saturating_sub-lt-HEADER_BYTES c = sym (header_cut _ _ (omega arith))

pub returns-then-file-from : goal.returns-then-file-from
returns-then-file-from c = rw c.number_at-length.ensures (sym (body_cut _ _ (omega arith) (omega arith)))

pub returns : goal.returns
returns c = rw c.number_at-length.ensures (sym (whole _ _ (omega arith)))
