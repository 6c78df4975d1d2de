-- `sizing::curve::note` meets its contract: the last pair is widened, or one more follows it. Assumes nothing.
use native.Mathlib.Omega.{arith}
use Rattle.sizing.proofs.Joining.{note_widens, note_follows}
use Rattle.sizing.proofs.curve.note.Goals as goal
use Rattle.sizing.proofs.curve.note.Goals.{else-count-gt0-via-then-count-gt0+else-pair_gains-count, else-count-gt0-via-else-count-gt0}

pub returns-then-pair_gains-count : goal.returns-then-pair_gains-count
returns-then-pair_gains-count c = note_widens _ _ _ _ _ (omega (arith, c.requires.count_in_bounds.0)) (omega arith) c.if-pair_gains-count.true

pub returns : goal.returns
returns c =
    note_follows _ _ _ _ _ c.requires.count_in_bounds.0 c.requires.count_in_bounds.1
    (elim c.else-count-gt0.branch [
      | else-count-gt0-via-then-count-gt0+else-pair_gains-count w ↦ λ p. w.if-pair_gains-count.false p.1
      | else-count-gt0-via-else-count-gt0 w ↦ λ p. let q = p.0 in omega arith
    ])
