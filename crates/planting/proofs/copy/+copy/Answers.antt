-- The proof of the cycle of calls {copy}. The measure is the number of the node copied: children have smaller numbers.
-- Assumes nothing.
use mathlib.Core.Path.{refl}
use native.Mathlib.Omega.{arith}
use Rattle.planting.proofs.Steps.{leaf_asked, leaf_done, left_asked, left_done, right_asked, right_done, top_asked, chain_done, beside_done}
use Rattle.planting.proofs.copy.+copy.Goals as goal

pub put_wire-requires : goal.put_wire-requires
put_wire-requires t c = leaf_asked c.requires.readable c.args.c c.requires.room c.if-kind-i-eq0.true

pub returns-then-kind-i-eq0 : goal.returns-then-kind-i-eq0
returns-then-kind-i-eq0 t c = let d = leaf_done c.requires.readable c.args.c c.requires.room c.if-kind-i-eq0.true c.put_wire.ensures in record { count = d.0; written = d.1 }

pub copy-l-requires : goal.copy-l-requires
copy-l-requires t c = let n = left_asked c.requires.readable c.args.c c.requires.room c.if-kind-i-eq0.false _ refl in (omega (arith, n.0, c.decreases), (n.1, n.2))

pub copy-r-requires : goal.copy-r-requires
copy-r-requires t c = let n = right_asked c.requires.readable c.args.c c.requires.room c.if-kind-i-eq0.false (left_done c.requires.readable c.args.c c.requires.room c.if-kind-i-eq0.false _ refl c.copy-l.ensures.count c.copy-l.ensures.written) _ refl in (omega (arith, n.0, c.decreases), (n.1, n.2))

pub put_series-requires : goal.put_series-requires
put_series-requires t c = let n = top_asked c.requires.readable c.args.c c.requires.room c.if-kind-i-eq0.false (left_done c.requires.readable c.args.c c.requires.room c.if-kind-i-eq0.false _ refl c.copy-l.ensures.count c.copy-l.ensures.written) (right_done c.requires.readable c.args.c c.requires.room c.if-kind-i-eq0.false (left_done c.requires.readable c.args.c c.requires.room c.if-kind-i-eq0.false _ refl c.copy-l.ensures.count c.copy-l.ensures.written) _ refl c.copy-r.ensures.count c.copy-r.ensures.written) in record { room = n.0; le_l = n.1; l_bound = n.2 }

pub overflow_add-result-then-kind-i-eq1 : goal.overflow_add-result-then-kind-i-eq1
overflow_add-result-then-kind-i-eq1 t c = record { fits = omega (arith, (top_asked c.requires.readable c.args.c c.requires.room c.if-kind-i-eq0.false (left_done c.requires.readable c.args.c c.requires.room c.if-kind-i-eq0.false _ refl c.copy-l.ensures.count c.copy-l.ensures.written) (right_done c.requires.readable c.args.c c.requires.room c.if-kind-i-eq0.false (left_done c.requires.readable c.args.c c.requires.room c.if-kind-i-eq0.false _ refl c.copy-l.ensures.count c.copy-l.ensures.written) _ refl c.copy-r.ensures.count c.copy-r.ensures.written)).0.few) }

pub returns-then-kind-i-eq1 : goal.returns-then-kind-i-eq1
returns-then-kind-i-eq1 t c = let d = chain_done c.requires.readable c.args.c c.requires.room c.if-kind-i-eq0.false (left_done c.requires.readable c.args.c c.requires.room c.if-kind-i-eq0.false _ refl c.copy-l.ensures.count c.copy-l.ensures.written) (right_done c.requires.readable c.args.c c.requires.room c.if-kind-i-eq0.false (left_done c.requires.readable c.args.c c.requires.room c.if-kind-i-eq0.false _ refl c.copy-l.ensures.count c.copy-l.ensures.written) _ refl c.copy-r.ensures.count c.copy-r.ensures.written) c.if-kind-i-eq1.true c.put_series.ensures in record { count = d.0; written = d.1 }

pub put_parallel-requires : goal.put_parallel-requires
put_parallel-requires t c = let n = top_asked c.requires.readable c.args.c c.requires.room c.if-kind-i-eq0.false (left_done c.requires.readable c.args.c c.requires.room c.if-kind-i-eq0.false _ refl c.copy-l.ensures.count c.copy-l.ensures.written) (right_done c.requires.readable c.args.c c.requires.room c.if-kind-i-eq0.false (left_done c.requires.readable c.args.c c.requires.room c.if-kind-i-eq0.false _ refl c.copy-l.ensures.count c.copy-l.ensures.written) _ refl c.copy-r.ensures.count c.copy-r.ensures.written) in record { room = n.0; le_l = n.1; l_bound = n.2 }

pub overflow_add-result-2 : goal.overflow_add-result-2
overflow_add-result-2 t c = record { fits = omega (arith, (top_asked c.requires.readable c.args.c c.requires.room c.if-kind-i-eq0.false (left_done c.requires.readable c.args.c c.requires.room c.if-kind-i-eq0.false _ refl c.copy-l.ensures.count c.copy-l.ensures.written) (right_done c.requires.readable c.args.c c.requires.room c.if-kind-i-eq0.false (left_done c.requires.readable c.args.c c.requires.room c.if-kind-i-eq0.false _ refl c.copy-l.ensures.count c.copy-l.ensures.written) _ refl c.copy-r.ensures.count c.copy-r.ensures.written)).0.few) }

pub returns : goal.returns
returns t c = let d = beside_done c.requires.readable c.args.c c.requires.room c.if-kind-i-eq0.false (left_done c.requires.readable c.args.c c.requires.room c.if-kind-i-eq0.false _ refl c.copy-l.ensures.count c.copy-l.ensures.written) (right_done c.requires.readable c.args.c c.requires.room c.if-kind-i-eq0.false (left_done c.requires.readable c.args.c c.requires.room c.if-kind-i-eq0.false _ refl c.copy-l.ensures.count c.copy-l.ensures.written) _ refl c.copy-r.ensures.count c.copy-r.ensures.written) c.if-kind-i-eq1.false c.put_parallel.ensures in record { count = d.0; written = d.1 }
