-- `bigendian::write_increases` meets its contract: each pass writes one increase more. Assumes nothing.
use mathlib.Core.List.{flat_map}
use Rattle.std.proofs.Common.{sym, arith}
use Rattle.lists.proofs.Over.{over_none}
use Rattle.bigendian.proofs.Bytes.{more_written}
use Rattle.bigendian.proofs.write_increases.Goals as goal

pub loop-i-init : goal.loop-i-init
unfolding flat_map
loop-i-init c = sym (over_none c.args.out.now)

pub loop-i-preserved : goal.loop-i-preserved
loop-i-preserved c = more_written _ _ _ _ _ _ c.loop-i-test.true (omega arith) (omega arith) c.loop-i.invariant (cc)
