-- `bigendian::write_increases` meets its contract. The invariant: the bytes of the first i increases stand in front. Assumes nothing.
use Rattle.std.proofs.Common.{◌≡◌, take}
use Rattle.lists.specs.Over.{over}
use Rattle.model.specs.Layout.{list_bytes}
use Rattle.bigendian.proofs.write_increases.Given as goal

abbrev pub invariant-loop-i : goal.invariant-loop-i
invariant-loop-i l = l.out ≡ over (list_bytes (take l.i l.increase-items)) l.initial.out
