-- `network::ends::lowest_at_fault` meets its contract: the marks tell which gates have wires in and out, and the search finds the lowest at fault.
-- Assumes nothing.
use Prim.Native.Nat.{ℕ}
use native.Mathlib.Omega.{arith}
use lib.ListN.{get_or-replicate}
use Rattle.model.specs.Limits.{max_gates}
use Rattle.network.proofs.Misplaced.{fault_found}
use Rattle.network.proofs.ends.lowest_at_fault.Goals as goal

pub returns : goal.returns
returns c =
    λ B I. fault_found B c.args.n c.args.wires.count c.args.wires.sources.now c.args.wires.targets.now I c.requires
    c.mark_keys.new.marks c.mark_keys-2.new.marks
    (c.mark_keys.ensures c.args.n (λ g h. get_or-replicate {A = ℕ} max_gates g 0 0 (omega arith)))
    (c.mark_keys-2.ensures c.args.n (λ g h. get_or-replicate {A = ℕ} max_gates g 0 0 (omega arith)))
    c.first_faulty.result c.first_faulty.ensures
