-- What the answers about a network say of a block.
use Rattle.std.specs.Prelude.{List, ℕ, Option, Some, None, Result, Ok, Err}
use Rattle.lists.specs.Search.{Lowest}
use Rattle.model.specs.declared.Refusal.{Refusal}
use Rattle.model.specs.declared.Refusal.TheVariants.{Loop, Ends}
use Rattle.model.specs.Block.{Block, gate_count, Joined}
use Rattle.model.specs.Refusal.{OnLoop, EndFault, SoundNetwork}
use Rattle.ordering.specs.Order.{Order}

-- refusal 9 alone: no gate is at fault with its wires, or the lowest that is
abbrev pub FaultFound : Block → Option ℕ → Type 0
FaultFound B None = (g : ℕ) → ¬ (EndFault B g)
FaultFound B (Some g) = Lowest (EndFault B) g

-- the refusals 8 and 9 in their order, and no other, or the network is sound and `order` holds an order of its gates
abbrev pub Judged : Block → List ℕ → Result (Unit {0}) Refusal → Type 0
Judged B order (Ok _) = SoundNetwork B × Order (Joined B.wires) (gate_count B) order
Judged B order (Err (Loop g)) = Lowest (OnLoop B) g
Judged B order (Err (Ends g)) = ((h : ℕ) → ¬ (OnLoop B h)) × Lowest (EndFault B) g
Judged B order (Err _) = ⊥
