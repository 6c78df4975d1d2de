-- The gates of a block within the limits of a file can be numbered along the wires, if its network is sound: none is on a loop. The laws of paths ask for such a numbering.
-- Assumes nothing.
use Prim.Native.Nat.{ℕ}
use Rattle.model.specs.Block.{Block, gate_count}
use Rattle.model.specs.Refusal.{SoundNetwork}
use Rattle.model.proofs.Source.{Along}
use Rattle.model.proofs.Limited.{BlockLimits, wires_join}
use Rattle.ordering.proofs.OrderOrLoop.{block_order}

pub sound_along : {B : Block} → BlockLimits B → SoundNetwork B → Along B.wires (gate_count B)
sound_along {B} limits sound =
    let order = ((block_order B (wires_join limits)).1 sound.no_loop).1 in
    record {
      place = order.place;
      below = order.has_place;
      grows = λ (a b w : ℕ) on. order.forward a b (w, on);
      in_range = λ (a b w : ℕ) on. wires_join limits a b (w, on);
    }
