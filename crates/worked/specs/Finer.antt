-- Curves in finer ticks (document 02, K14), worked out by hand: D in tenths of a tick, and D with wire delays in thirds.
use Rattle.std.specs.Prelude.{List, [], ◌∷◌, ℕ, ◌*◌}
use Rattle.model.specs.Block.{Block}
use Rattle.model.specs.Netlist.{block_of}
use Rattle.model.specs.Curve.{Pair, IsCurve}
use Rattle.model.specs.Scale.{scaled}
use Rattle.worked.specs.Table.{U, diamond_netlist, delayed_netlist}

-- a block and the curve that is expected of it
pub record CurveCase : Type 0 where
  pub block : Block
  pub start : ℕ
  pub at_start : ℕ
  pub pairs : List Pair

abbrev pub HasCurve : CurveCase → Type 0
HasCurve c = IsCurve c.block c.start c.at_start c.pairs

abbrev pair : ℕ → ℕ → Pair
pair w g = record { width = w; gain = g }

-- D with deadline 10, in whole ticks and in tenths
abbrev pub D : Block
D = block_of (diamond_netlist 1 128 10)

abbrev pub whole_ticks : CurveCase
whole_ticks = record { block = D; start = 7; at_start = 8 * U; pairs = pair 5 (12 * U) ∷ pair 2 (9 * U) ∷ pair 3 (2 * U) ∷ [] }

abbrev pub tenths : CurveCase
tenths = record { block = scaled 10 D; start = 70; at_start = 80 * U; pairs = pair 50 (12 * U) ∷ pair 20 (9 * U) ∷ pair 30 (2 * U) ∷ [] }

-- D with wire delays 1, 0, 0 and 2, whose curve is a row of the table, in thirds
abbrev pub delayed_D : Block
delayed_D = block_of (delayed_netlist 1 0 0 2)

abbrev pub thirds : CurveCase
thirds =
    record {
      block = scaled 3 delayed_D;
      start = 24;
      at_start = 12 * U;
      pairs = pair 15 (12 * U) ∷ pair 6 (9 * U) ∷ pair 3 (6 * U) ∷ pair 6 (2 * U) ∷ [];
    }
