-- The curves in finer ticks (document 02, K14) are as worked out by hand: found by computing, and D's in tenths once more by the theorem.
-- Assumes nothing.
use mathlib.Core.Path.{◌≡◌, refl}
use mathlib.Core.Bool.{true}
use mathlib.Core.Option.{Option, none, some}
use Prim.Native.Nat.{ℕ, zero, suc, ◌*◌}
use native.Mathlib.Omega.{arith}
use Rattle.lists.specs.Sum.{sum, total}
use Rattle.model.specs.Activity.{activity}
use Rattle.model.specs.Block.{gate}
use Rattle.model.specs.Gain.{drop_of, input_activity, gain, saving}
use Rattle.model.specs.Best.{BestSaving}
use Rattle.model.specs.Curve.{count_off}
use Rattle.model.specs.Scale.{scaled}
use Rattle.optimum.specs.Tree.{Tree}
use Rattle.optimum.specs.Head.{leads, turn, beside}
use Rattle.optimum.specs.Gates.{Descending, room, gate_head}
use Rattle.optimum.specs.Runs.{runs_list, onto, joined}
use Rattle.optimum.specs.BlockTree.{wire_delay, step_count, start_of, increases, pairs_of}
use Rattle.optimum.proofs.Scaling.{descending_scaled, finer_ticks}
use Rattle.parts.specs.Slots.{wire_slots}
use Rattle.parts.specs.Reduce.{find, sole, slot_in, slot_out, slot_between, goes, taken_away, reduce, remainder}
use Rattle.parts.specs.Ascending.{some_below, every_below, ascending}
use Rattle.parts.proofs.Ascending.{ascending_network}
use Rattle.worked.specs.Computed.{tree}
use Rattle.worked.specs.Table.{U}
use Rattle.worked.specs.Finer.{CurveCase, HasCurve, D, whole_ticks, tenths, delayed_D, thirds}
use Rattle.worked.proofs.Tree.{Found, tree_found}
use Rattle.worked.proofs.Sound.{curve_by_tree}

-- computing with the block's tree finds that curve
abbrev FoundBy : CurveCase → Option Tree → Type 0
FoundBy c none = ⊥
FoundBy c (some t) =
    (start_of c.block t ≡ c.start)
    × (saving c.block (increases c.block t 0) ≡ c.at_start)
    × (pairs_of c.block t ≡ c.pairs)

abbrev Computes : CurveCase → Type 0
Computes c = (ascending c.block ≡ true) × FoundBy c (tree c.block)

-- what holds by any tree that computing finds
by_tree : (c : CurveCase) → Computes c → {C : Type 0} → ((t : Tree) → Found c.block (some t) → FoundBy c (some t) → C) → C
by_tree c (rise, found) {C} each = by (tree c.block) (tree_found c.block (ascending_network c.block rise)) found
  where
    by : (r : Option Tree) → Found c.block r → FoundBy c r → C
    by none f is = elim is [ ]
    by (some t) f is = each t f is

has_curve : (c : CurveCase) → Computes c → ((g : ℕ) → Descending (gate c.block g).steps) → HasCurve c
has_curve c computes falls =
    by_tree c computes (λ t f is. rw (← is.0, ← is.1, ← is.2) (curve_by_tree c.block computes.0 falls t f))

all_compute : Computes whole_ticks × Computes tenths × Computes thirds
unfolding activity sum total drop_of input_activity gain saving leads turn beside room gate_head runs_list onto joined wire_delay step_count wire_slots find sole slot_in slot_out slot_between goes taken_away reduce remainder some_below every_below ascending tree
all_compute = ((refl, (refl, refl, refl)), (refl, (refl, refl, refl)), (refl, (refl, refl, refl)))

-- the gates of D, with wire delays and without
falls : (g : ℕ) → Descending (gate D g).steps
falls zero = tt
falls (suc zero) = (omega arith, (omega arith, tt))
falls (suc (suc zero)) = (omega arith, tt)
falls (suc (suc (suc zero))) = (omega arith, tt)
falls (suc (suc (suc (suc g)))) = tt

pub in_whole_ticks : HasCurve whole_ticks
in_whole_ticks = has_curve whole_ticks all_compute.0 falls

pub in_tenths : HasCurve tenths
in_tenths = has_curve tenths all_compute.1 (descending_scaled 10 D falls)

pub in_thirds : HasCurve thirds
in_thirds = has_curve thirds all_compute.2 (descending_scaled 3 delayed_D falls)

-- D's curve in tenths once more, by the theorem from its curve in whole ticks
pub in_tenths_by_theorem : HasCurve tenths
in_tenths_by_theorem =
    by_tree whole_ticks all_compute.0
    (λ t f is.
    (finer_ticks D 10 (omega arith) f.0 (ascending_network D all_compute.0.0).below falls).curve _ _ _ in_whole_ticks)

-- half a tick behind the start: 80U at the start, and 5 of the 10 ticks of 12U that were one
pub half_a_tick : BestSaving (scaled 10 D) 75 (140 * U)
unfolding count_off
half_a_tick = in_tenths.best 5
