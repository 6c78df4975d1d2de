-- Which gates remain of a network: those that a slot leads to, at any end of the reduction. So one remains exactly when the block is not series-parallel (`left_exactly`), and the lowest is the lowest to which a slot leads (`lowest_remains`). Every network has an end (`some_end`).
-- Assumes nothing.
use mathlib.Core.Path.{◌≡◌, sym, ◌∙◌, ap, subst}
use mathlib.Core.Logic.{◌≢◌, ◌↔◌, ⊎_elim}
use mathlib.Core.Bool.{false≢true}
use Prim.Native.Nat.{ℕ, zero, suc, ◌<◌}
use native.Mathlib.Decide.{ℕ_discrete, dec_lt}
use native.Mathlib.Omega.{arith}
use lib.ListN.{length}
use Rattle.lists.specs.Search.{Lowest, Least}
use Rattle.lists.proofs.Search.{says_by, least_of_none, least_more}
use Rattle.model.specs.Block.{Block, gate_count, first, last, Joined}
use Rattle.model.specs.Part.{SeriesParallel, built}
use Rattle.model.specs.Remainder.{Moment, ReducedTo, Remains}
use Rattle.parts.specs.Reduction.{Same}
use Rattle.parts.specs.Slots.{Slot, Live, Finished, slots}
use Rattle.parts.specs.Network.{Network}
use Rattle.parts.specs.Invariant.{Reducing}
use Rattle.parts.specs.Reduce.{remainder, lowest_led, gate_left}
use Rattle.parts.proofs.Gates.{wire_in}
use Rattle.parts.proofs.Remainder.{same_gates_left, end_of}
use Rattle.parts.proofs.Verdict.{finished_stuck, left_led, one_slot, only_last, whole, verdict, lone_gate}
use Rattle.parts.proofs.Reduce.{live_inside, left_reduced}

-- g is the lowest gate to which a live one of k slots leads, or b where none leads to a lower one: `LowestLed k S b g`
abbrev pub LowestLed : ℕ → (ℕ → Slot) → ℕ → ℕ → Type 0
LowestLed k S = Least k (λ i. Live (S i)) (λ i. (S i).target)

module _ {B : Block} {S : ℕ → Slot} (n : Network B) (r : Reducing (Joined B.wires) S) (f : Finished S (first B) (last B)) where
  -- what the slots' own order leaves, some order of takings and mergings leaves at its end
  slots_end : (M : Moment) × ReducedTo B M × Same M.taken r.taken
  slots_end = end_of B n r.order (finished_stuck n r f)

  -- a gate that remains has a slot in
  remains_led : {g : ℕ} → Remains B g → (i : ℕ) × Live (S i) × ((S i).target ≡ g)
  remains_led {g} m =
      let (M, e, same) = slots_end in
      left_led n r m.below m.not_first (λ k. m.left ((same_gates_left B M m.end e m.reduced g).0 ((same g).1 k)))

  -- a gate with a slot in, other than the last, remains
  led_remains : {i : ℕ} → Live (S i) → (S i).target ≢ last B → Remains B (S i).target
  led_remains {i} l d =
      let (M, e, same) = slots_end in
      let t = r.reduced.fits i l in
      let (x, h) = wire_in (S i).shape (S i).source (S i).target in
      let w = t.wires x (S i).target h in
      record {
        end = M;
        reduced = e;
        below = (n.below x (S i).target w).1;
        left = λ k. t.target_left ((same (S i).target).0 k);
        not_first = λ z. n.first_none x (subst (Joined B.wires x) z w);
        not_last = d;
      }

  nothing_remains : SeriesParallel B → (g : ℕ) → ¬ (Remains B g)
  nothing_remains sp g m = go (ℕ_discrete (gate_count B) 1)
    where
      go : Dec (gate_count B ≡ 1) → ⊥
      go (yes one) = m.not_first (omega (arith, m.below))
      go (no d) =
          let o = (verdict n r d f).1 sp in
          let (i, l, e) = remains_led m in
          m.not_last (sym e ∙ ap (λ j. (S j).target) (o.alone i l) ∙ only_last n r o)

  -- Where the block is not series-parallel, the lowest gate to which one of the k slots leads is the lowest that remains.
  module _ {k g : ℕ} (inner : (i : ℕ) → Live (S i) → i < k) (unfit : ¬ (SeriesParallel B)) (low : LowestLed k S (last B) g) where
    -- else every slot leads to the last gate, and only one is live
    before_last : g < last B
    before_last = go (dec_lt g (last B))
      where
        to_last : ¬ (g < last B) → (i : ℕ) → Live (S i) → (S i).target ≡ last B
        to_last no_lower i l =
            let (x, h) = wire_in (S i).shape (S i).source (S i).target in
            let below = (n.below x (S i).target ((r.reduced.fits i l).wires x (S i).target h)).1 in
            omega (arith, low.most, low.none_less i (inner i l) l)

        go : Dec (g < last B) → g < last B
        go (yes l) = l
        go (no no_lower) = absurd (unfit (built _ (whole n r (one_slot n r (λ e. unfit (lone_gate n e)) (to_last no_lower)))))

    pub lowest_remains : Lowest (Remains B) g
    lowest_remains =
        record {
          holds = ⊎_elim (λ e. absurd (omega (arith, before_last))) (λ (i, below, l, e). subst (Remains B) e (led_remains l (λ z. omega (arith, before_last)))) low.reached;
          none_below = λ q l m. let (i, live, e) = remains_led m in omega (arith, low.none_less i (inner i live) live);
        }

-- The lowest gate that is computed is that of the definition.
led_least : (k b : ℕ) (S : ℕ → Slot) → LowestLed k S b (lowest_led k b S)
unfolding lowest_led
led_least zero b S = least_of_none b
led_least (suc k) b S = least_more (led_least k b S) (omega arith) (S k).live (says_by (Live (S k)) (S k).live (λ e. e) (λ e l. false≢true (sym e ∙ l)))

module _ {B : Block} (n : Network B) where
  pub gate_left_lowest : ¬ (SeriesParallel B) → Lowest (Remains B) (gate_left B)
  unfolding gate_left
  gate_left_lowest unfit =
      lowest_remains n (left_reduced n).0 (left_reduced n).1 (live_inside (remainder B)) unfit (led_least (length (remainder B)) (last B) (slots (remainder B)))

  -- Some order of takings and mergings comes to an end.
  pub some_end : (M : Moment) × ReducedTo B M
  some_end = let (M, e, same) = slots_end n (left_reduced n).0 (left_reduced n).1 in (M, e)

  -- A gate other than the first and the last is left exactly when the block is not series-parallel.
  pub left_exactly : ((g : ℕ) × Remains B g) ↔ ¬ (SeriesParallel B)
  left_exactly = (
    λ (g, m) sp. nothing_remains n (left_reduced n).0 (left_reduced n).1 sp g m,
    λ unfit. (gate_left B, (gate_left_lowest unfit).holds),
  )
