-- Judging: what exceeds its widths, what lasts too long, and what a list in time saves, of the block that a well-formed file holds.
-- Assumes nothing.
use mathlib.Core.Path.{◌≡◌, refl, sym, ◌∙◌, ap, subst}
use mathlib.Core.Logic.{⊎_elim}
use mathlib.Core.List.{List, [], ◌∷◌}
use Prim.Native.Nat.{ℕ, ◌+◌, ◌-◌, ◌≤◌, ◌<◌}
use native.Mathlib.Omega.{arith}
use lib.ListN.{length, get_or, take}
use lib.Seq.{get_or-take}
use Rattle.lists.specs.Search.{Lowest}
use Rattle.lists.proofs.Compare.{le_or_lt}
use Rattle.model.specs.Limits.{max_gates}
use Rattle.model.specs.Block.{Block, gate, gate_count, first, last, widths}
use Rattle.model.specs.Path.{Path, Longest}
use Rattle.model.specs.Gain.{saving}
use Rattle.model.specs.InTime.{no_increase, slowed}
use Rattle.model.specs.Slack.{source_by}
use Rattle.model.specs.Answer.{refusal, accepted, Exceeds, PathNotInTime, AnswersJudge, well_formed, fits, passes}
use Rattle.model.proofs.Limited.{widths_most}
use Rattle.model.proofs.SameDelays.{source_same}
use Rattle.model.proofs.Slack.{entered}
use Rattle.model.proofs.Source.{Entered, source_attained, source_greatest}
use Rattle.blockfile.specs.Held.{GateArrays, WireArrays}
use Rattle.gains.specs.Steps.{WidthsLent, Held}
use Rattle.gains.specs.Activities.{InputActivities}
use Rattle.gains.specs.Savings.{Earnable, ListSaving}
use Rattle.gains.proofs.Held.{held_lent}
use Rattle.gains.proofs.Earnings.{block_earnable}
use Rattle.loading.proofs.Held.{delay_is, delay_most, wire_delay_most}
use Rattle.loading.specs.HeldFile.{HeldFile}
use Rattle.loading.proofs.HeldFile.{too_short}
use Rattle.judging.specs.Slowed.{Lasting, Lasts}
use Rattle.holding.proofs.HeldLaws.{block, count, the_limits, the_lent, some, the_along, inputs_are}

module _ {file : List ℕ} {n m arrival deadline activity : ℕ} {G : GateArrays} {W : WireArrays} {order : List ℕ} (h : HeldFile file n m arrival deadline activity G W order) where
  abbrev B : Block
  B = block h

  abbrev pub held : Held B n G.counts G.step_widths G.drops
  held = record { delays = G.delays; activities = G.activities; gates = refl }

  pub widths_lent : (g : ℕ) → g < n → WidthsLent G.counts G.step_widths g
  widths_lent g l =
      (held_lent B n G.counts G.step_widths G.drops held (the_limits h) (omega (arith, h.counts_long, (the_lent h).gates))
      (omega (arith, h.widths_long, (the_lent h).gates)) (omega (arith, h.drops_long, (the_lent h).gates)) g l).widths_lent

  -- fewer increases than gates
  pub short_refused : (x : List ℕ) → length x < n → AnswersJudge file x (record { answer = refusal 10 n; memory = x })
  short_refused x short = too_short file n m arrival deadline activity G W order x h.well short

  module _ (x : List ℕ) (long : n ≤ length x) where
    -- the list that is judged
    abbrev judged : List ℕ
    judged = take (gate_count B) x

    judged_is : take n x ≡ judged
    judged_is = ap (λ (k : ℕ). take k x) (sym (count h))

    long_enough : (p : ℕ) → ¬ ((p ≡ gate_count B) × (length x < gate_count B))
    long_enough p s = omega (arith, s.1, count h)

    pub lowest_refused : (g : ℕ) → Lowest (Exceeds B (take n x)) g → AnswersJudge file x (record { answer = refusal 13 g; memory = x })
    lowest_refused g low =
        well_formed B h.well
        (passes long_enough (fits g (subst (λ (y : List ℕ). Lowest (Exceeds B y) g) judged_is low) refl))

    within_widths : ((g : ℕ) → ¬ (Exceeds B (take n x) g)) → (g : ℕ) → g < n → get_or x g 0 ≤ widths (gate B g).steps
    within_widths none g b =
        ⊎_elim (λ (k : get_or x g 0 ≤ widths (gate B g).steps). k)
        (λ (k : widths (gate B g).steps < get_or x g 0). absurd (none g (omega (arith, count h), rw (get_or-take n x g 0 b) k)))
        (le_or_lt (get_or x g 0) (widths (gate B g).steps))

    pub lasting : ((g : ℕ) → ¬ (Exceeds B (take n x) g)) → Lasting n m order W.sources W.targets W.delays G.delays x
    lasting none =
        record {
          lent = the_lent h;
          some = some h;
          ordered = h.ordered;
          order_long = omega (arith, h.order_long, (the_lent h).gates);
          wires_long = omega (arith, h.wire_delays_long, (the_lent h).wires);
          of_wire = wire_delay_most file n m arrival deadline activity G W h.well.end h.well.reads;
          delays_long = omega (arith, h.delays_long, (the_lent h).gates);
          increases_long = long;
          sum_small =
              λ (g : ℕ) (b : g < n).
              omega (
                arith,
                within_widths none g b,
                widths_most ((the_limits h).gate_limits g),
                delay_most file n m arrival deadline activity G W h.well.end h.well.reads g b,
              );
        }

    -- the delay of a gate with its increase, as the arrays have it
    slowed_is : (g : ℕ) → g < n → get_or G.delays g 0 + get_or x g 0 ≡ slowed B judged g
    slowed_is g b =
        rw (
          delay_is file n m arrival deadline activity G W h.well.end h.well.reads g b,
          count h,
          get_or-take n x g 0 b,
        )

    the_entered : Entered B.wires n (first B)
    the_entered = subst (λ (k : ℕ). Entered B.wires k (first B)) (count h) (entered B h.well.network)

    -- the time found is that of a longest path
    pub longest_is : (t : ℕ) → Lasts n m W.sources W.targets W.delays G.delays x t → Longest B.wires (slowed B judged) (first B) (last B) t
    longest_is t l =
        let ws = B.wires in
        let below : n - 1 < n = omega (arith, some h) in
        let same =
        source_same ws n (λ (g : ℕ). get_or G.delays g 0 + get_or x g 0) (slowed B judged) (the_along h).in_range slowed_is 0 n (n - 1) below in
        let is : t ≡ source_by n ws (slowed B judged) 0 (n - 1) = l.is ∙ same in
        let r = source_attained ws (slowed B judged) 0 n (the_along h) (first B) the_entered (n - 1) below in
        let e : r.0 ≡ t = omega (arith, r.2) in
        let end : n - 1 ≡ last B = ap (λ (k : ℕ). k - 1) (sym (count h)) in
        record {
          attained = rw (e, end) at r.1;
          greatest =
              λ (u : ℕ) (p : Path ws (slowed B judged) (first B) (last B) u).
              let q : Path ws (slowed B judged) (first B) (n - 1) u = rw (← end) at p in
              omega (arith, source_greatest ws (slowed B judged) 0 n (the_along h) {a = first B} (omega (arith, some h)) q);
        }

    -- some path is not in time
    pub late_refused : (t : ℕ) → ((g : ℕ) → ¬ (Exceeds B (take n x) g)) → Lasts n m W.sources W.targets W.delays G.delays x t
        → deadline < arrival + t
        → AnswersJudge file x (record { answer = refusal 14 0; memory = x })
    late_refused t none lasts late =
        well_formed B h.well
        (passes long_enough
        (passes (λ (g : ℕ) (low : Lowest (Exceeds B judged) g). none g (subst (λ (y : List ℕ). Exceeds B y g) (sym judged_is) low.holds))
        (fits 0 (refl, (t, (longest_is t lasts).attained, late)) refl)))

    -- every path is in time, and the saving is the list's
    pub in_time_accepted : (t saved : ℕ) → ((g : ℕ) → ¬ (Exceeds B (take n x) g)) → Lasts n m W.sources W.targets W.delays G.delays x t
        → arrival + t ≤ deadline
        → saved ≡ saving B (take n x)
        → AnswersJudge file x (record { answer = accepted (saved ∷ []); memory = x })
    in_time_accepted t saved none lasts in_time s =
        well_formed B h.well
        (passes long_enough
        (passes (λ (g : ℕ) (low : Lowest (Exceeds B judged) g). none g (subst (λ (y : List ℕ). Exceeds B y g) (sym judged_is) low.holds))
        (passes
        (λ (p : ℕ) (late : (p ≡ 0) × PathNotInTime B judged).
        let path = late.1 in
        let after = path.2 in
        omega (arith, (longest_is t lasts).greatest path.0 path.1))
        (rw (s ∙ ap (saving B) judged_is) refl))))

    module _ (inputs : List ℕ) (inputs_long : length inputs ≡ max_gates) (right : InputActivities n m W.sources W.targets G.activities 0 activity (no_increase max_gates) inputs) where
      pub earnable : Earnable n G.counts G.step_widths G.drops inputs x
      earnable =
          block_earnable n G.counts G.step_widths G.drops inputs x B (the_limits h) held (inputs_are h inputs right)
          (omega (arith, h.counts_long, (the_lent h).gates)) (omega (arith, h.widths_long, (the_lent h).gates))
          (omega (arith, h.drops_long, (the_lent h).gates)) (omega (arith, (the_lent h).gates)) long

      pub saved_is : (r : ℕ) → ListSaving n G.counts G.step_widths G.drops inputs x r → r ≡ saving B (take n x)
      saved_is r s = s.of_front B held (inputs_are h inputs right)
