-- Source delay, required time, slack and start are what the paths say: attained by a path, exceeded by none. And a block is late exactly when no list is in time.
-- Assumes of the block: no gate is at fault with its wires, and the gates can be numbered along the wires (crate network finds such a numbering for every block without loops).
use mathlib.Core.Path.{◌≡◌, sym, ap, subst, fun_ext}
use mathlib.Core.Logic.{◌↔◌, ◌⊎◌, inl, inr, ⊎_elim}
use mathlib.Core.List.Memᴰ
use mathlib.Core.List.{List, [], ◌∷◌}
use Prim.Native.Nat.{ℕ, ◌+◌, ◌-◌, ◌≤◌, ◌<◌}
use native.Mathlib.Decide.{ℕ_discrete}
use native.Mathlib.Nat.{le-add_right, not-suc-le-zero}
use native.Mathlib.Omega.{arith}
use lib.IntN.{pos, ◌-ℤ◌}
use lib.ListN.{get_or, length-replicate, get_or-replicate, get_or-eq_default}
use lib.Dec.{T, ltb→lt}
use lib.Signed.{lt_z, ◌<ℤ◌}
use Rattle.lists.proofs.Compare.{le_or_lt}
use Rattle.model.specs.Block.{Wire, Block, gate_count, first, last, Stands, Joined}
use Rattle.model.specs.Path.{Path, stay, go, Longest}
use Rattle.model.specs.InTime.{no_increase, drawn, slowed, Sizing, InTime, IsStart}
use Rattle.model.specs.Slack.{latest_in, source_by, source_delay, required_time, slack, start, spare}
use Rattle.model.specs.Refusal.{none_in, none_out, SoundNetwork}
use Rattle.model.proofs.Signed.{minus_minus, difference_pos, difference_neg}
use Rattle.model.proofs.Source.{Along, Entered, source_equation, source_greatest, source_attained}
use Rattle.model.proofs.Turned.{turn, stands_turned, stands_unturned, path_turned, along_turned, required_turned}

-- a wire into gate g, or that there is none
into : (ws : List Wire) (g : ℕ) → ((a : ℕ) × (w : ℕ) × Stands ws a g w) ⊎ ((a : ℕ) → ¬ (Joined ws a g))
into [] g = inr (λ (a : ℕ) (j : Joined [] a g). Memᴰ.not-nil j.1)
into (v ∷ ws) g = by (ℕ_discrete v.target g) (into ws g)
  where
    by : Dec (v.target ≡ g)
        → ((a : ℕ) × (w : ℕ) × Stands ws a g w) ⊎ ((a : ℕ) → ¬ (Joined ws a g))
        → ((a : ℕ) × (w : ℕ) × Stands (v ∷ ws) a g w) ⊎ ((a : ℕ) → ¬ (Joined (v ∷ ws) a g))
    by (yes e) r = inl (v.source, v.delay, Memᴰ.head (λ i. record { source = v.source; target = sym e i; delay = v.delay }))
    by (no m) (inl r) = inl (r.0, r.1, Memᴰ.tail r.2)
    by (no m) (inr none) =
        inr
        (λ (a : ℕ) (j : Joined (v ∷ ws) a g).
        ⊎_elim (λ (e : record { source = a; target = g; delay = j.0 } ≡ v). m (ap (λ (u : Wire). u.target) (sym e)))
        (λ (on : Stands ws a g j.0). none a (j.0, on))
        (Memᴰ.cases_cons j.1))

-- where no gate is faster, each path lasts at least as long
pub path_slower : {ws : List Wire} {d e : ℕ → ℕ} {a b t : ℕ} → ((g : ℕ) → d g ≤ e g) → Path ws d a b t → (u : ℕ) × Path ws e a b u × (t ≤ u)
path_slower {e = e} {a = a} slower stay = (e a, stay, slower a)
path_slower {e = e} slower (go {a = a} {w = w} {t = t} on rest) =
    let r = path_slower slower rest in
    (e a + w + r.0, go on r.1, omega (arith, slower a, r.2))

pub zeros : (n g : ℕ) → get_or (no_increase n) g 0 ≡ 0
zeros n g =
    ⊎_elim (λ (h : n ≤ g). get_or-eq_default (no_increase n) 0 (rw length-replicate h)) (get_or-replicate n g 0 0)
    (le_or_lt n g)

-- under no increase the paths last as drawn
pub none_sized : (B : Block) {ok : ℕ → Type 0} → ((t : ℕ) → Path B.wires (drawn B) (first B) (last B) t → ok t) → Sizing B ok (no_increase (gate_count B))
none_sized B all_ok =
    let same = fun_ext {f = slowed B (no_increase (gate_count B))} {g = drawn B} (λ g. omega (arith, zeros (gate_count B) g)) in
    record {
      one_each = length-replicate (gate_count B) 0;
      within_widths = λ g l. omega (arith, zeros (gate_count B) g);
      paths = λ t p. all_ok t (subst (λ (d : ℕ → ℕ). Path B.wires d (first B) (last B) t) same p);
    }

-- under any list some path lasts as long as the start
pub lasts_start : (B : Block) {ok : ℕ → Type 0} {s : ℕ} {x : List ℕ} → IsStart B s → Sizing B ok x → (t : ℕ) × ok t × (s ≤ t)
lasts_start B {x = x} start sizing =
    let (t, path, longer) = path_slower {e = slowed B x} (λ g. le-add_right (drawn B g) (get_or x g 0)) start.attained in
    (t, sizing.paths t path, longer)

module _ (B : Block) (sound : SoundNetwork B) where
  pub entered : Entered B.wires (gate_count B) (first B)
  entered g h other = ⊎_elim (λ r. r) (λ none. absurd (sound.ends g (none_in h other none))) (into B.wires g)

  pub left : Entered (turn B.wires) (gate_count B) (last B)
  left g h other =
      ⊎_elim (λ r. r)
      (λ none.
      absurd
      (sound.ends g
      (none_out h other (λ (b : ℕ) (j : Joined B.wires g b). none b (j.0, stands_turned B.wires j.1)))))
      (into (turn B.wires) g)

  module _ (order : Along B.wires (gate_count B)) (some : 0 < gate_count B) where
    -- the source delay of gate g is the arrival and the longest path from the first gate to g
    pub source_is : (g : ℕ) → g < gate_count B → (t : ℕ) × Longest B.wires (drawn B) (first B) g t × (source_delay B g ≡ B.arrival + t)
    unfolding source_delay
    source_is g h =
        let r = source_attained B.wires (drawn B) B.arrival (gate_count B) order (first B) entered g h in (
          r.0,
          record {
            attained = r.1;
            greatest =
                λ (t : ℕ) (p : Path B.wires (drawn B) (first B) g t).
                let is = r.2 in
                omega (arith, source_greatest B.wires (drawn B) B.arrival (gate_count B) order some p);
          },
          r.2,
        )

    -- the required time at gate g is the deadline less the longest path from g's output to the last gate
    pub required_is : (g : ℕ) → g < gate_count B
        → (u : ℕ) × Longest B.wires (drawn B) g (last B) (drawn B g + u) × (required_time B g ≡ pos B.deadline -ℤ pos u)
    unfolding required_time
    required_is g h =
        let back = along_turned order in
        let ws = turn B.wires in
        let r = source_attained ws (drawn B) 0 (gate_count B) back (last B) left g h in
        let u = latest_in ws (source_by (gate_count B) ws (drawn B) 0) 0 g in
        let is : r.0 ≡ drawn B g + u = omega (arith, source_equation ws (drawn B) 0 (gate_count B) back g h, r.2) in (
          u,
          record {
            attained = rw is at (path_turned (λ (x y w : ℕ). stands_unturned B.wires) r.1);
            greatest =
                λ (t : ℕ) (p : Path B.wires (drawn B) g (last B) t).
                let turned = path_turned (λ (x y w : ℕ). stands_turned B.wires) p in
                omega (arith, source_greatest ws (drawn B) 0 (gate_count B) back {a = last B} (omega arith) turned, r.2);
          },
          required_turned B.wires (drawn B) B.deadline (gate_count B) back (gate_count B) g (back.below g h),
        )

    -- the slack of gate g is the deadline less the arrival and the longest path through g
    pub slack_is : (g : ℕ) → g < gate_count B
        → (t : ℕ)
        × (u : ℕ)
        × Longest B.wires (drawn B) (first B) g t
        × Longest B.wires (drawn B) g (last B) (drawn B g + u)
        × (slack B g ≡ pos B.deadline -ℤ pos (B.arrival + t + u))
    unfolding slack
    slack_is g h =
        let s = source_is g h in
        let r = required_is g h in
        let same : r.0 + (B.arrival + s.0) ≡ B.arrival + s.0 + r.0 = omega arith in
        (s.0, r.0, s.1, r.1, rw (s.2, r.2, minus_minus B.deadline r.0 (B.arrival + s.0), same))

    pub start_is : IsStart B (start B)
    unfolding start
    start_is =
        let ws = B.wires in
        let r = source_attained ws (drawn B) 0 (gate_count B) order (first B) entered (last B) (omega arith) in
        let is : r.0 ≡ source_by (gate_count B) ws (drawn B) 0 (last B) = omega (arith, r.2) in
        record {
          attained = rw is at r.1;
          greatest =
              λ (t : ℕ) (p : Path ws (drawn B) (first B) (last B) t).
              omega (arith, source_greatest ws (drawn B) 0 (gate_count B) order some p);
        }

    -- "late": the deadline comes before arrival and start
    pub late_is : (spare B <ℤ pos 0) ↔ (B.deadline < B.arrival + start B)
    unfolding spare
    late_is = (forth, back)
      where
        forth : spare B <ℤ pos 0 → B.deadline < B.arrival + start B
        forth l =
            ⊎_elim
            (λ (h : B.arrival + start B ≤ B.deadline).
            let none : T (lt_z (pos (B.deadline - (B.arrival + start B))) (pos 0)) = rw (difference_pos B.deadline (B.arrival + start B) h) at l.lt in
            absurd (not-suc-le-zero (ltb→lt (B.deadline - (B.arrival + start B)) 0 none)))
            (λ (h : B.deadline < B.arrival + start B). h)
            (le_or_lt (B.arrival + start B) B.deadline)

        back : B.deadline < B.arrival + start B → spare B <ℤ pos 0
        back h = record { lt = rw (difference_neg B.deadline (B.arrival + start B) h) tt }

    -- a list in time leaves the block in time as drawn, since no path gets shorter
    in_time_as_drawn : (x : List ℕ) → InTime B x → B.arrival + start B ≤ B.deadline
    in_time_as_drawn x ok = let (t, in_time, longer) = lasts_start B start_is ok in omega arith

    none_in_time : B.arrival + start B ≤ B.deadline → InTime B (no_increase (gate_count B))
    none_in_time h = none_sized B (λ t p. omega (arith, start_is.greatest t p))

    -- "late" comes exactly when no list is in time
    pub late_exactly : (spare B <ℤ pos 0) ↔ ((x : List ℕ) → ¬ (InTime B x))
    late_exactly = (
      λ l x ok. let h = late_is.0 l in omega (arith, in_time_as_drawn x ok),
      λ none.
          ⊎_elim (λ (h : B.arrival + start B ≤ B.deadline). absurd (none (no_increase (gate_count B)) (none_in_time h))) late_is.1
          (le_or_lt (B.arrival + start B) B.deadline),
    )
