-- What ticks earn, step by step: the ticks of the first step earn its drop, those past it earn what the further steps give them.
-- The loop over a gate's steps keeps what is earned plus what the ticks left will earn from the steps ahead; the loop over gates adds up.
-- Assumes nothing.
use mathlib.Core.Path.{◌≡◌, refl, sym, ◌∙◌, ap}
use mathlib.Core.Logic.{⊎_elim}
use mathlib.Core.List.{List, [], ◌∷◌, Memᴰ}
use Prim.Native.Nat.{ℕ, zero, suc, ◌+◌, ◌*◌, ◌-◌, ◌<◌, ◌≤◌, min}
use native.Mathlib.Numerals.{add-one}
use native.Mathlib.Nat.{zero-mul, mul-zero, zero-add, add-zero, mul-le-mul, min-eq_left, min-eq_right, min-le_right}
use native.Mathlib.Omega.{arith}
use lib.ListN.{length, get_or, take, drop}
use lib.Seq.{drop-cons, drop-length, get_or-take, ext_get_or}
use Rattle.std.specs.List.{sum_by, range_with_len}
use Rattle.std.proofs.lemmas.List.FromFn.{length-range_with_len, get_or-range_with_len}
use Rattle.std.proofs.lemmas.List.Sums.{sum_by_push}
use borrow.Author.Tests.{lt-ltb, le-ltb}
use Rattle.lists.specs.Sum.{sum}
use Rattle.lists.proofs.Sum.{sum_same}
use Rattle.lists.specs.Over.{build}
use Rattle.lists.proofs.Over.{length_build, get_or_build, mem_build}
use Rattle.lists.proofs.Compare.{le_or_lt}
use Rattle.model.specs.Limits.{max_steps, max_width, max_drop}
use Rattle.model.specs.Block.{Step, Block}
use Rattle.model.specs.Gain.{drop_of, input_activity, gain, saving}
use Rattle.model.specs.Arrays.{step_place, step_at}
use Rattle.model.proofs.Limited.{BlockLimits}
use Rattle.gains.specs.Steps.{steps_in, StepsLent, Held}
use Rattle.gains.specs.Activities.{max_input}
use Rattle.gains.specs.Savings.{earned, most_of_step, most_of_gate, Earnable, ListSaving}
use Rattle.gains.proofs.Sums.{sum_bounded, sum_constant, sum_stretches}
use Rattle.gains.proofs.Held.{held_count, held_steps, held_lent}
use Rattle.gains.proofs.Sources.{input_most}

-- STEPS
-- no tick earns anything without a step
pub earned_none : (activity k : ℕ) → earned [] activity k ≡ 0
unfolding drop_of
earned_none activity k = sum_constant k (λ (i : ℕ). drop_of [] i * activity) 0 (λ (i : ℕ) (h : i < k). zero-mul activity) ∙ mul-zero k

module _ (s : Step) (ss : List Step) (activity : ℕ) where
  within_step : (k : ℕ) → k ≤ s.width → earned (s ∷ ss) activity k ≡ k * (s.drop * activity)
  unfolding drop_of
  within_step k h =
      sum_constant k (λ (i : ℕ). drop_of (s ∷ ss) i * activity) (s.drop * activity)
      (λ (i : ℕ) (l : i < k). rw (lt-ltb i s.width (omega arith)))

  past_step : (i : ℕ) → drop_of (s ∷ ss) (s.width + i) * activity ≡ drop_of ss i * activity
  unfolding drop_of
  past_step i =
      let e : s.width + i - s.width ≡ i = omega arith in
      rw (le-ltb (s.width + i) s.width (omega arith), e)

  beyond_step : (r : ℕ) → earned (s ∷ ss) activity (s.width + r) ≡ s.width * (s.drop * activity) + earned ss activity r
  beyond_step r =
      let f : ℕ → ℕ = λ (i : ℕ). drop_of (s ∷ ss) i * activity in
      let near = within_step s.width (omega arith) in
      let far = sum_same r (λ (i : ℕ). f (s.width + i)) (λ (i : ℕ). drop_of ss i * activity) (λ (i : ℕ) (h : i < r). past_step i) in
      omega (arith, sum_stretches s.width r f)

  pub earned_step : (k : ℕ) → earned (s ∷ ss) activity k ≡ min k s.width * (s.drop * activity) + earned ss activity (k - min k s.width)
  unfolding sum
  earned_step k =
      ⊎_elim
      (λ (h : k ≤ s.width).
      let e : k - k ≡ 0 = omega arith in
      rw (min-eq_left h, e) (within_step k h ∙ sym (add-zero (k * (s.drop * activity)))))
      (λ (h : s.width < k).
      let l : s.width ≤ k = omega arith in
      let e : k ≡ s.width + (k - s.width) = omega arith in
      rw (min-eq_right l) (ap (earned (s ∷ ss) activity) e ∙ beyond_step (k - s.width)))
      (le_or_lt k s.width)

-- THE LOOP OVER STEPS
module _ (counts step_widths drops : List ℕ) (g activity increase : ℕ) where
  abbrev steps : List Step
  steps = steps_in counts step_widths drops g

  -- j steps are passed: what is earned, and what the ticks left earn from the others, make up all that the increase earns
  abbrev pub Earning : ℕ → ℕ → ℕ → Type 0
  Earning j left saved = saved + earned (drop j steps) activity left ≡ earned steps activity increase

  pub earning_none : Earning 0 increase 0
  earning_none = zero-add (earned steps activity increase)

  pub earning_more : (j place left saved ticks gained : ℕ)
      → j < get_or counts g 0
      → place ≡ step_place g j
      → ticks ≡ min left (get_or step_widths place 0)
      → gained ≡ ticks * (get_or drops place 0 * activity)
      → Earning j left saved
      → Earning (j + 1) (left - ticks) (saved + gained)
  earning_more j place left saved ticks gained h p e f so_far =
      let s = step_at step_widths drops g j in
      let here : drop j steps ≡ s ∷ drop (j + 1) steps =
      drop-cons steps j s (rw length_build h)
      ∙ rw (add-one j, get_or_build (get_or counts g 0) (step_at step_widths drops g) j s h) in
      let step : earned (drop j steps) activity left ≡ gained + earned (drop (j + 1) steps) activity (left - ticks) =
      ap (λ (ss : List Step). earned ss activity left) here ∙ rw (f, e, p) (earned_step s (drop (j + 1) steps) activity left) in
      omega arith

  pub earning_all : (j left saved : ℕ) → j ≡ get_or counts g 0 → Earning j left saved → saved ≡ earned steps activity increase
  earning_all j left saved e so_far =
      let none : drop j steps ≡ [] = ap (λ (k : ℕ). drop k steps) (e ∙ sym (length_build (get_or counts g 0) (step_at step_widths drops g))) ∙ drop-length steps in
      let no_more : earned (drop j steps) activity left ≡ 0 = ap (λ (ss : List Step). earned ss activity left) none ∙ earned_none activity left in
      omega arith

-- What a step earns fits.
pub step_small : (ticks d activity : ℕ) → ticks ≤ max_width → d ≤ max_drop → activity ≤ max_input → ticks * (d * activity) ≤ most_of_step
step_small ticks d activity h k l = mul-le-mul h (mul-le-mul k l)

module _ (counts step_widths drops : List ℕ) (g : ℕ) (lent : StepsLent counts step_widths drops g) (j place : ℕ) (h : j < get_or counts g 0) (e : place ≡ step_place g j) where
  pub ticks_small : (left ticks : ℕ) → ticks ≡ min left (get_or step_widths place 0) → ticks ≤ max_width
  ticks_small left ticks f =
      let w : get_or step_widths place 0 ≤ max_width = rw e (lent.widths_lent.width_small j h) in
      omega (arith, min-le_right left (get_or step_widths place 0))

  pub drop_small : get_or drops place 0 ≤ max_drop
  drop_small = rw e (lent.drop_small j h)

-- THE LOOP OVER GATES
-- what a gate's ticks earn is the sum of their gains
pub earned_is_gain : (B : Block) (n : ℕ) (counts step_widths drops : List ℕ) → Held B n counts step_widths drops → (g activity k : ℕ) → g < n → activity ≡ input_activity B g → earned (steps_in counts step_widths drops g) activity k ≡ sum k (gain B g)
unfolding gain
earned_is_gain B n counts step_widths drops held g activity k h e = rw (e, ← held_steps B n counts step_widths drops held g h)

-- what the first n gates earn
abbrev pub earned_in : ℕ → List ℕ → List ℕ → List ℕ → List ℕ → List ℕ → ℕ
earned_in n counts step_widths drops inputs increases =
    sum n (λ (g : ℕ). earned (steps_in counts step_widths drops g) (get_or inputs g 0) (get_or increases g 0))

-- a range of numbers is summed over its places
built_sum : (n : ℕ) (f : ℕ → ℕ) → sum_by f (build n (λ (i : ℕ). i)) ≡ sum n f
unfolding sum build
built_sum zero f = refl
built_sum (suc n) f = sum_by_push f (build n (λ (i : ℕ). i)) n ∙ ap (λ (s : ℕ). s + f n) (built_sum n f)

range_sum : (n : ℕ) (f : ℕ → ℕ) → sum_by f (range_with_len 0 n) ≡ sum n f
range_sum n f = ap (sum_by f) (ext_get_or 0 (range_with_len 0 n) (build n (λ (i : ℕ). i)) (length-range_with_len 0 n ∙ sym (length_build {A = ℕ} n (λ (i : ℕ). i))) each) ∙ built_sum n f
  where
    each : (i : ℕ) → i < length (range_with_len 0 n) → get_or (range_with_len 0 n) i 0 ≡ get_or (build n (λ (i : ℕ). i)) i 0
    each i h =
        let below : i < n = omega (arith, length-range_with_len 0 n) in
        get_or-range_with_len 0 n i 0 below ∙ zero-add i ∙ sym (get_or_build {A = ℕ} n (λ (i : ℕ). i) i 0 below)

-- steps that are as small as a step can be earn no more than each of them at the most
steps_most : (ss : List Step) (activity k : ℕ) → ((s : Step) → Memᴰ s ss → (s.width ≤ max_width) × (s.drop ≤ max_drop)) → activity ≤ max_input → earned ss activity k ≤ length ss * most_of_step
steps_most [] activity k small a = omega (arith, earned_none activity k)
steps_most (s ∷ ss) activity k small a =
    let here = small s (Memᴰ.head refl) in
    let first = step_small (min k s.width) s.drop activity (omega (arith, min-le_right k s.width)) here.1 a in
    let rest = steps_most ss activity (k - min k s.width) (λ (t : Step) (m : Memᴰ t ss). small t (Memᴰ.tail m)) a in
    omega (arith, earned_step s ss activity k)

-- so does a gate
pub gate_most : (counts step_widths drops : List ℕ) (g activity k : ℕ) → StepsLent counts step_widths drops g → activity ≤ max_input → earned (steps_in counts step_widths drops g) activity k ≤ most_of_gate
gate_most counts step_widths drops g activity k lent a =
    let each : (s : Step) → Memᴰ s (steps_in counts step_widths drops g) → (s.width ≤ max_width) × (s.drop ≤ max_drop) =
    λ (s : Step) (m : Memᴰ s (steps_in counts step_widths drops g)).
    let r = mem_build (get_or counts g 0) (step_at step_widths drops g) m in
    rw r.2 (lent.widths_lent.width_small r.0 r.1, lent.drop_small r.0 r.1) in
    omega (arith, steps_most (steps_in counts step_widths drops g) activity k each a, length_build (get_or counts g 0) (step_at step_widths drops g), lent.widths_lent.few)

module _ (n : ℕ) (counts step_widths drops inputs increases : List ℕ) where
  -- what each gate's increase earns, summed over the gates in a range
  pub range_earned : sum_by (λ (g : ℕ). earned (steps_in counts step_widths drops g) (get_or inputs g 0) (get_or increases g 0)) (range_with_len 0 n) ≡ earned_in n counts step_widths drops inputs increases
  range_earned = range_sum n (λ (g : ℕ). earned (steps_in counts step_widths drops g) (get_or inputs g 0) (get_or increases g 0))

  pub earned_most : Earnable n counts step_widths drops inputs increases → earned_in n counts step_widths drops inputs increases ≤ n * most_of_gate
  earned_most able =
      sum_bounded n (λ (g : ℕ). earned (steps_in counts step_widths drops g) (get_or inputs g 0) (get_or increases g 0)) most_of_gate
      (λ (g : ℕ) (h : g < n). gate_most counts step_widths drops g (get_or inputs g 0) (get_or increases g 0) (able.steps g h) (able.input_small g h))

  -- any list that has these increases in front saves what the gates earn
  saving_is : (B : Block) (x : List ℕ)
      → Held B n counts step_widths drops
      → ((g : ℕ) → g < n → get_or inputs g 0 ≡ input_activity B g)
      → ((g : ℕ) → g < n → get_or x g 0 ≡ get_or increases g 0)
      → earned_in n counts step_widths drops inputs increases ≡ saving B x
  unfolding saving
  saving_is B x held inputs_are same =
      sum_same n (λ (g : ℕ). earned (steps_in counts step_widths drops g) (get_or inputs g 0) (get_or increases g 0))
      (λ (g : ℕ). sum (get_or x g 0) (gain B g))
      (λ (g : ℕ) (h : g < n).
      earned_is_gain B n counts step_widths drops held g (get_or inputs g 0) (get_or increases g 0) h (inputs_are g h)
      ∙ ap (λ (k : ℕ). sum k (gain B g)) (sym (same g h)))
      ∙ ap (λ (k : ℕ). sum k (λ (g : ℕ). sum (get_or x g 0) (gain B g))) (sym (held_count B n counts step_widths drops held))

  pub list_saving : (r : ℕ) → r ≡ earned_in n counts step_widths drops inputs increases → Earnable n counts step_widths drops inputs increases → ListSaving n counts step_widths drops inputs increases r
  list_saving r e able =
      record {
        small = rw e (earned_most able);
        of_front = λ B held inputs_are. e ∙ saving_is B (take n increases) held inputs_are (λ (g : ℕ) (h : g < n). get_or-take n increases g 0 h);
        of_all = λ B held inputs_are. e ∙ saving_is B increases held inputs_are (λ (g : ℕ) (h : g < n). refl);
      }

  -- a block within the limits, its input activities found, gives all that is asked
  pub block_earnable : (B : Block)
      → BlockLimits B
      → Held B n counts step_widths drops
      → ((g : ℕ) → g < n → get_or inputs g 0 ≡ input_activity B g)
      → n ≤ length counts
      → n * max_steps ≤ length step_widths
      → n * max_steps ≤ length drops
      → n ≤ length inputs
      → n ≤ length increases
      → Earnable n counts step_widths drops inputs increases
  block_earnable B limits held inputs_are counts_long widths_long drops_long inputs_long increases_long =
      let count = held_count B n counts step_widths drops held in
      record {
        gates = omega (arith, limits.gates_most);
        steps = held_lent B n counts step_widths drops held limits counts_long widths_long drops_long;
        inputs_long = inputs_long;
        input_small = λ (g : ℕ) (h : g < n). omega (arith, inputs_are g h, input_most B limits g (omega arith));
        increases_long = increases_long;
      }
