-- Words of a block filled gate by gate, and each gate step by step: one more step, one more gate, and the gates written before.
-- Assumes nothing.
use mathlib.Core.Path.{◌≡◌, refl, sym, ◌∙◌}
use mathlib.Core.List.{List}
use Prim.Native.Nat.{ℕ, ◌+◌, ◌≤◌, ◌<◌}
use native.Mathlib.Decide.{ℕ_discrete}
use native.Mathlib.Omega.{arith}
use lib.ListN.{length, get_or, set, length-set}
use lib.Seq.{get_or-set_same, get_or-set_other}
use Rattle.model.specs.Limits.{max_gates, max_steps, max_pairs}
use Rattle.model.specs.Arrays.{step_place}
use Rattle.words.specs.View.{view}
use Rattle.words.proofs.Views.{read_on}
use Rattle.blockwords.specs.BlockWords.{counts_from, widths_from, drops_from, inputs_from, block_words}
use Rattle.blockwords.specs.Gathered.{Gatherable, GateHeld, GatheredTo, Gathered, BesideGate, with_step, with_numbers, StepsWritten, GateWritten}

-- widths or drops, which begin at word `from`: those of the steps of gate g below j stand there, and then that of step j
one_more : (from g j : ℕ) (xs words : List ℕ) → step_place g j + from < length words → ((i : ℕ) → i < j → get_or words (step_place g i + from) 0 ≡ get_or xs (step_place g i) 0) → (i : ℕ) → i < j + 1 → get_or (set words (step_place g j + from) (get_or xs (step_place g j) 0)) (step_place g i + from) 0 ≡ get_or xs (step_place g i) 0
one_more from g j xs words l below i m = go (ℕ_discrete i j)
  where
    go : Dec (i ≡ j) → get_or (set words (step_place g j + from) (get_or xs (step_place g j) 0)) (step_place g i + from) 0 ≡ get_or xs (step_place g i) 0
    go (yes e) = rw (e, get_or-set_same words (step_place g j + from) (get_or xs (step_place g j) 0) 0 l)
    go (no d) =
        get_or-set_other words (step_place g j + from) (step_place g i + from) (get_or xs (step_place g j) 0) 0 (λ e. d (omega arith))
        ∙ below i (omega arith)

pub no_steps : {g : ℕ} {step_widths drops block : List ℕ} → StepsWritten g 0 step_widths drops block block
no_steps = record { width = λ j l. omega arith; drop = λ j l. omega arith; kept = λ p d. refl; long = refl }

module _ {g j : ℕ} {step_widths drops block block' : List ℕ} (s : StepsWritten g j step_widths drops block block') (gate : g < max_gates) (step : j < max_steps) (long : block_words ≤ length block) where
  abbrev width_place : ℕ
  width_place = step_place g j + widths_from

  abbrev drop_place : ℕ
  drop_place = step_place g j + drops_from

  abbrev w : ℕ
  w = get_or step_widths (step_place g j) 0

  abbrev d : ℕ
  d = get_or drops (step_place g j) 0

  abbrev half : List ℕ
  half = set block' width_place w

  same_long : length half ≡ length block
  same_long = length-set block' width_place w ∙ s.long

  pub step_more : StepsWritten g (j + 1) step_widths drops block (with_step g j step_widths drops block')
  step_more =
      record {
        width =
            λ i l.
            get_or-set_other half drop_place (step_place g i + widths_from) d 0 (omega arith)
            ∙ one_more widths_from g j step_widths block' (omega (arith, s.long)) s.width i l;
        drop =
            one_more drops_from g j drops half (omega (arith, same_long))
            (λ i l. get_or-set_other block' width_place (step_place g i + drops_from) w 0 (omega arith) ∙ s.drop i l);
        kept =
            λ p b.
            get_or-set_other half drop_place p d 0 (b j step).1 ∙ get_or-set_other block' width_place p w 0 (b j step).0 ∙ s.kept p b;
        long = length-set half drop_place d ∙ same_long;
      }

-- no step is left
pub all_steps : {g j count : ℕ} {step_widths drops block block' : List ℕ} → count ≤ j → StepsWritten g j step_widths drops block block' → StepsWritten g count step_widths drops block block'
all_steps l s = record { width = λ i m. s.width i (omega arith); drop = λ i m. s.drop i (omega arith); kept = s.kept; long = s.long }

-- Gate g's number of steps and input activity are written, then its steps.
module _ (g : ℕ) (counts inputs block : List ℕ) (gate : g < max_gates) (few : get_or counts g 0 ≤ max_steps) (long : block_words ≤ length block) where
  abbrev count : ℕ
  count = get_or counts g 0

  abbrev input : ℕ
  input = get_or inputs g 0

  abbrev counted : List ℕ
  counted = set block (g + counts_from) count

  counted_long : length counted ≡ length block
  counted_long = length-set block (g + counts_from) count

  pub gate_written : {step_widths drops block' : List ℕ} → StepsWritten g count step_widths drops (with_numbers g counts inputs block) block' → GateWritten g counts step_widths drops inputs block block'
  gate_written {block' = block'} s =
      record {
        held =
            record {
              count =
                  sym (read_on counts_from max_gates block' g gate)
                  ∙ s.kept (g + counts_from) (λ j b. omega arith)
                  ∙ get_or-set_other counted (g + inputs_from) (g + counts_from) input 0 (omega arith)
                  ∙ get_or-set_same block (g + counts_from) count 0 (omega arith);
              input =
                  sym (read_on inputs_from max_gates block' g gate)
                  ∙ s.kept (g + inputs_from) (λ j b. omega arith)
                  ∙ get_or-set_same counted (g + inputs_from) input 0 (omega (arith, counted_long));
              width = λ j l. sym (read_on widths_from max_pairs block' (step_place g j) (omega arith)) ∙ s.width j l;
              drop = λ j l. sym (read_on drops_from max_pairs block' (step_place g j) (omega arith)) ∙ s.drop j l;
            };
        kept =
            λ p b.
            let c = b 0 (omega arith) in
            s.kept p (λ j l. ((b j l).2, (b j l).3))
            ∙ get_or-set_other counted (g + inputs_from) p input 0 c.1
            ∙ get_or-set_other block (g + counts_from) p count 0 c.0;
        long = s.long ∙ length-set counted (g + inputs_from) input ∙ counted_long;
      }

module _ {g : ℕ} {counts step_widths drops inputs block block' : List ℕ} (w : GateWritten g counts step_widths drops inputs block block') (gate : g < max_gates) where
  -- a number of another gate
  still : (from count k : ℕ) → k < count → BesideGate g (k + from) → get_or (view from 1 count block') k 0 ≡ get_or (view from 1 count block) k 0
  still from count k l b = sym (read_on from count block' k l) ∙ w.kept (k + from) b ∙ read_on from count block k l

  still_held : (h : ℕ) → h < g → get_or counts h 0 ≤ max_steps → GateHeld h counts step_widths drops inputs block → GateHeld h counts step_widths drops inputs block'
  still_held h l few x =
      record {
        count = still counts_from max_gates h (omega arith) (λ j b. omega arith) ∙ x.count;
        input = still inputs_from max_gates h (omega arith) (λ j b. omega arith) ∙ x.input;
        width = λ i m. still widths_from max_pairs (step_place h i) (omega arith) (λ j b. omega arith) ∙ x.width i m;
        drop = λ i m. still drops_from max_pairs (step_place h i) (omega arith) (λ j b. omega arith) ∙ x.drop i m;
      }

  pub gate_more : {n : ℕ} → ((h : ℕ) → h < n → get_or counts h 0 ≤ max_steps) → g < n → GatheredTo g n counts step_widths drops inputs block → GatheredTo (g + 1) n counts step_widths drops inputs block'
  gate_more {n} few l x =
      record {
        gates = w.kept 0 (λ j b. omega arith) ∙ x.gates;
        each = λ h m. go h m (ℕ_discrete h g);
        long = omega (arith, w.long, x.long);
      }
    where
      go : (h : ℕ) → h < g + 1 → Dec (h ≡ g) → GateHeld h counts step_widths drops inputs block'
      go h m (yes e) = rw e w.held
      go h m (no d) = let b : h < g = omega (arith, d) in still_held h b (few h (omega arith)) (x.each h b)

-- the number of gates written, no gate yet
pub no_gates : {n : ℕ} {counts step_widths drops inputs block : List ℕ} → Gatherable n counts block → GatheredTo 0 n counts step_widths drops inputs (set block 0 n)
no_gates {n} {block = block} r =
    record {
      gates = get_or-set_same block 0 n 0 (omega arith);
      each = λ g b. omega arith;
      long = omega (arith, length-set block 0 n);
    }

-- no gate is left
pub all_gates : {g n : ℕ} {counts step_widths drops inputs block : List ℕ} → n ≤ g → GatheredTo g n counts step_widths drops inputs block → Gathered n counts step_widths drops inputs block
all_gates l x = record { gates = x.gates; each = λ h m. x.each h (omega arith); long = x.long }
