-- The buyer's three demands, and document 02's requests, as theorems about what the calls promise: `AnswersSlacks`, `AnswersCurve`, `AnswersBest`, `AnswersJudge`, `AnswersTicks` and `AnswersLayout` of model say what each call answers and what the lent slices hold afterwards, for any file and any slices, and allow one outcome only (`answers-..-unique` of model); each is the promise of the call of its name. That no call overflows or reads past an end is what the checker asks of every function.
-- `WellFormed file B`: the file holds the block B, and none of the refusals 1 to 9 fits it. It and the lengths of the lent slices are all that a theorem asks for.
-- Assumes nothing.
use mathlib.Core.Path.{◌≡◌, ◌∙◌, ap}
use mathlib.Core.Logic.{◌↔◌, ◌≢◌, ◌⊎◌, inl, inr, ⊎_elim}
use mathlib.Core.List.{List, [], ◌∷◌, Memᴰ}
use Prim.Native.Nat.{ℕ, suc, ◌+◌, ◌-◌, ◌*◌, ◌≤◌, ◌<◌}
use native.Mathlib.Nat.{add-zero}
use native.Mathlib.Omega.{arith}
use lib.IntN.{ℤ, pos, ◌-ℤ◌}
use lib.ListN.{length, get_or, take, drop}
use Rattle.lists.specs.Over.{build, over}
use Rattle.lists.specs.Search.{Lowest}
use Rattle.lists.proofs.Compare.{le_or_lt}
use Rattle.model.specs.Limits.{max_gates, max_activity, max_drop, max_gain, max_pairs, max_ticks}
use Rattle.model.specs.Block.{Block, redated, gate_count, first, last}
use Rattle.model.specs.Netlist.{Netlist, block_of}
use Rattle.model.specs.File.{Limited, found, decode, encode}
use Rattle.model.specs.Path.{Longest}
use Rattle.model.specs.Gain.{saving}
use Rattle.model.specs.InTime.{drawn, Within, AnyTime, InTime, IsStart}
use Rattle.model.specs.Ties.{Before}
use Rattle.model.specs.Best.{Best}
use Rattle.model.specs.Curve.{Pair, all_ticks, count_off, IsCurve}
use Rattle.model.specs.Part.{Shape, Whole, SeriesParallel, lone, built}
use Rattle.model.specs.Slack.{source_delay, required_time, slack, start}
use Rattle.model.specs.Ticks.{Reached, Fewest}
use Rattle.model.specs.Scale.{FinerTicks}
use Rattle.model.specs.Remainder.{Moment, beginning, Move, Moves, ReducedTo, Remains}
use Rattle.model.specs.Refusal.{SoundNetwork, WellFormed, IllFormed}
use Rattle.model.specs.Layout.{increase_bytes, list_bytes, GivesLayout, AnswersLayout}
use Rattle.model.specs.Answer.{Outcome, Slices, accepted, refusal, Line, Judged, ill_formed, well_formed, NotSeriesParallelAt, GivesCurve, GivesBest, GivesTicks, fewest, AnswersSlacks, AnswersCurve, AnswersBest, AnswersJudge, AnswersTicks}
use Rattle.model.proofs.Reading.{read_block_found}
use Rattle.model.proofs.File.{encode_decodes}
use Rattle.model.proofs.Limited.{read_limits}
use Rattle.model.proofs.Editions.{Agree, same_block_read}
use Rattle.model.proofs.Best.{best_unique}
use Rattle.model.proofs.Ties.{before_exactly}
use Rattle.model.proofs.Slack as paths
use Rattle.model.proofs.Ticks.{fewest_by_curve, unreached_by_curve, fewest_small, unreached_exactly, ticks_redated}
use Rattle.model.proofs.Answer.{lowest_unique, ill_unique, eleven_unique}
use Rattle.optimum.proofs.Scaling.{finer_ticks}
use Rattle.parts.proofs.Remainder.{same_gates_left}
use Rattle.parts.proofs.Remains.{some_end, left_exactly}
use Rattle.planting.proofs.Wires.{few_wires}
use Rattle.shaping.proofs.Facts.{descending, ranges, no_wire_twice}
use Rattle.demands.proofs.TableLaws.{ill_formed_number, same_outcomes, passed, decided, roomy, answered_at, eleven_line, after_eleven, behind_eleven_exactly}
use Rattle.demands.proofs.CallLaws.{both, beside, best_in_front, best_bytes, limits, as_network, some_gate, along, late_or_not, in_time, slacks_lines, curve_lines, best_lines, judge_lines, layout_lines, ticks_lines, best_accepts, layout_accepts, curve_accepts, ticks_accepts}
use Rattle.demands.proofs.Ending.{steps_made, steps_few, no_endless_order, comes_to_an_end}
use Rattle.demands.proofs.GainLaws.{pair_gain, formula_ranges}
use Rattle.demands.proofs.Judging.{accepted_in_time, accepted_saves}

-- the block is one gate without a wire
abbrev pub Lone : Block → Type 0
Lone B = (gate_count B ≡ 1) × (B.wires ≡ [])

-- "the block is no lone gate and no building up from wires in series and in parallel gives the block"
abbrev pub NotBuilt : Block → Type 0
NotBuilt B = (¬ (Lone B)) × ((P : Shape) → ¬ (Whole B P))

not_series_parallel : {B : Block} → (¬ (SeriesParallel B)) ↔ NotBuilt B
not_series_parallel {B} = (λ none. (λ l. none (lone l.0 l.1), λ P w. none (built P w)), back)
  where
    back : NotBuilt B → ¬ (SeriesParallel B)
    back none (lone one no_wire) = none.0 (one, no_wire)
    back none (built P whole) = none.1 P whole

-- what is said of 11: when it comes, and with which place
pub record ElevenExactly {S : Type 0} (B : Block) (o : Outcome S) : Type 0 where
  pub exactly : ((p : ℕ) × (o.answer ≡ refusal 11 p)) ↔ NotBuilt B
  pub place : (p : ℕ) → (o.answer ≡ refusal 11 p) ↔ (NotBuilt B × Lowest (Remains B) p)

-- so it is by the line of 11, where the further lines are for series-parallel blocks and do not answer it
eleven_by : {S : Type 0} {B : Block} {lent : S} {further : Outcome S → Type 0} {o : Outcome S} → (further o → (¬ (o.answer.number ≡ 11)) × SeriesParallel B) → Line lent 11 (NotSeriesParallelAt B) further o → ElevenExactly B o
eleven_by other line =
    let (there, back) = not_series_parallel in
    record {
      exactly = both (eleven_line other line) not_series_parallel;
      place = λ p. both (answered_at eleven_unique (λ f. (other f).0) line p) (λ w. (there w.0, w.1), λ w. (back w.0, w.1));
    }

-- DEMAND 1, its second sentence. "Every other file .. gets one numbered refusal with its place, and the lent memory is unchanged": of every call, since each begins with the refusals 1 to 9.
pub other_file : {S : Type 0} {file : List ℕ} {lent : S} {further : Block → Outcome S → Type 0} {o : Outcome S} → ((B : Block) → ¬ (WellFormed file B))
    → Judged file lent further o
    → (k : ℕ) × (p : ℕ) × IllFormed file k p × (1 ≤ k) × (k ≤ 9) × (o ≡ record { answer = refusal k p; memory = lent })
other_file {file = file} none (ill_formed k p i e) = let range = ill_formed_number file i in (k, p, i, range.0, range.1, e)
other_file none (well_formed B w f) = absurd (none B w)

pub one_refusal : {file : List ℕ} {k p l q : ℕ} → IllFormed file k p → IllFormed file l q → (k ≡ l) × (p ≡ q)
one_refusal = ill_unique

module _ {file : List ℕ} {B : Block} (well : WellFormed file B) where
  -- DEMAND 1, its first sentence. "Every well-formed block file gets its slacks, ..
  pub slacks_given : {lent : List ℤ} {o : Outcome (List ℤ)} → AnswersSlacks file lent o → gate_count B ≤ length lent
      → o ≡ record { answer = accepted (gate_count B ∷ []); memory = over (build (gate_count B) (slack B)) lent }
  slacks_given a long = roomy long (slacks_lines well a)

  -- .. when series-parallel its curve, ..
  pub curve_given : {lent : Slices} {o : Outcome Slices} → AnswersCurve file lent o → max_pairs ≤ length lent.for_widths → max_pairs ≤ length lent.for_gains
      → SeriesParallel B
      → GivesCurve B lent o
  curve_given a wide long sp = passed (λ p w. w.0 sp) (roomy long (roomy wide (curve_lines well a)))

  -- .. and when also in time its increases."
  pub increases_given : {lent y : List ℕ} {o : Outcome (List ℕ)} → AnswersBest file lent o → gate_count B ≤ length lent → SeriesParallel B → InTime B y
      → GivesBest B lent o
  increases_given a long sp ok = in_time well sp ok (roomy long (best_lines well a))

  pub layout_given : {lent y : List ℕ} {o : Outcome (List ℕ)} → AnswersLayout file lent o → increase_bytes * gate_count B ≤ length lent → SeriesParallel B → InTime B y
      → GivesLayout B lent o
  layout_given a long sp ok = in_time well sp ok (roomy long (layout_lines well a))

  -- "Every other .. short buffer": 10 with the elements needed.
  pub slacks_short : {lent : List ℤ} {o : Outcome (List ℤ)} → AnswersSlacks file lent o → length lent < gate_count B
      → o ≡ record { answer = refusal 10 (gate_count B); memory = lent }
  slacks_short a short = decided short (slacks_lines well a)

  pub increases_short : {lent : List ℕ} {o : Outcome (List ℕ)} → AnswersBest file lent o → length lent < gate_count B
      → o ≡ record { answer = refusal 10 (gate_count B); memory = lent }
  increases_short a short = decided short (best_lines well a)

  pub judge_short : {lent : List ℕ} {o : Outcome (List ℕ)} → AnswersJudge file lent o → length lent < gate_count B
      → o ≡ record { answer = refusal 10 (gate_count B); memory = lent }
  judge_short a short = decided short (judge_lines well a)

  pub layout_short : {lent : List ℕ} {o : Outcome (List ℕ)} → AnswersLayout file lent o → length lent < increase_bytes * gate_count B
      → o ≡ record { answer = refusal 10 (increase_bytes * gate_count B); memory = lent }
  layout_short a short = decided short (layout_lines well a)

  pub curve_short : {lent : Slices} {o : Outcome Slices} → AnswersCurve file lent o → (length lent.for_widths < max_pairs) ⊎ (length lent.for_gains < max_pairs)
      → o ≡ record { answer = refusal 10 max_pairs; memory = lent }
  curve_short a (inl short) = decided short (curve_lines well a)
  curve_short {lent} {o} a (inr short) =
      ⊎_elim (λ (wide : max_pairs ≤ length lent.for_widths). decided short (roomy wide (curve_lines well a))) (λ (narrow : length lent.for_widths < max_pairs). decided narrow (curve_lines well a))
      (le_or_lt max_pairs (length lent.for_widths))

  -- DEMAND 2. "Slacks follow Girard and others, section 2, with our deadline": source delay, required time and slack are what the paths say, and so is start.
  pub source_delay_is : (g : ℕ) → g < gate_count B
      → (t : ℕ) × Longest B.wires (drawn B) (first B) g t × (source_delay B g ≡ B.arrival + t)
  source_delay_is = paths.source_is B well.network (along well) (some_gate well)

  pub required_time_is : (g : ℕ) → g < gate_count B
      → (u : ℕ) × Longest B.wires (drawn B) g (last B) (drawn B g + u) × (required_time B g ≡ pos B.deadline -ℤ pos u)
  required_time_is = paths.required_is B well.network (along well) (some_gate well)

  pub slack_is : (g : ℕ) → g < gate_count B
      → (t : ℕ)
      × (u : ℕ)
      × Longest B.wires (drawn B) (first B) g t
      × Longest B.wires (drawn B) g (last B) (drawn B g + u)
      × (slack B g ≡ pos B.deadline -ℤ pos (B.arrival + t + u))
  slack_is = paths.slack_is B well.network (along well) (some_gate well)

  pub start_is : IsStart B (start B)
  start_is = paths.start_is B well.network (along well) (some_gate well)

  -- "A proposed list of increases is accepted if and only if each lies within its gate's steps and every path is in time, ..
  pub accepted_exactly : {lent : List ℕ} {o : Outcome (List ℕ)} → AnswersJudge file lent o → gate_count B ≤ length lent
      → (o.answer.number ≡ 0) ↔ InTime B (take (gate_count B) lent)
  accepted_exactly {lent} a long = accepted_in_time B lent long (roomy long (judge_lines well a))

  -- .. and the saving stated .. is the sum of the list's gains." (For a returned list it is so by `increases_given`.)
  pub saving_stated : {lent : List ℕ} {o : Outcome (List ℕ)} → AnswersJudge file lent o → gate_count B ≤ length lent → o.answer.number ≡ 0
      → o ≡ record { answer = accepted (saving B (take (gate_count B) lent) ∷ []); memory = lent }
  saving_stated {lent} a long is_accepted = accepted_saves B lent is_accepted (roomy long (judge_lines well a))

  -- DEMAND 3. "If its block is series-parallel and some list .. brings every path in time, the list of best increases returned is such a list, and every other such list saves less, or saves as much and comes later in the order of ties": that is `Best`.
  pub best_returned : {lent y : List ℕ} {o : Outcome (List ℕ)} → AnswersBest file lent o → gate_count B ≤ length lent → SeriesParallel B → InTime B y
      → Best B (take (gate_count B) o.memory)
      × (o.answer ≡ accepted (saving B (take (gate_count B) o.memory) ∷ gate_count B ∷ []))
      × (drop (gate_count B) o.memory ≡ drop (gate_count B) lent)
  best_returned a long sp ok = best_in_front (increases_given a long sp ok)

  -- The layout editor is given the best list as bytes, four an increase; ..
  pub best_laid_out : {lent y : List ℕ} {o : Outcome (List ℕ)} → AnswersLayout file lent o → increase_bytes * gate_count B ≤ length lent → SeriesParallel B → InTime B y
      → (x : List ℕ) × Best B x × (o ≡ record { answer = accepted (saving B x ∷ gate_count B ∷ []); memory = over (list_bytes x) lent })
  best_laid_out a long sp ok = best_bytes (layout_given a long sp ok)

  -- .. "the layout editor's bytes hold that same list" (document 01): the one that the best increases leave in front of their slice.
  pub same_list_laid_out : {lent bytes y : List ℕ} {o q : Outcome (List ℕ)} → AnswersBest file lent o → gate_count B ≤ length lent
      → AnswersLayout file bytes q
      → increase_bytes * gate_count B ≤ length bytes
      → SeriesParallel B
      → InTime B y
      → q.memory ≡ over (list_bytes (take (gate_count B) o.memory)) bytes
  same_list_laid_out {bytes = bytes} {o = o} a long b wide sp ok =
      let (x, is_best, e) = best_laid_out b wide sp ok in
      ap (λ (q : Outcome (List ℕ)). q.memory) e
      ∙ ap (λ (z : List ℕ). over (list_bytes z) bytes) (best_unique B x (take (gate_count B) o.memory) is_best (best_returned a long sp ok).0)

  -- "Not series-parallel" is returned exactly when the block is no lone gate and no building up gives it; and with which place, "the lowest-numbered gate left other than 0 and n − 1" (document 02, K1), ..
  pub eleven_exactly : {lent : List ℕ} {o : Outcome (List ℕ)} → AnswersBest file lent o → gate_count B ≤ length lent → ElevenExactly B o
  eleven_exactly a long = eleven_by (after_eleven (omega arith) best_accepts) (roomy long (best_lines well a))

  pub layout_eleven_exactly : {lent : List ℕ} {o : Outcome (List ℕ)} → AnswersLayout file lent o → increase_bytes * gate_count B ≤ length lent → ElevenExactly B o
  layout_eleven_exactly a long = eleven_by (after_eleven (omega arith) layout_accepts) (roomy long (layout_lines well a))

  pub curve_eleven_exactly : {lent : Slices} {o : Outcome Slices} → AnswersCurve file lent o → max_pairs ≤ length lent.for_widths → max_pairs ≤ length lent.for_gains → ElevenExactly B o
  curve_eleven_exactly a wide long = eleven_by curve_accepts (roomy long (roomy wide (curve_lines well a)))

  -- .. and "late" exactly when it is series-parallel and no list is in time.
  pub twelve_exactly : {lent : List ℕ} {o : Outcome (List ℕ)} → AnswersBest file lent o → gate_count B ≤ length lent
      → (o.answer ≡ refusal 12 0) ↔ (SeriesParallel B × ((x : List ℕ) → ¬ (InTime B x)))
  twelve_exactly a long = both (behind_eleven_exactly (omega arith) best_accepts (roomy long (best_lines well a))) (late_or_not well)

  pub layout_twelve_exactly : {lent : List ℕ} {o : Outcome (List ℕ)} → AnswersLayout file lent o → increase_bytes * gate_count B ≤ length lent
      → (o.answer ≡ refusal 12 0) ↔ (SeriesParallel B × ((x : List ℕ) → ¬ (InTime B x)))
  layout_twelve_exactly a long = both (behind_eleven_exactly (omega arith) layout_accepts (roomy long (layout_lines well a))) (late_or_not well)

  -- DOCUMENT 02, K1. "Show that the gates left don't depend on the order": whatever gates are taken away and doubled wires merged, and in whatever order, until neither applies, the same gates are taken away, ..
  pub same_left : (M N : Moment) → ReducedTo B M → ReducedTo B N → (g : ℕ) → Memᴰ g M.taken ↔ Memᴰ g N.taken
  same_left = same_gates_left B

  -- .. some order comes to an end, ..
  pub left_at_an_end : (M : Moment) × ReducedTo B M
  left_at_an_end = some_end (as_network well)

  -- .. and so does every order: each step leaves one wire fewer, so that there are no more steps than wires, ..
  pub few_steps : {M : Moment} (moves : Moves (beginning B) M) → steps_made moves ≤ length B.wires
  few_steps = steps_few B

  pub not_endless : (M : ℕ → Moment) → M 0 ≡ beginning B → ¬ ((i : ℕ) → Move (M i) (M (suc i)))
  not_endless = no_endless_order B

  -- .. and whatever steps were made, further ones lead to an end, ..
  pub on_to_an_end : {M : Moment} → Moves (beginning B) M → (N : Moment) × Moves M N × ReducedTo B N
  on_to_an_end = comes_to_an_end B

  -- .. and a gate other than 0 and n − 1 is left exactly when "not series-parallel" is true.
  pub left_when_not_built : ((g : ℕ) × Remains B g) ↔ NotBuilt B
  left_when_not_built = both (left_exactly (as_network well)) not_series_parallel

  -- DOCUMENT 02, K6. "The buyer has a saving in mind and wants the fewest spare ticks that reach it": where some number of ticks does, the answer is the fewest. Nothing is asked of the deadline, ..
  pub ticks_given : {wanted k : ℕ} {o : Outcome (Unit {0})} → AnswersTicks file wanted o → SeriesParallel B → Reached B wanted k
      → (j : ℕ) × Fewest B wanted j × (o ≡ record { answer = accepted (j ∷ []); memory = tt })
  ticks_given {k = k} a sp r = as_given (passed (λ p w. w.1.1 k r) (passed (λ p w. w.0 sp) (ticks_lines well a)))
    where
      as_given : {wanted : ℕ} {o : Outcome (Unit {0})} → GivesTicks B wanted o → (j : ℕ) × Fewest B wanted j × (o ≡ record { answer = accepted (j ∷ []); memory = tt })
      as_given (fewest j fits f e) = (j, f, e)

  -- .. which "plays no part", and neither does the arrival: the file of the same block with others has the same outcome.
  pub deadline_plays_no_part : {other : List ℕ} {arrival deadline wanted : ℕ} {o : Outcome (Unit {0})} → WellFormed other (redated arrival deadline B) → AnswersTicks file wanted o → AnswersTicks other wanted o
  deadline_plays_no_part also a = well_formed (redated _ _ B) also (ticks_redated B (ticks_lines well a))

  -- "The saving at start counts, so a wanted saving no larger needs 0 ticks": no larger than some list saves under which no path lasts longer than without increases.
  pub at_start_needs_none : {wanted : ℕ} {x : List ℕ} {o : Outcome (Unit {0})} → AnswersTicks file wanted o → SeriesParallel B → Within B (start B) x → wanted ≤ saving B x
      → o ≡ record { answer = accepted (0 ∷ []); memory = tt }
  at_start_needs_none {wanted} {x} a sp in_start enough =
      let none : Reached B wanted 0 = record { list = x; within = rw (add-zero (start B)) in_start; saves = enough } in
      let (j, f, e) = ticks_given a sp none in
      e ∙ ap (λ (k : ℕ). record { answer = accepted (k ∷ []); memory = tt }) (lowest_unique j 0 f (record { holds = none; none_below = λ q l. absurd (omega arith) }))

  -- "17 .. when even the whole curve stays below the wanted saving", exactly: no list within the widths, however long its paths last, saves as much; ..
  pub seventeen_exactly : {wanted : ℕ} {o : Outcome (Unit {0})} → AnswersTicks file wanted o
      → (o.answer ≡ refusal 17 0) ↔ (SeriesParallel B × ((x : List ℕ) → AnyTime B x → saving B x < wanted))
  seventeen_exactly a =
      both (behind_eleven_exactly (omega arith) ticks_accepts (ticks_lines well a)) (beside (unreached_exactly (limits well) well.network (along well)))

  -- .. and by the curve, as the sentence puts it: its saving at start and the gains of all its ticks are below. The fewest ticks by the curve are the first that come to the wanted saving.
  pub seventeen_by_curve : {s a wanted : ℕ} {ps : List Pair} {o : Outcome (Unit {0})} → IsCurve B s a ps → AnswersTicks file wanted o
      → (o.answer ≡ refusal 17 0) ↔ (SeriesParallel B × (a + count_off ps (all_ticks ps) < wanted))
  seventeen_by_curve {wanted = wanted} c answers =
      both (behind_eleven_exactly (omega arith) ticks_accepts (ticks_lines well answers)) (beside (unreached_by_curve start_is c wanted))

  pub ticks_by_curve : {s a : ℕ} {ps : List Pair} → IsCurve B s a ps → (wanted k : ℕ) → Fewest B wanted k ↔ Lowest (λ (j : ℕ). wanted ≤ a + count_off ps j) k
  ticks_by_curve = fewest_by_curve start_is

  -- A list never needs more ticks than all steps have, so an answer is at most `max_ticks`.
  pub ticks_few : {wanted k : ℕ} → Fewest B wanted k → k ≤ max_ticks
  ticks_few = fewest_small (limits well) well.network (along well)

  pub ticks_eleven_exactly : {wanted : ℕ} {o : Outcome (Unit {0})} → AnswersTicks file wanted o → ElevenExactly B o
  ticks_eleven_exactly a = eleven_by (after_eleven {k = 17} (omega arith) ticks_accepts) (ticks_lines well a)

  -- DOCUMENT 02, K14. "Finer ticks gain nothing": for the block of every well-formed file and any whole m of 1 or more; the scaled block need not fit a file.
  pub finer_ticks_gain_nothing : SeriesParallel B → (m : ℕ) → 1 ≤ m → FinerTicks m B
  finer_ticks_gain_nothing sp m some = finer_ticks B m some sp (as_network well).below (descending B (limits well))

  -- DOCUMENT 02, K10. "Files of 65 to 200 gates, refused before, are covered by everything said of smaller ones": no theorem here asks how many gates there are. A series-parallel block of n gates, at least two, has at most 2n − 3 wires.
  pub wires_few : SeriesParallel B → 2 ≤ gate_count B → length B.wires + 3 ≤ 2 * gate_count B
  wires_few sp = few_wires B sp (no_wire_twice B (limits well) well.network) (as_network well).below

  -- "A pair's gain is now at most 199 × 65,535 × 1,000": of the block's curve, in every edition.
  pub gains_most : {s a : ℕ} {ps : List Pair} → SeriesParallel B → IsCurve B s a ps → (p : Pair) → Memᴰ p ps → p.gain ≤ max_gain
  gains_most sp = pair_gain B (limits well) well.network sp max_activity (ranges B (limits well))

-- DOCUMENT 02, K2. "The optimum is claimed for both editions": what is said above holds of every well-formed file; and every netlist within the limits, of any edition, with whatever wire delays and activities the edition has, is said by such a file if its network is sound.
pub has_a_file : {N : Netlist} → Limited N → SoundNetwork (block_of N) → WellFormed (encode N) (block_of N)
has_a_file {N} l sound = record { end = length (encode N); reads = read_block_found (encode N) (encode_decodes l); network = sound }

-- DOCUMENT 02, K3. "Edition 3 gains are compared with 001 by these counts; editions 1 and 2 keep the formula": an edition matters by the activities alone. Two files that can be read, whose activities and other numbers agree, have the same outcomes, whatever their editions; the table of every call is a `Judged`.
pub same_answers : {s t : List ℕ} {M N : Netlist} {m n : ℕ} → decode s ≡ found M m → decode t ≡ found N n → Agree M N
    → {S : Type 0} (lent : S) (further : Block → Outcome S → Type 0) (o : Outcome S) → Judged s lent further o ↔ Judged t lent further o
same_answers {s} {t} d e a lent further o =
    let r = same_block_read s t d e a in
    (same_outcomes further r.0 r.1, same_outcomes further r.1 r.0)

-- Document 01's bound on gains, "no pair's gain is above 63 × 32,768 × 1,000", stays where the formula does, with the gates of K10: of the curve of every file of editions 1 and 2.
pub formula_gains : (file : List ℕ) {N : Netlist} {end s a : ℕ} {ps : List Pair} → decode file ≡ found N end → N.edition ≤ 2 → SoundNetwork (block_of N) → SeriesParallel (block_of N)
    → IsCurve (block_of N) s a ps
    → (p : Pair) → Memᴰ p ps
    → p.gain ≤ (max_gates - 1) * 32768 * max_drop
formula_gains file {N} reads early sound sp =
    let kept = read_limits file (read_block_found file reads) in
    pair_gain (block_of N) kept sound sp 32768 (formula_ranges N early kept)

-- DOCUMENT 02, K8. "Compare tied lists from gate n − 1 downwards; the smaller increase at the first difference comes first": every other list in time that saves as much as the best has a greater increase at some gate, and the same at every gate above.
pub ties_from_the_far_end : {B : Block} {x y : List ℕ} → Best B x → InTime B y → saving B y ≡ saving B x → y ≢ x
    → (g : ℕ) × (g < gate_count B) × (get_or x g 0 < get_or y g 0) × ((h : ℕ) → g < h → get_or x h 0 ≡ get_or y h 0)
ties_from_the_far_end {B} {x} {y} best ok as_much other =
    let (e, g, l, smaller, same) = (before_exactly x y).0 (tied (best.beats y ok other)) in
    (g, omega (arith, ok.one_each), smaller, same)
  where
    tied : (saving B y < saving B x) ⊎ ((saving B y ≡ saving B x) × Before x y) → Before x y
    tied (inl less) = absurd (omega arith)
    tied (inr (_, before)) = before
