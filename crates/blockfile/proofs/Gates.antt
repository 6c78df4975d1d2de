-- Reading gate fields: one into its place, and all of them one after another. The invariant is that of `read_gates`, with what was read so far in the arrays.
-- Assumes nothing.
use mathlib.Core.Path.{◌≡◌, refl, sym, ◌∙◌, ap}
use mathlib.Core.Logic.{⊎_elim}
use mathlib.Core.List.{List, [], ◌∷◌, ◌++◌, map}
use Prim.Native.Nat.{ℕ, ◌+◌, ◌*◌, ◌<◌, ◌≤◌}
use native.Mathlib.Nat.{eq-or-lt_of_le}
use native.Mathlib.Omega.{arith}
use lib.ListN.{length, get_or}
use Rattle.lists.specs.Over.{build}
use Rattle.lists.proofs.Over.{length_build}
use Rattle.model.specs.declared.Refusal.{Refusal}
use Rattle.model.specs.Limits.{max_steps}
use Rattle.model.specs.Block.{Gate}
use Rattle.model.specs.Edition.{activity_of}
use Rattle.model.specs.Netlist.{DrawnGate, gate_of}
use Rattle.model.specs.Field.{number, body_at}
use Rattle.model.specs.File.{gate, Reading, found, refused, read_field, read_gates}
use Rattle.model.specs.Arrays.{step_at}
use Rattle.model.specs.Answer.{refusal, refusal_answer}
use Rattle.model.proofs.Bodies.{steps_said}
use Rattle.model.proofs.Fault.{found_is, faultless_from_0}
use Rattle.model.proofs.Reading.{read_gates_none, read_gates_more, read_gates_refused}
use Rattle.model.proofs.Stored as StoredGates
use Rattle.std.specs.Prelude.{Ok, Err}
use Rattle.fields.specs.Behind.{offset_behind}
use Rattle.blockfile.specs.Held.{GateArrays, gate_held, gates_held, GateStored, GatesKept}
use Rattle.blockfile.specs.Reads.{GateRead, reading_map, refusing}
use Rattle.blockfile.proofs.Stores.{kept_all}
use Rattle.blockfile.proofs.Judged.{Judged, judged_refused, judged_found}

-- nothing was stored
gates_same : (g : ℕ) (A : GateArrays) → GatesKept g A A
gates_same g A =
    record {
      delays = kept_all g A.delays;
      activities = kept_all g A.activities;
      counts = kept_all g A.counts;
      step_widths = kept_all (g * 8) A.step_widths;
      drops = kept_all (g * 8) A.drops;
    }

module _ {s : List ℕ} {o ed n : ℕ} {b : List ℕ} (j : Judged (gate ed) s o n b) (g : ℕ) where
  pub gate_refused : (A : GateArrays) (x : Refusal) → (n ≡ 0 → ⊥) → refusal_answer x ≡ refusal n o → GateRead s o ed g A A (Err x)
  gate_refused A x z e = record { reading = ap (reading_map (gate_of ed)) (judged_refused j x z e); kept = gates_same g A; untouched = λ y f. refl }

  pub gate_found : (old new : GateArrays) (a q : ℕ) → n ≡ 0 → a ≡ activity_of ed (number b 2) → GateStored b a g old new → q ≡ offset_behind s o → GateRead s o ed g old new (Ok q)
  gate_found old new a q z active r e = record { reading = rw (judged_found j z, r.stored, active, e); kept = r.kept; untouched = λ x f. absurd (cc) }

-- what was found or refused before it was seen through f
module _ {A B : Type 0} (f : A → B) where
  pub record FoundBefore (r : Reading A) (b : B) (o : ℕ) : Type 0 where
    pub value : A
    pub was_found : r ≡ found value o
    pub seen : b ≡ f value

  pub map_found : (r : Reading A) (b : B) (o : ℕ) → found b o ≡ reading_map f r → FoundBefore r b o
  map_found (found a p) b o e =
      let x : o ≡ p = cc in
      let y : b ≡ f a = cc in
      record { value = a; was_found = ap (found a) (sym x); seen = y }
  map_found (refused k p) b o e =
      let z : ◌≡◌ {A = ℕ} 0 1 = cc in
      absurd (omega arith)

  pub map_refused : (r : Reading A) (k o : ℕ) → refused k o ≡ reading_map f r → r ≡ refused k o
  map_refused (found a p) k o e =
      let z : ◌≡◌ {A = ℕ} 0 1 = cc in
      absurd (omega arith)
  map_refused (refused j p) k o e =
      let x : k ≡ j = cc in
      let y : o ≡ p = cc in
      rw (x, y)

-- The first i gates from p on were read up to o, and stand in the arrays.
pub record GatesSoFar (ed : ℕ) (s : List ℕ) (p i : ℕ) (A : GateArrays) (o : ℕ) : Type 0 where
  pub drawn : List DrawnGate
  pub were_read : read_gates ed i s p ≡ found drawn o
  pub held : gates_held A i ≡ map (gate_of ed) drawn
  pub few : (g : ℕ) → g < i → get_or A.counts g 0 ≤ max_steps

pub gates_none : (ed : ℕ) (s : List ℕ) (p : ℕ) (A : GateArrays) → GatesSoFar ed s p 0 A p
unfolding build
gates_none ed s p A =
    record { drawn = []; were_read = read_gates_none ed s p; held = refl; few = λ (g : ℕ) (h : g < 0). absurd (omega arith) }

-- a gate that was read has at most eight steps
few_steps : (ed : ℕ) (s : List ℕ) (o : ℕ) {d : DrawnGate} {q : ℕ} → read_field (gate ed) s o ≡ found d q → length d.steps ≤ max_steps
few_steps ed s o e =
    let f = found_is (gate ed) s o e in
    let h = steps_said ed (body_at s o) (faultless_from_0 (gate ed) s o f.no_fault).length_due in
    rw f.says_it h

module _ {ed : ℕ} {s : List ℕ} {p i : ℕ} {A : GateArrays} {o : ℕ} (r : GatesSoFar ed s p i A o) where
  -- one more is read ..
  pub gates_more : (B : GateArrays) (q : ℕ) → GateRead s o ed i A B (Ok q) → GatesSoFar ed s p (i + 1) B q
  gates_more B q t =
      let x = map_found (gate_of ed) (read_field (gate ed) s o) (gate_held B i) q t.reading in
      let k = t.kept in
      let same : StoredGates.GatesKept i A.delays A.activities A.counts A.step_widths A.drops B.delays B.activities B.counts B.step_widths B.drops =
      record { same_delays = k.delays; same_activities = k.activities; same_counts = k.counts; same_widths = k.step_widths; same_drops = k.drops } in
      let steps : get_or B.counts i 0 ≡ length x.value.steps =
      sym (length_build (get_or B.counts i 0) (step_at B.step_widths B.drops i)) ∙ ap (λ (g : Gate). length g.steps) x.seen in
      record {
        drawn = r.drawn ++ (x.value ∷ []);
        were_read = read_gates_more ed s i p r.were_read x.was_found;
        held = StoredGates.gate_stored i A.delays A.activities A.counts A.step_widths A.drops B.delays B.activities B.counts B.step_widths B.drops same r.few (gate_of ed) r.drawn x.value r.held x.seen;
        few = λ (g : ℕ) (h : g < i + 1).
            ⊎_elim (λ (e : g ≡ i). rw (e, steps) (few_steps ed s o x.was_found))
            (λ (l : g < i). rw (k.counts g l) (r.few g l))
            (eq-or-lt_of_le (omega arith));
      }

  -- .. or refused, and then all are
  pub gates_refused : (n : ℕ) (B : GateArrays) (x : Refusal) → i < n → GateRead s o ed i A B (Err x) → refusing x ≡ reading_map (map (gate_of ed)) (read_gates ed n s p)
  gates_refused n B x h t =
      sym (ap (reading_map (map (gate_of ed))) (read_gates_refused ed s i n p h r.were_read (map_refused (gate_of ed) (read_field (gate ed) s o) (refusal_answer x).number (get_or (refusal_answer x).values 0 0) t.reading)))
