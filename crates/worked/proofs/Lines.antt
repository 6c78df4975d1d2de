-- A line of a table of refusals by a test, the least number that passes a test, and what an ascending block (parts) brings: a sound network, an order of its gates, and its longest paths.
-- Assumes nothing.
use mathlib.Core.Path.{◌≡◌, refl, ◌∙◌, ap, subst}
use mathlib.Core.Logic.{◌⊎◌, inl, inr}
use mathlib.Core.Bool.{Bool, true, false, cond}
use mathlib.Core.Option.{Option, none, some}
use mathlib.Core.List.{List, [], ◌∷◌}
use Prim.Native.Nat.{ℕ, zero, suc, ◌<◌}
use native.Mathlib.Nat.{eq-or-lt_of_le, le_of_suc-le-suc}
use native.Mathlib.Omega.{arith}
use borrow.Author.Tests.{ltb-true, ltb-false}
use lib.Dec.{ltb}
use lib.ListN.{length, get_or}
use Rattle.lists.specs.Search.{Says}
use Rattle.lists.proofs.Search.{says_by}
use Rattle.model.specs.Block.{Step, Block, gate_count, first, last, Joined}
use Rattle.model.specs.Path.{Path, Longest}
use Rattle.model.specs.Slack.{source_by}
use Rattle.model.specs.Refusal.{EndFault, into_first, none_in, out_of_last, none_out, SoundNetwork}
use Rattle.model.specs.Answer.{Outcome, Line, fits, passes, At}
use Rattle.model.proofs.Slack.{entered}
use Rattle.model.proofs.Source.{Along, source_attained, source_greatest}
use Rattle.optimum.specs.Gates.{Descending}
use Rattle.parts.specs.Network.{Network}
use Rattle.parts.specs.Ascending.{ascending}
use Rattle.parts.proofs.Ascending.{ascending_rises, ascending_network}
use Rattle.worked.specs.Computed.{refuses, first_of, lowest}

-- a line whose place is settled beforehand, by a test
pub line_by : {S : Type 0} {lent : S} {k place : ℕ} {when : Type 0} {further : Outcome S → Type 0} (o : Outcome S) (b : Bool)
    → Says when b
    → (b ≡ false → further o)
    → Line lent k (At place when) further (cond b (refuses k place lent) o)
line_by {place = place} o true says rest = fits place (refl, says) refl
line_by o false says rest = passes (λ p h. says h.1) (rest refl)

pub less_says : (a b : ℕ) → Says (a < b) (ltb a b)
less_says a b = says_by (a < b) (ltb a b) (ltb-true a b) (λ e l. omega (arith, ltb-false a b e))

-- what the search for the least number finds
abbrev pub FindsLowest : (ℕ → Bool) → ℕ → Option ℕ → Type 0
FindsLowest p k none = (j : ℕ) → j < k → p j ≡ false
FindsLowest p k (some i) = (i < k) × (p i ≡ true) × ((j : ℕ) → j < i → p j ≡ false)

pub lowest_finds : (p : ℕ → Bool) (k : ℕ) → FindsLowest p k (lowest p k)
unfolding lowest
lowest_finds p zero = λ j l. absurd (omega arith)
lowest_finds p (suc k) = go (lowest p k) (lowest_finds p k) (p k) refl
  where
    by : (j : ℕ) → p k ≡ false → FindsLowest p k none → (j ≡ k) ⊎ (j < k) → p j ≡ false
    by j e f (inl s) = ap p s ∙ e
    by j e f (inr l) = f j l

    go : (r : Option ℕ) → FindsLowest p k r → (b : Bool) → p k ≡ b → FindsLowest p (suc k) (first_of r b k)
    go (some i) f b e = (omega (arith, f.0), f.1, f.2)
    go none f true e = (omega arith, e, f)
    go none f false e = λ j l. by j e f (eq-or-lt_of_le (le_of_suc-le-suc l))

-- drops that fall strictly do not rise
pub descending : (ss : List Step) → ((j : ℕ) (d : Step) → suc j < length ss → (get_or ss (suc j) d).drop < (get_or ss j d).drop) → Descending ss
descending [] falls = tt
descending (s ∷ []) falls = (omega arith, tt)
descending (s ∷ r ∷ ss) falls = (
  omega (arith, falls 0 s (omega arith)),
  descending (r ∷ ss) (λ j d l. falls (suc j) d (omega arith)),
)

pub sound_network : {B : Block} → Network B → SoundNetwork B
sound_network {B} n = record { no_loop = n.acyclic; ends = no_fault }
  where
    no_fault : (g : ℕ) → ¬ (EndFault B g)
    no_fault g (into_first a e j) = n.first_none a (subst (Joined B.wires a) e j)
    no_fault g (none_in l d free) = let (x, j) = n.wire_into g l d in free x j
    no_fault g (out_of_last b e j) = n.last_none b (subst (λ x. Joined B.wires x b) e j)
    no_fault g (none_out l d free) = let (y, j) = n.wire_from g l d in free y j

module _ (B : Block) (h : ascending B ≡ true) where
  pub along : Along B.wires (gate_count B)
  along =
      record {
        place = λ g. g;
        below = λ g l. l;
        grows = λ a b w on. (ascending_rises B h a b (w, on)).0;
        in_range = λ a b w on. let (l, u) = ascending_rises B h a b (w, on) in (omega arith, u);
      }

  -- the latest time at the last gate's output is that of a longest path
  pub lasts : (d : ℕ → ℕ) → Longest B.wires d (first B) (last B) (source_by (gate_count B) B.wires d 0 (last B))
  lasts d =
      let n = ascending_network B h in
      let some : 0 < gate_count B = n.some_gate in
      let r = source_attained B.wires d 0 (gate_count B) along (first B) (entered B (sound_network n)) (last B) (omega arith) in
      let is : r.0 ≡ source_by (gate_count B) B.wires d 0 (last B) = omega (arith, r.2) in
      record {
        attained = rw is at r.1;
        greatest = λ (t : ℕ) (p : Path B.wires d (first B) (last B) t). omega (arith, source_greatest B.wires d 0 (gate_count B) along some p);
      }
