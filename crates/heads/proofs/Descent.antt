-- The way down: the item that leads, by the answers of the comparisons, and the node it stands for; each next node is below the last.
-- Assumes nothing.
use mathlib.Core.Path.{◌≡◌, refl, sym, ◌∙◌, subst}
use mathlib.Core.Logic.{◌≢◌}
use mathlib.Core.Bool.{true, false}
use Prim.Native.Nat.{ℕ, zero, suc, ◌≤◌, ◌<◌}
use native.Mathlib.Omega.{arith}
use Rattle.parts.specs.Nodes.{Nodes}
use Rattle.optimum.specs.Head as items
use Rattle.optimum.specs.Head.{Head, Item, item, leads, turn}
use Rattle.heads.specs.Plan.{kind, left, gate, right}
use Rattle.heads.specs.Stored.{Stored, Made, Walkable, Down, here, further, Ended, head_at, next_by, next_down}
use Rattle.heads.proofs.Trees.{by_kind}

module _ (a b c : Head) (l m r : ℕ) where
  pub last_leads : leads b a ≡ true → leads c b ≡ true → r ≡ item (turn a b c) l m r
  unfolding turn
  last_leads e f = rw (e, f)

  pub middle_leads : leads b a ≡ true → leads c b ≡ false → m ≡ item (turn a b c) l m r
  unfolding turn
  middle_leads e f = rw (e, f)

  pub last_passes : leads b a ≡ false → leads c a ≡ true → r ≡ item (turn a b c) l m r
  unfolding turn
  last_passes e f = rw (e, f)

  pub first_leads : leads b a ≡ false → leads c a ≡ false → l ≡ item (turn a b c) l m r
  unfolding turn
  first_leads e f = rw (e, f)

module _ {N : Nodes} {G H : Stored} {k : ℕ} (made : Made N G H k) where
  pub stays_there : kind N k ≢ 1 → k ≡ next_down N G H k
  unfolding next_down
  stays_there = go (kind N k)
    where
      go : (t : ℕ) → t ≢ 1 → k ≡ next_by t (turn (head_at H (left N k)) (head_at G (gate N k)) (head_at H (right N k))) (left N k) k (right N k)
      go zero d = refl
      go (suc zero) d = absurd (d refl)
      go (suc (suc t)) d = refl

  pub goes_down : {l g r u : ℕ} {a b c : Head} → kind N k ≡ 1 → l ≡ left N k → g ≡ gate N k → r ≡ right N k → a ≡ head_at H l
      → b ≡ head_at G g → c ≡ head_at H r → u ≡ item (turn a b c) l k r → u ≡ next_down N G H k
  unfolding next_down
  goes_down s el eg er ea eb ec e = e ∙ rw (ea, eb, ec, el, eg, er, s)

-- at node j on the way, with the next node known
pub record Walked (N : Nodes) (G H : Stored) (i j next : ℕ) : Type 0 where
  pub down : Down N G H i j
  pub within : j ≤ i
  pub known : next ≡ next_down N G H j

module _ {N : Nodes} {G H : Stored} {i : ℕ} (able : Walkable N G H i) where
  pub walk_starts : {next : ℕ} → next ≡ next_down N G H i → Walked N G H i i next
  walk_starts e = record { down = here; within = omega arith; known = e }

  module _ {j next : ℕ} (walked : Walked N G H i j next) where
    pub walk_on : {then : ℕ} → next < j → then ≡ next_down N G H next → Walked N G H i next then
    walk_on l e =
        record {
          down = subst (λ (n : ℕ). Down N G H i n) (sym walked.known) (further j walked.down (rw walked.known at l));
          within = omega (arith, walked.within);
          known = e;
        }

    -- the next node is no higher
    no_higher : next_down N G H j ≤ j
    unfolding next_down
    no_higher =
        by_kind (kind N j)
        (λ e. rw e (omega arith))
        (λ e. rw e (go (turn (head_at H (left N j)) (head_at G (gate N j)) (head_at H (right N j)))
        (able.left_below j walked.within (omega arith)) (able.right_below j walked.within (omega arith))))
        (λ e. go' (kind N j) e)
      where
        go : (t : Item) → left N j < j → right N j < j → item t (left N j) j (right N j) ≤ j
        go items.left l r = omega arith
        go items.gate l r = omega arith
        go items.right l r = omega arith

        go' : (t : ℕ) → 1 < t → next_by t (turn (head_at H (left N j)) (head_at G (gate N j)) (head_at H (right N j))) (left N j) j (right N j) ≤ j
        go' zero e = absurd (omega arith)
        go' (suc zero) e = absurd (omega arith)
        go' (suc (suc t)) e = omega arith

    pub walk_ends : ¬ (next < j) → Ended N G H i j
    walk_ends d =
        record {
          down = walked.down;
          stays = omega (arith, walked.known, no_higher);
        }
