-- The end: what the answer says of the block (`picked_answered`). Assumes nothing.
use Rattle.std.specs.Prelude.{Option, Some, None, Result, Ok, Err, IsOkAnd, MatchResult}
use mathlib.Core.Path.{◌≡◌, sym, ◌∙◌, ap, subst, subst₂}
use mathlib.Core.Logic.{inl, inr, ◌↔◌, ⊎_elim}
use mathlib.Core.List.{List}
use Prim.Native.Nat.{ℕ, ◌+◌, ◌-◌, ◌≤◌, ◌<◌}
use native.Mathlib.Omega.{arith}
use lib.ListN.{get_or}
use Rattle.lists.specs.Search.{Lowest}
use Rattle.model.specs.Block.{Block, gate_count, first, last}
use Rattle.model.specs.Part.{Whole, SeriesParallel, built}
use Rattle.model.specs.Remainder.{Remains}
use Rattle.parts.specs.Reduction.{Only}
use Rattle.parts.specs.Slots.{Live, Finished}
use Rattle.parts.specs.Network.{Network}
use Rattle.parts.specs.Nodes.{Weighed, tree_of}
use Rattle.parts.specs.Rooted.{Rooted}
use Rattle.parts.proofs.Verdict.{only_first, only_last, whole, verdict, lone_gate}
use Rattle.parts.proofs.Remains as Remaining
use Rattle.slots.specs.Sought.{OnlyLive, OnlyLiveAt, LowestLed}
use Rattle.slots.specs.Picked.{Picked}
use Rattle.slots.specs.declared.NotSeriesParallel.{NotSeriesParallel}
use Rattle.slots.specs.declared.nodes.TreeNodes.{TreeNodes}
use Rattle.reduction.specs.Arrays.{Arrays, held}
use Rattle.reduction.specs.State.{nodes_in}
use Rattle.reduction.specs.Going.{Going, Ended}
use Rattle.reduction.specs.Answered.{Answered}
use Rattle.reduction.specs.Wired.{Wired}
use Rattle.reduction.proofs.Held.{held_in, held_live, held_alive, held_ends}

-- The answer.
module _ {N : Block} {n k c : ℕ} {A B : Arrays} (net : Network N) (begin : Going N n k k A) (end : Ended n k 0 (n - 1) A B c) where
  going : Going N n k c B
  going = (end.stands N net begin).0

  finished : Finished (held k B) (first N) (last N)
  finished = subst (λ z. Finished (held k B) 0 (z - 1)) (sym begin.gates) (end.stands N net begin).1

  module _ {i : ℕ} (ol : OnlyLiveAt B.lives k i) where
    pub root_answered : Rooted N B.tree (get_or B.tops i 0) c
    root_answered =
        record {
          whole = subst (Whole N) (ap (λ s. s.shape) (held_in k B i inside)) (whole net going.reducing one);
          weighed = subst₂ (λ x y. Weighed N.wires x y (tree_of B.tree (get_or B.tops i 0))) (sym ends.0 ∙ only_first net going.reducing one) (sym ends.1 ∙ only_last net going.reducing one) (going.formed.weighed i inside ol.live);
          below = going.formed.tops_below i inside;
          children = going.formed.children;
          kinds_long = omega (arith, few, end.ready.room.kind_room);
          lefts_long = omega (arith, few, end.ready.room.left_room);
          gates_long = omega (arith, few, end.ready.room.gate_room);
          rights_long = omega (arith, few, end.ready.room.right_room);
        }
      where
        few : c ≤ k + (n + n)
        few = omega (arith, end.ready.budget)

        inside : i < k
        inside = ol.within

        ends : ((held k B i).source ≡ get_or B.froms i 0) × ((held k B i).target ≡ get_or B.tos i 0)
        ends = held_ends k B i inside

        one : Only (λ q. Live (held k B q))
        one = record { value = i; holds = held_alive k B i inside ol.live; alone = λ q l. let (h, v) = held_live k B q l in ol.only q h v }

  pub unfit_answered : OnlyLive B.lives k None → (n ≡ 1 → ⊥) → ¬ (SeriesParallel N)
  unfit_answered none d p =
      let o = (verdict net going.reducing (λ z. d (sym begin.gates ∙ z)) finished).1 p in
      let (h, v) = held_live k B o.value o.holds in
      none o.value h v (λ q l w. o.alone q (held_alive k B q l w))

  -- the lowest gate to which a slot leads, by the slots that the arrays hold
  held_led : {g : ℕ} → LowestLed B.lives B.tos k (n - 1) g → Remaining.LowestLed k (held k B) (last N) g
  held_led low =
      record {
        most = omega (arith, low.most, begin.gates);
        none_less = λ i h l. rw (held_ends k B i h).1 (low.none_less i h (held_live k B i l).1);
        reached = ⊎_elim (λ e. inl (omega (arith, begin.gates))) (λ (i, h, v, e). inr (i, h, held_alive k B i h v, (held_ends k B i h).1 ∙ e)) low.reached;
      }

  -- and then it is the lowest that remains
  pub lowest_answered : {g : ℕ} → ¬ (SeriesParallel N) → LowestLed B.lives B.tos k (n - 1) g → Lowest (Remains N) g
  lowest_answered unfit low = Remaining.lowest_remains net going.reducing finished (λ i l. (held_live k B i l).0) unfit (held_led low)

pub lone_answered : {N : Block} {n k : ℕ} {froms tos delays : List ℕ} → Network N → Wired N n k froms tos delays → n ≡ 1 → (gate_count N ≡ 1) × SeriesParallel N
lone_answered net w e = (w.gates ∙ e, lone_gate net (w.gates ∙ e))

-- the answer to what was picked, where the tree's nodes are those of the arrays B
pub picked_answered :
    {N : Block} {n k : ℕ} {A B : Arrays} {T : TreeNodes}
    → Network N
    → Going N n k k A
    → Ended n k 0 (n - 1) A B T.count
    → nodes_in T ≡ B.tree
    → (n ≡ 1 → ⊥)
    → (r : Result ℕ NotSeriesParallel)
    → Picked B.lives B.tos B.tops k (n - 1) r
    → (s : Result (Option ℕ) NotSeriesParallel)
    → MatchResult r (λ t. IsOkAnd s (λ root. root ≡ Some t)) (λ e. s ≡ Err e)
    → Answered N T s
picked_answered {N} {T = T} net go e same d (Ok t) (i, ol, f) (Ok root) m =
    subst (λ x. Answered N T (Ok x)) (sym m) (subst₂ (λ M x. Rooted N M x T.count) (sym same) (sym f) (root_answered net go e ol))
picked_answered net go e same d (Ok t) p (Err g) m = absurd m
picked_answered {N} {T = T} net go e same d (Err g) (none, low) s m =
    let unfit = unfit_answered net go e none d in subst (Answered N T) (sym m) (unfit, lowest_answered net go e unfit low)

-- accepted: any answer but "not series-parallel"
abbrev pub Accepted : Result (Option ℕ) NotSeriesParallel → Type 0
Accepted (Ok t) = Unit {0}
Accepted (Err e) = ⊥

-- Soundness and completeness of an answer in one: accepted exactly when series-parallel.
pub accepted_iff : (B : Block) (T : TreeNodes) (r : Result (Option ℕ) NotSeriesParallel) → Answered B T r → Accepted r ↔ SeriesParallel B
accepted_iff B T (Ok (Some t)) a = (λ u. built _ a.whole, λ p. tt)
accepted_iff B T (Ok None) a = (λ u. a.1, λ p. tt)
accepted_iff B T (Err e) a = (absurd, a.0)
