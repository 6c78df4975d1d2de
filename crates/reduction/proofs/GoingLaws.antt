-- Tallies that are right choose a gate and its two slots (`gate_chosen`), and let a gate go exactly when it can (`none_chosen`); when a gate goes, fewer gates send (`went_less`), so that there is room for its nodes, and what holds of the arrays is kept (`went_on`), as it is by turns of the queue. Assumes nothing.
use mathlib.Core.Path.{◌≡◌, refl, sym, ◌∙◌, ap, subst, subst₂}
use mathlib.Core.Logic.{◌≢◌}
use mathlib.Core.List.{List}
use Prim.Native.Nat.{ℕ, ◌+◌, ◌-◌, ◌≤◌, ◌<◌}
use native.Mathlib.Decide.{ℕ_discrete}
use native.Mathlib.Omega.{arith}
use lib.ListN.{length, get_or, set, length-set}
use lib.Seq.{get_or-set_same, get_or-set_other}
use Rattle.model.specs.Limits.{max_wires}
use Rattle.model.specs.Block.{Block}
use Rattle.parts.specs.Slots.{OneIn, OneOut, Straight}
use Rattle.parts.specs.Network.{Network}
use Rattle.parts.proofs.Gates.{part_ends}
use Rattle.parts.proofs.Steps.{step_keeps}
use Rattle.parts.proofs.Start.{loop_free}
use Rattle.parts.proofs.Verdict.{one_in_below}
use Rattle.slots.specs.Sought.{Leads}
use Rattle.tallies.specs.Tallies.{share, end_gates, OnlyAt}
use Rattle.tallies.specs.Queue.{One, CanGo}
use Rattle.tallies.proofs.TallyLaws.{tally_one, only_tally, end_gates_less}
use Rattle.reduction.specs.Arrays.{Arrays, held, Room, Chosen, joined, taken_up, Went, by_joining, by_taking_up}
use Rattle.reduction.specs.Going.{Going, Sound, sending, Ready, Tallied, Turned, stays, goes, Ended}
use Rattle.reduction.proofs.Held.{held_live, held_ends, held_alive, cleared_dead, cleared_was, i_off_j, joined_step, joined_formed, taken_up_step, taken_up_formed}

chosen_of : {k m i j : ℕ} (A : Arrays) → OnlyAt A.lives A.tos k m i → OnlyAt A.lives A.froms k m j → Chosen k A m i j
chosen_of A x y =
    record {
      in_slot = x.slot;
      in_live = x.live;
      in_to = x.end;
      in_only = x.only;
      out_slot = y.slot;
      out_live = y.live;
      out_from = y.end;
      out_only = y.only;
    }

-- the slots of a chosen gate, each the only one at its end
pub in_at : {k m i j : ℕ} {A : Arrays} → Chosen k A m i j → OnlyAt A.lives A.tos k m i
in_at ch = record { slot = ch.in_slot; live = ch.in_live; end = ch.in_to; only = ch.in_only }

pub out_at : {k m i j : ℕ} {A : Arrays} → Chosen k A m i j → OnlyAt A.lives A.froms k m j
out_at ch = record { slot = ch.out_slot; live = ch.out_live; end = ch.out_from; only = ch.out_only }

-- A gate that can go by tallies which are right, with the slots that they name.
pub gate_chosen : {n k a b m i j : ℕ} {ins outs : List ℕ} {A : Arrays} → Tallied n k A ins outs → m < n → CanGo ins outs a b m
    → i ≡ get_or ins m 0 - max_wires → j ≡ get_or outs m 0 - max_wires → Chosen k A m i j
gate_chosen {k = k} {m = m} {A = A} t h g e f =
    chosen_of A
    (subst (OnlyAt A.lives A.tos k m) (sym (e ∙ ap (λ z. z - max_wires) (t.ins_right m h))) (tally_one A.lives A.tos k m (subst One (t.ins_right m h) g.one_in)))
    (subst (OnlyAt A.lives A.froms k m) (sym (f ∙ ap (λ z. z - max_wires) (t.outs_right m h))) (tally_one A.lives A.froms k m (subst One (t.outs_right m h) g.one_out)))

share_one : (i k : ℕ) → i < k → k ≤ max_wires → One (share i)
share_one i k h l = record { some = omega arith; no_two = omega arith }

-- Where the tallies let no gate go, none can.
pub none_chosen : {n k a b : ℕ} {ins outs : List ℕ} {A : Arrays} → k ≤ max_wires → Tallied n k A ins outs → ((g : ℕ) → g < n → ¬ (CanGo ins outs a b g))
    → (m i j : ℕ) → m < n → m ≢ a → m ≢ b → Chosen k A m i j → ⊥
none_chosen {k = k} {A = A} few t none m i j h na nb c =
    none m h
    (record {
      not_first = na;
      not_last = nb;
      one_in =
          subst One (sym (t.ins_right m h ∙ only_tally A.lives A.tos (in_at c)))
          (share_one i k c.in_slot few);
      one_out =
          subst One (sym (t.outs_right m h ∙ only_tally A.lives A.froms (out_at c)))
          (share_one j k c.out_slot few);
    })

joined_room : {k x : ℕ} {A : Arrays} (c m i j : ℕ) → Room k x A → Room k x (joined c m i j A)
unfolding joined
joined_room c m i j r =
    record {
      live_room = rw length-set r.live_room;
      from_room = r.from_room;
      to_room = rw length-set r.to_room;
      top_room = rw length-set r.top_room;
      kind_room = rw length-set r.kind_room;
      left_room = rw length-set r.left_room;
      gate_room = rw length-set r.gate_room;
      right_room = rw length-set r.right_room;
    }

taken_up_room : {k x : ℕ} {A : Arrays} (c m i j l : ℕ) → Room k x A → Room k x (taken_up c m i j l A)
unfolding taken_up
taken_up_room c m i j l r =
    record {
      live_room = rw (length-set, length-set) r.live_room;
      from_room = r.from_room;
      to_room = r.to_room;
      top_room = rw length-set r.top_room;
      kind_room = rw (length-set, length-set) r.kind_room;
      left_room = rw (length-set, length-set) r.left_room;
      gate_room = rw (length-set, length-set) r.gate_room;
      right_room = rw (length-set, length-set) r.right_room;
    }

set_below : (xs : List ℕ) (i v n q : ℕ) → i < length xs → v < n → get_or xs q 0 < n → get_or (set xs i v) q 0 < n
set_below xs i v n q h a b = go (ℕ_discrete q i)
  where
    go : Dec (q ≡ i) → get_or (set xs i v) q 0 < n
    go (yes e) = subst (λ z. z < n) (sym (ap (λ y. get_or (set xs i v) y 0) e ∙ get_or-set_same xs i v 0 h)) a
    go (no d) = subst (λ z. z < n) (sym (get_or-set_other xs i q v 0 d)) b

pub went_grows : {k c m i j r : ℕ} {A B : Arrays} → Went k c m i j A B r → c < r
went_grows (by_joining none e f) = omega arith
went_grows (by_taking_up l h ld e f) = omega arith

-- a gate that goes is one of the n
pub gate_below : {n k c m i j : ℕ} {A : Arrays} → Ready n k c A → Chosen k A m i j → m < n
gate_below {n} {i = i} rd ch = subst (λ z. z < n) ch.in_to (rd.to_below i ch.in_slot)

-- Fewer gates send when a gate goes: its slot j is dead, and no slot has come to life. So there is room for its nodes.
module _ {n k c : ℕ} {A : Arrays} (rd : Ready n k c A) {m i j : ℕ} (ch : Chosen k A m i j) where
  i_inside : i < length A.lives
  i_inside = omega (arith, rd.room.live_room, ch.in_slot)

  j_inside : j < length A.lives
  j_inside = omega (arith, rd.room.live_room, ch.out_slot)

  joined_less : end_gates (set A.lives j 0) A.froms k n < sending n k A
  joined_less =
      end_gates_less (set A.lives j 0) (out_at ch) (cleared_dead A.lives j j_inside)
      (λ q l. (cleared_was A.lives j q j_inside l).1)
      (gate_below rd ch)

  taken_up_less : end_gates (set (set A.lives i 0) j 0) A.froms k n < sending n k A
  taken_up_less =
      let inside : j < length (set A.lives i 0) = rw length-set j_inside in
      end_gates_less (set (set A.lives i 0) j 0) (out_at ch) (cleared_dead (set A.lives i 0) j inside)
      (λ q l. (cleared_was A.lives i q i_inside (cleared_was (set A.lives i 0) j q inside l).1).1)
      (gate_below rd ch)

  pub went_less : {B : Arrays} {r : ℕ} → Went k c m i j A B r → sending n k B < sending n k A
  unfolding joined taken_up
  went_less (by_joining none e f) = subst (λ B. sending n k B < sending n k A) (sym e) joined_less
  went_less (by_taking_up l inside ld e f) = subst (λ B. sending n k B < sending n k A) (sym e) taken_up_less

  -- the gate itself sends
  pub some_send : 0 < sending n k A
  some_send = omega (arith, joined_less)

  -- there is room for two nodes more
  pub chosen_room : c + 2 ≤ k + (n + n)
  chosen_room = omega (arith, some_send, rd.budget)

  room_more : (x : ℕ) → c + x ≤ k + (n + n) → Room k (c + x) A
  room_more x h =
      let r = rd.room in
      record {
        live_room = r.live_room;
        from_room = r.from_room;
        to_room = r.to_room;
        top_room = r.top_room;
        kind_room = omega (arith, r.kind_room);
        left_room = omega (arith, r.left_room);
        gate_room = omega (arith, r.gate_room);
        right_room = omega (arith, r.right_room);
      }

  pub take_room : Room k (c + 2) A
  take_room = room_more 2 chosen_room

-- A gate that goes.
module _ {N : Block} {n k c : ℕ} {A : Arrays} (net : Network N) (go : Going N n k c A) (rd : Ready n k c A) {m i j : ℕ} (ch : Chosen k A m i j) where
  straight : Straight (held k A)
  straight q l = let s = held k A q in (part_ends s.shape s.source s.target (go.reducing.reduced.fits q l).part).differ

  pub slots_apart : i ≢ j
  slots_apart = i_off_j ch straight go.formed

  -- What a gate that goes leaves: the same of the arrays.
  pub record Onward (B : Arrays) (r : ℕ) : Type 0 where
    pub going : Going N n k r B
    pub ready : Ready n k r B

  onward_joined : ((q : ℕ) → q < k → ¬ (Leads A.lives A.froms A.tos (get_or A.froms i 0) (get_or A.tos j 0) q)) → Onward (joined c m i j A) (c + 1)
  onward_joined none =
      record {
        going =
            record {
              gates = go.gates;
              reducing = step_keeps (loop_free net) (joined_step ch straight go.formed (room_more rd ch 1 (omega (arith, chosen_room rd ch))) none) go.reducing;
              formed = joined_formed ch straight go.formed (room_more rd ch 1 (omega (arith, chosen_room rd ch)));
            };
        ready = unfold joined in
            record {
              room = joined_room c m i j rd.room;
              from_below = rd.from_below;
              to_below = λ q h. set_below A.tos i (get_or A.tos j 0) n q (omega (arith, rd.room.to_room, ch.in_slot)) (rd.to_below j ch.out_slot) (rd.to_below q h);
              budget = omega (arith, fall, rd.budget);
            };
      }
    where
      fall : sending n k (joined c m i j A) < sending n k A
      fall = went_less rd ch (by_joining none refl refl)

  onward_taken_up : (l : ℕ) → l < k → Leads A.lives A.froms A.tos (get_or A.froms i 0) (get_or A.tos j 0) l → Onward (taken_up c m i j l A) (c + 2)
  onward_taken_up l inside ld =
      record {
        going =
            record {
              gates = go.gates;
              reducing = step_keeps (loop_free net) (taken_up_step ch straight go.formed (take_room rd ch) inside ld) go.reducing;
              formed = taken_up_formed ch straight go.formed (take_room rd ch) inside ld;
            };
        ready = unfold taken_up in
            record {
              room = taken_up_room c m i j l rd.room;
              from_below = rd.from_below;
              to_below = rd.to_below;
              budget = omega (arith, fall, rd.budget);
            };
      }
    where
      fall : sending n k (taken_up c m i j l A) < sending n k A
      fall = went_less rd ch (by_taking_up l inside ld refl refl)

  pub went_on : {B : Arrays} {r : ℕ} → Went k c m i j A B r → Onward B r
  went_on (by_joining none e f) = subst₂ Onward (sym e) (sym f) (onward_joined none)
  went_on (by_taking_up l inside ld e f) = subst₂ Onward (sym e) (sym f) (onward_taken_up l inside ld)

-- A turn keeps what holds of the arrays.
turned_on : {N : Block} {n k c r : ℕ} {A B : Arrays} → Network N → Going N n k c A → Ready n k c A → Turned k c A B r → Going N n k r B × Ready n k r B
turned_on {N} {n} {k} net go rd (stays e f) = (subst₂ (Going N n k) (sym f) (sym e) go, subst₂ (Ready n k) (sym f) (sym e) rd)
turned_on net go rd (goes m i j ch w) = let o = went_on net go rd ch w in (o.going, o.ready)

turned_kinds : {k c r : ℕ} {A B : Arrays} → Turned k c A B r → length B.tree.kinds ≡ length A.tree.kinds
unfolding joined taken_up
turned_kinds (stays e f) = ap (λ X. length X.tree.kinds) e
turned_kinds {c = c} {A = A} (goes m i j ch (by_joining none e f)) = ap (λ X. length X.tree.kinds) e ∙ length-set A.tree.kinds c 1
turned_kinds {c = c} {A = A} (goes m i j ch (by_taking_up l h ld e f)) = ap (λ X. length X.tree.kinds) e ∙ length-set (set A.tree.kinds c 1) (c + 1) 2 ∙ length-set A.tree.kinds c 1

-- From the arrays A with c nodes to the arrays B with d nodes, what holds of a moment of the reduction is kept.
pub record Onwards (n k c d : ℕ) (A B : Arrays) : Type 0 where
  pub ready : Ready n k d B
  pub kinds_kept : length B.tree.kinds ≡ length A.tree.kinds
  pub keeps : (N : Block) → Network N → Going N n k c A → Going N n k d B

pub onwards_start : {n k c : ℕ} {A : Arrays} → Ready n k c A → Onwards n k c c A A
onwards_start rd = record { ready = rd; kinds_kept = refl; keeps = λ N net go. go }

pub onwards_sound : {n k c d : ℕ} {A B : Arrays} → Sound n k c A → Onwards n k c d A B → Sound n k d B
onwards_sound s o = record { block = s.block; network = s.network; going = o.keeps s.block s.network s.going }

pub onwards_turn : {n k c d r : ℕ} {A B C : Arrays} → Sound n k c A → Onwards n k c d A B → Turned k d B C r → Onwards n k c r A C
unfolding onwards_sound
onwards_turn s o t =
    record {
      ready = (turned_on s.network (onwards_sound s o).going o.ready t).1;
      kinds_kept = turned_kinds t ∙ o.kinds_kept;
      keeps = λ N net go. (turned_on net (o.keeps N net go) o.ready t).0;
    }

one_chosen : {k m : ℕ} (A : Arrays) (x : OneIn (held k A) m) (y : OneOut (held k A) m) → Chosen k A m x.value y.value
one_chosen {k} A x y =
    let (h, v) = held_live k A x.value x.holds.0 in
    let (p, w) = held_live k A y.value y.holds.0 in
    record {
      in_slot = h;
      in_live = v;
      in_to = sym (held_ends k A x.value h).1 ∙ x.holds.1;
      in_only = λ q l a b. x.alone q (held_alive k A q l a, (held_ends k A q l).1 ∙ b);
      out_slot = p;
      out_live = w;
      out_from = sym (held_ends k A y.value p).0 ∙ y.holds.1;
      out_only = λ q l a b. y.alone q (held_alive k A q l a, (held_ends k A q l).0 ∙ b);
    }

-- Where the tallies let no gate go, this is the end.
pub turns_end : {n k a b c : ℕ} {A B : Arrays} {ins outs : List ℕ} → k ≤ max_wires → Onwards n k k c A B → Tallied n k B ins outs
    → ((g : ℕ) → g < n → ¬ (CanGo ins outs a b g)) → Ended n k a b A B c
turns_end {n} {B = B} few o t none =
    record {
      ready = o.ready;
      kinds_kept = o.kinds_kept;
      stands =
          λ N net go.
          let h = o.keeps N net go in
          (h, λ m d p x y. none_chosen few t none m x.value y.value (subst (λ z. m < z) h.gates (one_in_below net h.reducing x)) d p (one_chosen B x y));
    }
