-- What the functions that hand out ask of their calls, and what they have done after them, at the numbers that the code has read.
-- Assumes nothing.
use mathlib.Core.Path.{◌≡◌, subst}
use mathlib.Core.Logic.{◌≢◌}
use mathlib.Core.List.{List}
use Prim.Native.Nat.{ℕ, ◌+◌, ◌*◌, ◌^◌, ◌<◌}
use native.Mathlib.Omega.{arith}
use lib.ListN.{length, get_or}
use Rattle.heads.specs.Plan.{Plan, node_count, part, kind, left, gate, right, parent}
use Rattle.heads.specs.Stored.{Stored, Room, Walkable, Ended, Renewable, Renewed, head_at}
use Rattle.heads.specs.GateHeads.{Added}
use Rattle.handout.specs.State.{State, Ready, Fitting, GivenOut}
use Rattle.heads.proofs.Locals.{gate_below}
use Rattle.heads.proofs.Making.{can_make}
use Rattle.handout.proofs.Handing.{wires, ready_lower, idle, fewer_left, fewer_right, left_ready, left_fits, right_ready, right_fits, both_given}
use Rattle.handout.proofs.Ways.{came, near_enough, gate_given, hands_on, hands_fit, renewable, way_given}

-- the measure of a hand-out: twice the wires of the part, and one more where the part is still to be looked at
abbrev pub in_parallel : ℕ → ℕ
in_parallel wires = 2 * wires

abbrev pub in_series : ℕ → ℕ
in_series wires = 2 * wires + 1

module _ {P : Plan} {S : State} {i : ℕ} (ready : Ready P S i) where
  pub can_walk : Walkable P.nodes S.gates S.nodes i
  can_walk =
      let shaped = ready.sound.shaped in
      record {
        made = λ k l.
            can_make P.nodes P.parents S.gates S.nodes k shaped ready.lent (omega (arith, ready.node))
            (λ j m. ready.local j (omega arith));
        left_below = λ k l. shaped.left_below k (omega (arith, ready.node));
        right_below = λ k l. shaped.right_below k (omega (arith, ready.node));
      }

  pub nothing_given : (w p : ℕ) → (head_at S.nodes i).gain ≡ 0 → GivenOut P S S i w p
  nothing_given = idle P S i ready

  module _ {j : ℕ} (ended : Ended P.nodes S.gates S.nodes i j) where
    pub item_in : j < node_count P.nodes
    item_in = omega (arith, ready.node, (came P S i ready j ended.down).within)

    -- what the gate at the end of the way is asked for
    pub record GateAsked (w : ℕ) : Type 0 where
      pub gate_in : gate P.nodes j < P.gate_count
      pub in_increases : gate P.nodes j < length S.increases
      pub fits : get_or S.increases (gate P.nodes j) 0 + w < 2 ^ 32
      pub room : Room S.gates (gate P.nodes j)

    pub gate_asked : (w : ℕ) → kind P.nodes j ≡ 1 → Fitting S i w → (head_at S.nodes i).gain ≢ 0 → GateAsked w
    gate_asked w s f d =
        let g = gate_below P.nodes P.parents P.gate_count j ready.sound.shaped item_in s (ready.sound.below j item_in) in
        record {
          gate_in = g;
          in_increases = omega (arith, ready.fresh.long);
          fits = near_enough P S i ready j ended.down ended.stays s w f (omega arith);
          room = ready.fresh.room (gate P.nodes j) g;
        }

    -- the gate at the end of the way has got the ticks
    pub gate_gave : {x' : List ℕ} {G' : Stored} {w : ℕ} → kind P.nodes j ≡ 1
        → Added P.heads S.increases x' S.gates G' (gate P.nodes j) w
        → GivenOut P S (record { increases = x'; gates = G'; nodes = S.nodes }) j w j
    gate_gave {x'} {G'} {w} s added = gate_given P S i ready j ended.down ended.stays s w x' G' added

    pub item_falls : {t : ℕ} → in_series (wires (part P.nodes i)) ≡ t → in_parallel (wires (part P.nodes j)) < t
    item_falls e = omega (arith, (came P S i ready j ended.down).no_more)

    pub item_kind : kind P.nodes j ≢ 1 → (head_at S.nodes i).gain ≢ 0 → 1 < kind P.nodes j
    item_kind s d = hands_on P S i ready j ended.down ended.stays s (omega arith)

    pub item_ready : Ready P S j
    item_ready = ready_lower P S i ready j (came P S i ready j ended.down).within

    pub item_fits : (w : ℕ) → Fitting S i w → Fitting S j w
    item_fits = hands_fit P S i ready j ended.down ended.stays

    pub item_renewable : {S' : State} {w : ℕ} → GivenOut P S S' j w j → Renewable P.nodes P.parents S'.gates S'.nodes j i
    item_renewable {S'} {w} given = renewable P S i ready j w ended.down S' given

    pub item_done : {S' : State} {H'' : Stored} {w : ℕ} → GivenOut P S S' j w j
        → Renewed P.nodes P.parents S'.gates S'.nodes H'' j i
        → GivenOut P S (record { increases = S'.increases; gates = S'.gates; nodes = H'' }) i w (parent P.parents i)
    item_done {S'} {H''} {w} given = way_given P S i ready j w ended.down S' given H''

  -- both sides of a parallel node
  module _ (parallels : 1 < kind P.nodes i) where
    module _ {l : ℕ} (el : l ≡ left P.nodes i) where
      pub left_falls : {t : ℕ} → in_parallel (wires (part P.nodes i)) ≡ t → in_series (wires (part P.nodes l)) < t
      left_falls e = rw el (omega (arith, fewer_left P S i ready parallels))

      pub left_able : Ready P S l
      left_able = rw el (left_ready P S i ready parallels)

      pub left_fitting : (w : ℕ) → Fitting S i w → Fitting S l w
      left_fitting w f = rw el (left_fits P S i ready parallels w f)

      module _ {S' : State} {w r : ℕ} (given : GivenOut P S S' l w (parent P.parents l)) (er : r ≡ right P.nodes i) where
        first : GivenOut P S S' (left P.nodes i) w (parent P.parents (left P.nodes i))
        first = subst (λ (k : ℕ). GivenOut P S S' k w (parent P.parents k)) el given

        pub right_falls : {t : ℕ} → in_parallel (wires (part P.nodes i)) ≡ t → in_series (wires (part P.nodes r)) < t
        right_falls e = rw er (omega (arith, fewer_right P S i ready parallels))

        pub right_able : Ready P S' r
        right_able = rw er (right_ready P S i ready parallels S' w first)

        pub right_fitting : Fitting S i w → Fitting S' r w
        right_fitting f = rw er (right_fits P S i ready parallels S' w first f)

        pub both_done : {S'' : State} → GivenOut P S' S'' r w (parent P.parents r) → GivenOut P S S'' i w i
        both_done {S''} next =
            both_given P S i ready parallels S' w first S''
            (subst (λ (k : ℕ). GivenOut P S' S'' k w (parent P.parents k)) er next)
