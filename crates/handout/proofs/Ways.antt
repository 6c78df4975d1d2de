-- The way down nested series nodes ends at the item that gets the ticks; they go to a gate or to a parallel node there; then the heads on the way back up are renewed.
-- Assumes nothing.
use mathlib.Core.Path.{◌≡◌, refl, sym, ◌∙◌, ap, subst}
use mathlib.Core.Logic.{◌≢◌}
use mathlib.Core.List.{List}
use Prim.Native.Nat.{ℕ, zero, suc, ◌+◌, ◌^◌, ◌≤◌, ◌<◌}
use native.Mathlib.Decide.{ℕ_discrete}
use native.Mathlib.Omega.{arith}
use lib.ListN.{get_or, length-set}
use lib.Seq.{get_or-set_same, get_or-set_other}
use Rattle.parts.specs.Nodes.{Nodes}
use Rattle.optimum.specs.Head as items
use Rattle.optimum.specs.Head.{Head, Item, item, turn}
use Rattle.optimum.specs.Increases.{add, give_list}
use Rattle.heads.specs.Plan.{Plan, node_count, part, kind, left, gate, right, parent}
use Rattle.heads.specs.Stored.{Stored, Lent, Down, here, further, Up, top, over, Renewable, Renewed, head_at, put, next_by, next_down}
use Rattle.heads.specs.GateHeads.{Added}
use Rattle.handout.specs.State.{State, Fresh, Ready, Fitting, GivenOut}
use Rattle.heads.proofs.Trees.{by_kind, part_series}
use Rattle.heads.proofs.Written.{at_put, beside_put, room_put, local_gate}
use Rattle.heads.proofs.Locals.{gate_below, stored_wire, stored_series}
use Rattle.handout.proofs.Handing.{wires, node_head, gates_right}

module _ (N : Nodes) (G H : Stored) (j : ℕ) where
  -- the item of series node j that leads, by the stored heads
  abbrev pub leader : Item
  leader = turn (head_at H (left N j)) (head_at G (gate N j)) (head_at H (right N j))

  -- the next node down is a child of a series node, the one that leads
  pub next_step : (C : ℕ → Type 0)
      → (kind N j ≡ 1 → leader ≡ items.left → C (left N j))
      → (kind N j ≡ 1 → leader ≡ items.right → C (right N j))
      → next_down N G H j < j
      → C (next_down N G H j)
  unfolding next_down
  next_step C on_left on_right = go (kind N j) leader refl refl
    where
      go : (t : ℕ) (i : Item) → kind N j ≡ t → leader ≡ i → next_by t i (left N j) j (right N j) < j → C (next_by t i (left N j) j (right N j))
      go zero i e f l = absurd (omega arith)
      go (suc zero) items.left e f l = on_left e f
      go (suc zero) items.gate e f l = absurd (omega arith)
      go (suc zero) items.right e f l = on_right e f
      go (suc (suc t)) i e f l = absurd (omega arith)

  -- the way down ends at a series node where its gate leads
  pub next_stays : left N j < j → right N j < j → kind N j ≡ 1 → next_down N G H j ≡ j → leader ≡ items.gate
  unfolding next_down
  next_stays l r = go (kind N j) leader refl
    where
      go : (t : ℕ) (i : Item) → leader ≡ i → t ≡ 1 → next_by t i (left N j) j (right N j) ≡ j → leader ≡ items.gate
      go zero i f e s = absurd (omega arith)
      go (suc zero) items.left f e s = absurd (omega arith)
      go (suc zero) items.gate f e s = f
      go (suc zero) items.right f e s = absurd (omega arith)
      go (suc (suc t)) i f e s = absurd (omega arith)

module _ (P : Plan) (S : State) (i : ℕ) (ready : Ready P S i) where
  abbrev N : Nodes
  N = P.nodes

  abbrev h : ℕ → ℕ → Head
  h = P.heads

  abbrev x : List ℕ
  x = S.increases

  abbrev G : Stored
  G = S.gates

  abbrev H : Stored
  H = S.nodes

  module _ (j : ℕ) (within : j ≤ i) (is_series : kind N j ≡ 1) where
    in_nodes : j < node_count N
    in_nodes = omega (arith, ready.node)

    below_left : left N j < j
    below_left = ready.sound.shaped.left_below j in_nodes (omega arith)

    below_right : right N j < j
    below_right = ready.sound.shaped.right_below j in_nodes (omega arith)

    gate_head : head_at G (gate N j) ≡ h (gate N j) (get_or x (gate N j) 0)
    gate_head = gates_right P S ready.sound ready.fresh j in_nodes is_series

    -- what a series node hands out goes to the item that leads ..
    series_gives : (w : ℕ) (it : Item) → leader N G H j ≡ it
        → give_list h (part N j) w x ≡ item it (give_list h (part N (left N j)) w x) (add x (gate N j) w) (give_list h (part N (right N j)) w x)
    series_gives w it e =
        let l = node_head P S i ready (left N j) (omega (arith, below_left)) in
        let r = node_head P S i ready (right N j) (omega (arith, below_right)) in
        rw (part_series N j below_left below_right is_series) (rw (← l, ← gate_head, ← r, e) refl)

    -- .. whose head is the node's
    series_head : (it : Item) → leader N G H j ≡ it → head_at H j ≡ item it (head_at H (left N j)) (head_at G (gate N j)) (head_at H (right N j))
    series_head it e =
        stored_series N G H j (ready.local j within) is_series
        ∙ ap (λ (u : Item). item u (head_at H (left N j)) (head_at G (gate N j)) (head_at H (right N j))) e

    fewer : (wires (part N (left N j)) ≤ wires (part N j)) × (wires (part N (right N j)) ≤ wires (part N j))
    fewer = rw (part_series N j below_left below_right is_series) (omega arith, omega arith)

  -- node j on the way down from i gets what node i gets
  pub record Came (j : ℕ) : Type 0 where
    pub within : j ≤ i
    pub up : Up P.parents i j
    pub same_given : (w : ℕ) → give_list h (part N i) w x ≡ give_list h (part N j) w x
    pub same_head : head_at H i ≡ head_at H j
    pub no_more : wires (part N j) ≤ wires (part N i)

  pub came : (j : ℕ) → Down N G H i j → Came j
  came j here =
      record { within = omega arith; up = top; same_given = λ w. refl; same_head = refl; no_more = omega arith }
  came _ (further j down l) = on (came j down)
    where
      on : Came j → Came (next_down N G H j)
      on before =
          next_step N G H j Came
          (λ s e.
          let p = ready.sound.shaped.left_parent j (in_nodes j before.within s) (omega arith) in
          let b = below_left j before.within s in
          record {
            within = omega (arith, before.within);
            up = over (left N j) (omega arith) (rw p before.up);
            same_given = λ w. before.same_given w ∙ series_gives j before.within s w items.left e;
            same_head = before.same_head ∙ series_head j before.within s items.left e;
            no_more = omega (arith, before.no_more, (fewer j before.within s).0);
          })
          (λ s e.
          let p = ready.sound.shaped.right_parent j (in_nodes j before.within s) (omega arith) in
          let b = below_right j before.within s in
          record {
            within = omega (arith, before.within);
            up = over (right N j) (omega arith) (rw p before.up);
            same_given = λ w. before.same_given w ∙ series_gives j before.within s w items.right e;
            same_head = before.same_head ∙ series_head j before.within s items.right e;
            no_more = omega (arith, before.no_more, (fewer j before.within s).1);
          })
          l

  module _ (j : ℕ) (down : Down N G H i j) (stays : next_down N G H j ≡ j) where
    -- at the end of the way a series node's own gate gets the ticks ..
    module _ (is_series : kind N j ≡ 1) where
      gate_leads : leader N G H j ≡ items.gate
      gate_leads =
          let c = came j down in
          next_stays N G H j (below_left j c.within is_series) (below_right j c.within is_series) is_series stays

      gate_in : gate N j < P.gate_count
      gate_in =
          let l = in_nodes j (came j down).within is_series in
          gate_below N P.parents P.gate_count j ready.sound.shaped l is_series (ready.sound.below j l)

      -- .. which are not too many
      pub near_enough : (w : ℕ) → Fitting S i w → 0 < (head_at H i).gain → get_or x (gate N j) 0 + w < 2 ^ 32
      near_enough w f p =
          let c = came j down in
          let e = c.same_head ∙ series_head j c.within is_series items.gate gate_leads ∙ gate_head j c.within is_series in
          let q = ap (λ (a : Head). a.gain) e in
          let v = ap (λ (a : Head). a.width) e in
          omega (arith, f p, ready.sound.near (gate N j) (get_or x (gate N j) 0) (omega arith))

      module _ (w : ℕ) (x' : List ℕ) (G' : Stored) (added : Added h x x' G G' (gate N j) w) where
        abbrev S' : State
        S' = record { increases = x'; gates = G'; nodes = H }

        fresh_after : Fresh P S'
        fresh_after =
            record {
              long = rw (added.increases, length-set x (gate N j) (get_or x (gate N j) 0 + w)) ready.fresh.long;
              room = λ g l. rw added.written (room_put G (gate N j) g _ (ready.fresh.room g l));
              right = λ g l. rw (added.written, added.increases) (by g l (ℕ_discrete g (gate N j)));
            }
          where
            by : (g : ℕ) → g < P.gate_count → Dec (g ≡ gate N j)
                → head_at (put G (gate N j) (h (gate N j) (get_or x (gate N j) 0 + w))) g ≡ h g (get_or (add x (gate N j) w) g 0)
            by g l (yes e) =
                rw (
                  e,
                  at_put G (gate N j) (h (gate N j) (get_or x (gate N j) 0 + w)) added.low (ready.fresh.room (gate N j) gate_in),
                  get_or-set_same x (gate N j) (get_or x (gate N j) 0 + w) 0 (omega (arith, gate_in, ready.fresh.long)),
                )
            by g l (no d) =
                rw (
                  beside_put G (gate N j) g (h (gate N j) (get_or x (gate N j) 0 + w)) d,
                  get_or-set_other x (gate N j) g (get_or x (gate N j) 0 + w) 0 d,
                ) (ready.fresh.right g l)

        lent_after : Lent N G' H
        lent_after =
            let t = ready.lent in
            record {
              room = t.room;
              gate_room = λ k l e. rw added.written (room_put G (gate N j) (gate N k) _ (t.gate_room k l e));
              gate_gain = λ k l e.
                  omega (
                    arith,
                    ap (λ (a : Head). a.gain) (gates_right P S' ready.sound fresh_after k l e),
                    ready.sound.small (gate N k) (get_or x' (gate N k) 0),
                  );
            }

        pub gate_given : GivenOut P S S' j w j
        gate_given =
            let c = came j down in
            record {
              increases = added.increases ∙ sym (series_gives j c.within is_series w items.gate gate_leads);
              lent = lent_after;
              fresh = fresh_after;
              keeps = record {
                still = λ k l d at.
                    rw added.written (local_gate N P.parents ready.sound.shaped G H j k _ (in_nodes j c.within is_series) l is_series d at);
              };
            }

    -- any other node at the end of the way is a parallel node with the same head
    pub hands_on : kind N j ≢ 1 → 0 < (head_at H i).gain → 1 < kind N j
    hands_on d p =
        let c = came j down in
        by_kind (kind N j)
        (λ z. absurd (omega (arith, ap (λ (a : Head). a.gain) (c.same_head ∙ stored_wire N G H j (ready.local j c.within) z))))
        (λ s. absurd (d s))
        (λ m. m)

    pub hands_fit : (w : ℕ) → Fitting S i w → Fitting S j w
    hands_fit w f = subst (λ (a : Head). 0 < a.gain → w ≤ a.width) (came j down).same_head f

  -- once the ticks are handed out at the end of the way, the heads on the way back can be renewed ..
  module _ (j w : ℕ) (down : Down N G H i j) (S' : State) (given : GivenOut P S S' j w j) where
    pub renewable : Renewable N P.parents S'.gates S'.nodes j i
    renewable =
        record {
          shaped = ready.sound.shaped;
          lent = given.lent;
          node = ready.node;
          up = (came j down).up;
          local = λ k l d. given.keeps.still k (omega (arith, ready.node)) d (ready.local k l);
        }

    -- .. and then they have been handed out at node i
    pub way_given : (H'' : Stored) → Renewed N P.parents S'.gates S'.nodes H'' j i
        → GivenOut P S (record { increases = S'.increases; gates = S'.gates; nodes = H'' }) i w (parent P.parents i)
    way_given H'' renewed =
        record {
          increases = given.increases ∙ sym ((came j down).same_given w);
          lent = renewed.lent;
          fresh = record { long = given.fresh.long; room = given.fresh.room; right = given.fresh.right };
          keeps = record { still = λ k l d at. renewed.still k l d (λ e. given.keeps.still k l e at) };
        }
