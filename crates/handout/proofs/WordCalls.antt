-- The hand-out's calls, over a tree and the heads as stored: what each asks, and what it leaves.
-- Assumes nothing.
use mathlib.Core.Path.{◌≡◌, sym, ◌∙◌}
use mathlib.Core.Logic.{◌≢◌}
use mathlib.Core.List.{List}
use Prim.Native.Nat.{ℕ, ◌+◌, ◌^◌, ◌<◌}
use lib.ListN.{length, get_or}
use Rattle.blockwords.specs.BlockWords.{gates_held}
use Rattle.planting.specs.declared.tree.Tree.{Tree}
use Rattle.planting.specs.TreeWords.{tree_nodes, tree_parents, NodeIn}
use Rattle.heads.specs.Plan.{heads_of, StepsHeld, part, kind, left, gate, right, parent}
use Rattle.heads.specs.declared.store.Heads.{Heads}
use Rattle.heads.specs.Stored.{GateRoom, NodeRoom, CanWalk, WalkEnds, CanRenew, NodesRenewed, node_heads, head_at}
use Rattle.heads.specs.GateHeads.{GateAdded}
use Rattle.handout.specs.State.{CanGiveOut, GaveOut}
use Rattle.heads.proofs.Reading.{node_in}
use Rattle.handout.proofs.Handing.{wires}
use Rattle.handout.proofs.Calls as calls
use Rattle.handout.proofs.Calls.{in_parallel, in_series}

module _ {block : List ℕ} {tree : Tree} {x : List ℕ} {kept : Heads} {i w : ℕ} (can : CanGiveOut block tree x kept i w) where
  pub node_room : NodeRoom kept i
  node_room = record { room = can.ready.lent.room i can.ready.node }

  pub node : NodeIn tree i
  node = node_in tree i can.ready.node can.ready.sound.shaped.few_nodes

  pub walks : CanWalk tree kept i
  walks = record { walkable = calls.can_walk can.ready }

  pub nothing_given : {a : ℕ} (p : ℕ) → a ≡ (head_at (node_heads kept) i).gain → a ≡ 0 → GaveOut block tree x kept x kept i w p
  nothing_given p e z = record { given = calls.nothing_given can.ready w p (sym e ∙ z) }

  module _ {j : ℕ} (ends : WalkEnds tree kept i j) where
    pub item_node : NodeIn tree j
    item_node = node_in tree j (calls.item_in can.ready ends.ended) can.ready.sound.shaped.few_nodes

    -- the gate at the end of the way
    module _ {g : ℕ} (s : 1 ≡ kind (tree_nodes tree) j) (eg : g ≡ gate (tree_nodes tree) j) where
      is_series : kind (tree_nodes tree) j ≡ 1
      is_series = sym s

      pub gate_asked : {a : ℕ} → a ≡ (head_at (node_heads kept) i).gain → a ≢ 0
          → (g < gates_held block) × StepsHeld block × (g < length x) × (get_or x g 0 + w < 2 ^ 32) × GateRoom kept g
      gate_asked ea d =
          let q = calls.gate_asked can.ready ends.ended w is_series can.fitting (λ z. d (ea ∙ z)) in
          rw eg (q.gate_in, can.steps, q.in_increases, q.fits, record { room = q.room })

      module _ {x' : List ℕ} {kept' : Heads} (added : GateAdded (heads_of block) x x' kept kept' g w) where
        moved : GateAdded (heads_of block) x x' kept kept' (gate (tree_nodes tree) j) w
        moved = rw eg at added

        pub gate_gave : GaveOut block tree x kept x' kept' j w j
        gate_gave = record { given = rw added.nodes (calls.gate_gave can.ready ends.ended is_series moved.added) }

    -- a parallel part at the end of the way
    pub item_falls : {t : ℕ} → in_series (wires (part (tree_nodes tree) i)) ≡ t → in_parallel (wires (part (tree_nodes tree) j)) < t
    item_falls = calls.item_falls can.ready ends.ended

    pub item_kind : {t a : ℕ} → t ≡ kind (tree_nodes tree) j → t ≢ 1 → a ≡ (head_at (node_heads kept) i).gain → a ≢ 0 → 1 < kind (tree_nodes tree) j
    item_kind ek s ea d = calls.item_kind can.ready ends.ended (λ e. s (ek ∙ e)) (λ z. d (ea ∙ z))

    pub item_can : CanGiveOut block tree x kept j w
    item_can =
        record {
          ready = calls.item_ready can.ready ends.ended;
          steps = can.steps;
          fitting = calls.item_fits can.ready ends.ended w can.fitting;
        }

    module _ {x' : List ℕ} {kept' : Heads} (gave : GaveOut block tree x kept x' kept' j w j) where
      pub item_renewable : CanRenew tree kept' j i
      item_renewable = record { renewable = calls.item_renewable can.ready ends.ended gave.given }

      pub item_done : {kept'' : Heads} → NodesRenewed tree kept' kept'' j i → GaveOut block tree x kept x' kept'' i w (parent (tree_parents tree) i)
      item_done r = record { given = rw r.gates (calls.item_done can.ready ends.ended gave.given r.renewed) }

  -- both sides of a parallel node
  module _ (parallels : 1 < kind (tree_nodes tree) i) where
    module _ {l : ℕ} (el : l ≡ left (tree_nodes tree) i) where
      pub left_falls : {t : ℕ} → in_parallel (wires (part (tree_nodes tree) i)) ≡ t → in_series (wires (part (tree_nodes tree) l)) < t
      left_falls = calls.left_falls can.ready parallels el

      pub left_can : CanGiveOut block tree x kept l w
      left_can =
          record {
            ready = calls.left_able can.ready parallels el;
            steps = can.steps;
            fitting = calls.left_fitting can.ready parallels el w can.fitting;
          }

      module _ {x' : List ℕ} {kept' : Heads} {r : ℕ} (gave : GaveOut block tree x kept x' kept' l w (parent (tree_parents tree) l)) (er : r ≡ right (tree_nodes tree) i) where
        pub right_falls : {t : ℕ} → in_parallel (wires (part (tree_nodes tree) i)) ≡ t → in_series (wires (part (tree_nodes tree) r)) < t
        right_falls = calls.right_falls can.ready parallels el gave.given er

        pub right_can : CanGiveOut block tree x' kept' r w
        right_can =
            record {
              ready = calls.right_able can.ready parallels el gave.given er;
              steps = can.steps;
              fitting = calls.right_fitting can.ready parallels el gave.given er can.fitting;
            }

        pub both_done : {x'' : List ℕ} {kept'' : Heads} → GaveOut block tree x' kept' x'' kept'' r w (parent (tree_parents tree) r) → GaveOut block tree x kept x'' kept'' i w i
        both_done next = record { given = calls.both_done can.ready parallels el gave.given er next.given }
