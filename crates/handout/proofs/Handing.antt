-- Handing out at a node: where the heads are right, the head stored for a node is its part's; a node without a head is left as it is; both children of a parallel node get the ticks, the second with the head that it had, for they share no gate.
-- Assumes nothing.
use mathlib.Core.Path.{◌≡◌, sym, ◌∙◌, ap, subst}
use Prim.Native.Nat.{ℕ, ◌+◌, ◌≤◌, ◌<◌}
use native.Mathlib.Omega.{arith}
use lib.ListN.{get_or}
use Rattle.parts.specs.Nodes.{Nodes}
use Rattle.optimum.specs.Tree.{Tree, wire, series, parallel, count, Once, St}
use Rattle.optimum.specs.Head.{Head, beside}
use Rattle.optimum.specs.Handout.{head}
use Rattle.optimum.specs.Increases.{read, give_list}
use Rattle.optimum.proofs.Order.{by_sides}
use Rattle.optimum.proofs.Handout.{give_none}
use Rattle.optimum.proofs.Increases.{Placed, frame_none, give_frame, read_give, read_same, same_lists}
use Rattle.heads.specs.Plan.{Plan, Sound, node_count, part, kind, left, gate, right, parent}
use Rattle.heads.specs.Stored.{head_at}
use Rattle.handout.specs.State.{State, Fresh, Ready, Fitting, GivenOut}
use Rattle.heads.proofs.Trees.{part_parallel}
use Rattle.heads.proofs.Written.{keeps_none, keeps_on}
use Rattle.heads.proofs.Locals.{gate_below, right_head, stored_parallel}

-- the wires of a part
abbrev pub wires : Tree → ℕ
wires (wire d) = 1
wires (series P m Q) = wires P + wires Q
wires (parallel P Q) = wires P + wires Q

pub some_wire : (t : Tree) → 0 < wires t
some_wire (wire d) = omega arith
some_wire (series P m Q) = omega (arith, some_wire P)
some_wire (parallel P Q) = omega (arith, some_wire P)

-- a fitting number of ticks fits each side of a parallel part
fits_left : (a b : Head) (w : ℕ) → (0 < (beside a b).gain → w ≤ (beside a b).width) → 0 < a.gain → w ≤ a.width
fits_left a b w =
    by_sides a b (λ (r : Head). (0 < r.gain → w ≤ r.width) → 0 < a.gain → w ≤ a.width) (λ z f p. absurd (omega arith))
    (λ p z f q. f q) (λ p q f _. omega (arith, f (omega arith)))

fits_right : (a b : Head) (w : ℕ) → (0 < (beside a b).gain → w ≤ (beside a b).width) → 0 < b.gain → w ≤ b.width
fits_right a b w =
    by_sides a b (λ (r : Head). (0 < r.gain → w ≤ r.width) → 0 < b.gain → w ≤ b.width) (λ z f. f)
    (λ p z f q. absurd (omega arith)) (λ p q f _. omega (arith, f (omega arith)))

module _ (P : Plan) where
  abbrev N : Nodes
  N = P.nodes

  abbrev h : ℕ → ℕ → Head
  h = P.heads

  pub gates_right : (S : State) → Sound P → Fresh P S → (k : ℕ) → k < node_count N → kind N k ≡ 1
      → head_at S.gates (gate N k) ≡ h (gate N k) (get_or S.increases (gate N k) 0)
  gates_right S sound fresh k l e =
      fresh.right (gate N k) (gate_below N P.parents P.gate_count k sound.shaped l e (sound.below k l))

  pub placed : (S : State) (k : ℕ) → Sound P → Fresh P S → k < node_count N → Placed (part N k) S.increases
  placed S k sound fresh l g p = omega (arith, sound.below k l g p, fresh.long)

  module _ (S : State) (i : ℕ) (ready : Ready P S i) where
    -- the head stored for a node up to i is that of its part
    pub node_head : (k : ℕ) → k ≤ i → head_at S.nodes k ≡ head h (part N k) (read (part N k) S.increases)
    node_head k l =
        right_head N P.parents S.gates S.nodes ready.sound.shaped h S.increases (gates_right S ready.sound ready.fresh) k
        (omega (arith, ready.node)) (λ j m. ready.local j (omega arith))

    pub ready_lower : (k : ℕ) → k ≤ i → Ready P S k
    ready_lower k l =
        record {
          sound = ready.sound;
          lent = ready.lent;
          fresh = ready.fresh;
          node = omega (arith, ready.node);
          local = λ j m. ready.local j (omega arith);
        }

    -- without a head nothing is handed out
    pub idle : (w p : ℕ) → (head_at S.nodes i).gain ≡ 0 → GivenOut P S S i w p
    idle w p z =
        let t = part N i in
        let once = ready.sound.shaped.once i ready.node in
        let at = placed S i ready.sound ready.fresh ready.node in
        let e = ap (λ (a : Head). a.gain) (node_head i (omega arith)) in
        record {
          increases = sym (same_lists t S.increases _ _ (give_frame h t w S.increases) (frame_none t S.increases)
              (read_give h t w S.increases once at ∙ give_none P.gate_count h ready.sound.heads t w _ (omega arith)));
          lent = ready.lent;
          fresh = ready.fresh;
          keeps = keeps_none N S.gates S.nodes p;
        }

    -- both sides of a parallel node, one after the other
    module _ (parallels : 1 < kind N i) where
      below_left : left N i < i
      below_left = ready.sound.shaped.left_below i ready.node (omega arith)

      below_right : right N i < i
      below_right = ready.sound.shaped.right_below i ready.node (omega arith)

      is_parallel : part N i ≡ parallel (part N (left N i)) (part N (right N i))
      is_parallel = part_parallel N i below_left below_right parallels

      apart : (g : ℕ) → count (part N (left N i)) g + count (part N (right N i)) g ≤ 1
      apart = subst (λ (t : Tree). Once t) is_parallel (ready.sound.shaped.once i ready.node)

      pub fewer_left : wires (part N (left N i)) < wires (part N i)
      fewer_left = rw is_parallel (omega (arith, some_wire (part N (right N i))))

      pub fewer_right : wires (part N (right N i)) < wires (part N i)
      fewer_right = rw is_parallel (omega (arith, some_wire (part N (left N i))))

      pub left_ready : Ready P S (left N i)
      left_ready = ready_lower (left N i) (omega (arith, below_left))

      pub left_fits : (w : ℕ) → Fitting S i w → Fitting S (left N i) w
      left_fits w f =
          fits_left (head_at S.nodes (left N i)) (head_at S.nodes (right N i)) w
          (subst (λ (a : Head). 0 < a.gain → w ≤ a.width) (stored_parallel N S.gates S.nodes i (ready.local i (omega arith)) parallels) f)

      module _ (S' : State) (w : ℕ) (given : GivenOut P S S' (left N i) w (parent P.parents (left N i))) where
        pub right_ready : Ready P S' (right N i)
        right_ready =
            record {
              sound = ready.sound;
              lent = given.lent;
              fresh = given.fresh;
              node = omega (arith, ready.node, below_right);
              local = λ k l.
                  given.keeps.still k (omega (arith, ready.node, below_right))
                  (λ e. let u = ready.sound.shaped.left_parent i ready.node (omega arith) in omega (arith, below_right))
                  (ready.local k (omega (arith, below_right)));
            }

        -- the second side's head is as it was, for the sides share no gate
        same_right : head_at S'.nodes (right N i) ≡ head_at S.nodes (right N i)
        same_right =
            let r = right N i in
            right_head N P.parents S'.gates S'.nodes ready.sound.shaped h S'.increases (gates_right S' ready.sound given.fresh) r
            right_ready.node right_ready.local
            ∙ ap (λ (s : St (part N r)). head h (part N r) s) (ap (read (part N r)) given.increases
            ∙ read_same (part N r) S.increases _ (λ g l. (give_frame h (part N (left N i)) w S.increases).others g (omega (arith, apart g))))
            ∙ sym (node_head r (omega (arith, below_right)))

        pub right_fits : Fitting S i w → Fitting S' (right N i) w
        right_fits f =
            subst (λ (a : Head). 0 < a.gain → w ≤ a.width) (sym same_right)
            (fits_right (head_at S.nodes (left N i)) (head_at S.nodes (right N i)) w
            (subst (λ (a : Head). 0 < a.gain → w ≤ a.width) (stored_parallel N S.gates S.nodes i (ready.local i (omega arith)) parallels) f))

        pub both_given : (S'' : State) → GivenOut P S' S'' (right N i) w (parent P.parents (right N i)) → GivenOut P S S'' i w i
        both_given S'' next =
            let l = ready.sound.shaped.left_parent i ready.node (omega arith) in
            let r = ready.sound.shaped.right_parent i ready.node (omega arith) in
            record {
              increases = next.increases ∙ ap (give_list h (part N (right N i)) w) given.increases
                  ∙ sym (ap (λ (t : Tree). give_list h t w S.increases) is_parallel);
              lent = next.lent;
              fresh = next.fresh;
              keeps = keeps_on N _ _ _ _ _ _ i (rw l at given.keeps) (rw r at next.keeps);
            }
