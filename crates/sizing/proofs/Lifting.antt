-- Raising node after node: a wire and a series node are raised once their children are; of a parallel node each side gets the ticks that it lacks to the other, and no other part is touched. In the end the whole is raised.
-- Assumes nothing.
use mathlib.Core.Path.{◌≡◌, refl, sym, ◌∙◌, ap, subst}
use mathlib.Core.List.{List}
use Prim.Native.Nat.{ℕ, ◌+◌, ◌-◌, ◌≤◌, ◌<◌}
use native.Mathlib.Decide.{ℕ_discrete}
use native.Mathlib.Omega.{arith}
use lib.ListN.{length, get_or, replicate, length-replicate}
use lib.Seq.{ext_get_or}
use Rattle.parts.specs.Nodes.{Nodes}
use Rattle.optimum.specs.Tree.{parallel, count, zeros, longest}
use Rattle.optimum.specs.Handout.{ticks, raise}
use Rattle.optimum.specs.Increases.{read, ticks_list, raise_list}
use Rattle.optimum.proofs.Increases.{read_same, same_read, ticks_frame, read_ticks, read_raise, read_zeros, length_raised}
use Rattle.heads.specs.Plan.{Plan, node_count, part, kind, left, gate, right, parent}
use Rattle.heads.specs.Stored.{Stored, Made, Local, Lent, put, head_below}
use Rattle.handout.specs.State.{State, Ready}
use Rattle.sizing.specs.Ticks.{TickedOut}
use Rattle.sizing.specs.Raise.{root, Standing, Lifted, Levelled, Raisable, Raised}
use Rattle.heads.proofs.Trees.{by_kind, part_wire, part_series, part_parallel}
use Rattle.heads.proofs.Written.{local_renewed, local_beside, lent_put}
use Rattle.heads.proofs.Making.{can_make}
use Rattle.handout.proofs.Handing.{placed}
use Rattle.sizing.proofs.Apart.{share_none, gate_beyond}

-- what holds of the nodes below i and of node i holds of those below i + 1
one_more : (i : ℕ) (C : ℕ → Type 0) → ((k : ℕ) → k < i → C k) → C i → (k : ℕ) → k < i + 1 → C k
one_more i C before here k l = go (ℕ_discrete k i)
  where
    go : Dec (k ≡ i) → C k
    go (yes e) = rw e here
    go (no d) = before k (omega arith)

module _ {P : Plan} {S : State} {i : ℕ} (standing : Standing P S i) (node : i < node_count P.nodes) where
  abbrev N : Nodes
  N = P.nodes

  abbrev x : List ℕ
  x = S.increases

  -- with node i raised too, nothing else touched
  further : (d : ℕ → ℕ) (y : List ℕ) → Lifted P d x i
      → ((k : ℕ) → k < i → k < node_count N → i + 1 ≤ parent P.parents k → read (part N k) y ≡ read (part N k) x)
      → ((k : ℕ) → i < k → k < node_count N → kind N k ≡ 1 → get_or y (gate N k) 0 ≡ get_or x (gate N k) 0)
      → read (part N i) y ≡ raise d P.heads (part N i)
      → Lifted P d y (i + 1)
  further d y lifted others gates here =
      record {
        raised = one_more i (λ (k : ℕ). k < node_count N → i + 1 ≤ parent P.parents k → read (part N k) y ≡ raise d P.heads (part N k))
            (λ k l nk a. others k l nk a ∙ lifted.raised k l nk (omega arith))
            (λ nk a. here);
        waiting = λ k l nk e. gates k (omega arith) nk e ∙ lifted.waiting k (omega arith) nk e;
      }

  -- a wire, or a series node whose children are raised, is raised
  pub raised_already : {lengths : List ℕ} → kind N i < 2 → Levelled P lengths x x i
  raised_already b = record { by_lengths = λ d _ lifted. further d x lifted (λ k l nk a. refl) (λ k l nk e. refl) (here d lifted) }
    where
      here : (d : ℕ → ℕ) → Lifted P d x i → read (part N i) x ≡ raise d P.heads (part N i)
      here d lifted =
          by_kind (kind N i)
          (λ e. rw (part_wire N i e) refl)
          (λ e.
          let shaped = standing.sound.shaped in
          let l = shaped.left_below i node (omega arith) in
          let r = shaped.right_below i node (omega arith) in
          let u = lifted.raised (left N i) l (omega arith) (omega (arith, shaped.left_parent i node (omega arith))) in
          let v = lifted.raised (right N i) r (omega arith) (omega (arith, shaped.right_parent i node (omega arith))) in
          let w = lifted.waiting i (omega arith) node e in
          rw (part_series N i l r e) (λ t. (u t, w t, v t)))
          (λ e. absurd (omega arith))

  pub made_here : Made N S.gates S.nodes i
  made_here =
      can_make N P.parents S.gates S.nodes i standing.sound.shaped standing.lent node (λ j l. standing.local j l)

  -- node i's head is renewed
  pub stands_further : {H' : Stored} → H' ≡ put S.nodes i (head_below N S.gates S.nodes i)
      → Standing P (record { increases = x; gates = S.gates; nodes = H' }) (i + 1)
  stands_further {H'} e =
      record {
        sound = standing.sound;
        above = standing.above;
        lent = subst (λ (T : Stored). Lent N S.gates T) (sym e) (lent_put N S.gates S.nodes i _ standing.lent);
        fresh = record { long = standing.fresh.long; room = standing.fresh.room; right = standing.fresh.right };
        local = λ k l. subst (λ (T : Stored). Local N S.gates T k) (sym e) (all k l);
      }
    where
      all : (k : ℕ) → k < i + 1 → Local N S.gates (put S.nodes i (head_below N S.gates S.nodes i)) k
      all =
          one_more i (λ (k : ℕ). Local N S.gates (put S.nodes i (head_below N S.gates S.nodes i)) k)
          (λ k l. local_beside N P.parents standing.sound.shaped S.gates S.nodes i k _ (omega arith) (λ z. omega arith)
          (λ z. omega (arith, standing.above i node)) (standing.local k l))
          (local_renewed N P.parents standing.sound.shaped S.gates S.nodes i node (standing.lent.room i node))

  module _ (parallels : 2 ≤ kind N i) where
    below_left : left N i < i
    below_left = standing.sound.shaped.left_below i node (omega arith)

    below_right : right N i < i
    below_right = standing.sound.shaped.right_below i node (omega arith)

    left_up : parent P.parents (left N i) ≡ i
    left_up = standing.sound.shaped.left_parent i node (omega arith)

    right_up : parent P.parents (right N i) ≡ i
    right_up = standing.sound.shaped.right_parent i node (omega arith)

    is_parallel : part N i ≡ parallel (part N (left N i)) (part N (right N i))
    is_parallel = part_parallel N i below_left below_right (omega arith)

    once_both : (g : ℕ) → count (part N (left N i)) g + count (part N (right N i)) g ≤ 1
    once_both = rw is_parallel at (standing.sound.shaped.once i node)

    pub left_in : {j : ℕ} → j ≡ left N i → j < node_count N
    left_in e = omega (arith, below_left)

    pub right_in : {j : ℕ} → j ≡ right N i → j < node_count N
    right_in e = omega (arith, below_right)

    pub left_lift : {j : ℕ} → j ≡ left N i → Ready P S j × (j < parent P.parents j)
    left_lift e =
        rw e (
          record {
            sound = standing.sound;
            lent = standing.lent;
            fresh = standing.fresh;
            node = omega (arith, below_left);
            local = λ k b. standing.local k (omega (arith, below_left));
          },
          omega (arith, below_left, left_up),
        )

    module _ {S' : State} {j m : ℕ} (e : j ≡ left N i) (first : TickedOut P S S' j m) where
      local_first : (k : ℕ) → k < i → Local N S'.gates S'.nodes k
      local_first k b =
          first.keeps.still k (omega arith) (λ z. omega (arith, left_up, ap (parent P.parents) e)) (standing.local k b)

      pub right_lift : {o : ℕ} → o ≡ right N i → Ready P S' o × (o < parent P.parents o)
      right_lift f =
          rw f (
            record {
              sound = standing.sound;
              lent = first.lent;
              fresh = first.fresh;
              node = omega (arith, below_right);
              local = λ k b. local_first k (omega (arith, below_right));
            },
            omega (arith, below_right, right_up),
          )

      module _ {S'' : State} {o q : ℕ} (f : o ≡ right N i) (second : TickedOut P S' S'' o q) where
        pub sides_stand : Standing P S'' i
        sides_stand =
            record {
              sound = standing.sound;
              above = standing.above;
              lent = second.lent;
              fresh = second.fresh;
              local = λ k b. second.keeps.still k (omega arith) (λ z. omega (arith, right_up, ap (parent P.parents) f)) (local_first k b);
            }

        x₁ : S'.increases ≡ ticks_list P.heads (part N (left N i)) m x
        x₁ = first.increases ∙ ap (λ (k : ℕ). ticks_list P.heads (part N k) m x) e

        x₂ : S''.increases ≡ ticks_list P.heads (part N (right N i)) q S'.increases
        x₂ = second.increases ∙ ap (λ (k : ℕ). ticks_list P.heads (part N k) q S'.increases) f

        -- an increase of a gate of neither side is as before
        same_at : (g : ℕ) → count (part N (left N i)) g ≡ 0 → count (part N (right N i)) g ≡ 0 → get_or S''.increases g 0 ≡ get_or x g 0
        same_at g a b =
            let u : get_or S''.increases g 0 ≡ get_or S'.increases g 0 = rw x₂ ((ticks_frame P.heads (part N (right N i)) q S'.increases).others g b) in
            let v : get_or S'.increases g 0 ≡ get_or x g 0 = rw x₁ ((ticks_frame P.heads (part N (left N i)) m x).others g a) in
            u ∙ v

        module _ (d : ℕ → ℕ) (lifted : Lifted P d x i)
            (em : m ≡ longest d (part N (right N i)) (zeros (part N (right N i))) - longest d (part N (left N i)) (zeros (part N (left N i))))
            (eq : q ≡ longest d (part N (left N i)) (zeros (part N (left N i))) - longest d (part N (right N i)) (zeros (part N (right N i)))) where
          left_read : read (part N (left N i)) S''.increases ≡ ticks P.heads (part N (left N i)) m (raise d P.heads (part N (left N i)))
          left_read =
              let t = part N (left N i) in
              read_same t S'.increases S''.increases
              (λ g p. rw x₂ ((ticks_frame P.heads (part N (right N i)) q S'.increases).others g (omega (arith, once_both g))))
              ∙ ap (read t) x₁
              ∙ read_ticks P.heads t m x (standing.sound.shaped.once (left N i) (omega (arith, below_left)))
              (placed P S (left N i) standing.sound standing.fresh (omega (arith, below_left)))
              ∙ ap (ticks P.heads t m) (lifted.raised (left N i) below_left (omega (arith, below_left)) (omega (arith, left_up)))

          right_read : read (part N (right N i)) S''.increases ≡ ticks P.heads (part N (right N i)) q (raise d P.heads (part N (right N i)))
          right_read =
              let t = part N (right N i) in
              ap (read t) x₂
              ∙ read_ticks P.heads t q S'.increases (standing.sound.shaped.once (right N i) (omega (arith, below_right)))
              (placed P S' (right N i) standing.sound first.fresh (omega (arith, below_right)))
              ∙ ap (ticks P.heads t q) (read_same t x S'.increases
              (λ g p. rw x₁ ((ticks_frame P.heads (part N (left N i)) m x).others g (omega (arith, once_both g))))
              ∙ lifted.raised (right N i) below_right (omega (arith, below_right)) (omega (arith, right_up)))

          here_raised : read (part N i) S''.increases ≡ raise d P.heads (part N i)
          here_raised = rw is_parallel (rw (← em, ← eq) (λ t. (left_read t, right_read t)))

          sides_lifted : Lifted P d S''.increases (i + 1)
          sides_lifted =
              let shaped = standing.sound.shaped in
              further d S''.increases lifted
              (λ k b nk a. read_same (part N k) x S''.increases
              (λ g p. same_at g
              (share_none N P.parents shaped i (left N i) k g below_left b (omega (arith, below_left)) nk (omega (arith, left_up)) (omega arith)
              (λ z. omega (arith, left_up, ap (parent P.parents) z)) p)
              (share_none N P.parents shaped i (right N i) k g below_right b (omega (arith, below_right)) nk (omega (arith, right_up)) (omega arith)
              (λ z. omega (arith, right_up, ap (parent P.parents) z)) p)))
              (λ k b nk s. same_at (gate N k) (gate_beyond N P.parents shaped (left N i) k (omega (arith, below_left)) nk s (omega (arith, below_left)))
              (gate_beyond N P.parents shaped (right N i) k (omega (arith, below_right)) nk s (omega (arith, below_right))))
              here_raised

        -- with the missing ticks taken from the lengths
        pub sides_levelled : {lengths : List ℕ} → m ≡ get_or lengths o 0 - get_or lengths j 0 → q ≡ get_or lengths j 0 - get_or lengths o 0
            → Levelled P lengths x S''.increases i
        sides_levelled em eq =
            record {
              by_lengths = λ d known lifted.
                  sides_lifted d lifted (em ∙ rw (e, f, known.right (left N i) (omega (arith, below_left)), known.right (right N i) (omega (arith, below_right))))
                  (eq ∙ rw (e, f, known.right (left N i) (omega (arith, below_left)), known.right (right N i) (omega (arith, below_right))));
            }

-- once all nodes are raised, so is the whole
module _ {P : Plan} {S S' : State} (able : Raisable P S) (same : length S'.increases ≡ length S.increases) where
  pub all_raised : (d : ℕ → ℕ) → Standing P S' (node_count P.nodes) → Lifted P d S'.increases (node_count P.nodes) → Raised P d S'
  all_raised d standing lifted =
      let n = P.gate_count in
      let t = part P.nodes (root P) in
      let in_nodes : root P < node_count P.nodes = omega (arith, able.some_node) in
      let long : length {A = ℕ} (replicate n 0) ≡ n = length-replicate n 0 in
      let y = raise_list d P.heads t (replicate n 0) in
      let same_reads : read t S'.increases ≡ read t y =
      lifted.raised (root P) in_nodes in_nodes (omega (arith, standing.above (root P) in_nodes))
      ∙ sym (read_raise P.heads d t (replicate n 0) (able.sound.shaped.once (root P) in_nodes)
      (λ g l. omega (arith, able.sound.below (root P) in_nodes g l)) (read_zeros n t)) in
      record {
        increases = ext_get_or 0 S'.increases y (same ∙ able.one_each ∙ sym (length_raised P.heads d t n))
            (λ g l. same_read t y S'.increases same_reads g (able.whole g (omega (arith, able.one_each))));
        lent = standing.lent;
        fresh = standing.fresh;
        local = standing.local;
      }
