-- What the arrays hold: when gate m goes, the changes in the arrays are a step of the slots that they hold (`joined_step`, `taken_up_step`), and the arrays stay well formed. Assumes nothing.
use mathlib.Core.Path.{◌≡◌, refl, sym, ◌∙◌, ap, ap₂, subst, subst₂}
use mathlib.Core.Logic.{◌≢◌, ◌⊎◌, inr}
use mathlib.Core.Bool.{true, false≢true}
use mathlib.Core.List.{List}
use Prim.Native.Nat.{ℕ, ◌+◌, ◌≤◌, ◌<◌}
use native.Mathlib.Decide.{ℕ_discrete, dec_lt}
use native.Mathlib.Omega.{arith}
use borrow.Author.Tests.{lt-ltb, le-ltb, eqb-true, eq-eqb}
use lib.Dec.{eqb}
use lib.ListN.{length, get_or, set, length-set}
use lib.Seq.{get_or-set_same, get_or-set_other}
use Rattle.model.specs.Block.{Wire}
use Rattle.model.specs.Part.{Shape, series}
use Rattle.parts.specs.Slots.{slot, empty, Live, Between, Step, alone, onto, Straight}
use Rattle.parts.specs.Nodes.{Tree, chain, beside, Nodes, node_tree, shape_of, Weighed, tree_of}
use Rattle.parts.proofs.Nodes.{tree_at, SameNode, grown}
use Rattle.parts.proofs.Reduce.{straight_ends}
use Rattle.slots.specs.Sought.{Leads}
use Rattle.reduction.specs.Arrays.{Arrays, held_at, held, Formed, Room, Chosen, add_node, add_series, joined, taken_up}

-- One node more.
module _ (N : Nodes) (c x l g r : ℕ) where
  add_node_same : (k : ℕ) → k < c → SameNode N (add_node c x l g r N) k
  add_node_same k h =
      let n : k ≢ c = omega arith in
      record {
        kind = get_or-set_other N.kinds c k x 0 n;
        left = get_or-set_other N.lefts c k l 0 n;
        gate = get_or-set_other N.gates c k g 0 n;
        right = get_or-set_other N.rights c k r 0 n;
      }

  add_node_old : (i : ℕ) → i < c → tree_of (add_node c x l g r N) i ≡ tree_of N i
  add_node_old = grown N (add_node c x l g r N) c add_node_same

  module _ (kinds : c < length N.kinds) (lefts : c < length N.lefts) (gates : c < length N.gates) (rights : c < length N.rights) (lower_left : l < c) (lower_right : r < c) where
    left_at : get_or (set N.lefts c l) c 0 ≡ l
    left_at = get_or-set_same N.lefts c l 0 lefts

    right_at : get_or (set N.rights c r) c 0 ≡ r
    right_at = get_or-set_same N.rights c r 0 rights

    add_node_new : tree_of (add_node c x l g r N) c ≡ node_tree x (tree_of N l) g (tree_of N r)
    add_node_new =
        tree_at (add_node c x l g r N) c (subst (λ z. z < c) (sym left_at) lower_left) (subst (λ z. z < c) (sym right_at) lower_right)
        ∙ rw (get_or-set_same N.kinds c x 0 kinds, left_at, get_or-set_same N.gates c g 0 gates, right_at, add_node_old l lower_left, add_node_old r lower_right)

    add_node_children :
        ((j : ℕ) → j < c → (get_or N.kinds j 0 ≡ 0) ⊎ ((get_or N.lefts j 0 < j) × (get_or N.rights j 0 < j)))
        → (j : ℕ)
        → j < c + 1
        → (get_or (set N.kinds c x) j 0 ≡ 0) ⊎ ((get_or (set N.lefts c l) j 0 < j) × (get_or (set N.rights c r) j 0 < j))
    add_node_children h j b = go (ℕ_discrete j c)
      where
        go : Dec (j ≡ c) → (get_or (set N.kinds c x) j 0 ≡ 0) ⊎ ((get_or (set N.lefts c l) j 0 < j) × (get_or (set N.rights c r) j 0 < j))
        go (yes e) = inr (rw (e, left_at) lower_left, rw (e, right_at) lower_right)
        go (no n) = let s = add_node_same j (omega arith) in rw (s.kind, s.left, s.right) (h j (omega arith))

-- The slots held.
pub held_in : (k : ℕ) (A : Arrays) (i : ℕ) → i < k → held k A i ≡ held_at true A i
unfolding held
held_in k A i h = ap (λ b. held_at b A i) (lt-ltb i k h)

pub held_out : (k : ℕ) (A : Arrays) (i : ℕ) → k ≤ i → held k A i ≡ empty
unfolding held
held_out k A i h = ap (λ b. held_at b A i) (le-ltb i k h)

pub held_live : (k : ℕ) (A : Arrays) (i : ℕ) → Live (held k A i) → (i < k) × (get_or A.lives i 0 ≡ 1)
held_live k A i l = go (dec_lt i k)
  where
    go : Dec (i < k) → (i < k) × (get_or A.lives i 0 ≡ 1)
    go (yes h) = (h, eqb-true (get_or A.lives i 0) 1 (ap (λ s. s.live) (sym (held_in k A i h)) ∙ l))
    go (no n) = absurd (false≢true (ap (λ s. s.live) (sym (held_out k A i (omega arith))) ∙ l))

-- a live slot held
pub held_slot : (k : ℕ) (A : Arrays) {i a b : ℕ} {P : Shape} → i < k → get_or A.lives i 0 ≡ 1 → get_or A.froms i 0 ≡ a → get_or A.tos i 0 ≡ b → shape_of (tree_of A.tree (get_or A.tops i 0)) ≡ P → held k A i ≡ slot a P b
held_slot k A {i} h l f t s = held_in k A i h ∙ (λ z. record { live = eq-eqb (get_or A.lives i 0) 1 l z; source = f z; target = t z; shape = s z })

pub held_alive : (k : ℕ) (A : Arrays) (i : ℕ) → i < k → get_or A.lives i 0 ≡ 1 → Live (held k A i)
held_alive k A i h l = ap (λ s. s.live) (held_slot k A h l refl refl refl)

-- a dead slot held
held_dead : (k : ℕ) (A : Arrays) (i : ℕ) → (get_or A.lives i 0 ≡ 1 → ⊥) → ¬ (Live (held k A i))
held_dead k A i n l = n (held_live k A i l).1

-- a slot that is the same in both
held_kept :
    (k : ℕ) (A B : Arrays) (i : ℕ)
    → (i < k
    → (get_or B.lives i 0 ≡ get_or A.lives i 0)
    × (get_or B.froms i 0 ≡ get_or A.froms i 0)
    × (get_or B.tos i 0 ≡ get_or A.tos i 0)
    × (tree_of B.tree (get_or B.tops i 0) ≡ tree_of A.tree (get_or A.tops i 0)))
    → held k B i ≡ held k A i
held_kept k A B i same = go (dec_lt i k)
  where
    go : Dec (i < k) → held k B i ≡ held k A i
    go (yes h) =
        held_in k B i h
        ∙ (λ z. record { live = eqb ((same h).0 z) 1; source = (same h).1 z; target = (same h).2 z; shape = shape_of ((same h).3 z) })
        ∙ sym (held_in k A i h)
    go (no n) = held_out k B i (omega arith) ∙ sym (held_out k A i (omega arith))

-- a flag put to 0
pub cleared_dead : (xs : List ℕ) (j : ℕ) → j < length xs → get_or (set xs j 0) j 0 ≡ 1 → ⊥
cleared_dead xs j h e = let f : ◌≡◌ {A = ℕ} 0 1 = sym (get_or-set_same xs j 0 0 h) ∙ e in omega arith

-- a flag that is 1 after another was put to 0 was 1 before
pub cleared_was : (xs : List ℕ) (j q : ℕ) → j < length xs → get_or (set xs j 0) q 0 ≡ 1 → (q ≢ j) × (get_or xs q 0 ≡ 1)
cleared_was xs j q h e = go (ℕ_discrete q j)
  where
    go : Dec (q ≡ j) → (q ≢ j) × (get_or xs q 0 ≡ 1)
    go (yes f) = absurd (cleared_dead xs j h (subst (λ z. get_or (set xs j 0) z 0 ≡ 1) f e))
    go (no n) = (n, sym (get_or-set_other xs j q 0 0 n) ∙ e)

pub held_ends : (k : ℕ) (A : Arrays) (i : ℕ) → i < k → ((held k A i).source ≡ get_or A.froms i 0) × ((held k A i).target ≡ get_or A.tos i 0)
held_ends k A i h = (ap (λ s. s.source) (held_in k A i h), ap (λ s. s.target) (held_in k A i h))

-- A gate with one slot in and one slot out, in arrays that have room for more nodes.
module _ {ws : List Wire} {k c : ℕ} {A : Arrays} {m i j : ℕ} (ch : Chosen k A m i j) (st : Straight (held k A)) (fm : Formed ws k c A) where
  P : Tree
  P = tree_of A.tree (get_or A.tops i 0)

  Q : Tree
  Q = tree_of A.tree (get_or A.tops j 0)

  between : Between (held k A) m i j (get_or A.froms i 0) (get_or A.tos j 0) (shape_of P) (shape_of Q)
  unfolding P Q
  between =
      record {
        into = held_slot k A ch.in_slot ch.in_live refl ch.in_to refl;
        out = held_slot k A ch.out_slot ch.out_live ch.out_from refl refl;
        only_in = λ q l e. let (h, v) = held_live k A q l in ch.in_only q h v (sym (held_ends k A q h).1 ∙ e);
        only_out = λ q l e. let (h, v) = held_live k A q l in ch.out_only q h v (sym (held_ends k A q h).0 ∙ e);
      }

  pub i_off_j : i ≢ j
  i_off_j e = straight_ends (held k A) i st between.into (ap (λ s. s.source) (sym between.into ∙ ap (held k A) e ∙ between.out))

  tops_i : get_or A.tops i 0 < c
  tops_i = fm.tops_below i ch.in_slot

  tops_j : get_or A.tops j 0 < c
  tops_j = fm.tops_below j ch.out_slot

  weighed_chain : Weighed ws (get_or A.froms i 0) (get_or A.tos j 0) (chain P m Q)
  unfolding Weighed P Q
  weighed_chain = (
    subst (λ z. Weighed ws (get_or A.froms i 0) z P) ch.in_to (fm.weighed i ch.in_slot ch.in_live),
    subst (λ z. Weighed ws z (get_or A.tos j 0) Q) ch.out_from (fm.weighed j ch.out_slot ch.out_live),
  )

  module _ (rm : Room k (c + 1) A) where
    series_new : tree_of (add_series c m i j A) c ≡ chain P m Q
    unfolding P Q
    series_new =
        add_node_new A.tree c 1 (get_or A.tops i 0) m (get_or A.tops j 0) (omega (arith, rm.kind_room)) (omega (arith, rm.left_room)) (omega (arith, rm.gate_room))
        (omega (arith, rm.right_room)) tops_i tops_j

    series_old : (q : ℕ) → q < k → tree_of (add_series c m i j A) (get_or A.tops q 0) ≡ tree_of A.tree (get_or A.tops q 0)
    series_old q h = add_node_old A.tree c 1 (get_or A.tops i 0) m (get_or A.tops j 0) (get_or A.tops q 0) (fm.tops_below q h)

    tops_set : (q v : ℕ) → q < k → get_or (set A.tops q v) q 0 ≡ v
    tops_set q v h = get_or-set_same A.tops q v 0 (omega (arith, rm.top_room))

    joined_shape : shape_of (tree_of (add_series c m i j A) (get_or (set A.tops i c) i 0)) ≡ series (shape_of P) m (shape_of Q)
    unfolding shape_of
    joined_shape = ap (λ z. shape_of (tree_of (add_series c m i j A) z)) (tops_set i c ch.in_slot) ∙ ap shape_of series_new

    -- Where no slot leads from a to b, slots i and j become one.
    pub joined_step : ((q : ℕ) → q < k → ¬ (Leads A.lives A.froms A.tos (get_or A.froms i 0) (get_or A.tos j 0) q)) → Step (held k A) m (held k (joined c m i j A))
    unfolding joined
    joined_step none =
        alone between
        (λ q l e f. let (h, v) = held_live k A q l in none q h (record { live = v; from = sym (held_ends k A q h).0 ∙ e; to = sym (held_ends k A q h).1 ∙ f }))
        (record {
          joined =
              held_slot k (joined c m i j A) ch.in_slot (get_or-set_other A.lives j i 0 0 i_off_j ∙ ch.in_live) refl
              (get_or-set_same A.tos i (get_or A.tos j 0) 0 (omega (arith, rm.to_room, ch.in_slot)))
              joined_shape;
          gone = held_dead k (joined c m i j A) j (cleared_dead A.lives j (omega (arith, rm.live_room, ch.out_slot)));
          kept =
              λ q n o.
              held_kept k A (joined c m i j A) q
              (λ h. (get_or-set_other A.lives j q 0 0 o, refl, get_or-set_other A.tos i q (get_or A.tos j 0) 0 n, ap (tree_of (add_series c m i j A)) (get_or-set_other A.tops i q c 0 n) ∙ series_old q h));
        })

    series_children :
        (q : ℕ)
        → q < c + 1
        → (get_or (add_series c m i j A).kinds q 0 ≡ 0) ⊎ ((get_or (add_series c m i j A).lefts q 0 < q) × (get_or (add_series c m i j A).rights q 0 < q))
    series_children =
        add_node_children A.tree c 1 (get_or A.tops i 0) m (get_or A.tops j 0) (omega (arith, rm.kind_room)) (omega (arith, rm.left_room)) (omega (arith, rm.gate_room))
        (omega (arith, rm.right_room)) tops_i tops_j fm.children

    pub joined_formed : Formed ws k (c + 1) (joined c m i j A)
    unfolding joined P Q
    joined_formed =
        record {
          tops_below = λ q h. tops q h (ℕ_discrete q i);
          children = series_children;
          weighed = λ q h l. let (n, v) = cleared_was A.lives j q (omega (arith, rm.live_room, ch.out_slot)) l in weighed q h v (ℕ_discrete q i);
        }
      where
        tops : (q : ℕ) → q < k → Dec (q ≡ i) → get_or (set A.tops i c) q 0 < c + 1
        tops q h (yes e) = let f : get_or (set A.tops i c) q 0 ≡ c = ap (λ z. get_or (set A.tops i c) z 0) e ∙ tops_set i c ch.in_slot in omega arith
        tops q h (no n) = let f : get_or (set A.tops i c) q 0 ≡ get_or A.tops q 0 = get_or-set_other A.tops i q c 0 n in omega (arith, fm.tops_below q h)

        weighed_i : Weighed ws (get_or A.froms i 0) (get_or (set A.tos i (get_or A.tos j 0)) i 0) (tree_of (add_series c m i j A) (get_or (set A.tops i c) i 0))
        weighed_i =
            subst₂ (Weighed ws (get_or A.froms i 0)) (sym (get_or-set_same A.tos i (get_or A.tos j 0) 0 (omega (arith, rm.to_room, ch.in_slot))))
            (sym (ap (tree_of (add_series c m i j A)) (tops_set i c ch.in_slot) ∙ series_new)) weighed_chain

        weighed : (q : ℕ) → q < k → get_or A.lives q 0 ≡ 1 → Dec (q ≡ i) → Weighed ws (get_or A.froms q 0) (get_or (set A.tos i (get_or A.tos j 0)) q 0) (tree_of (add_series c m i j A) (get_or (set A.tops i c) q 0))
        weighed q h v (yes e) = subst (λ z. Weighed ws (get_or A.froms z 0) (get_or (set A.tos i (get_or A.tos j 0)) z 0) (tree_of (add_series c m i j A) (get_or (set A.tops i c) z 0))) (sym e) weighed_i
        weighed q h v (no n) =
            subst₂ (Weighed ws (get_or A.froms q 0)) (sym (get_or-set_other A.tos i q (get_or A.tos j 0) 0 n)) (sym (ap (tree_of (add_series c m i j A)) (get_or-set_other A.tops i q c 0 n) ∙ series_old q h))
            (fm.weighed q h v)

-- The same where a slot l leads from a to b already.
module _ {ws : List Wire} {k c : ℕ} {A : Arrays} {m i j l : ℕ} (ch : Chosen k A m i j) (st : Straight (held k A)) (fm : Formed ws k c A) (rm : Room k (c + 2) A) (inside : l < k) (ld : Leads A.lives A.froms A.tos (get_or A.froms i 0) (get_or A.tos j 0) l) where
  fewer : Room k (c + 1) A
  fewer =
      record {
        live_room = rm.live_room;
        from_room = rm.from_room;
        to_room = rm.to_room;
        top_room = rm.top_room;
        kind_room = omega (arith, rm.kind_room);
        left_room = omega (arith, rm.left_room);
        gate_room = omega (arith, rm.gate_room);
        right_room = omega (arith, rm.right_room);
      }

  O : Tree
  O = tree_of A.tree (get_or A.tops l 0)

  there : held k A l ≡ slot (get_or A.froms i 0) (shape_of O) (get_or A.tos j 0)
  unfolding O
  there = held_slot k A inside ld.live ld.from ld.to refl

  l_off_i : l ≢ i
  l_off_i e = straight_ends (held k A) j st (between ch st fm).out (ap (λ s. s.target) (sym (between ch st fm).into ∙ ap (held k A) (sym e) ∙ there))

  l_off_j : l ≢ j
  l_off_j e = straight_ends (held k A) i st (between ch st fm).into (ap (λ s. s.source) (sym there ∙ ap (held k A) e ∙ (between ch st fm).out))

  -- the two nodes added
  both : Nodes
  both = add_node (c + 1) 2 (get_or A.tops l 0) 0 c (add_series c m i j A)

  tops_l : get_or A.tops l 0 < c
  tops_l = fm.tops_below l inside

  parallel_new : tree_of both (c + 1) ≡ beside O (chain (P ch st fm) m (Q ch st fm))
  unfolding both O
  parallel_new =
      add_node_new (add_series c m i j A) (c + 1) 2 (get_or A.tops l 0) 0 c (rw length-set (omega (arith, rm.kind_room))) (rw length-set (omega (arith, rm.left_room))) (rw length-set (omega (arith, rm.gate_room)))
      (rw length-set (omega (arith, rm.right_room))) (omega (arith, tops_l)) (omega arith)
      ∙ ap₂ beside (series_old ch st fm fewer l inside) (series_new ch st fm fewer)

  parallel_old : (q : ℕ) → q < k → tree_of both (get_or A.tops q 0) ≡ tree_of A.tree (get_or A.tops q 0)
  unfolding both
  parallel_old q h = add_node_old (add_series c m i j A) (c + 1) 2 (get_or A.tops l 0) 0 c (get_or A.tops q 0) (omega (arith, fm.tops_below q h)) ∙ series_old ch st fm fewer q h

  lives_off : (q : ℕ) → q ≢ i → q ≢ j → get_or (set (set A.lives i 0) j 0) q 0 ≡ get_or A.lives q 0
  lives_off q n o = get_or-set_other (set A.lives i 0) j q 0 0 o ∙ get_or-set_other A.lives i q 0 0 n

  top_l : get_or (set A.tops l (c + 1)) l 0 ≡ c + 1
  top_l = get_or-set_same A.tops l (c + 1) 0 (omega (arith, rm.top_room))

  pub taken_up_step : Step (held k A) m (held k (taken_up c m i j l A))
  unfolding taken_up both shape_of
  taken_up_step =
      onto {l = l} (between ch st fm) there
      (held_slot k (taken_up c m i j l A) inside (lives_off l l_off_i l_off_j ∙ ld.live) ld.from ld.to (ap (λ z. shape_of (tree_of both z)) top_l ∙ ap shape_of parallel_new))
      (held_dead k (taken_up c m i j l A) i (λ e. cleared_dead A.lives i (omega (arith, rm.live_room, ch.in_slot)) (sym (get_or-set_other (set A.lives i 0) j i 0 0 (i_off_j ch st fm)) ∙ e)))
      (held_dead k (taken_up c m i j l A) j (cleared_dead (set A.lives i 0) j (rw length-set (omega (arith, rm.live_room, ch.out_slot)))))
      (λ q n o z.
      held_kept k A (taken_up c m i j l A) q
      (λ h. (lives_off q n o, refl, refl, ap (tree_of both) (get_or-set_other A.tops l q (c + 1) 0 z) ∙ parallel_old q h)))

  weighed_both : Weighed ws (get_or A.froms l 0) (get_or A.tos l 0) (beside O (chain (P ch st fm) m (Q ch st fm)))
  unfolding Weighed O
  weighed_both = (fm.weighed l inside ld.live, subst₂ (λ x y. Weighed ws x y (chain (P ch st fm) m (Q ch st fm))) (sym ld.from) (sym ld.to) (weighed_chain ch st fm))

  pub taken_up_formed : Formed ws k (c + 2) (taken_up c m i j l A)
  unfolding taken_up both O
  taken_up_formed =
      record {
        tops_below = λ q h. tops q h (ℕ_discrete q l);
        children =
            λ q h.
            add_node_children (add_series c m i j A) (c + 1) 2 (get_or A.tops l 0) 0 c (rw length-set (omega (arith, rm.kind_room))) (rw length-set (omega (arith, rm.left_room)))
            (rw length-set (omega (arith, rm.gate_room))) (rw length-set (omega (arith, rm.right_room))) (omega (arith, tops_l)) (omega arith) (series_children ch st fm fewer) q (omega arith);
        weighed =
            λ q h e.
            let (o, u) = cleared_was (set A.lives i 0) j q (rw length-set (omega (arith, rm.live_room, ch.out_slot))) e in
            let (n, v) = cleared_was A.lives i q (omega (arith, rm.live_room, ch.in_slot)) u in
            weighed q h v (ℕ_discrete q l);
      }
    where
      tops : (q : ℕ) → q < k → Dec (q ≡ l) → get_or (set A.tops l (c + 1)) q 0 < c + 2
      tops q h (yes e) = let f : get_or (set A.tops l (c + 1)) q 0 ≡ c + 1 = ap (λ z. get_or (set A.tops l (c + 1)) z 0) e ∙ top_l in omega arith
      tops q h (no n) = let f : get_or (set A.tops l (c + 1)) q 0 ≡ get_or A.tops q 0 = get_or-set_other A.tops l q (c + 1) 0 n in omega (arith, fm.tops_below q h)

      weighed_l : Weighed ws (get_or A.froms l 0) (get_or A.tos l 0) (tree_of both (get_or (set A.tops l (c + 1)) l 0))
      weighed_l =
          subst (Weighed ws (get_or A.froms l 0) (get_or A.tos l 0)) (sym (ap (tree_of both) top_l ∙ parallel_new))
          weighed_both

      weighed : (q : ℕ) → q < k → get_or A.lives q 0 ≡ 1 → Dec (q ≡ l) → Weighed ws (get_or A.froms q 0) (get_or A.tos q 0) (tree_of both (get_or (set A.tops l (c + 1)) q 0))
      weighed q h v (yes e) = subst (λ z. Weighed ws (get_or A.froms z 0) (get_or A.tos z 0) (tree_of both (get_or (set A.tops l (c + 1)) z 0))) (sym e) weighed_l
      weighed q h v (no n) = subst (Weighed ws (get_or A.froms q 0) (get_or A.tos q 0)) (sym (ap (tree_of both) (get_or-set_other A.tops l q (c + 1) 0 n) ∙ parallel_old q h)) (fm.weighed q h v)
