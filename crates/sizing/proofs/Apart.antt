-- Parts of nodes that do not stand one below the other share no gate: a gate of a part stands at a series node from which the part's node is reached along the parents, and at no other.
-- Assumes nothing.
use mathlib.Core.Path.{◌≡◌, refl, sym, ◌∙◌}
use mathlib.Core.Logic.{◌≢◌, ◌⊎◌, inl, inr}
use mathlib.Core.List.{List}
use Prim.Native.Nat.{ℕ, zero, suc, ◌≤◌, ◌<◌}
use native.Mathlib.Nat.{eq-zero-or-pos}
use native.Mathlib.Omega.{arith}
use Rattle.parts.specs.Nodes.{Nodes}
use Rattle.optimum.specs.Tree.{count}
use Rattle.optimum.proofs.Count.{in_series, in_parallel}
use Rattle.heads.specs.Plan.{node_count, part, kind, left, gate, right, parent, Shaped}
use Rattle.heads.specs.Stored.{Up, top, over}
use Rattle.heads.proofs.Trees.{by_kind, part_wire, part_series, part_parallel}
use Rattle.heads.proofs.Climbing.{up_within}

-- a way up, one node longer
up_more : (parents : List ℕ) (i j p : ℕ) → parent parents i ≡ p → i < p → Up parents i j → Up parents p j
up_more parents i j p e l top = over i (rw e l) (rw e top)
up_more parents i j p e l (over _ m u) = over j m (up_more parents i (parent parents j) p e l u)

-- of two nodes reached from one, one is reached from the other
comparable : (parents : List ℕ) (j k m : ℕ) → Up parents j m → Up parents k m → Up parents j k ⊎ Up parents k j
comparable parents j k m top v = inr v
comparable parents j k m (over _ l u) top = inl (over m l u)
comparable parents j k m (over _ l u) (over _ _ v) = comparable parents j k (parent parents m) u v

-- a node with a parent from i on is not above another below i
not_above : (parents : List ℕ) (i j k : ℕ) → j < i → i ≤ parent parents k → j ≢ k → Up parents j k → ⊥
not_above parents i j k l a d top = d refl
not_above parents i j k l a d (over _ m u) = omega (arith, up_within parents j (parent parents k) u)

module _ (N : Nodes) (parents : List ℕ) (shaped : Shaped N parents) where
  -- the series node of gate g below node k
  pub record Holds (k g : ℕ) : Type 0 where
    pub node : ℕ
    pub in_nodes : node < node_count N
    pub is_series : kind N node ≡ 1
    pub is_gate : gate N node ≡ g
    pub up : Up parents k node

  higher : (k l g : ℕ) → parent parents l ≡ k → l < k → Holds l g → Holds k g
  higher k l g e m s =
      record { node = s.node; in_nodes = s.in_nodes; is_series = s.is_series; is_gate = s.is_gate; up = up_more parents l s.node k e m s.up }

  holds_within : (m k g : ℕ) → k < m → k < node_count N → 0 < count (part N k) g → Holds k g
  holds_within zero k g l node = absurd (omega arith)
  holds_within (suc m) k g l node =
      by_kind (kind N k)
      (λ e. rw (part_wire N k e) (λ p. absurd (omega arith)))
      (λ e.
      let a = shaped.left_below k node (omega arith) in
      let b = shaped.right_below k node (omega arith) in
      rw (part_series N k a b e) (λ p.
      in_series (part N (left N k)) (gate N k) (part N (right N k)) g (Holds k g) p
      (λ q. higher k (left N k) g (shaped.left_parent k node (omega arith)) a (holds_within m (left N k) g (omega arith) (omega arith) q))
      (λ q. record { node = k; in_nodes = node; is_series = e; is_gate = sym q; up = top })
      (λ q. higher k (right N k) g (shaped.right_parent k node (omega arith)) b (holds_within m (right N k) g (omega arith) (omega arith) q))))
      (λ e.
      let a = shaped.left_below k node (omega arith) in
      let b = shaped.right_below k node (omega arith) in
      rw (part_parallel N k a b e) (λ p.
      in_parallel (part N (left N k)) (part N (right N k)) g (Holds k g) p
      (λ q. higher k (left N k) g (shaped.left_parent k node (omega arith)) a (holds_within m (left N k) g (omega arith) (omega arith) q))
      (λ q. higher k (right N k) g (shaped.right_parent k node (omega arith)) b (holds_within m (right N k) g (omega arith) (omega arith) q))))

  holds : (k g : ℕ) → k < node_count N → 0 < count (part N k) g → Holds k g
  holds k g = holds_within (suc k) k g (omega arith)

  none : (c : ℕ) → (0 < c → ⊥) → c ≡ 0
  none c d = go (eq-zero-or-pos c)
    where
      go : (c ≡ 0) ⊎ (0 < c) → c ≡ 0
      go (inl z) = z
      go (inr p) = absurd (d p)

  -- two nodes below i whose parents are not share no gate
  pub share_none : (i j k g : ℕ) → j < i → k < i → j < node_count N → k < node_count N → i ≤ parent parents j → i ≤ parent parents k → j ≢ k
      → 0 < count (part N k) g → count (part N j) g ≡ 0
  share_none i j k g lj lk nj nk aj ak d p =
      none (count (part N j) g) (λ q.
      let a = holds j g nj q in
      let b = holds k g nk p in
      let s = shaped.own_gate a.node b.node a.in_nodes b.in_nodes a.is_series b.is_series (a.is_gate ∙ sym b.is_gate) in
      meet (comparable parents j k b.node (rw s at a.up) b.up))
    where
      meet : Up parents j k ⊎ Up parents k j → ⊥
      meet (inl u) = not_above parents i j k lj ak d u
      meet (inr u) = not_above parents i k j lk aj (λ e. d (sym e)) u

  -- the gate of a node above j is none of j's part
  pub gate_beyond : (j k : ℕ) → j < node_count N → k < node_count N → kind N k ≡ 1 → j < k → count (part N j) (gate N k) ≡ 0
  gate_beyond j k nj nk e l =
      none (count (part N j) (gate N k)) (λ q.
      let a = holds j (gate N k) nj q in
      let s = shaped.own_gate a.node k a.in_nodes nk a.is_series e a.is_gate in
      omega (arith, up_within parents j a.node a.up))
