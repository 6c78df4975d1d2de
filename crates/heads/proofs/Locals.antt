-- Where the heads of all nodes up to i are right by those just below them, and the gates' heads are right, the head stored for node i is that of its part; and no gain is too great. By strong induction on the node.
-- Assumes nothing.
use mathlib.Core.Path.{◌≡◌, ◌∙◌, ap}
use mathlib.Core.List.{List}
use Prim.Native.Nat.{ℕ, zero, suc, ◌+◌, ◌-◌, ◌*◌, ◌≤◌, ◌<◌}
use native.Mathlib.Omega.{arith}
use lib.ListN.{get_or}
use Rattle.parts.specs.Nodes.{Nodes}
use Rattle.optimum.specs.Tree.{Below, size}
use Rattle.optimum.specs.Head.{Head, Item, item, best_of, beside}
use Rattle.optimum.specs.Handout.{head}
use Rattle.optimum.specs.Increases.{read}
use Rattle.optimum.proofs.Order.{by_turn, by_sides}
use Rattle.optimum.proofs.Count.{is_self}
use Rattle.heads.specs.Plan.{node_count, part, kind, left, gate, right, Shaped, most_gates, most_gain}
use Rattle.heads.specs.Stored.{Stored, Local, head_at, made}
use Rattle.heads.proofs.Trees.{by_kind, part_wire, part_series, part_parallel}

-- what is stored for node k, by its kind
module _ (N : Nodes) (G H : Stored) (k : ℕ) (at : Local N G H k) where
  pub stored_wire : kind N k ≡ 0 → head_at H k ≡ record { width = 0; gain = 0; rank = 0 }
  stored_wire e = at.is ∙ ap (λ (t : ℕ). made t (head_at H (left N k)) (head_at G (gate N k)) (head_at H (right N k))) e

  pub stored_series : kind N k ≡ 1 → head_at H k ≡ best_of (head_at H (left N k)) (head_at G (gate N k)) (head_at H (right N k))
  stored_series e = at.is ∙ ap (λ (t : ℕ). made t (head_at H (left N k)) (head_at G (gate N k)) (head_at H (right N k))) e

  pub stored_parallel : 1 < kind N k → head_at H k ≡ beside (head_at H (left N k)) (head_at H (right N k))
  stored_parallel p =
      let e : kind N k ≡ suc (suc (kind N k - 2)) = omega arith in
      at.is ∙ ap (λ (t : ℕ). made t (head_at H (left N k)) (head_at G (gate N k)) (head_at H (right N k))) e

gain_of : {a b : Head} → a ≡ b → a.gain ≡ b.gain
gain_of e = ap (λ (r : Head). r.gain) e

best_at_most : (a b c : Head) (m : ℕ) → a.gain ≤ m → b.gain ≤ m → c.gain ≤ m → (best_of a b c).gain ≤ m
best_at_most a b c m la lb lc =
    by_turn a b c (λ (i : Item). (item i a b c).gain ≤ m) (λ ab ac. la) (λ ba bc. lb) (λ ca cb. lc)

beside_at_most : (a b : Head) → (beside a b).gain ≤ a.gain + b.gain
beside_at_most a b =
    by_sides a b (λ (r : Head). r.gain ≤ a.gain + b.gain) (λ z. omega arith) (λ p z. omega arith) (λ p q. omega arith)

-- the gate of a series node is a gate of its part
pub gate_below : (N : Nodes) (parents : List ℕ) (n k : ℕ) → Shaped N parents → k < node_count N → kind N k ≡ 1 → Below n (part N k) → gate N k < n
gate_below N parents n k shaped l e below =
    let p = part_series N k (shaped.left_below k l (omega arith)) (shaped.right_below k l (omega arith)) e in
    below (gate N k) (rw p (omega (arith, is_self (gate N k))))

module _ (N : Nodes) (parents : List ℕ) (G H : Stored) (shaped : Shaped N parents) where
  module _ (h : ℕ → ℕ → Head) (x : List ℕ) (gates : (k : ℕ) → k < node_count N → kind N k ≡ 1 → head_at G (gate N k) ≡ h (gate N k) (get_or x (gate N k) 0)) where
    right_within : (m i : ℕ) → i < m → i < node_count N → ((k : ℕ) → k ≤ i → Local N G H k) → head_at H i ≡ head h (part N i) (read (part N i) x)
    right_within zero i l node local = absurd (omega arith)
    right_within (suc m) i l node local =
        by_kind (kind N i)
        (λ e. rw (part_wire N i e) (stored_wire N G H i (local i (omega arith)) e))
        (λ e.
        let p = shaped.left_below i node (omega arith) in
        let q = shaped.right_below i node (omega arith) in
        rw (part_series N i p q e) (stored_series N G H i (local i (omega arith)) e
        ∙ rw (
          right_within m (left N i) (omega arith) (omega arith) (λ k u. local k (omega arith)),
          gates i node e,
          right_within m (right N i) (omega arith) (omega arith) (λ k u. local k (omega arith)),
        )))
        (λ e.
        let p = shaped.left_below i node (omega arith) in
        let q = shaped.right_below i node (omega arith) in
        rw (part_parallel N i p q e) (stored_parallel N G H i (local i (omega arith)) e
        ∙ rw (
          right_within m (left N i) (omega arith) (omega arith) (λ k u. local k (omega arith)),
          right_within m (right N i) (omega arith) (omega arith) (λ k u. local k (omega arith)),
        )))

    pub right_head : (i : ℕ) → i < node_count N → ((k : ℕ) → k ≤ i → Local N G H k) → head_at H i ≡ head h (part N i) (read (part N i) x)
    right_head i = right_within (suc i) i (omega arith)

  module _ (gains : (k : ℕ) → k < node_count N → kind N k ≡ 1 → (head_at G (gate N k)).gain ≤ most_gain) where
    gain_within : (m i : ℕ) → i < m → i < node_count N → ((k : ℕ) → k ≤ i → Local N G H k) → (head_at H i).gain ≤ size (part N i) * most_gain
    gain_within zero i l node local = absurd (omega arith)
    gain_within (suc m) i l node local =
        by_kind (kind N i)
        (λ e. omega (arith, gain_of (stored_wire N G H i (local i (omega arith)) e)))
        (λ e.
        let p = shaped.left_below i node (omega arith) in
        let q = shaped.right_below i node (omega arith) in
        let a = gain_within m (left N i) (omega arith) (omega arith) (λ k u. local k (omega arith)) in
        let b = gain_within m (right N i) (omega arith) (omega arith) (λ k u. local k (omega arith)) in
        let s = gain_of (stored_series N G H i (local i (omega arith)) e) in
        rw (part_series N i p q e)
        (rw s (best_at_most (head_at H (left N i)) (head_at G (gate N i)) (head_at H (right N i)) _ (omega arith) (omega (arith, gains i node e)) (omega arith))))
        (λ e.
        let p = shaped.left_below i node (omega arith) in
        let q = shaped.right_below i node (omega arith) in
        let a = gain_within m (left N i) (omega arith) (omega arith) (λ k u. local k (omega arith)) in
        let b = gain_within m (right N i) (omega arith) (omega arith) (λ k u. local k (omega arith)) in
        rw (part_parallel N i p q e)
        (omega (arith, gain_of (stored_parallel N G H i (local i (omega arith)) e), beside_at_most (head_at H (left N i)) (head_at H (right N i)))))

    -- a stored gain is no more than its gates' together can be
    pub gain_bounded : (i : ℕ) → i < node_count N → ((k : ℕ) → k ≤ i → Local N G H k) → (head_at H i).gain ≤ most_gates * most_gain
    gain_bounded i l local = omega (arith, gain_within (suc i) i (omega arith) l local, shaped.few i l)
