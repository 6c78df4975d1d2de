-- A head written at a place: it stands there, and the others stand as before. Where the heads at and just below a node are as before, the node's head is right as before.
-- Assumes nothing.
use mathlib.Core.Path.{◌≡◌, refl, sym, ◌∙◌, ap}
use mathlib.Core.Logic.{◌≢◌}
use mathlib.Core.List.{List}
use Prim.Native.Nat.{ℕ, zero, suc, ◌<◌}
use native.Mathlib.Omega.{arith}
use lib.ListN.{length-set}
use lib.Seq.{get_or-set_same, get_or-set_other}
use Rattle.parts.specs.Nodes.{Nodes}
use Rattle.optimum.specs.Head.{Head, Item, item}
use Rattle.optimum.proofs.Order.{by_turn, by_sides}
use Rattle.ties.specs.Code.{ranks, key_of}
use Rattle.ties.proofs.Keys.{head_back, rank_below}
use Rattle.heads.specs.Plan.{node_count, kind, left, gate, right, parent, Shaped}
use Rattle.heads.specs.Stored.{Stored, Room, Local, Keeps, Lent, head_at, put, made, head_below}

pub at_put : (H : Stored) (i : ℕ) (a : Head) → a.rank < ranks → Room H i → head_at (put H i a) i ≡ a
at_put H i a l r =
    rw (get_or-set_same H.widths i a.width 0 r.in_widths, get_or-set_same H.keys i (key_of a) 0 r.in_keys) (head_back a l)

pub beside_put : (H : Stored) (i k : ℕ) (a : Head) → k ≢ i → head_at (put H i a) k ≡ head_at H k
beside_put H i k a d =
    rw (get_or-set_other H.widths i k a.width 0 d, get_or-set_other H.keys i k (key_of a) 0 d)

pub room_put : (H : Stored) (i k : ℕ) (a : Head) → Room H k → Room (put H i a) k
room_put H i k a r =
    record {
      in_widths = omega (arith, r.in_widths, length-set H.widths i a.width);
      in_keys = omega (arith, r.in_keys, length-set H.keys i (key_of a));
    }

-- what is made of heads whose ranks fit a key has a rank that fits a key
made_low : (t : ℕ) (a b c : Head) → a.rank < ranks → b.rank < ranks → c.rank < ranks → (made t a b c).rank < ranks
made_low zero a b c la lb lc = omega arith
made_low (suc zero) a b c la lb lc =
    by_turn a b c (λ (i : Item). (item i a b c).rank < ranks) (λ ab ac. la) (λ ba bc. lb) (λ ca cb. lc)
made_low (suc (suc t)) a b c la lb lc =
    by_sides a c (λ (r : Head). r.rank < ranks) (λ z. lc) (λ p z. la) (λ p q. omega arith)

-- so the head that stored heads make can be stored
below_low : (N : Nodes) (G H : Stored) (k : ℕ) → (head_below N G H k).rank < ranks
below_low N G H k = made_low (kind N k) _ _ _ (rank_below _) (rank_below _) (rank_below _)

-- what is made of equal heads is equal; a wire looks at none, a parallel node not at the gate's
same_made : (t : ℕ) (a b c a' b' c' : Head) → (0 < t → a' ≡ a) → (t ≡ 1 → b' ≡ b) → (0 < t → c' ≡ c) → made t a' b' c' ≡ made t a b c
same_made zero a b c a' b' c' ea eb ec = refl
same_made (suc zero) a b c a' b' c' ea eb ec = rw (ea (omega arith), eb refl, ec (omega arith))
same_made (suc (suc t)) a b c a' b' c' ea eb ec = rw (ea (omega arith), ec (omega arith))

pub local_same : (N : Nodes) (G H G' H' : Stored) (k : ℕ)
    → head_at H' k ≡ head_at H k
    → (0 < kind N k → head_at H' (left N k) ≡ head_at H (left N k))
    → (kind N k ≡ 1 → head_at G' (gate N k) ≡ head_at G (gate N k))
    → (0 < kind N k → head_at H' (right N k) ≡ head_at H (right N k))
    → Local N G H k
    → Local N G' H' k
local_same N G H G' H' k e l g r at = record { is = e ∙ at.is ∙ sym (same_made (kind N k) _ _ _ _ _ _ l g r) }

module _ (N : Nodes) (parents : List ℕ) (shaped : Shaped N parents) where
  -- a renewed head is right
  pub local_renewed : (G H : Stored) (i : ℕ) → i < node_count N → Room H i → Local N G (put H i (head_below N G H i)) i
  local_renewed G H i l r =
      record {
        is = at_put H i _ (below_low N G H i) r
            ∙ sym (same_made (kind N i) _ _ _ _ _ _
            (λ p. beside_put H i (left N i) _ (λ e. let u = shaped.left_below i l p in omega arith))
            (λ p. refl)
            (λ p. beside_put H i (right N i) _ (λ e. let u = shaped.right_below i l p in omega arith)));
      }

  -- a head written at i disturbs node i and its parent, no other
  pub local_beside : (G H : Stored) (i k : ℕ) (a : Head) → k < node_count N → k ≢ i → k ≢ parent parents i → Local N G H k → Local N G (put H i a) k
  local_beside G H i k a l d p =
      local_same N G H G (put H i a) k (beside_put H i k a d)
      (λ q. beside_put H i (left N k) a (λ e. p (sym (shaped.left_parent k l q) ∙ ap (λ (j : ℕ). parent parents j) e)))
      (λ q. refl)
      (λ q. beside_put H i (right N k) a (λ e. p (sym (shaped.right_parent k l q) ∙ ap (λ (j : ℕ). parent parents j) e)))

  -- a gate's head disturbs the node of the gate, no other
  pub local_gate : (G H : Stored) (j k : ℕ) (a : Head) → j < node_count N → k < node_count N → kind N j ≡ 1 → k ≢ j → Local N G H k → Local N (put G (gate N j) a) H k
  local_gate G H j k a lj l s d =
      local_same N G H (put G (gate N j) a) H k refl
      (λ q. refl)
      (λ q. beside_put G (gate N j) (gate N k) a (λ e. d (shaped.own_gate k j l lj q s e)))
      (λ q. refl)

pub lent_put : (N : Nodes) (G H : Stored) (i : ℕ) (a : Head) → Lent N G H → Lent N G (put H i a)
lent_put N G H i a t =
    record {
      room = λ k l. room_put H i k a (t.room k l);
      gate_room = t.gate_room;
      gate_gain = t.gate_gain;
    }

module _ (N : Nodes) where
  pub keeps_none : (G H : Stored) (p : ℕ) → Keeps N G H G H p
  keeps_none G H p = record { still = λ k l d at. at }

  pub keeps_on : (G H G' H' G'' H'' : Stored) (p : ℕ) → Keeps N G H G' H' p → Keeps N G' H' G'' H'' p → Keeps N G H G'' H'' p
  keeps_on G H G' H' G'' H'' p a b = record { still = λ k l d at. b.still k l d (a.still k l d at) }
