-- The head of a node, read off the stored heads just below it: what a function that reads them needs, and what it finds, by the node's kind.
-- Assumes nothing.
use mathlib.Core.Path.{◌≡◌, sym, ◌∙◌, ap}
use mathlib.Core.Logic.{◌≢◌}
use mathlib.Core.List.{List}
use Prim.Native.Nat.{ℕ, suc, ◌+◌, ◌-◌, ◌^◌, ◌<◌}
use native.Mathlib.Omega.{arith}
use Rattle.parts.specs.Nodes.{Nodes}
use Rattle.optimum.specs.Head.{Head, no_head, best_of, beside}
use Rattle.heads.specs.Plan.{node_count, kind, left, gate, right, Shaped}
use Rattle.heads.specs.Stored.{Stored, Room, Made, Local, Lent, head_at, put, made, head_below}
use Rattle.heads.proofs.Locals.{gain_bounded}

module _ {N : Nodes} {G H : Stored} {k : ℕ} (m : Made N G H k) where
  pub left_at : {l : ℕ} → l ≡ left N k → kind N k ≢ 0 → Room H l
  left_at e d = rw e (m.left_room (omega arith))

  pub gate_at : {g : ℕ} → g ≡ gate N k → kind N k ≡ 1 → Room G g
  gate_at e s = rw e (m.gate_room s)

  pub right_at : {r : ℕ} → r ≡ right N k → kind N k ≢ 0 → Room H r
  right_at e d = rw e (m.right_room (omega arith))

  pub wire_made : kind N k ≡ 0 → no_head ≡ head_below N G H k
  wire_made e = rw e

  pub series_made : {l g r : ℕ} {a b c u : Head} → kind N k ≡ 1 → l ≡ left N k → g ≡ gate N k → r ≡ right N k
      → a ≡ head_at H l → b ≡ head_at G g → c ≡ head_at H r → u ≡ best_of a b c → u ≡ head_below N G H k
  series_made s el eg er ea eb ec e = e ∙ rw (ea, eb, ec, el, eg, er, s)

  module _ {l r : ℕ} {a c : Head} (not_wire : kind N k ≢ 0) (not_series : kind N k ≢ 1) (el : l ≡ left N k) (er : r ≡ right N k) (ea : a ≡ head_at H l) (ec : c ≡ head_at H r) where
    pub sum_made : a.gain + c.gain < 2 ^ 56
    sum_made = rw (ea, ec, el, er) (m.sum_fits (omega arith))

    pub parallel_made : {u : Head} → u ≡ beside a c → u ≡ head_below N G H k
    parallel_made e =
        let s : kind N k ≡ suc (suc (kind N k - 2)) = omega arith in
        e ∙ rw (ea, ec, el, er)
        (sym (ap (λ (t : ℕ). made t (head_at H (left N k)) (head_at G (gate N k)) (head_at H (right N k))) s))

  -- what is found is stored
  pub renewed : {a : Head} {H' : Stored} → H' ≡ put H k a → a ≡ head_below N G H k → H' ≡ put H k (head_below N G H k)
  renewed e f = e ∙ ap (put H k) f

-- where the heads below node k are right, they can be read and their sum fits
pub can_make : (N : Nodes) (parents : List ℕ) (G H : Stored) (k : ℕ) → Shaped N parents → Lent N G H → k < node_count N
    → ((j : ℕ) → j < k → Local N G H j) → Made N G H k
can_make N parents G H k shaped lent l local =
    record {
      node = l;
      few = shaped.few_nodes;
      room = lent.room k l;
      left_room = λ p. let b = shaped.left_below k l p in lent.room (left N k) (omega arith);
      gate_room = lent.gate_room k l;
      right_room = λ p. let b = shaped.right_below k l p in lent.room (right N k) (omega arith);
      sum_fits = λ p.
          let a = shaped.left_below k l (omega arith) in
          let b = shaped.right_below k l (omega arith) in
          omega (
            arith,
            gain_bounded N parents G H shaped lent.gate_gain (left N k) (omega arith) (λ j u. local j (omega arith)),
            gain_bounded N parents G H shaped lent.gate_gain (right N k) (omega arith) (λ j u. local j (omega arith)),
          );
    }
