-- Which gates lead to which, found in place (Warshall): letting one gate through keeps every mark right and makes the square whole for the next; with all gates let through, a pair is marked exactly when the first reaches the second.
-- Assumes nothing.
use mathlib.Core.Path.{◌≡◌, sym, ◌∙◌, ap, subst}
use mathlib.Core.Logic.{◌≢◌, ◌⊎◌, inl, inr, ⊎_elim}
use mathlib.Core.List.{List}
use Prim.Native.Nat.{ℕ, suc, ◌+◌, ◌≤◌, ◌<◌}
use native.Mathlib.Nat.{not-suc-le-zero, eq-or-lt_of_le, le_of_suc-le-suc}
use native.Mathlib.Omega.{arith}
use native.Mathlib.Decide.{ℕ_discrete}
use lib.ListN.{length, get_or, set}
use lib.Seq.{get_or-set_same, get_or-set_other}
use Rattle.model.specs.Limits.{max_gates}
use Rattle.loops.specs.Square.{pair_place, Paired, PairMarks, Through, wire, via, Pair, Closing, Closed}
use Rattle.ordering.proofs.Reach.{Reach, step, on, reach_map}

module _ {E : ℕ → ℕ → Type 0} where
  pub through_more : (k : ℕ) {a b : ℕ} → Through E k a b → Through E (suc k) a b
  through_more k (wire e) = wire e
  through_more k (via e l t) = via e (omega arith) (through_more k t)

  pub through_join : {k c : ℕ} → c < k → {a b : ℕ} → Through E k a c → Through E k c b → Through E k a b
  through_join h (wire e) u = via e h u
  through_join h (via e l t) u = via e l (through_join h t u)

  -- a way through gates up to k either avoids k, or leads to k and on from it
  split_wire : (k a b c : ℕ) → E a c → (c ≡ k) ⊎ (c < k) → Through E k c b ⊎ (Through E k c k × Through E k k b)
      → Through E k a b ⊎ (Through E k a k × Through E k k b)
  split_wire k a b c e (inl i) (inl t) = inr (wire (subst (E a) i e), subst (λ (x : ℕ). Through E k x b) i t)
  split_wire k a b c e (inl i) (inr w) = inr (wire (subst (E a) i e), w.1)
  split_wire k a b c e (inr l) (inl t) = inl (via e l t)
  split_wire k a b c e (inr l) (inr w) = inr (via e l w.0, w.1)

  pub through_split : (k : ℕ) {a b : ℕ} → Through E (suc k) a b → Through E k a b ⊎ (Through E k a k × Through E k k b)
  through_split k (wire e) = inl (wire e)
  through_split k (via {a} {b} {c} e l t) = split_wire k a b c e (eq-or-lt_of_le (le_of_suc-le-suc l)) (through_split k t)

  pub through_reach : {k a b : ℕ} → Through E k a b → Reach E a b
  through_reach (wire e) = step e
  through_reach (via e l t) = on e (through_reach t)

  pub reach_through : {n : ℕ} → ((a b : ℕ) → E a b → b < n) → {a b : ℕ} → Reach E a b → Through E n a b
  reach_through h (step e) = wire e
  reach_through h (on {a} {b} {c} e r) = via e (h a c e) (reach_through h r)

-- Two pairs of gates have different places.
same_pair : (a b x y : ℕ) → b < max_gates → y < max_gates → pair_place x y ≡ pair_place a b → (x ≡ a) × (y ≡ b)
same_pair a b x y h l e = (omega arith, omega arith)

module _ (square : List ℕ) (a b : ℕ) (long : pair_place a b < length square) where
  -- the pair that is marked, and the others
  pub paired_here : Paired (set square (pair_place a b) 1) a b
  paired_here z = let e = get_or-set_same square (pair_place a b) 1 0 long in omega arith

  pub paired_other : (x y : ℕ) → pair_place x y ≢ pair_place a b → get_or (set square (pair_place a b) 1) (pair_place x y) 0 ≡ get_or square (pair_place x y) 0
  paired_other x y d = get_or-set_other square (pair_place a b) (pair_place x y) 1 0 d

  kept : (x y : ℕ) → Dec (pair_place x y ≡ pair_place a b) → Paired square x y → Paired (set square (pair_place a b) 1) x y
  kept x y (yes e) p z =
      let q = get_or-set_same square (pair_place a b) 1 0 long in
      let r : get_or (set square (pair_place a b) 1) (pair_place x y) 0 ≡ 1 = ap (λ (i : ℕ). get_or (set square (pair_place a b) 1) i 0) e ∙ q in
      omega arith
  kept x y (no d) p z = p (sym (paired_other x y d) ∙ z)

  -- a mark more takes none away
  pub paired_kept : (x y : ℕ) → Paired square x y → Paired (set square (pair_place a b) 1) x y
  paired_kept x y = kept x y (ℕ_discrete (pair_place x y) (pair_place a b))

  old : b < max_gates → (x y : ℕ) → y < max_gates → Dec (pair_place x y ≡ pair_place a b) → Paired (set square (pair_place a b) 1) x y
      → ((x ≡ a) × (y ≡ b)) ⊎ Paired square x y
  old h x y l (yes e) p = inl (same_pair a b x y h l e)
  old h x y l (no d) p = inr (λ z. p (paired_other x y d ∙ z))

  -- and adds no other
  pub paired_old : b < max_gates → (x y : ℕ) → y < max_gates → Paired (set square (pair_place a b) 1) x y → ((x ≡ a) × (y ≡ b)) ⊎ Paired square x y
  paired_old h x y l = old h x y l (ℕ_discrete (pair_place x y) (pair_place a b))

-- Gate k is let through, pair after pair. The wires are the marks of `start`.
module _ (start : List ℕ) (n : ℕ) (few : n ≤ max_gates) where
  abbrev Ways : ℕ → ℕ → ℕ → Type 0
  Ways = Through (Pair n start)

  pub none_through : Closed start n 0 start
  none_through =
      record {
        right = λ a b h l p. wire (record { first = h; second = l; mark = p });
        whole = λ a b h l t. direct t;
      }
    where
      direct : {a b : ℕ} → Ways 0 a b → Paired start a b
      direct (wire e) = e.mark
      direct (via e l t) = absurd (not-suc-le-zero l)

  module _ (k : ℕ) where
    pub gate_begins : (square : List ℕ) → Closed start n k square → Closing start n k 0 0 square
    gate_begins square C =
        record {
          right = λ x y h l p. through_more k (C.right x y h l p);
          whole = C.whole;
          rows = λ x y h. absurd (not-suc-le-zero h);
          row = λ y h. absurd (not-suc-le-zero h);
        }

    module _ (a : ℕ) (gate : a < n) where
      row_more : (square : List ℕ) → Closing start n k a 0 square → ((y : ℕ) → y < n → Ways (suc k) a y → Paired square a y) → Closing start n k (a + 1) 0 square
      row_more square C done =
          record {
            right = C.right;
            whole = C.whole;
            rows = λ x y h. upto x y (⊎_elim inl inr (eq-or-lt_of_le (omega arith)));
            row = λ y h. absurd (not-suc-le-zero h);
          }
        where
          upto : (x y : ℕ) → (x ≡ a) ⊎ (x < a) → x < n → y < n → Ways (suc k) x y → Paired square x y
          upto x y (inl e) h l t = rw e (done y l (subst (λ (z : ℕ). Ways (suc k) z y) e t))
          upto x y (inr b) h l t = C.rows x y b h l t

      -- the row is done
      pub row_ends : (square : List ℕ) → Closing start n k a n square → Closing start n k (a + 1) 0 square
      row_ends square C =
          row_more square
          (record { right = C.right; whole = C.whole; rows = C.rows; row = λ y h. absurd (not-suc-le-zero h) })
          (λ y l t. C.row y l l t)

      -- a gate that does not lead to k leads nowhere through it
      pub row_passed : (square : List ℕ) → Closing start n k a 0 square → k < n → get_or square (pair_place a k) 0 ≡ 0 → Closing start n k (a + 1) 0 square
      row_passed square C kn z = row_more square C (λ y l t. from y l (through_split k t))
        where
          from : (y : ℕ) → y < n → Ways k a y ⊎ (Ways k a k × Ways k k y) → Paired square a y
          from y l (inl t) = C.whole a y gate l t
          from y l (inr w) = absurd (C.whole a k gate kn w.0 z)

      module _ (b : ℕ) (second : b < n) where
        module _ (square : List ℕ) (C : Closing start n k a b square) where
          done_here : (y : ℕ) → (y ≡ b) ⊎ (y < b) → y < n → (Ways (suc k) a b → Paired square a b) → Ways (suc k) a y → Paired square a y
          done_here y (inl e) l here t = rw e (here (subst (Ways (suc k) a) e t))
          done_here y (inr h) l here t = C.row y h l t

          pub pair_more : (Ways (suc k) a b → Paired square a b) → Closing start n k a (b + 1) square
          pair_more here =
              record {
                right = C.right;
                whole = C.whole;
                rows = C.rows;
                row = λ y h l t. done_here y (eq-or-lt_of_le (omega arith)) l here t;
              }

          pub pair_passed : k < n → get_or square (pair_place k b) 0 ≡ 0 → Closing start n k a (b + 1) square
          pair_passed kn z = pair_more (λ t. from (through_split k t))
            where
              from : Ways k a b ⊎ (Ways k a k × Ways k k b) → Paired square a b
              from (inl t) = C.whole a b gate second t
              from (inr w) = absurd (C.whole k b kn second w.1 z)

          -- a mark more, where a leads to k and k to b
          marked : pair_place a b < length square → Ways (suc k) a b → Closing start n k a b (set square (pair_place a b) 1)
          marked long here =
              record {
                right = λ x y h l p. new x y h l (paired_old square a b long (omega arith) x y (omega arith) p);
                whole = λ x y h l t. paired_kept square a b long x y (C.whole x y h l t);
                rows = λ x y q h l t. paired_kept square a b long x y (C.rows x y q h l t);
                row = λ y q l t. paired_kept square a b long a y (C.row y q l t);
              }
            where
              new : (x y : ℕ) → x < n → y < n → ((x ≡ a) × (y ≡ b)) ⊎ Paired square x y → Ways (suc k) x y
              new x y h l (inl e) = rw (e.0, e.1) here
              new x y h l (inr p) = C.right x y h l p

        pub pair_joined : (square : List ℕ) → Closing start n k a b square → k < n → pair_place a b < length square → Ways (suc k) a k → Paired square k b
            → Closing start n k a (b + 1) (set square (pair_place a b) 1)
        pair_joined square C kn long ak p =
            let ways = through_join {k = suc k} {c = k} (omega arith) ak (C.right k b kn second p) in
            pair_more (set square (pair_place a b) 1) (marked square C long ways) (λ t. paired_here square a b long)

-- With every gate let through, the marks tell which gates reach which.
module _ (E : ℕ → ℕ → Type 0) (n : ℕ) (joins_gates : (a b : ℕ) → E a b → (a < n) × (b < n)) (start : List ℕ) (M : PairMarks E n start) where
  pub marked_reaches : (square : List ℕ) → Closed start n n square → (a b : ℕ) → a < n → b < n → Paired square a b → Reach E a b
  marked_reaches square C a b h l p =
      reach_map (λ x y e. M.right x y e.first e.second e.mark) (through_reach (C.right a b h l p))

  pub reaching_marked : (square : List ℕ) → Closed start n n square → (a b : ℕ) → a < n → b < n → Reach E a b → Paired square a b
  reaching_marked square C a b h l r = C.whole a b h l (reach_through (λ x y e. e.second) (reach_map pair r))
    where
      pair : (x y : ℕ) → E x y → Pair n start x y
      pair x y e = let j = joins_gates x y e in record { first = j.0; second = j.1; mark = M.whole x y j.0 j.1 e }
