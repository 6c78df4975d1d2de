-- Ties as values. A tick of gain a at gate g is worth a·M − B^rank(g), for a base B above the number of gates and M = B^n, and nothing where a is 0. On the heads of parts that share no gate, the order of these values is the order of (gain, rank): the cost of a head, its powers of B together, is at least B to the head's rank and less than B to one more.
-- So what heads hand out is handed out by these values. Assumes nothing.
use mathlib.Core.Path.{◌≡◌, refl}
use mathlib.Core.Logic.{◌⊎◌, inl, inr, ◌≢◌}
use Prim.Native.Nat.{ℕ, suc, ◌+◌, ◌*◌, ◌-◌, ◌^◌, ◌≤◌, ◌<◌, max}
use native.Mathlib.Nat.{add-mul, suc-mul, zero-mul, pow-succ', one-le-pow, pow-le-pow_right, mul-le-mul_left, mul-le-mul_right, le_refl, le_trans, le-max_left, le-max_right, max-eq_left, max-eq_right, mul-lt-mul_of_pos_right, eq-zero-or-pos, zero-sub}
use native.Mathlib.Decide.{dec_le}
use native.Mathlib.Omega.{arith}
use Rattle.optimum.specs.Tree.{wire, series, parallel, Tree, count, Once, Below, size, St, next}
use Rattle.optimum.specs.Head.{Head, Heads, rank, Item, item, beside, best_of}
use Rattle.optimum.specs.Handout.{head}
use Rattle.optimum.proofs.Count.{is_self}
use Rattle.optimum.proofs.Order.{Ahead, Leads, ahead_leads, by_turn, both, by_sides}

-- the value of tick k of gate g, among n gates
abbrev pub value : ℕ → ℕ → (ℕ → ℕ → Head) → ℕ → ℕ → ℕ
value B n h g k = (h g k).gain * B ^ n - B ^ rank n g

-- What the next tick is worth, v, beside its head: the gain's worth less a cost between powers of B.
record Valued (B n : ℕ) (a : Head) (v size : ℕ) : Type 0 where
  cost : ℕ
  total : v + cost ≡ a.gain * B ^ n
  most : cost ≤ size * B ^ a.rank
  least : 0 < a.gain → B ^ a.rank ≤ cost

-- the greater of two powers
pow_max : (B r q x y : ℕ) → B ^ r ≤ x → B ^ q ≤ y → B ^ max r q ≤ x + y
pow_max B r q x y hx hy = go (dec_le r q)
  where
    go : Dec (r ≤ q) → B ^ max r q ≤ x + y
    go (yes l) = rw (max-eq_right l) (omega arith)
    go (no l) =
        let m : q ≤ r = omega arith in
        rw (max-eq_left m) (omega arith)

module _ (B n : ℕ) (positive : 0 < B) where
  same_valued : (a : Head) (v v' z z' : ℕ) → v ≡ v' → z ≤ z' → Valued B n a v z → Valued B n a v' z'
  same_valued a v v' z z' e l h =
      record {
        cost = h.cost;
        total = rw (← e) h.total;
        most = le_trans h.most (mul-le-mul_right (B ^ a.rank) l);
        least = h.least;
      }

  worth_nothing : (a : Head) (v z : ℕ) → Valued B n a v z → a.gain ≡ 0 → v ≡ 0
  worth_nothing a v z h e = omega (arith, simp (e, zero-mul) at h.total)

  -- fewer than B gates of rank r or less cost less than one of rank r + 1
  cost_below : (z r c : ℕ) → z < B → c ≤ z * B ^ r → c < B ^ suc r
  cost_below z r c l h =
      rw (pow-succ' B r) (omega (arith, mul-lt-mul_of_pos_right l (one-le-pow r B positive)))

  -- a head's cost is less than the worth of one gain
  cost_small : (a : Head) (v z : ℕ) → z < B → a.rank < n → (h : Valued B n a v z) → h.cost < B ^ n
  cost_small a v z l r h =
      le_trans (cost_below z a.rank h.cost l h.most) (pow-le-pow_right positive r)

  worth_something : (a : Head) (v z : ℕ) → z < B → a.rank < n → Valued B n a v z → 0 < a.gain → 0 < v
  worth_something a v z l r h pos =
      omega (arith, h.total, cost_small a v z l r h, mul-le-mul_right (B ^ n) pos)

  ordered : (a b : Head) (v u z y : ℕ) → Valued B n a v z → Valued B n b u y → z < B → (0 < a.gain → a.rank < n)
      → (0 < a.gain → 0 < b.gain → a.rank ≢ b.rank) → Leads a b → u ≤ v
  ordered a b v u z y ha hb l r apart (inl g) =
      omega (
        arith,
        ha.total,
        hb.total,
        cost_small a v z l (r (omega arith)) ha,
        simp suc-mul at (mul-le-mul_right (B ^ n) g),
      )
  ordered a b v u z y ha hb l r apart (inr (e, k)) = go (eq-zero-or-pos b.gain)
    where
      go : (b.gain ≡ 0) ⊎ (0 < b.gain) → u ≤ v
      go (inl none) = omega (arith, worth_nothing b u y hb none)
      go (inr pos) =
          let pos' : 0 < a.gain = omega arith in
          let other = apart pos' pos in
          let next_rank : suc a.rank ≤ b.rank = omega arith in
          omega (
            arith,
            rw e at ha.total,
            hb.total,
            cost_below z a.rank ha.cost l ha.most,
            pow-le-pow_right positive next_rank,
            hb.least pos,
          )

  -- side by side
  valued_beside : (a b : Head) (v u z y : ℕ) → Valued B n a v z → Valued B n b u y → Valued B n (beside a b) (v + u) (z + y)
  valued_beside a b v u z y ha hb =
      by_sides a b
      (λ (r : Head). Valued B n r (v + u) (z + y))
      (λ none. same_valued b u (v + u) y (z + y) (omega (arith, worth_nothing a v z ha none)) (omega arith) hb)
      (λ pos none. same_valued a v (v + u) z (z + y) (omega (arith, worth_nothing b u y hb none)) (omega arith) ha)
      (λ pos pos'.
      record {
        cost = ha.cost + hb.cost;
        total = simp add-mul (omega (arith, ha.total, hb.total));
        most =
            simp add-mul (omega (
              arith,
              ha.most,
              hb.most,
              mul-le-mul_left z (pow-le-pow_right positive (le-max_left a.rank b.rank)),
              mul-le-mul_left y (pow-le-pow_right positive (le-max_right a.rank b.rank)),
            ));
        least = λ p. pow_max B a.rank b.rank ha.cost hb.cost (ha.least pos) (hb.least pos');
      })

  -- An item with the gates `In`: its head, what its next tick is worth, and a gate inside that has the head's rank.
  pub record Ranked (a : Head) (v size : ℕ) (In : ℕ → Type 0) : Type 0 where
    valued : Valued B n a v size
    few : size < B
    source : 0 < a.gain → (g : ℕ) × In g × (g < n) × (a.rank ≡ rank n g)

  lift : (a : Head) (v v' z z' : ℕ) (In In' : ℕ → Type 0) → v ≡ v' → z ≤ z' → z' < B → ((g : ℕ) → In g → In' g) → Ranked a v z In → Ranked a v' z' In'
  lift a v v' z z' In In' e l few wider r =
      record {
        valued = same_valued a v v' z z' e l r.valued;
        few = few;
        source = λ pos. let s = r.source pos in (s.0, wider s.0 s.1, s.2, s.3);
      }

  rank_below : (a : Head) (v z : ℕ) (In : ℕ → Type 0) → Ranked a v z In → 0 < a.gain → a.rank < n
  rank_below a v z In r pos = let s = r.source pos in omega arith

  -- the order of heads is the order of values, where the two items share no gate
  pub heads_order_values : (a b : Head) (v u z y : ℕ) (In In' : ℕ → Type 0) → Ranked a v z In → Ranked b u y In'
      → ((g : ℕ) → In g → In' g → ⊥) → Leads a b → u ≤ v
  heads_order_values a b v u z y In In' ra rb disjoint =
      ordered a b v u z y ra.valued rb.valued ra.few (rank_below a v z In ra)
      (λ pos pos' e. apart (ra.source pos) (rb.source pos') e)
    where
      apart : (g : ℕ) × In g × (g < n) × (a.rank ≡ rank n g) → (g : ℕ) × In' g × (g < n) × (b.rank ≡ rank n g) → a.rank ≡ b.rank → ⊥
      apart (g, i, l, e) (g', i', l', e') same =
          let eq : g ≡ g' = omega arith in
          disjoint g' (rw eq at i) i'

-- A part whose gates stand once, have numbers below n and are fewer than B.
pub record Proper (B n : ℕ) (t : Tree) : Type 0 where
  pub once : Once t
  pub below : Below n t
  pub small : size t < B

module _ (B n : ℕ) where
  -- a part of a part
  within : (t u : Tree) → ((g : ℕ) → count u g ≤ count t g) → size u ≤ size t → Proper B n t → Proper B n u
  within t u fewer smaller p =
      record {
        once = λ g. omega (arith, p.once g, fewer g);
        below = λ g i. p.below g (omega (arith, fewer g));
        small = omega (arith, p.small);
      }

  pub series_left : (P : Tree) (m : ℕ) (Q : Tree) → Proper B n (series P m Q) → Proper B n P
  series_left P m Q = within (series P m Q) P (λ g. omega arith) (omega arith)

  pub series_right : (P : Tree) (m : ℕ) (Q : Tree) → Proper B n (series P m Q) → Proper B n Q
  series_right P m Q = within (series P m Q) Q (λ g. omega arith) (omega arith)

  pub parallel_left : (P Q : Tree) → Proper B n (parallel P Q) → Proper B n P
  parallel_left P Q = within (parallel P Q) P (λ g. omega arith) (omega arith)

  pub parallel_right : (P Q : Tree) → Proper B n (parallel P Q) → Proper B n Q
  parallel_right P Q = within (parallel P Q) Q (λ g. omega arith) (omega arith)

module _ (B n : ℕ) (positive : 0 < B) (h : ℕ → ℕ → Head) (heads : Heads n h) where
  valued_gate : (g k : ℕ) → g < n → Valued B n (h g k) (value B n h g k) 1
  valued_gate g k l = go (eq-zero-or-pos (h g k).gain)
    where
      go : ((h g k).gain ≡ 0) ⊎ (0 < (h g k).gain) → Valued B n (h g k) (value B n h g k) 1
      go (inl e) =
          record { cost = 0; total = rw (e, zero-mul, zero-sub) refl; most = omega arith; least = λ p. absurd (omega arith) }
      go (inr p) =
          let e = heads.ranked g k p in
          let r : rank n g ≤ n = omega arith in
          record {
            cost = B ^ rank n g;
            total = omega (arith, mul-le-mul_right (B ^ n) p, pow-le-pow_right positive r);
            most = rw e (omega arith);
            least = λ p. rw e (le_refl _);
          }

  pub ranked_gate : (g k : ℕ) → g < n → 1 < B → Ranked B n positive (h g k) (value B n h g k) 1 (λ (i : ℕ). i ≡ g)
  ranked_gate g k l few = record { valued = valued_gate g k l; few = few; source = λ pos. (g, refl, l, heads.ranked g k pos) }

  -- the values of the items of a series part are in the order of their heads
  pub record Lined (a b c : Head) (p m q : ℕ) : Type 0 where
    pub to_left : Leads a b → Leads a c → (m ≤ p) × (q ≤ p)
    pub to_gate : Ahead b a → Leads b c → (p ≤ m) × (q ≤ m)
    pub to_right : Ahead c a → Ahead c b → (p ≤ q) × (m ≤ q)

  pub lined : (P : Tree) (m : ℕ) (Q : Tree) (a b c : Head) (p g q y z : ℕ) → Once (series P m Q)
      → Ranked B n positive a p y (λ (i : ℕ). 0 < count P i) → Ranked B n positive b g 1 (λ (i : ℕ). i ≡ m)
      → Ranked B n positive c q z (λ (i : ℕ). 0 < count Q i) → Lined a b c p g q
  lined P m Q a b c p g q y z once ra rb rc =
      record {
        to_left = λ ab ac. (order a b p g y 1 _ _ ra rb pm ab, order a c p q y z _ _ ra rc pq ac);
        to_gate = λ ba bc. (
          order b a g p 1 y _ _ rb ra (λ i e l. pm i l e) (ahead_leads b a ba),
          order b c g q 1 z _ _ rb rc mq bc,
        );
        to_right = λ ca cb. (
          order c a q p z y _ _ rc ra (λ i l l'. pq i l' l) (ahead_leads c a ca),
          order c b q g z 1 _ _ rc rb (λ i l e. mq i e l) (ahead_leads c b cb),
        );
      }
    where
      order : (a b : Head) (v u z y : ℕ) (In In' : ℕ → Type 0) → Ranked B n positive a v z In → Ranked B n positive b u y In'
          → ((g : ℕ) → In g → In' g → ⊥) → Leads a b → u ≤ v
      order = heads_order_values B n positive

      pm : (i : ℕ) → 0 < count P i → i ≡ m → ⊥
      pm i l e = let l' : 0 < count P m = rw e at l in omega (arith, once m, is_self m)

      mq : (i : ℕ) → i ≡ m → 0 < count Q i → ⊥
      mq i e l = let l' : 0 < count Q m = rw e at l in omega (arith, once m, is_self m)

      pq : (i : ℕ) → 0 < count P i → 0 < count Q i → ⊥
      pq i l l' = omega (arith, once i)

  pub gate_below : (P : Tree) (m : ℕ) (Q : Tree) → Proper B n (series P m Q) → m < n
  gate_below P m Q p = p.below m (omega (arith, is_self m))

  ranked_series : (P : Tree) (m : ℕ) (Q : Tree) (a b c : Head) (p g q : ℕ) → Proper B n (series P m Q)
      → Ranked B n positive a p (size P) (λ (i : ℕ). 0 < count P i) → Ranked B n positive b g 1 (λ (i : ℕ). i ≡ m)
      → Ranked B n positive c q (size Q) (λ (i : ℕ). 0 < count Q i)
      → Ranked B n positive (best_of a b c) (max (max p g) q) (size P + 1 + size Q) (λ (i : ℕ). 0 < count (series P m Q) i)
  ranked_series P m Q a b c p g q proper ra rb rc =
      let line = lined P m Q a b c p g q (size P) (size Q) proper.once ra rb rc in
      by_turn a b c
      (λ (i : Item). Ranked B n positive (item i a b c) (max (max p g) q) (size P + 1 + size Q) (λ (i : ℕ). 0 < count (series P m Q) i))
      (λ ab ac.
      lift B n positive a p _ (size P) _ _ _ (omega (arith, line.to_left ab ac)) (omega arith) proper.small (λ i l. omega arith) ra)
      (λ ba bc.
      lift B n positive b g _ 1 _ _ _ (omega (arith, line.to_gate ba bc)) (omega arith) proper.small (λ i e. rw e (omega (arith, is_self m))) rb)
      (λ ca cb.
      lift B n positive c q _ (size Q) _ _ _ (omega (arith, line.to_right ca cb)) (omega arith) proper.small (λ i l. omega arith) rc)

  ranked_parallel : (P Q : Tree) (a b : Head) (p q : ℕ) → Proper B n (parallel P Q)
      → Ranked B n positive a p (size P) (λ (i : ℕ). 0 < count P i) → Ranked B n positive b q (size Q) (λ (i : ℕ). 0 < count Q i)
      → Ranked B n positive (beside a b) (p + q) (size P + size Q) (λ (i : ℕ). 0 < count (parallel P Q) i)
  ranked_parallel P Q a b p q proper ra rb =
      record {
        valued = valued_beside B n positive a b p q (size P) (size Q) ra.valued rb.valued;
        few = proper.small;
        source =
            by_sides a b
            (λ (r : Head). 0 < r.gain → Source r)
            (λ z pos. right_source b (rb.source pos))
            (λ pos z pos'. left_source a (ra.source pos))
            (λ pos pos' _. go (dec_le a.rank b.rank) (ra.source pos) (rb.source pos'));
      }
    where
      Source : Head → Type 0
      Source r = (g : ℕ) × (0 < count (parallel P Q) g) × (g < n) × (r.rank ≡ rank n g)

      left_source : (r : Head) → (g : ℕ) × (0 < count P g) × (g < n) × (r.rank ≡ rank n g) → Source r
      left_source r (g, i, l, e) = (g, omega arith, l, e)

      right_source : (r : Head) → (g : ℕ) × (0 < count Q g) × (g < n) × (r.rank ≡ rank n g) → Source r
      right_source r (g, i, l, e) = (g, omega arith, l, e)

      go : Dec (a.rank ≤ b.rank) → (g : ℕ) × (0 < count P g) × (g < n) × (a.rank ≡ rank n g)
          → (g : ℕ) × (0 < count Q g) × (g < n) × (b.rank ≡ rank n g) → Source (both a b)
      go (yes l) sa (g, i, k, e) = (g, omega arith, k, omega arith)
      go (no l) (g, i, k, e) sb = (g, omega arith, k, omega arith)

  pub ranked : (t : Tree) (s : St t) → Proper B n t → Ranked B n positive (head h t s) (next (value B n h) t s) (size t) (λ (g : ℕ). 0 < count t g)
  ranked (wire w) s p =
      record {
        valued = record { cost = 0; total = rw zero-mul refl; most = omega arith; least = λ p. absurd (omega arith) };
        few = p.small;
        source = λ pos. absurd (omega arith);
      }
  ranked (series P m Q) s p =
      ranked_series P m Q (head h P s.0) (h m s.1) (head h Q s.2) _ _ _ p (ranked P s.0 (series_left B n P m Q p))
      (ranked_gate m s.1 (gate_below P m Q p) (omega (arith, p.small))) (ranked Q s.2 (series_right B n P m Q p))
  ranked (parallel P Q) s p =
      ranked_parallel P Q (head h P s.0) (head h Q s.1) _ _ p (ranked P s.0 (parallel_left B n P Q p))
      (ranked Q s.1 (parallel_right B n P Q p))

  -- a part has a head exactly where its next tick is worth something
  pub no_worth : (t : Tree) (s : St t) → Proper B n t → (head h t s).gain ≡ 0 → next (value B n h) t s ≡ 0
  no_worth t s p = worth_nothing B n positive (head h t s) _ _ (ranked t s p).valued

  pub some_worth : (t : Tree) (s : St t) → Proper B n t → 0 < (head h t s).gain → 0 < next (value B n h) t s
  some_worth t s p pos =
      let r = ranked t s p in
      worth_something B n positive (head h t s) _ _ p.small (rank_below B n positive (head h t s) _ _ _ r pos) r.valued pos
