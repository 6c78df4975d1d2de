-- What a tally tells of the slots at its gate (`tally_one`, `only_tally`), and how tallies change when two slots do (`tally_changes`, `settled_right`), a slot is counted (`tallied_more`) or the only one of a gate dies (`end_gates_less`). Assumes nothing.
use mathlib.Core.Path.{◌≡◌, refl, sym, ◌∙◌, ap, subst}
use mathlib.Core.Logic.{◌≢◌}
use mathlib.Core.Bool.{Bool, true, false, cond}
use mathlib.Core.List.{List}
use Prim.Native.Nat.{ℕ, zero, suc, ◌+◌, ◌-◌, ◌*◌, ◌≤◌, ◌<◌, min}
use native.Mathlib.Decide.{ℕ_discrete}
use native.Mathlib.Numerals.{add-one}
use native.Mathlib.Omega.{arith}
use borrow.Author.Tests.{eq-eqb, ne_eqb}
use lib.Dec.{eqb}
use lib.ListN.{length, get_or, set, length-set}
use lib.Seq.{get_or-set_same, get_or-set_other}
use Rattle.lists.specs.Sum.{sum}
use Rattle.lists.proofs.Sum.{sum_le, sum_less, sum_grows}
use Rattle.model.specs.Limits.{max_wires}
use Rattle.tallies.specs.Tallies.{share, most_share, share_at, tally, end_gates, OnlyAt, settled, kept_share, TalliedBy}
use Rattle.tallies.specs.Queue.{One}

-- Sums.
sum_none : (k : ℕ) → sum k (λ i. 0) ≡ 0
unfolding sum
sum_none zero = refl
sum_none (suc k) = rw (sum_none k)

sum_some : (k : ℕ) (f : ℕ → ℕ) → 0 < sum k f → (i : ℕ) × (i < k) × (0 < f i)
unfolding sum
sum_some zero f h = absurd (omega arith)
sum_some (suc k) f h = go (sum_some k f) (ℕ_discrete (f k) 0)
  where
    go : (0 < sum k f → (i : ℕ) × (i < k) × (0 < f i)) → Dec (f k ≡ 0) → (i : ℕ) × (i < suc k) × (0 < f i)
    go below (yes e) = let (i, l, p) = below (omega arith) in (i, omega arith, p)
    go below (no d) = (k, omega arith, omega arith)

-- f, but nothing at p
abbrev off : ℕ → (ℕ → ℕ) → ℕ → ℕ
off p f i = cond (eqb i p) 0 (f i)

off_here : (p : ℕ) (f : ℕ → ℕ) → off p f p ≡ 0
off_here p f = rw (eq-eqb p p refl) refl

off_else : (p i : ℕ) (f : ℕ → ℕ) → i ≢ p → off p f i ≡ f i
off_else p i f d = rw (ne_eqb i p d) refl

sum_off : (k p : ℕ) (f : ℕ → ℕ) → p < k → sum k f ≡ sum k (off p f) + f p
sum_off k p f h = sum_grows k (off p f) f p (f p) h (λ i l d. sym (off_else p i f d)) (let e = off_here p f in omega (arith, e))

sum_only : (k p : ℕ) (f : ℕ → ℕ) → p < k → ((q : ℕ) → q < k → q ≢ p → f q ≡ 0) → sum k f ≡ f p
sum_only k p f h none = sum_grows k (λ i. 0) f p (f p) h none (omega arith) ∙ (let e = sum_none k in omega (arith, e))

sum_two : (k p q : ℕ) (f : ℕ → ℕ) → p < k → q < k → q ≢ p → f p + f q ≤ sum k f
sum_two k p q f h l d = let x = sum_off k p f h in let y = sum_off k q (off p f) l in let z = off_else p q f d in omega (arith, x, y, z)

-- one term changed
sum_swap : (k p : ℕ) (f g : ℕ → ℕ) → p < k → ((i : ℕ) → i < k → i ≢ p → g i ≡ f i) → sum k g + f p ≡ sum k f + g p
sum_swap k p f g h same =
    let x = sum_off k p f h in
    let y = sum_grows k (off p f) g p (g p) h (λ i l d. same i l d ∙ sym (off_else p i f d)) (let e = off_here p f in omega (arith, e)) in
    omega (arith, x, y)

-- two terms changed
sum_changes : (k i j : ℕ) (f g : ℕ → ℕ) → i < k → j < k → i ≢ j → ((q : ℕ) → q < k → q ≢ i → q ≢ j → g q ≡ f q) → sum k g + (f i + f j) ≡ sum k f + (g i + g j)
sum_changes k i j f g hi hj d same =
    let x = sum_swap k i half g hi (λ q l o. sym (half_else q o)) in
    let y = sum_swap k j f half hj (λ q l o. go q l o (ℕ_discrete q i)) in
    let z = half_here in
    let w = half_else j (λ e. d (sym e)) in
    omega (arith, x, y, z, w)
  where
    half : ℕ → ℕ
    half q = cond (eqb q i) (f q) (g q)

    half_here : half i ≡ f i
    half_here = rw (eq-eqb i i refl) refl

    half_else : (q : ℕ) → q ≢ i → half q ≡ g q
    half_else q o = rw (ne_eqb q i o) refl

    go : (q : ℕ) → q < k → q ≢ j → Dec (q ≡ i) → half q ≡ f q
    go q l o (yes e) = ap half e ∙ half_here ∙ ap f (sym e)
    go q l o (no n) = half_else q n ∙ same q l n o

-- Shares.
module _ (lives ends : List ℕ) (g i : ℕ) where
  pub share_there : get_or lives i 0 ≡ 1 → get_or ends i 0 ≡ g → share_at lives ends g i ≡ share i
  share_there l e = rw (eq-eqb (get_or lives i 0) 1 l, eq-eqb (get_or ends i 0) g e) refl

  pub share_dead : (get_or lives i 0 ≡ 1 → ⊥) → share_at lives ends g i ≡ 0
  share_dead d = rw (ne_eqb (get_or lives i 0) 1 d) refl

  pub share_elsewhere : get_or ends i 0 ≢ g → share_at lives ends g i ≡ 0
  share_elsewhere d = go (ℕ_discrete (get_or lives i 0) 1)
    where
      go : Dec (get_or lives i 0 ≡ 1) → share_at lives ends g i ≡ 0
      go (yes l) = rw (eq-eqb (get_or lives i 0) 1 l, ne_eqb (get_or ends i 0) g d) refl
      go (no n) = share_dead n

  -- a slot with a share is live and ends there
  share_some : 0 < share_at lives ends g i → (get_or lives i 0 ≡ 1) × (get_or ends i 0 ≡ g)
  share_some h = go (ℕ_discrete (get_or lives i 0) 1) (ℕ_discrete (get_or ends i 0) g)
    where
      go : Dec (get_or lives i 0 ≡ 1) → Dec (get_or ends i 0 ≡ g) → (get_or lives i 0 ≡ 1) × (get_or ends i 0 ≡ g)
      go (yes l) (yes e) = (l, e)
      go (no n) e = absurd (let z = share_dead n in omega (arith, z))
      go (yes l) (no n) = absurd (let z = share_elsewhere n in omega (arith, z))

  -- no share is more than `most_share`
  share_few : i < max_wires → share_at lives ends g i ≤ most_share
  share_few h = go (ℕ_discrete (get_or lives i 0) 1) (ℕ_discrete (get_or ends i 0) g)
    where
      go : Dec (get_or lives i 0 ≡ 1) → Dec (get_or ends i 0 ≡ g) → share_at lives ends g i ≤ most_share
      go (yes l) (yes e) = let z = share_there l e in omega (arith, z)
      go (no n) e = let z = share_dead n in omega (arith, z)
      go (yes l) (no n) = let z = share_elsewhere n in omega (arith, z)

-- Tallies.
module _ (lives ends : List ℕ) where
  pub tally_none : (g : ℕ) → tally lives ends 0 g ≡ 0
  unfolding tally sum
  tally_none g = refl

  pub tally_more : (k g : ℕ) → tally lives ends (k + 1) g ≡ tally lives ends k g + share_at lives ends g k
  unfolding tally sum
  tally_more k g = rw add-one refl

  pub tally_few : (k g : ℕ) → k ≤ max_wires → tally lives ends k g ≤ k * most_share
  unfolding tally sum
  tally_few zero g h = omega arith
  tally_few (suc k) g h = omega (arith, tally_few k g (omega arith), share_few lives ends g k (omega arith))

  -- the tally of a gate holds the share of each slot at it
  pub tally_has : (k g q : ℕ) → q < k → get_or lives q 0 ≡ 1 → get_or ends q 0 ≡ g → share q ≤ tally lives ends k g
  unfolding tally
  tally_has k g q h l e = let x = sum_off k q (share_at lives ends g) h in let y = share_there lives ends g q l e in omega (arith, x, y)

  -- the tally of a gate with an only slot
  pub only_tally : {k g i : ℕ} → OnlyAt lives ends k g i → tally lives ends k g ≡ share i
  unfolding tally
  only_tally {k} {g} {i} o = sum_only k i (share_at lives ends g) o.slot (λ q h d. none q h d) ∙ share_there lives ends g i o.live o.end
    where
      none : (q : ℕ) → q < k → q ≢ i → share_at lives ends g q ≡ 0
      none q h d = go (ℕ_discrete (get_or lives q 0) 1) (ℕ_discrete (get_or ends q 0) g)
        where
          go : Dec (get_or lives q 0 ≡ 1) → Dec (get_or ends q 0 ≡ g) → share_at lives ends g q ≡ 0
          go (yes l) (yes e) = absurd (d (o.only q h l e))
          go (no n) e = share_dead lives ends g q n
          go (yes l) (no n) = share_elsewhere lives ends g q n

  -- a tally of one slot names it
  pub tally_one : (k g : ℕ) → One (tally lives ends k g) → OnlyAt lives ends k g (tally lives ends k g - max_wires)
  unfolding tally
  tally_one k g one = subst (OnlyAt lives ends k g) e found
    where
      some : (i : ℕ) × (i < k) × (0 < share_at lives ends g i)
      some = sum_some k (share_at lives ends g) (omega (arith, one.some))

      i : ℕ
      i = some.0

      at : (get_or lives i 0 ≡ 1) × (get_or ends i 0 ≡ g)
      at = share_some lives ends g some.0 some.2

      only : (q : ℕ) → q < k → get_or lives q 0 ≡ 1 → get_or ends q 0 ≡ g → Dec (q ≡ i) → q ≡ i
      only q h l f (yes z) = z
      only q h l f (no d) =
          absurd (let x = sum_two k i q (share_at lives ends g) some.1 h d in let y = share_there lives ends g i at.0 at.1 in let z = share_there lives ends g q l f in omega (arith, x, y, z, one.no_two))

      found : OnlyAt lives ends k g i
      found = record { slot = some.1; live = at.0; end = at.1; only = λ q h l f. only q h l f (ℕ_discrete q i) }

      e : i ≡ tally lives ends k g - max_wires
      e = let t = only_tally found in omega (arith, t)

  pub end_gates_few : (k n : ℕ) → end_gates lives ends k n ≤ n
  unfolding end_gates sum
  end_gates_few k zero = omega arith
  end_gates_few k (suc n) = omega (arith, end_gates_few k n)

-- Slots die, among them the only one at gate g, and none comes to life: then fewer gates have a slot.
module _ {lives ends : List ℕ} (lives' : List ℕ) {k g i : ℕ} (o : OnlyAt lives ends k g i) (dead : get_or lives' i 0 ≡ 1 → ⊥) (was : (q : ℕ) → get_or lives' q 0 ≡ 1 → get_or lives q 0 ≡ 1) where
  share_less : (v q : ℕ) → share_at lives' ends v q ≤ share_at lives ends v q
  share_less v q = go (ℕ_discrete (get_or lives' q 0) 1)
    where
      go : Dec (get_or lives' q 0 ≡ 1) → share_at lives' ends v q ≤ share_at lives ends v q
      go (yes l) = rw (eq-eqb (get_or lives' q 0) 1 l, eq-eqb (get_or lives q 0) 1 (was q l)) (omega arith)
      go (no n) = let z = share_dead lives' ends v q n in omega (arith, z)

  tally_less : (v : ℕ) → tally lives' ends k v ≤ tally lives ends k v
  unfolding tally
  tally_less v = sum_le k (share_at lives' ends v) (share_at lives ends v) (λ q h. share_less v q)

  tally_gone : tally lives' ends k g ≡ 0
  unfolding tally
  tally_gone = go (ℕ_discrete (sum k (share_at lives' ends g)) 0)
    where
      go : Dec (sum k (share_at lives' ends g) ≡ 0) → sum k (share_at lives' ends g) ≡ 0
      go (yes e) = e
      go (no n) =
          let (q, h, p) = sum_some k (share_at lives' ends g) (omega arith) in
          let (l, e) = share_some lives' ends g q p in
          absurd (dead (subst (λ z. get_or lives' z 0 ≡ 1) (o.only q h (was q l) e) l))

  pub end_gates_less : {n : ℕ} → g < n → end_gates lives' ends k n < end_gates lives ends k n
  unfolding end_gates
  end_gates_less {n} h =
      sum_less n (λ v. min 1 (tally lives' ends k v)) (λ v. min 1 (tally lives ends k v)) g h
      (λ v l. let x = tally_less v in omega (arith, x))
      (let x = tally_gone in let y = only_tally lives ends o in omega (arith, x, y))

-- two slots changed
pub tally_changes :
    (lives ends lives' ends' : List ℕ) (k g i j : ℕ)
    → i < k
    → j < k
    → i ≢ j
    → ((q : ℕ) → q < k → q ≢ i → q ≢ j → (get_or lives' q 0 ≡ get_or lives q 0) × (get_or ends' q 0 ≡ get_or ends q 0))
    → tally lives' ends' k g + (share_at lives ends g i + share_at lives ends g j) ≡ tally lives ends k g + (share_at lives' ends' g i + share_at lives' ends' g j)
unfolding tally
tally_changes lives ends lives' ends' k g i j hi hj d same =
    sum_changes k i j (share_at lives ends g) (share_at lives' ends' g) hi hj d (λ q h a b. let (x, y) = same q h a b in rw (x, y) refl)

-- How tallies change when gate m goes and gate v loses `less` and wins `more`.
pub record Shifts (old new : ℕ → ℕ) (m v less more : ℕ) : Type 0 where
  pub none : new m ≡ 0
  pub here : new v + less ≡ old v + more
  pub same : (g : ℕ) → g ≢ m → g ≢ v → new g ≡ old g

pub settled_gone : (m v less more : ℕ) (t : List ℕ) → m < length t → get_or (settled m v less more t) m 0 ≡ 0
unfolding settled
settled_gone m v less more t h = get_or-set_same (set t v (get_or t v 0 + more - less)) m 0 0 (rw length-set h)

settled_here : (m v less more : ℕ) (t : List ℕ) → v < length t → v ≢ m → get_or (settled m v less more t) v 0 ≡ get_or t v 0 + more - less
unfolding settled
settled_here m v less more t h d = get_or-set_other (set t v (get_or t v 0 + more - less)) m v 0 0 d ∙ get_or-set_same t v (get_or t v 0 + more - less) 0 h

pub settled_else : (m v less more g : ℕ) (t : List ℕ) → g ≢ m → g ≢ v → get_or (settled m v less more t) g 0 ≡ get_or t g 0
unfolding settled
settled_else m v less more g t d e = get_or-set_other (set t v (get_or t v 0 + more - less)) m g 0 0 d ∙ get_or-set_other t v g (get_or t v 0 + more - less) 0 e

pub settled_right :
    {old new : ℕ → ℕ} {n m v less more : ℕ} (t : List ℕ)
    → n ≤ length t
    → m < n
    → v < n
    → v ≢ m
    → ((g : ℕ) → g < n → get_or t g 0 ≡ old g)
    → Shifts old new m v less more
    → (g : ℕ)
    → g < n
    → get_or (settled m v less more t) g 0 ≡ new g
settled_right {old} {new} {n} {m} {v} {less} {more} t long hm hv d right s g h = go (ℕ_discrete g m) (ℕ_discrete g v)
  where
    go : Dec (g ≡ m) → Dec (g ≡ v) → get_or (settled m v less more t) g 0 ≡ new g
    go (yes e) f = rw e (settled_gone m v less more t (omega arith) ∙ sym s.none)
    go (no n) (yes f) = rw f (settled_here m v less more t (omega arith) d ∙ (let x = right v hv in let y = s.here in omega (arith, x, y)))
    go (no n) (no o) = settled_else m v less more g t n o ∙ right g h ∙ sym (s.same g n o)

-- what a slot that lives on counts at its new end; what one that is taken up does
pub kept_lives : (c r i : ℕ) → r ≡ c + 1 → share i ≡ kept_share c r i
kept_lives c r i e = rw (eq-eqb r (c + 1) e) refl

pub kept_none : (c r i : ℕ) → (r ≡ c + 1 → ⊥) → 0 ≡ kept_share c r i
kept_none c r i d = rw (ne_eqb r (c + 1) d) refl

pub kept_few : (c r i : ℕ) → i < max_wires → kept_share c r i ≤ most_share
kept_few c r i h = go (eqb r (c + 1))
  where
    go : (b : Bool) → cond b (share i) 0 ≤ most_share
    go true = omega arith
    go false = omega arith

-- one slot more counted: no tally rises by more than `most_share`
pub few_more : (tallies : List ℕ) (n i end : ℕ) → i < max_wires → end < n → n ≤ length tallies → ((g : ℕ) → g < n → get_or tallies g 0 ≤ i * most_share)
    → (g : ℕ) → g < n → get_or (set tallies end (get_or tallies end 0 + share i)) g 0 ≤ (i + 1) * most_share
few_more tallies n i end few below long all g h = go (ℕ_discrete g end)
  where
    go : Dec (g ≡ end) → get_or (set tallies end (get_or tallies end 0 + share i)) g 0 ≤ (i + 1) * most_share
    go (yes e) = let x = get_or-set_same tallies end (get_or tallies end 0 + share i) 0 (omega arith) in let y = all end below in rw e (omega (arith, x, y))
    go (no d) = let x = get_or-set_other tallies end g (get_or tallies end 0 + share i) 0 d in let y = all g h in omega (arith, x, y)

-- One slot more in the tallies.
pub tallied_more :
    (lives ends tallies : List ℕ) (n i : ℕ) → TalliedBy lives ends n i tallies → get_or lives i 0 ≡ 1 → get_or ends i 0 < length tallies
    → TalliedBy lives ends n (i + 1) (set tallies (get_or ends i 0) (get_or tallies (get_or ends i 0) 0 + share i))
tallied_more lives ends tallies n i t l inside g h = go (ℕ_discrete g end) ∙ sym (tally_more lives ends i g)
  where
    end : ℕ
    end = get_or ends i 0

    go : Dec (g ≡ end) → get_or (set tallies end (get_or tallies end 0 + share i)) g 0 ≡ tally lives ends i g + share_at lives ends g i
    go (yes e) =
        ap (λ z. get_or (set tallies end (get_or tallies end 0 + share i)) z 0) e ∙ get_or-set_same tallies end (get_or tallies end 0 + share i) 0 inside
        ∙ (let x : get_or tallies end 0 ≡ tally lives ends i g = ap (λ z. get_or tallies z 0) (sym e) ∙ t g h in let y = share_there lives ends g i l (sym e) in omega (arith, x, y))
    go (no d) =
        get_or-set_other tallies end g (get_or tallies end 0 + share i) 0 d
        ∙ (let x = t g h in let y = share_elsewhere lives ends g i (λ e. d (sym e)) in omega (arith, x, y))
