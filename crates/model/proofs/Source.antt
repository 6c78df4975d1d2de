-- Source delays are what the paths say: with gates that can be numbered along the wires, the latest time at a gate's output is attained by a path from the entry gate and exceeded by none.
-- The latest time satisfies its own equation at every gate (`source_equation`), whatever the number that counts down, so long as it is above the gate's place; the rest is by that equation.
-- Assumes nothing.
use mathlib.Core.Path.{◌≡◌, refl, sym, ◌∙◌, ap, subst}
use mathlib.Core.Logic.{◌≢◌, ◌⊎◌, inl, inr, ⊎_elim}
use mathlib.Core.Bool.{false}
use mathlib.Core.List.Memᴰ
use mathlib.Core.List.{List, [], ◌∷◌}
use Prim.Native.Nat.{ℕ, zero, suc, ◌+◌, ◌≤◌, ◌<◌, max}
use native.Mathlib.Nat.{not-suc-le-zero, le_refl}
use native.Mathlib.Decide.{ℕ_discrete}
use native.Mathlib.Omega.{arith}
use lib.Dec.{eqb}
use borrow.Author.Tests.{eqb-true, eq-eqb}
use Rattle.lists.proofs.Bool.{cases}
use Rattle.lists.proofs.Compare.{le_or_lt}
use Rattle.model.specs.Block.{Wire, Stands}
use Rattle.model.specs.Path.{Path, stay, go}
use Rattle.model.specs.Slack.{latest_in, source_by}

-- a path, and then a wire to one gate more
pub path_then : {ws : List Wire} {d : ℕ → ℕ} {a b c w t : ℕ} → Path ws d a b t → Stands ws b c w → Path ws d a c (t + w + d c)
path_then {d = d} {c = c} {w = w} (stay {a = a}) on = go on stay
path_then {d = d} {c = e} {w = w} (go {a = a} {w = v} {t = t} first rest) on =
    let same : d a + v + (t + w + d e) ≡ d a + v + t + w + d e = omega arith in
    rw same at (go first (path_then rest on))

-- A numbering of the gates below n that grows along every wire.
pub record Along (ws : List Wire) (n : ℕ) : Type 0 where
  pub place : ℕ → ℕ
  pub below : (g : ℕ) → g < n → place g < n
  pub grows : (a b w : ℕ) → Stands ws a b w → place a < place b
  pub in_range : (a b w : ℕ) → Stands ws a b w → (a < n) × (b < n)

-- what `latest_in` says of one wire and the rest
latest_match : (w : Wire) (ws : List Wire) (time : ℕ → ℕ) (base g : ℕ) → w.target ≡ g
    → latest_in (w ∷ ws) time base g ≡ max (time w.source + w.delay) (latest_in ws time base g)
unfolding latest_in
latest_match w ws time base g e = rw (eq-eqb w.target g e)

latest_other : (w : Wire) (ws : List Wire) (time : ℕ → ℕ) (base g : ℕ) → eqb w.target g ≡ false
    → latest_in (w ∷ ws) time base g ≡ latest_in ws time base g
unfolding latest_in
latest_other w ws time base g e = rw e

pub latest_base : (ws : List Wire) (time : ℕ → ℕ) (base g : ℕ) → base ≤ latest_in ws time base g
unfolding latest_in
latest_base [] time base g = le_refl base
latest_base (w ∷ ws) time base g =
    cases (eqb w.target g)
    (λ e. rw e (omega (arith, latest_base ws time base g)))
    (λ e. rw e (latest_base ws time base g))

-- one wire more makes it no earlier
latest_grows : (w : Wire) (ws : List Wire) (time : ℕ → ℕ) (base g : ℕ) → latest_in ws time base g ≤ latest_in (w ∷ ws) time base g
latest_grows w ws time base g =
    cases (eqb w.target g)
    (λ e. omega (arith, latest_match w ws time base g (eqb-true w.target g e)))
    (λ e. omega (arith, latest_other w ws time base g e))

-- a wire that stands in front
latest_front : (v : Wire) (ws : List Wire) (time : ℕ → ℕ) (base a g w : ℕ)
    → record { source = a; target = g; delay = w } ≡ v
    → time a + w ≤ latest_in (v ∷ ws) time base g
latest_front v ws time base a g w e =
    let is = latest_match v ws time base g (ap (λ (u : Wire). u.target) (sym e)) in
    let s : time v.source ≡ time a = ap (λ (u : Wire). time u.source) (sym e) in
    let q : v.delay ≡ w = ap (λ (u : Wire). u.delay) (sym e) in
    omega arith

pub latest_bounds : (ws : List Wire) (time : ℕ → ℕ) (base a g w : ℕ) → Stands ws a g w → time a + w ≤ latest_in ws time base g
latest_bounds [] time base a g w on = absurd (Memᴰ.not-nil on)
latest_bounds (v ∷ ws) time base a g w on =
    ⊎_elim (latest_front v ws time base a g w)
    (λ (m : Stands ws a g w). omega (arith, latest_bounds ws time base a g w m, latest_grows v ws time base g))
    (Memᴰ.cases_cons on)

stands_front : (v : Wire) (ws : List Wire) (g : ℕ) → v.target ≡ g → Stands (v ∷ ws) v.source g v.delay
stands_front v ws g e = Memᴰ.head (λ i. record { source = v.source; target = sym e i; delay = v.delay })

-- only the times of the wires' sources matter
pub latest_same : (ws : List Wire) (time other : ℕ → ℕ) (base g : ℕ)
    → ((a w : ℕ) → Stands ws a g w → time a ≡ other a)
    → latest_in ws time base g ≡ latest_in ws other base g
unfolding latest_in
latest_same [] time other base g e = refl
latest_same (v ∷ ws) time other base g e =
    let rest = latest_same ws time other base g (λ (a w : ℕ) (m : Stands ws a g w). e a w (Memᴰ.tail m)) in
    cases (eqb v.target g)
    (λ t. rw (t, rest, e v.source v.delay (stands_front v ws g (eqb-true v.target g t))))
    (λ t. rw (t, rest))

-- T is the base, or the time that some wire into gate g brings
pub data Came (ws : List Wire) (time : ℕ → ℕ) (base g T : ℕ) : Type 0 where
  at_base : T ≡ base → Came ws time base g T
  by_wire : (a w : ℕ) → Stands ws a g w → T ≡ time a + w → Came ws time base g T

later : {ws : List Wire} {time : ℕ → ℕ} {base g T : ℕ} (v : Wire) → Came ws time base g T → Came (v ∷ ws) time base g T
later v (at_base e) = at_base e
later v (by_wire a w on e) = by_wire a w (Memᴰ.tail on) e

came_by_the_later : {ws : List Wire} {time : ℕ → ℕ} {base g T : ℕ} (v : Wire) → v.target ≡ g → Came ws time base g T → Came (v ∷ ws) time base g (max (time v.source + v.delay) T)
came_by_the_later {ws} {time} {base} {g} {T} v here c = pick (le_or_lt (time v.source + v.delay) T)
  where
    pick : (time v.source + v.delay ≤ T) ⊎ (T < time v.source + v.delay) → Came (v ∷ ws) time base g (max (time v.source + v.delay) T)
    pick (inl h) = let m : max (time v.source + v.delay) T ≡ T = omega arith in rw m (later v c)
    pick (inr h) = by_wire v.source v.delay (stands_front v ws g here) (omega arith)

pub latest_attained : (ws : List Wire) (time : ℕ → ℕ) (base g : ℕ) → Came ws time base g (latest_in ws time base g)
latest_attained [] time base g = unfold latest_in in at_base refl
latest_attained (v ∷ ws) time base g =
    cases (eqb v.target g)
    (λ t.
    let here = eqb-true v.target g t in
    rw (latest_match v ws time base g here) (came_by_the_later v here (latest_attained ws time base g)))
    (λ t. rw (latest_other v ws time base g t) (later v (latest_attained ws time base g)))

-- every gate below n but gate e has a wire in
abbrev pub Entered : List Wire → ℕ → ℕ → Type 0
Entered ws n e = (g : ℕ) → g < n → g ≢ e → (a : ℕ) × (w : ℕ) × Stands ws a g w

module _ (ws : List Wire) (d : ℕ → ℕ) (base n : ℕ) (order : Along ws n) where
  -- any two counts above a gate's place give the same time
  pub same_count : (f k g : ℕ) → order.place g < f → order.place g < k → source_by f ws d base g ≡ source_by k ws d base g
  unfolding source_by
  same_count zero k g h l = absurd (not-suc-le-zero h)
  same_count (suc f) zero g h l = absurd (not-suc-le-zero l)
  same_count (suc f) (suc k) g h l =
      ap (λ (t : ℕ). t + d g)
      (latest_same ws (source_by f ws d base) (source_by k ws d base) base g
      (λ (a w : ℕ) (on : Stands ws a g w).
      let up = order.grows a g w on in
      same_count f k a (omega arith) (omega arith)))

  abbrev pub source : ℕ → ℕ
  source = source_by n ws d base

  -- the latest time at a gate's output is that at its inputs and its own delay
  pub source_equation : (g : ℕ) → g < n → source g ≡ latest_in ws source base g + d g
  source_equation g h =
      same_count n (suc n) g (order.below g h) (omega (arith, order.below g h))
      ∙ (unfold source_by in refl)

  -- signals start no earlier than the base
  pub source_base : (g : ℕ) → g < n → base + d g ≤ source g
  source_base g h = omega (arith, source_equation g h, latest_base ws source base g)

  -- a path takes a time from its first gate's output to its last gate's
  pub source_passes : {a g t : ℕ} → a < n → Path ws d a g t → source a + t ≤ source g + d a
  source_passes {a = a} h stay = le_refl (source a + d a)
  source_passes h (go {a = a} {c = c} {w = w} on rest) =
      let inside = (order.in_range a c w on).1 in
      omega (arith, source_passes inside rest, source_equation c inside, latest_bounds ws source base a c w on)

  -- no path exceeds it
  pub source_greatest : {a g t : ℕ} → a < n → Path ws d a g t → base + t ≤ source g
  source_greatest {a = a} h p = omega (arith, source_passes h p, source_base a h)

  -- some path from gate e lasts as long
  abbrev pub Attained : ℕ → ℕ → Type 0
  Attained e g = (t : ℕ) × Path ws d e g t × (source g ≡ base + t)

  by_a_wire : {e a g w : ℕ} → g < n → Stands ws a g w → latest_in ws source base g ≡ source a + w → Attained e a → Attained e g
  by_a_wire {g = g} {w = w} h on is r =
      (r.0 + w + d g, path_then r.1 on, let e = r.2 in omega (arith, source_equation g h))

  -- a wire into the gate brings nothing earlier than the base
  not_before : {a g w : ℕ} → g < n → Stands ws a g w → latest_in ws source base g ≡ base → latest_in ws source base g ≡ source a + w
  not_before {a = a} {g = g} {w = w} h on is =
      let inside = (order.in_range a g w on).0 in
      omega (arith, latest_bounds ws source base a g w on, source_base a inside)

  attained_below : (e : ℕ) → Entered ws n e → (k g : ℕ) → order.place g < k → g < n → Attained e g
  attained_below e enters zero g p h = absurd (not-suc-le-zero p)
  attained_below e enters (suc k) g p h = by (latest_attained ws source base g) (ℕ_discrete g e) (attained_below e enters k)
    where
      wire : (a w : ℕ) → Stands ws a g w → latest_in ws source base g ≡ source a + w → ((g : ℕ) → order.place g < k → g < n → Attained e g) → Attained e g
      wire a w on is below =
          by_a_wire h on is (below a (omega (arith, order.grows a g w on)) (order.in_range a g w on).0)

      by : Came ws source base g (latest_in ws source base g) → Dec (g ≡ e) → ((g : ℕ) → order.place g < k → g < n → Attained e g) → Attained e g
      by (by_wire a w on is) dec below = wire a w on is below
      by (at_base is) (yes s) below = subst (λ (x : ℕ). (t : ℕ) × Path ws d x g t × (source g ≡ base + t)) s (d g, stay, omega (arith, source_equation g h))
      by (at_base is) (no m) below =
          let in_wire = enters g h m in
          wire in_wire.0 in_wire.1 in_wire.2 (not_before h in_wire.2 is) below

  pub source_attained : (e : ℕ) → Entered ws n e → (g : ℕ) → g < n → Attained e g
  source_attained e enters g h = attained_below e enters (suc (order.place g)) g (le_refl (suc (order.place g))) h
