-- Every order of takings and mergings ends (document 02, K1: "until neither applies"): each step leaves one wire fewer (`one_wire_fewer`; how many there are is settled, `one_number`), so that an order has no more steps than there were wires (`steps_few`, `no_endless_order`); and at every moment a step applies or it is an end, so that steps chosen in any way lead to one (`comes_to_an_end`).
-- The idea: the wires that stand at a moment are a list. A gate that goes takes its wire in and its wire out from it and adds the joined one; where the two are one wire from the gate to itself, that alone goes. Assumes nothing.
use mathlib.Core.Path.{◌≡◌, refl, sym, ◌∙◌, ap, subst}
use mathlib.Core.Logic.{◌≢◌, ◌⊎◌, inl, inr}
use mathlib.Core.Logic.Dec
use mathlib.Core.List.{List, [], ◌∷◌}
use Prim.Native.Nat.{ℕ, zero, suc, ◌+◌, ◌≤◌, ◌<◌}
use native.Mathlib.Decide.{ℕ_discrete, dec_le, dec_lt}
use native.Mathlib.Omega.{arith}
use lib.ListN.{length}
use Rattle.lists.specs.Sum.{total}
use Rattle.model.specs.Block.{Wire, Block}
use Rattle.model.specs.Remainder.{one_at, wires_between, Moment, beginning, OneOf, OneInto, OneOutOf, without, Move, take, merge, Moves, done, then, ReducedTo}
use Rattle.model.proofs.Remainder.{at_pair, off_pair, gone, kept, fewer}

-- k wires stand in all, E x y from x to y: as many between any two gates as in a list of k wires
pub record Standing (E : ℕ → ℕ → ℕ) (k : ℕ) : Type 0 where
  pub list : List Wire
  pub as_many : length list ≡ k
  pub between : (x y : ℕ) → E x y ≡ wires_between list x y

-- how many steps were made
abbrev pub steps_made : {L M : Moment} → Moves L M → ℕ
steps_made done = 0
steps_made (then moves move) = suc (steps_made moves)

-- Where the one from a to b is not.
elsewhere : (a b x y : ℕ) → (x ≡ a → y ≡ b → ⊥) → one_at a b x y ≡ 0
elsewhere a b x y other = go (off_pair a b x y)
  where
    go : ((x ≡ a) × (y ≡ b)) ⊎ (one_at a b x y ≡ 0) → one_at a b x y ≡ 0
    go (inl (e, f)) = absurd (other e f)
    go (inr none) = none

turned : (a b x y : ℕ) → one_at x y a b ≡ one_at a b x y
turned a b x y = go (off_pair a b x y)
  where
    go : ((x ≡ a) × (y ≡ b)) ⊎ (one_at a b x y ≡ 0) → one_at x y a b ≡ one_at a b x y
    go (inl (e, f)) = at_pair x y a b (sym e) (sym f) ∙ sym (at_pair a b x y e f)
    go (inr none) = elsewhere x y a b (λ e f. let one = at_pair a b x y (sym e) (sym f) in omega arith) ∙ sym none

-- The wires of a list, with the first apart.
of_none : (x y : ℕ) → wires_between [] x y ≡ 0
unfolding wires_between total
of_none x y = refl

of_first : (w : Wire) (ws : List Wire) (x y : ℕ) → wires_between (w ∷ ws) x y ≡ one_at w.source w.target x y + wires_between ws x y
unfolding wires_between total
of_first w ws x y = rw (turned w.source w.target x y)

-- A wire from a to b is one of the wires E, and the others are D.
abbrev OneBeside : ℕ → ℕ → (ℕ → ℕ → ℕ) → (ℕ → ℕ → ℕ) → Type 0
OneBeside a b D E = (x y : ℕ) → E x y ≡ one_at a b x y + D x y

-- a wire that stands can be taken out of the list
taken_out : (ws : List Wire) (a b : ℕ) → 0 < wires_between ws a b → (vs : List Wire) × (length ws ≡ suc (length vs)) × OneBeside a b (wires_between vs) (wires_between ws)
taken_out [] a b some = absurd (omega (arith, of_none a b))
taken_out (w ∷ ws) a b some = go (off_pair a b w.source w.target) (taken_out ws a b)
  where
    go : ((w.source ≡ a) × (w.target ≡ b)) ⊎ (one_at a b w.source w.target ≡ 0)
        → (0 < wires_between ws a b → (vs : List Wire) × (length ws ≡ suc (length vs)) × OneBeside a b (wires_between vs) (wires_between ws))
        → (vs : List Wire) × (suc (length ws) ≡ suc (length vs)) × OneBeside a b (wires_between vs) (wires_between (w ∷ ws))
    go (inl (e, f)) later = (ws, refl, λ x y. of_first w ws x y ∙ rw (e, f))
    go (inr none) later =
        let (vs, long, more) = later (omega (arith, of_first w ws a b, turned w.source w.target a b)) in
        (w ∷ vs, ap suc long, λ x y. omega (arith, of_first w ws x y, of_first w vs x y, more x y))

module _ {E : ℕ → ℕ → ℕ} {k : ℕ} (s : Standing E k) where
  one_out : (a b : ℕ) → 0 < E a b → (j : ℕ) × (k ≡ suc j) × (D : ℕ → ℕ → ℕ) × Standing D j × OneBeside a b D E
  one_out a b some =
      let (vs, long, more) = taken_out s.list a b (omega (arith, s.between a b)) in
      (length vs, sym s.as_many ∙ long, wires_between vs, record { list = vs; as_many = refl; between = λ x y. refl }, λ x y. s.between x y ∙ more x y)

  one_in : (a b : ℕ) {D : ℕ → ℕ → ℕ} → OneBeside a b E D → Standing D (suc k)
  one_in a b more =
      let w : Wire = record { source = a; target = b; delay = 0 } in
      record { list = w ∷ s.list; as_many = ap suc s.as_many; between = λ x y. omega (arith, of_first w s.list x y, s.between x y, more x y) }

  the_same : {D : ℕ → ℕ → ℕ} → ((x y : ℕ) → D x y ≡ E x y) → Standing D k
  the_same same = record { list = s.list; as_many = s.as_many; between = λ x y. same x y ∙ s.between x y }

-- The number of wires is settled.
pub one_number : {E : ℕ → ℕ → ℕ} {j k : ℕ} → Standing E j → Standing E k → j ≡ k
one_number s t = sym s.as_many ∙ as_long s.list t.list (λ x y. sym (s.between x y) ∙ t.between x y) ∙ t.as_many
  where
    as_long : (vs ws : List Wire) → ((x y : ℕ) → wires_between vs x y ≡ wires_between ws x y) → length vs ≡ length ws
    as_long [] [] same = refl
    as_long [] (w ∷ ws) same = absurd (omega (arith, same w.source w.target, of_none w.source w.target, of_first w ws w.source w.target, at_pair w.source w.target w.source w.target refl refl))
    as_long (v ∷ vs) ws same =
        let (us, long, more) = taken_out ws v.source v.target (omega (arith, same v.source v.target, of_first v vs v.source v.target, at_pair v.source v.target v.source v.target refl refl)) in
        ap suc (as_long vs us (λ x y. omega (arith, same x y, of_first v vs x y, more x y))) ∙ sym long

-- The wires into a gate, and out of it, where there is one.
into_it : (E : ℕ → ℕ → ℕ) (a m : ℕ) → OneInto E a m → (x : ℕ) → E x m ≡ one_at a m x m
into_it E a m o x = go (ℕ_discrete x a)
  where
    go : Dec (x ≡ a) → E x m ≡ one_at a m x m
    go (yes e) = ap (λ (z : ℕ). E z m) e ∙ o.one ∙ sym (at_pair a m x m e refl)
    go (no n) = o.no_other x n ∙ sym (elsewhere a m x m (λ e f. n e))

out_of_it : (E : ℕ → ℕ → ℕ) (m b : ℕ) → OneOutOf E m b → (y : ℕ) → E m y ≡ one_at m b m y
out_of_it E m b o y = go (ℕ_discrete y b)
  where
    go : Dec (y ≡ b) → E m y ≡ one_at m b m y
    go (yes e) = ap (E m) e ∙ o.one ∙ sym (at_pair m b m y refl e)
    go (no n) = o.no_other y n ∙ sym (elsewhere m b m y (λ e f. n f))

-- The wires D are those E without gate m, whose wires in and out are joined from a to b.
are_without : (E : ℕ → ℕ → ℕ) (m a b : ℕ) {D : ℕ → ℕ → ℕ} → ((x y : ℕ) → x ≢ m → y ≢ m → D x y ≡ E x y + one_at a b x y) → ((x : ℕ) → D x m ≡ 0) → ((y : ℕ) → D m y ≡ 0)
    → (x y : ℕ) → without m a b E x y ≡ D x y
are_without E m a b {D} of_others no_in no_out x y = go (ℕ_discrete x m) (ℕ_discrete y m)
  where
    go : Dec (x ≡ m) → Dec (y ≡ m) → without m a b E x y ≡ D x y
    go (yes e) f = gone E m a b x y (inl e) ∙ sym (rw e (no_out y))
    go (no n) (yes f) = gone E m a b x y (inr f) ∙ sym (rw f (no_in x))
    go (no n) (no l) = kept E m a b x y n l ∙ sym (of_others x y n l)

-- A gate goes that has one wire in and one out.
module _ {E : ℕ → ℕ → ℕ} {k : ℕ} (s : Standing E k) where
  -- its wire in and its wire out are one wire, from the gate to itself
  itself_gone : (m : ℕ) → OneInto E m m → OneOutOf E m m → (j : ℕ) × (k ≡ suc j) × Standing (without m m m E) j
  itself_gone m into out =
      let (j, e, D, t, more) = one_out s m m (omega (arith, into.one)) in (
        j,
        e,
        the_same t
            (are_without E m m m (λ x y n l. omega (arith, more x y, elsewhere m m x y (λ p q. n p))) (λ x. omega (arith, more x m, into_it E m m into x)) (λ y. omega (arith, more m y, out_of_it E m m out y))),
      )

  -- they are two wires, and the joined one comes
  joined : (m a b : ℕ) → a ≢ m → b ≢ m → OneInto E a m → OneOutOf E m b → (j : ℕ) × (k ≡ suc j) × Standing (without m a b E) j
  joined m a b n l into out =
      let (i, e, C, t, more) = one_out s a m (omega (arith, into.one)) in
      let (j, f, D, u, others) = one_out t m b (omega (arith, out.one, more m b, elsewhere a m m b (λ p q. n (sym p)))) in (
        suc j,
        omega arith,
        the_same (one_in u a b (λ x y. refl))
            (are_without E m a b (λ x y p q. omega (arith, more x y, others x y, elsewhere a m x y (λ v w. q w), elsewhere m b x y (λ v w. p v)))
            (λ x. omega (arith, more x m, others x m, into_it E a m into x, elsewhere a b x m (λ v w. l (sym w))))
            (λ y. omega (arith, more m y, others m y, out_of_it E m b out y, elsewhere a b m y (λ v w. n (sym v))))),
      )

  gate_gone : (m a b : ℕ) → OneInto E a m → OneOutOf E m b → (j : ℕ) × (k ≡ suc j) × Standing (without m a b E) j
  gate_gone m a b into out = go (ℕ_discrete a m) (ℕ_discrete b m)
    where
      go : Dec (a ≡ m) → Dec (b ≡ m) → (j : ℕ) × (k ≡ suc j) × Standing (without m a b E) j
      go (yes e) (yes f) = rw (e, f) (itself_gone m (rw e at into) (rw f at out))
      go (yes e) (no l) = absurd (omega (arith, rw e at into.one, out.no_other m (λ p. l (sym p))))
      go (no n) (yes f) = absurd (omega (arith, rw f at out.one, into.no_other m (λ p. n (sym p))))
      go (no n) (no l) = joined m a b n l into out

-- Each step leaves one wire fewer.
pub one_wire_fewer : {M N : Moment} {k : ℕ} → Standing M.wires k → Move M N → (j : ℕ) × (k ≡ suc j) × Standing N.wires j
one_wire_fewer s (take m a b into out) = gate_gone s m a b into out
one_wire_fewer {M} s (merge a b doubled) =
    let (j, e, D, t, more) = one_out s a b (omega arith) in
    (j, e, the_same t (λ x y. omega (arith, fewer M.wires a b x y, more x y)))

-- Each step made is one wire fewer.
wires_left : {L M : Moment} {k : ℕ} → Standing L.wires k → (moves : Moves L M) → (j : ℕ) × (steps_made moves + j ≡ k) × Standing M.wires j
wires_left {k = k} s done = (k, omega arith, s)
wires_left s (then moves move) =
    let (i, e, t) = wires_left s moves in
    let (j, f, u) = one_wire_fewer t move in
    (j, omega arith, u)

at_beginning : (B : Block) → Standing ((beginning B).wires) (length B.wires)
at_beginning B = record { list = B.wires; as_many = refl; between = λ x y. refl }

-- No order has more steps than the block has wires.
pub steps_few : (B : Block) {M : Moment} (moves : Moves (beginning B) M) → steps_made moves ≤ length B.wires
steps_few B moves = let (j, e, s) = wires_left (at_beginning B) moves in omega arith

-- .. and none is endless.
pub no_endless_order : (B : Block) (M : ℕ → Moment) → M 0 ≡ beginning B → ¬ ((i : ℕ) → Move (M i) (M (suc i)))
no_endless_order B M e on =
    let (moves, made) = so_far (suc (length B.wires)) in
    let (j, all, s) = wires_left (subst (λ (L : Moment). Standing L.wires (length B.wires)) (sym e) (at_beginning B)) moves in
    omega arith
  where
    so_far : (n : ℕ) → (moves : Moves (M 0) (M n)) × (steps_made moves ≡ n)
    so_far zero = (done, refl)
    so_far (suc n) = let (moves, made) = so_far n in (then moves (on n), ap suc made)

-- What holds of numbers below n only, and can be decided of each, holds of one or of none.
some_of : {P : ℕ → Type 0} → ((i : ℕ) → Dec (P i)) → (n : ℕ) → ((i : ℕ) → P i → i < n) → Dec ((i : ℕ) × P i)
some_of decide zero below = no (λ (i, p). let h = below i p in omega arith)
some_of {P} decide (suc n) below = go (decide n) (some_of decide n)
  where
    go : Dec (P n) → (((i : ℕ) → P i → i < n) → Dec ((i : ℕ) × P i)) → Dec ((i : ℕ) × P i)
    go (yes p) lower = yes (n, p)
    go (no q) lower = lower (λ i p. let h = below i p in let other : i ≢ n = λ e. q (subst P e p) in omega arith)

-- the only count above 0, where those from n on are 0
decide_one : (f : ℕ → ℕ) (n : ℕ) → ((x : ℕ) → 0 < f x → x < n) → (a : ℕ) → Dec (OneOf f a)
decide_one f n below a =
    go (ℕ_discrete (f a) 1) (some_of (λ x. Dec.and (Dec.not (ℕ_discrete x a)) (dec_lt 0 (f x))) n (λ x p. below x p.1))
  where
    go : Dec (f a ≡ 1) → Dec ((x : ℕ) × ((x ≢ a) × (0 < f x))) → Dec (OneOf f a)
    go (no n) d = no (λ o. n o.one)
    go (yes e) (yes (x, (q, p))) = no (λ o. omega (arith, o.no_other x q))
    go (yes e) (no none) = yes (record { one = e; no_other = λ x q. by x q (dec_lt 0 (f x)) })
      where
        by : (x : ℕ) → x ≢ a → Dec (0 < f x) → f x ≡ 0
        by x q (yes p) = absurd (none (x, (q, p)))
        by x q (no n) = omega arith

-- gates of the wires of a list have lower numbers than this
abbrev above : List Wire → ℕ
above [] = 0
above (w ∷ ws) = suc (w.source + w.target) + above ws

ends_below : (ws : List Wire) (x y : ℕ) → 0 < wires_between ws x y → (x < above ws) × (y < above ws)
ends_below [] x y some = absurd (omega (arith, of_none x y))
ends_below (w ∷ ws) x y some = go (off_pair w.source w.target x y) (ends_below ws x y)
  where
    go : ((x ≡ w.source) × (y ≡ w.target)) ⊎ (one_at w.source w.target x y ≡ 0) → (0 < wires_between ws x y → (x < above ws) × (y < above ws)) → (x < above (w ∷ ws)) × (y < above (w ∷ ws))
    go (inl (e, f)) later = (omega arith, omega arith)
    go (inr none) later = let (h, l) = later (omega (arith, of_first w ws x y)) in (omega arith, omega arith)

-- At every moment a step applies, or it is an end.
step_or_end : {M : Moment} {k : ℕ} → Standing M.wires k → Dec ((N : Moment) × Move M N)
step_or_end {M} s = go doubled takeable
  where
    n : ℕ
    n = above s.list

    below : (x y : ℕ) → 0 < M.wires x y → (x < n) × (y < n)
    below x y some = ends_below s.list x y (omega (arith, s.between x y))

    doubled : Dec ((a : ℕ) × ((b : ℕ) × (2 ≤ M.wires a b)))
    doubled =
        some_of (λ a. some_of (λ b. dec_le 2 (M.wires a b)) n (λ b h. (below a b (omega arith)).1)) n (λ a (b, h). (below a b (omega arith)).0)

    takeable : Dec ((m : ℕ) × (((a : ℕ) × OneInto M.wires a m) × ((b : ℕ) × OneOutOf M.wires m b)))
    takeable =
        some_of
        (λ m.
        Dec.and (some_of (decide_one (λ x. M.wires x m) n (λ x h. (below x m h).0)) n (λ a o. (below a m (omega (arith, o.one))).0))
        (some_of (decide_one (M.wires m) n (λ y h. (below m y h).1)) n (λ b o. (below m b (omega (arith, o.one))).1)))
        n
        (λ m ((a, into), out). (below a m (omega (arith, into.one))).1)

    go : Dec ((a : ℕ) × ((b : ℕ) × (2 ≤ M.wires a b))) → Dec ((m : ℕ) × (((a : ℕ) × OneInto M.wires a m) × ((b : ℕ) × OneOutOf M.wires m b))) → Dec ((N : Moment) × Move M N)
    go (yes (a, (b, h))) d = yes (_, merge a b h)
    go (no none) (yes (m, ((a, into), (b, out)))) = yes (_, take m a b into out)
    go (no none) (no fixed) = no over
      where
        over : ((N : Moment) × Move M N) → ⊥
        over (N, take m a b into out) = fixed (m, ((a, into), (b, out)))
        over (N, merge a b h) = none (a, (b, h))

-- one order after another
afterwards : {L M N : Moment} → Moves L M → Moves M N → Moves L N
afterwards first done = first
afterwards first (then moves move) = then (afterwards first moves) move

on_to_an_end : (k : ℕ) {L M : Moment} → Standing M.wires k → Moves L M → (N : Moment) × Moves L N × ((O : Moment) → ¬ (Move N O))
on_to_an_end zero {M = M} s moves = (M, moves, λ O move. let (j, e, t) = one_wire_fewer s move in omega arith)
on_to_an_end (suc k) {L} {M} s moves = go (step_or_end s) (λ N t more. on_to_an_end k t more)
  where
    go : Dec ((N : Moment) × Move M N) → ((N : Moment) → Standing N.wires k → Moves L N → (O : Moment) × Moves L O × ((P : Moment) → ¬ (Move O P)))
        → (N : Moment) × Moves L N × ((O : Moment) → ¬ (Move N O))
    go (no over) later = (M, moves, λ O move. over (O, move))
    go (yes (N, move)) later =
        let (j, e, t) = one_wire_fewer s move in
        later N (subst (Standing N.wires) (let same : j ≡ k = omega arith in same) t) (then moves move)

-- Whatever steps were made, further ones lead to an end.
pub comes_to_an_end : (B : Block) {M : Moment} → Moves (beginning B) M → (N : Moment) × Moves M N × ReducedTo B N
comes_to_an_end B moves =
    let (j, e, s) = wires_left (at_beginning B) moves in
    let (N, more, over) = on_to_an_end j s done in
    (N, more, record { reached = afterwards moves more; ended = over })
