-- A network with every wire turned round: its paths are the paths backwards, and what the least carries backwards in it is the deadline less what the latest carries.
-- Assumes nothing.
use mathlib.Core.Path.{◌≡◌, sym, ◌∙◌, ap}
use mathlib.Core.Logic.{⊎_elim}
use mathlib.Core.List.Memᴰ
use mathlib.Core.List.{List, [], ◌∷◌}
use Prim.Native.Nat.{ℕ, zero, suc, ◌+◌, ◌-◌, ◌<◌}
use native.Mathlib.Nat.{not-suc-le-zero}
use native.Mathlib.Omega.{arith}
use lib.Dec.{eqb}
use lib.IntN.{ℤ, pos, ◌-ℤ◌}
use borrow.Author.Tests.{eqb-true}
use Rattle.lists.proofs.Bool.{cases}
use Rattle.model.specs.Block.{Wire, Stands}
use Rattle.model.specs.Path.{Path, stay, go}
use Rattle.model.specs.Slack.{latest_in, source_by, least_out, required_by}
use Rattle.model.proofs.Signed.{minus_minus, difference_pos, least_difference}
use Rattle.model.proofs.Source.{Along, path_then}

abbrev pub turned : Wire → Wire
turned w = record { source = w.target; target = w.source; delay = w.delay }

-- every wire turned round
unfoldable pub turn : List Wire → List Wire
turn [] = []
turn (w ∷ ws) = turned w ∷ turn ws

pub stands_turned : {a b w : ℕ} (ws : List Wire) → Stands ws a b w → Stands (turn ws) b a w
unfolding turn
stands_turned [] on = absurd (Memᴰ.not-nil on)
stands_turned {a} {b} {w} (v ∷ ws) on =
    ⊎_elim (λ (e : record { source = a; target = b; delay = w } ≡ v). Memᴰ.head (ap turned e))
    (λ (m : Stands ws a b w). Memᴰ.tail (stands_turned ws m))
    (Memᴰ.cases_cons on)

pub stands_unturned : {a b w : ℕ} (ws : List Wire) → Stands (turn ws) b a w → Stands ws a b w
unfolding turn
stands_unturned [] on = absurd (Memᴰ.not-nil on)
stands_unturned {a} {b} {w} (v ∷ ws) on =
    ⊎_elim (λ (e : record { source = b; target = a; delay = w } ≡ turned v). Memᴰ.head (ap turned e))
    (λ (m : Stands (turn ws) b a w). Memᴰ.tail (stands_unturned ws m))
    (Memᴰ.cases_cons on)

-- where each wire of one network stands in the other the other way round, so does each path
pub path_turned : {ws vs : List Wire} {d : ℕ → ℕ} {a b t : ℕ} → ((x y w : ℕ) → Stands ws x y w → Stands vs y x w) → Path ws d a b t → Path vs d b a t
path_turned turns stay = stay
path_turned {d = d} turns (go {a = a} {c = c} {w = w} {t = t} on rest) =
    let same : t + w + d a ≡ d a + w + t = omega arith in
    rw same at (path_then (path_turned turns rest) (turns a c w on))

pub along_turned : {ws : List Wire} {n : ℕ} → Along ws n → Along (turn ws) n
along_turned {ws} {n} order =
    record {
      place = λ (g : ℕ). n - suc (order.place g);
      below = λ (g : ℕ) (h : g < n). omega (arith, order.below g h);
      grows =
          λ (a b w : ℕ) (on : Stands (turn ws) a b w).
          let back = stands_unturned ws on in
          omega (arith, order.grows b a w back, order.below a (order.in_range b a w back).1);
      in_range =
          λ (a b w : ℕ) (on : Stands (turn ws) a b w).
          let back = order.in_range b a w (stands_unturned ws on) in
          (back.1, back.0);
    }

stands_front : (v : Wire) (ws : List Wire) (g : ℕ) → v.source ≡ g → Stands (v ∷ ws) g v.target v.delay
stands_front v ws g e = Memᴰ.head (λ i. record { source = sym e i; target = v.target; delay = v.delay })

-- the least over the wires out is the deadline less the latest over the turned wires in
least_turned : (ws : List Wire) (time : ℕ → ℤ) (u : ℕ → ℕ) (D g : ℕ)
    → ((h w : ℕ) → Stands ws g h w → time h ≡ pos D -ℤ pos (u h))
    → least_out ws time (pos D) g ≡ pos D -ℤ pos (latest_in (turn ws) u 0 g)
unfolding least_out latest_in turn
least_turned [] time u D g e = sym (difference_pos D 0 (omega arith) ∙ ap pos (omega arith))
least_turned (v ∷ ws) time u D g e =
    let rest = least_turned ws time u D g (λ (h w : ℕ) (m : Stands ws g h w). e h w (Memᴰ.tail m)) in
    cases (eqb v.source g)
    (λ t.
    rw (
      t,
      e v.target v.delay (stands_front v ws g (eqb-true v.source g t)),
      minus_minus D (u v.target) v.delay,
      rest,
    )
    (least_difference D (u v.target + v.delay) (latest_in (turn ws) u 0 g)))
    (λ t. rw (t, rest))

-- the required time is the deadline less the latest time from the gate's output on
pub required_turned : (ws : List Wire) (d : ℕ → ℕ) (D n : ℕ) (order : Along (turn ws) n) (f g : ℕ)
    → order.place g < f
    → required_by f ws d (pos D) g ≡ pos D -ℤ pos (latest_in (turn ws) (source_by f (turn ws) d 0) 0 g)
unfolding required_by source_by
required_turned ws d D n order zero g h = absurd (not-suc-le-zero h)
required_turned ws d D n order (suc f) g h =
    least_turned ws (λ (x : ℕ). required_by f ws d (pos D) x -ℤ pos (d x)) (source_by (suc f) (turn ws) d 0) D g
    (λ (x w : ℕ) (on : Stands ws g x w).
    rw (required_turned ws d D n order f x (omega (arith, order.grows x g w (stands_turned ws on))))
    (minus_minus D (latest_in (turn ws) (source_by f (turn ws) d 0) 0 x) (d x)))
