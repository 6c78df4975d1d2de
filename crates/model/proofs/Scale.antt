-- A block in finer ticks: each of the m ticks that a tick is divided into gains what the one gained (`same_gains`), the block is built up in the same way (`series_parallel_scaled`), paths last m times as long, and it is in time exactly when the block is (`in_time_scaled`); ticks counted off a curve m times as wide (`count_off_divided`).
-- Assumes nothing.
use mathlib.Core.Path.{◌≡◌, refl, sym, ◌∙◌, ap, subst}
use mathlib.Core.Logic.{◌↔◌, ◌⊎◌, inl, inr}
use mathlib.Core.Bool.{true, false}
use mathlib.Core.List.Memᴰ
use mathlib.Core.List.{List, [], ◌∷◌, map}
use Prim.Native.Nat.{ℕ, suc, ◌+◌, ◌*◌, ◌-◌, ◌≤◌, ◌<◌}
use native.Mathlib.Nat.{add-mul, mul-zero, mul-suc, mul-add, mul-sub, mul_assoc, mul-le-mul_left, le_of_mul-le-mul_left}
use native.Mathlib.Omega.{arith}
use lib.Dec.{ltb}
use lib.ListN.{get_or, length-map, get_or-map}
use borrow.Author.Tests.{lt-ltb, le-ltb}
use Rattle.lists.specs.Sum.{total}
use Rattle.lists.proofs.Compare.{le_or_lt}
use Rattle.model.specs.Block.{Step, Gate, Wire, Block, no_gate, gate, gate_count, widths, Stands, Joined}
use Rattle.model.specs.Gain.{drop_of, brings, input_activity, gain}
use Rattle.model.specs.Path.{Path, stay, go}
use Rattle.model.specs.InTime.{no_increase, drawn, slowed, Sizing, InTime}
use Rattle.model.specs.Curve.{Pair, count_off}
use Rattle.model.specs.Part.{Shape, Whole, SeriesParallel, lone, built}
use Rattle.model.specs.Scale.{scaled_step, scaled_gate, scaled_wire, scaled, scaled_list, widened}
use Rattle.model.proofs.Curve.{count_off_within, count_off_beyond}
use Rattle.model.proofs.Slack.{path_slower, none_sized}

-- a block with as many gates, whose wires join the same gates, is built up in the same way
pub same_whole : {B C : Block} {P : Shape} → gate_count C ≡ gate_count B → ((x y : ℕ) → Joined B.wires x y ↔ Joined C.wires x y) → Whole B P → Whole C P
same_whole {B} {C} {P} count joins whole =
    record {
      part = rw count whole.part;
      wires = λ x y. rw count (λ j. (whole.wires x y).0 ((joins x y).1 j), λ h. (joins x y).0 ((whole.wires x y).1 h));
      gates = λ g l. rw count (whole.gates g (rw count at l));
    }

module _ (m : ℕ) where
  pub count_scaled : (B : Block) → gate_count (scaled m B) ≡ gate_count B
  count_scaled B = length-map B.gates (scaled_gate m)

  pub gate_scaled : (B : Block) (g : ℕ) → gate (scaled m B) g ≡ scaled_gate m (gate B g)
  gate_scaled B g =
      let none : scaled_gate m no_gate ≡ no_gate = ap (λ (d : ℕ). record { delay = d; activity = 0; steps = [] }) (omega (arith, mul-zero m)) in
      ap (get_or (scaled m B).gates g) (sym none) ∙ get_or-map (scaled_gate m) B.gates g no_gate

  pub get_or_scaled : (x : List ℕ) (g : ℕ) → get_or (scaled_list m x) g 0 ≡ m * get_or x g 0
  get_or_scaled x g = ap (get_or (scaled_list m x) g) (sym (mul-zero m)) ∙ get_or-map (λ (a : ℕ). m * a) x g 0

  widths_scaled : (ss : List Step) → widths (map (scaled_step m) ss) ≡ m * widths ss
  unfolding total
  widths_scaled [] = sym (mul-zero m)
  widths_scaled (s ∷ ss) = omega (arith, widths_scaled ss, mul-add m s.width (widths ss))

  -- Tick k lies in a step of width w, or behind it: so does each of the m ticks that it is divided into.
  pub data Lies (k w r : ℕ) : Type 0 where
    inside : k < w → ltb k w ≡ true → ltb (m * k + r) (m * w) ≡ true → Lies k w r
    behind : ltb k w ≡ false → ltb (m * k + r) (m * w) ≡ false → m * k + r - m * w ≡ m * (k - w) + r → Lies k w r

  pub lies : (k w r : ℕ) → r < m → Lies k w r
  lies k w r l = by (le_or_lt w k)
    where
      by : (w ≤ k) ⊎ (k < w) → Lies k w r
      by (inl h) =
          let later = mul-le-mul_left m h in
          behind (le-ltb k w h) (le-ltb (m * k + r) (m * w) (omega arith)) (omega (arith, mul-sub m k w))
      by (inr h) =
          let earlier = mul-le-mul_left m h in
          inside h (lt-ltb k w h) (lt-ltb (m * k + r) (m * w) (omega (arith, mul-suc m k)))

  drop_scaled : (ss : List Step) (k r : ℕ) → r < m → drop_of (map (scaled_step m) ss) (m * k + r) ≡ drop_of ss k
  unfolding drop_of
  drop_scaled [] k r l = refl
  drop_scaled (s ∷ ss) k r l = by (lies k s.width r l) (drop_scaled ss (k - s.width) r l)
    where
      by : Lies k s.width r → drop_of (map (scaled_step m) ss) (m * (k - s.width) + r) ≡ drop_of ss (k - s.width)
          → drop_of (map (scaled_step m) (s ∷ ss)) (m * k + r) ≡ drop_of (s ∷ ss) k
      by (inside h old new) rest = rw (old, new) refl
      by (behind old new left) rest = rw (old, new, left) rest

  brings_scaled : (B : Block) (g : ℕ) (ws : List Wire) → total (brings (scaled m B) g) (map (scaled_wire m) ws) ≡ total (brings B g) ws
  unfolding total
  brings_scaled B g [] = refl
  brings_scaled B g (w ∷ ws) = rw (gate_scaled B w.source, brings_scaled B g ws) refl

  input_scaled : (B : Block) (g : ℕ) → input_activity (scaled m B) g ≡ input_activity B g
  unfolding input_activity
  input_scaled B g = rw (brings_scaled B g B.wires) refl

  -- "leave the gains"
  pub same_gains : (B : Block) (g k r : ℕ) → r < m → gain (scaled m B) g (m * k + r) ≡ gain B g k
  unfolding gain
  same_gains B g k r l = rw (gate_scaled B g, drop_scaled (gate B g).steps k r l, input_scaled B g) refl

  stands_scaled : (ws : List Wire) {a b w : ℕ} → Stands ws a b w → Stands (map (scaled_wire m) ws) a b (m * w)
  stands_scaled [] on = absurd (Memᴰ.not-nil on)
  stands_scaled (v ∷ ws) (Memᴰ.head e) = Memᴰ.head (ap (scaled_wire m) e)
  stands_scaled (v ∷ ws) (Memᴰ.tail on) = Memᴰ.tail (stands_scaled ws on)

  stands_unscaled : (ws : List Wire) {a b u : ℕ} → Stands (map (scaled_wire m) ws) a b u → (w : ℕ) × Stands ws a b w × (u ≡ m * w)
  stands_unscaled [] on = absurd (Memᴰ.not-nil on)
  stands_unscaled (v ∷ ws) (Memᴰ.head e) =
      (v.delay, Memᴰ.head (λ i. record { source = (e i).source; target = (e i).target; delay = v.delay }), ap (λ (w : Wire). w.delay) e)
  stands_unscaled (v ∷ ws) (Memᴰ.tail on) = let (w, old, e) = stands_unscaled ws on in (w, Memᴰ.tail old, e)

  pub joined_scaled : (ws : List Wire) (a b : ℕ) → Joined ws a b ↔ Joined (map (scaled_wire m) ws) a b
  joined_scaled ws a b = (
    λ j. (m * j.0, stands_scaled ws j.1),
    λ j. let (w, on, e) = stands_unscaled ws j.1 in (w, on),
  )

  -- where every gate takes m times as long, so does every path
  module _ (ws : List Wire) {d e : ℕ → ℕ} (slower : (g : ℕ) → e g ≡ m * d g) where
    path_scaled : {a b t : ℕ} → Path ws d a b t → Path (map (scaled_wire m) ws) e a b (m * t)
    path_scaled (stay {a = a}) = rw (← slower a) stay
    path_scaled (go {a = a} {w = w} {t = t} on rest) =
        let lasts : m * (d a + w + t) ≡ e a + m * w + m * t = omega (arith, slower a, mul-add m (d a + w) t, mul-add m (d a) w) in
        rw lasts (go (stands_scaled ws on) (path_scaled rest))

    path_unscaled : {a b t : ℕ} → Path (map (scaled_wire m) ws) e a b t → (u : ℕ) × Path ws d a b u × (t ≡ m * u)
    path_unscaled (stay {a = a}) = (d a, stay, slower a)
    path_unscaled (go {a = a} on rest) =
        let (w, old, same) = stands_unscaled ws on in
        let (u, path, lasts) = path_unscaled rest in
        (d a + w + u, go old path, omega (arith, slower a, mul-add m (d a + w) u, mul-add m (d a) w))

  pub drawn_scaled : (B : Block) (g : ℕ) → drawn (scaled m B) g ≡ m * drawn B g
  drawn_scaled B g = ap (λ (x : Gate). x.delay) (gate_scaled B g)

  slowed_scaled : (B : Block) (x : List ℕ) (g : ℕ) → slowed (scaled m B) (scaled_list m x) g ≡ m * slowed B x g
  slowed_scaled B x g = omega (arith, drawn_scaled B g, get_or_scaled x g, mul-add m (drawn B g) (get_or x g 0))

  -- the same list in finer ticks, where paths that were timed well are timed well
  sizing_scaled : (B : Block) {ok well : ℕ → Type 0} (x : List ℕ) → ((t : ℕ) → ok t → well (m * t)) → Sizing B ok x → Sizing (scaled m B) well (scaled_list m x)
  sizing_scaled B {ok} {well} x still s =
      record {
        one_each = length-map x (λ (a : ℕ). m * a) ∙ s.one_each ∙ sym (count_scaled B);
        within_widths = λ g l.
            rw (get_or_scaled x g, gate_scaled B g, widths_scaled (gate B g).steps) (mul-le-mul_left m (s.within_widths g (rw (count_scaled B) at l)));
        paths = λ t p.
            let (u, path, lasts) = path_unscaled B.wires (slowed_scaled B x) (rw (count_scaled B) at p) in
            subst well (sym lasts) (still u (s.paths u path));
      }

  -- some list in finer ticks shows how long the paths last with no increase
  sizing_unscaled : (B : Block) {ok well : ℕ → Type 0} (y : List ℕ) → ((t u : ℕ) → m * t ≤ u → well u → ok t) → Sizing (scaled m B) well y → Sizing B ok (no_increase (gate_count B))
  sizing_unscaled B y earlier s =
      none_sized B
      (λ t p.
      let finer = path_scaled B.wires {e = drawn (scaled m B)} (drawn_scaled B) p in
      let (u, path, longer) = path_slower {e = slowed (scaled m B) y} (λ g. omega arith) finer in
      earlier t u longer (s.paths u (rw (count_scaled B) path)))

  module _ (some : 1 ≤ m) (B : Block) where
    -- a path keeps the deadline exactly when it does in finer ticks
    in_time_alike : (t : ℕ) → (B.arrival + t ≤ B.deadline) ↔ ((scaled m B).arrival + m * t ≤ (scaled m B).deadline)
    in_time_alike t =
        let ends : (scaled m B).arrival + m * t ≡ m * (B.arrival + t) = sym (mul-add m B.arrival t) in
        (λ l. rw ends (mul-le-mul_left m l), λ l. le_of_mul-le-mul_left {k = m} (rw ends at l) some)

    pub in_time_scaled : ((x : List ℕ) × InTime B x) ↔ ((y : List ℕ) × InTime (scaled m B) y)
    in_time_scaled = (
      λ s. (scaled_list m s.0, sizing_scaled B s.0 (λ t. (in_time_alike t).0) s.1),
      λ s. (no_increase (gate_count B), sizing_unscaled B s.0 (λ t u l k. (in_time_alike t).1 (omega arith)) s.1),
    )

  abbrev pub series_parallel_scaled : (B : Block) → SeriesParallel B → SeriesParallel (scaled m B)
  series_parallel_scaled B (lone single no_wire) = lone (count_scaled B ∙ single) (ap (map (scaled_wire m)) no_wire)
  series_parallel_scaled B (built P whole) = built P (same_whole (count_scaled B) (joined_scaled B.wires) whole)

-- Of the q + r ticks that tick k of a curve is divided into, r earn r times its gain.
module _ (q r : ℕ) where
  abbrev Divided : List Pair → ℕ → Type 0
  Divided ps k = count_off (widened (q + r) ps) ((q + r) * k + r) ≡ q * count_off ps k + r * count_off ps (suc k)

  divided_within : (p : Pair) (ps : List Pair) (k : ℕ) → suc k ≤ p.width → Divided (p ∷ ps) k
  divided_within p ps k l =
      let wide : (q + r) * k + r ≤ (q + r) * p.width = omega (arith, mul-le-mul_left (q + r) l, mul-suc (q + r) k) in
      let parts : (q + r) * k + r ≡ q * k + r * suc k = omega (arith, add-mul q r k, mul-suc r k) in
      rw (
        count_off_within (record { width = (q + r) * p.width; gain = p.gain }) (widened (q + r) ps) ((q + r) * k + r) wide,
        count_off_within p ps k (omega arith),
        count_off_within p ps (suc k) l,
        parts,
        add-mul,
        mul_assoc q k p.gain,
        mul_assoc r (suc k) p.gain,
      )
      refl

  divided_beyond : (p : Pair) (ps : List Pair) (k : ℕ) → Divided ps k → Divided (p ∷ ps) (p.width + k)
  divided_beyond p ps k rest =
      let time : (q + r) * (p.width + k) + r ≡ (q + r) * p.width + ((q + r) * k + r) = omega (arith, mul-add (q + r) p.width k) in
      let next : suc (p.width + k) ≡ p.width + suc k = omega arith in
      rw (
        time,
        next,
        count_off_beyond (record { width = (q + r) * p.width; gain = p.gain }) (widened (q + r) ps) ((q + r) * k + r),
        count_off_beyond p ps k,
        count_off_beyond p ps (suc k),
        rest,
        mul-add,
        mul_assoc,
        add-mul,
      )
      (omega arith)

  pub count_off_divided : (ps : List Pair) (k : ℕ) → Divided ps k
  unfolding count_off
  count_off_divided [] k = omega (arith, mul-zero q, mul-zero r)
  count_off_divided (p ∷ ps) k = by (le_or_lt (suc k) p.width) (count_off_divided ps (k - p.width))
    where
      by : (suc k ≤ p.width) ⊎ (p.width < suc k) → Divided ps (k - p.width) → Divided (p ∷ ps) k
      by (inl l) rest = divided_within p ps k l
      by (inr l) rest = subst (Divided (p ∷ ps)) (omega arith) (divided_beyond p ps (k - p.width) rest)
