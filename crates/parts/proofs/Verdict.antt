-- Both directions in one theorem (`verdict`): when no gate but the first and the last can go, exactly one slot is live if and only if the block is series-parallel; and then that slot's part is the whole block (`whole`). A lone gate is series-parallel as it stands (`lone_gate`).
-- Soundness: the part of the one slot has all wires, so no wire enters its source and none leaves its target: these are the first gate and the last. Completeness: every order of takings has taken all gates inside the whole part, so each slot leads to its last gate, and then from its first (`one_slot`), and no two slots join the same gates. Assumes nothing.
use mathlib.Core.Path.{◌≡◌, refl, sym, ◌∙◌, subst, subst₂}
use mathlib.Core.Logic.{◌≢◌, ◌⊎◌, inl, inr, ◌↔◌, ⊎_elim}
use mathlib.Core.List.{List, [], ◌∷◌, Memᴰ}
use Prim.Native.Nat.{ℕ, ◌<◌}
use native.Mathlib.Decide.{ℕ_discrete}
use native.Mathlib.Omega.{arith}
use Rattle.model.specs.Block.{Wire, Block, gate_count, first, last, Joined}
use Rattle.model.specs.Part.{Shape, Inside, HasGate, HasWire, Part, Whole, SeriesParallel, lone, built}
use Rattle.model.specs.Path.{step}
use Rattle.parts.specs.Reduction.{Thru, direct, through, Only, Left, Stuck}
use Rattle.parts.specs.Slots.{Slot, Live, Carries, OneIn, Finished}
use Rattle.parts.specs.Network.{Network}
use Rattle.parts.proofs.Gates.{wire_ends, wire_gates, enters_none, leaves_none, wire_out, wire_in}
use Rattle.parts.proofs.Clearing.{inside_taken}
use Rattle.parts.specs.Invariant.{Fits, Reducing}
use Rattle.parts.proofs.State.{meets_end, slots_removable}

-- a wire left begins with a wire and ends with a wire
thru_wires : {E : ℕ → ℕ → Type 0} {R : List ℕ} {a b : ℕ} → Thru E R a b → ((y : ℕ) × E a y) × ((x : ℕ) × E x b)
thru_wires {a = a} {b = b} (direct e) = ((b, e), (a, e))
thru_wires (through {c = c} e m t) = ((c, e), (thru_wires t).1)

module _ {B : Block} {S : ℕ → Slot} (n : Network B) (r : Reducing (Joined B.wires) S) where
  -- no gate at all can go: the first and the last lack a wire
  pub finished_stuck : Finished S (first B) (last B) → Stuck (Joined B.wires) r.taken
  finished_stuck f m k =
      let (o, p) = (slots_removable r.reduced r.single k.left).1 k in
      f m (λ e. let (x, w) = (thru_wires k.before.holds.1).1 in n.first_none x (subst (Joined B.wires x) e w))
      (λ e. let (y, w) = (thru_wires k.after.holds.1).0 in n.last_none y (subst (λ g. Joined B.wires g y) e w)) o p

  -- a gate with a slot in is a gate of the block
  pub one_in_below : {m : ℕ} → OneIn S m → m < gate_count B
  one_in_below i =
      let s = S i.value in
      let (x, h) = wire_in s.shape s.source s.target in
      subst (λ g. g < gate_count B) i.holds.1 (n.below x s.target ((r.reduced.fits i.value i.holds.0).wires x s.target h)).1

  -- The only slot's part has every wire of the block; so no wire enters its source and none leaves its target: they are the first gate and the last.
  module _ (o : Only (λ i. Live (S i))) where
    only_fits : Fits (Joined B.wires) r.taken (S o.value)
    only_fits = r.reduced.fits o.value o.holds

    in_only : (x y : ℕ) → Joined B.wires x y → Carries (S o.value) x y
    in_only x y w = let (i, l, h) = r.reduced.covered x y w in subst (λ k. Carries (S k) x y) (o.alone i l) h

    pub only_first : (S o.value).source ≡ first B
    only_first = go (ℕ_discrete (S o.value).source (first B))
      where
        go : Dec ((S o.value).source ≡ first B) → (S o.value).source ≡ first B
        go (yes e) = e
        go (no d) =
            let s = S o.value in
            let (y, h) = wire_out s.shape s.source s.target in
            let (x, w) = n.wire_into s.source (n.below s.source y (only_fits.wires s.source y h)).0 d in
            absurd (enters_none s.shape s.source s.target x s.source only_fits.part (in_only x s.source w) refl)

    pub only_last : (S o.value).target ≡ last B
    only_last = go (ℕ_discrete (S o.value).target (last B))
      where
        go : Dec ((S o.value).target ≡ last B) → (S o.value).target ≡ last B
        go (yes e) = e
        go (no d) =
            let s = S o.value in
            let (x, h) = wire_in s.shape s.source s.target in
            let (y, w) = n.wire_from s.target (n.below x s.target (only_fits.wires x s.target h)).1 d in
            absurd (leaves_none s.shape s.source s.target s.target y only_fits.part (in_only s.target y w) refl)

    only_wires : (x y : ℕ) → Joined B.wires x y ↔ HasWire (S o.value).shape (first B) (last B) x y
    only_wires x y = subst₂ (λ c d. Joined B.wires x y ↔ HasWire (S o.value).shape c d x y) only_first only_last (in_only x y, only_fits.wires x y)

    -- Soundness: the part of the only slot is the whole block.
    pub whole : Whole B (S o.value).shape
    whole =
        record {
          part = subst₂ (λ x y. Part x y (S o.value).shape) only_first only_last only_fits.part;
          wires = only_wires;
          gates = λ g h. all_gates g h (ℕ_discrete g (first B));
        }
      where
        all_gates : (g : ℕ) → g < gate_count B → Dec (g ≡ first B) → HasGate (S o.value).shape (first B) (last B) g
        all_gates g h (yes e) = inl e
        all_gates g h (no d) = let (x, w) = n.wire_into g h d in (wire_gates (S o.value).shape (first B) (last B) x g ((only_wires x g).0 w)).1

  -- A gate that is left, other than the first, has a slot in.
  pub left_led : {g : ℕ} → g < gate_count B → g ≢ first B → Left r.taken g → (i : ℕ) × Live (S i) × ((S i).target ≡ g)
  left_led {g} below d left =
      let (x, w) = n.wire_into g below d in
      let (i, l, h) = r.reduced.covered x g w in
      (i, l, (meets_end r.reduced x g l h).1 left)

  -- Where every slot leads to the last gate, only one is live: each leads from the first, since a gate left in between would have a slot in.
  pub one_slot : gate_count B ≢ 1 → ((i : ℕ) → Live (S i) → (S i).target ≡ last B) → Only (λ i. Live (S i))
  one_slot d to_last =
      let (y, w) = n.wire_from (first B) n.some_gate (λ e. d (omega (arith, n.some_gate, e))) in
      let (i, l, h) = r.reduced.covered (first B) y w in
      alone i l
    where
      from_first : (j : ℕ) → Live (S j) → (S j).source ≡ first B
      from_first j l = go (ℕ_discrete (S j).source (first B))
        where
          go : Dec ((S j).source ≡ first B) → (S j).source ≡ first B
          go (yes e) = e
          go (no k) =
              let t = r.reduced.fits j l in
              let (y, h) = wire_out (S j).shape (S j).source (S j).target in
              let w = t.wires (S j).source y h in
              let (i, m, e) = left_led (n.below (S j).source y w).0 k t.source_left in
              absurd (n.last_none y (subst (λ g. Joined B.wires g y) (sym e ∙ to_last i m) w))

      alone : (i : ℕ) → Live (S i) → Only (λ i. Live (S i))
      alone i l = record { value = i; holds = l; alone = λ j m. r.single j i m l (from_first j m ∙ sym (from_first i l)) (to_last j m ∙ sym (to_last i l)) }

  -- Completeness: if the whole block is a part, only one slot is live.
  only_slot : gate_count B ≢ 1 → Finished S (first B) (last B) → (P : Shape) → Whole B P → Only (λ i. Live (S i))
  only_slot d f P w = one_slot d to_last
    where
      gone : (g : ℕ) → Inside P g → Memᴰ g r.taken
      gone = inside_taken P (first B) (last B) w.part w.wires r.order (finished_stuck f)

      to_last : (j : ℕ) → Live (S j) → (S j).target ≡ last B
      to_last j l =
          let t = r.reduced.fits j l in
          let (x, h) = wire_in (S j).shape (S j).source (S j).target in
          ⊎_elim (λ e. e) (λ k. absurd (t.target_left (gone _ k)))
          (wire_ends P (first B) (last B) x (S j).target ((w.wires x (S j).target).0 (t.wires x (S j).target h))).1

  -- "One slot left" exactly when the block is series-parallel.
  pub verdict : gate_count B ≢ 1 → Finished S (first B) (last B) → Only (λ i. Live (S i)) ↔ SeriesParallel B
  verdict d f = (λ o. built (S o.value).shape (whole o), back)
    where
      back : SeriesParallel B → Only (λ i. Live (S i))
      back (lone e w) = absurd (d e)
      back (built P w) = only_slot d f P w

-- A network of one gate has no wire, and is series-parallel.
pub lone_gate : {B : Block} → Network B → gate_count B ≡ 1 → SeriesParallel B
lone_gate {B} n e = lone e (none B.wires refl)
  where
    none : (ws : List Wire) → B.wires ≡ ws → B.wires ≡ []
    none [] h = h
    none (w ∷ ws) h = absurd (n.acyclic w.source (step (subst (Joined B.wires w.source) same joined)))
      where
        joined : Joined B.wires w.source w.target
        joined = (w.delay, subst (Memᴰ w) (sym h) (Memᴰ.head refl))

        same : w.target ≡ w.source
        same = let b = n.below w.source w.target joined in omega (arith, e, b)

-- The same with the lone gate: the reduction's answer, exactly when series-parallel.
pub answer : {B : Block} {S : ℕ → Slot} → Network B → Reducing (Joined B.wires) S → Finished S (first B) (last B) → ((gate_count B ≡ 1) ⊎ Only (λ i. Live (S i))) ↔ SeriesParallel B
answer {B} {S} n r f = (⊎_elim (lone_gate n) (λ o. built (S o.value).shape (whole n r o)), λ p. go p (ℕ_discrete (gate_count B) 1))
  where
    go : SeriesParallel B → Dec (gate_count B ≡ 1) → (gate_count B ≡ 1) ⊎ Only (λ i. Live (S i))
    go p (yes e) = inl e
    go p (no d) = inr ((verdict n r d f).1 p)
