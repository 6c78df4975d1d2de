-- At first, with every wire of a network in a slot of its own, what the reduction keeps holds (`start`). Assumes nothing.
use mathlib.Core.Path.{◌≡◌, refl, sym, ◌∙◌, ap, subst, subst₂}
use mathlib.Core.Logic.{◌≢◌}
use mathlib.Core.Bool.{false≢true}
use mathlib.Core.List.Memᴰ
use mathlib.Core.List.{List, [], ◌∷◌, Memᴰ}
use Prim.Native.Nat.{ℕ, zero, suc, ◌≤◌, ◌<◌}
use native.Mathlib.Omega.{arith}
use lib.ListN.{length}
use Rattle.model.specs.Block.{Wire, Block, Joined}
use Rattle.model.specs.Part.{wire}
use Rattle.model.specs.Path.{Reaches, step, on}
use Rattle.parts.specs.Reduction.{Thru, direct, through, done}
use Rattle.parts.specs.Slots.{Slot, slot, empty, Live, Carries, wire_slots, initial}
use Rattle.parts.specs.Network.{wire_at, Network}
use Rattle.parts.specs.Invariant.{Fits, Apart, Reducing}
use Rattle.parts.proofs.State.{LoopFree}

pub thru_reaches : {ws : List Wire} {R : List ℕ} {a b : ℕ} → Thru (Joined ws) R a b → Reaches ws a b
thru_reaches (direct e) = step e
thru_reaches (through e m t) = on e (thru_reaches t)

pub loop_free : {B : Block} → Network B → LoopFree (Joined B.wires)
loop_free n R g t = n.acyclic g (thru_reaches t)

-- slot i holds the wire of number i
pub initial_at : (ws : List Wire) (i : ℕ) → i < length ws → initial ws i ≡ slot (wire_at ws i).source wire (wire_at ws i).target
unfolding wire_slots
initial_at [] i h = absurd (omega arith)
initial_at (w ∷ ws) zero h = refl
initial_at (w ∷ ws) (suc i) h = initial_at ws i (omega arith)

-- and there are no others
pub initial_live : (ws : List Wire) (i : ℕ) → Live (initial ws i) → i < length ws
unfolding wire_slots
initial_live [] i l = absurd (false≢true l)
initial_live (w ∷ ws) zero l = omega arith
initial_live (w ∷ ws) (suc i) l = omega (arith, initial_live ws i l)

pub initial_beyond : (ws : List Wire) (i : ℕ) → length ws ≤ i → initial ws i ≡ empty
unfolding wire_slots
initial_beyond [] i h = refl
initial_beyond (w ∷ ws) zero h = absurd (omega arith)
initial_beyond (w ∷ ws) (suc i) h = initial_beyond ws i (omega arith)

pub stands_at : (ws : List Wire) (i : ℕ) → i < length ws → Memᴰ (wire_at ws i) ws
stands_at [] i h = absurd (omega arith)
stands_at (w ∷ ws) zero h = Memᴰ.head refl
stands_at (w ∷ ws) (suc i) h = Memᴰ.tail (stands_at ws i (omega arith))

pub place_of : {w : Wire} {ws : List Wire} → Memᴰ w ws → (i : ℕ) × (i < length ws) × (w ≡ wire_at ws i)
place_of (Memᴰ.head e) = (0, omega arith, e)
place_of (Memᴰ.tail m) = let (i, h, e) = place_of m in (suc i, omega arith, e)

-- the slot of the wire of number i
abbrev wire_slot : List Wire → ℕ → Slot
wire_slot ws i = slot (wire_at ws i).source wire (wire_at ws i).target

-- a wire of a network is a part by itself
wire_fits : {B : Block} → Network B → (i : ℕ) → i < length B.wires → Fits (Joined B.wires) [] (wire_slot B.wires i)
wire_fits {B} n i h =
    record {
      part = λ e. n.acyclic _ (step (subst (λ g. Joined B.wires g (wire_at B.wires i).target) e joined));
      source_left = Memᴰ.not-nil;
      target_left = Memᴰ.not-nil;
      inside_gone = λ g k. absurd k;
      wires = λ x y k. subst₂ (Joined B.wires) (sym k.0) (sym k.1) joined;
    }
  where
    joined : Joined B.wires (wire_at B.wires i).source (wire_at B.wires i).target
    joined = ((wire_at B.wires i).delay, stands_at B.wires i h)

pub start : {B : Block} → Network B → Reducing (Joined B.wires) (initial B.wires)
start {B} n =
    record {
      taken = [];
      order = done (λ g. (λ m. m, λ m. m));
      reduced =
          record {
            fits = λ i l. subst (Fits (Joined B.wires) []) (sym (at i l)) (wire_fits n i (inner i l));
            covered = λ x y w. covered x y w;
            apart = λ i j d l k. subst₂ Apart (sym (at i l)) (sym (at j k)) (apart i j d (inner i l) (inner j k));
          };
      single = λ i j l k e f. n.once i j (inner i l) (inner j k) (ap (λ s. s.source) (sym (at i l)) ∙ e ∙ ap (λ s. s.source) (at j k)) (ap (λ s. s.target) (sym (at i l)) ∙ f ∙ ap (λ s. s.target) (at j k));
    }
  where
    inner : (i : ℕ) → Live (initial B.wires i) → i < length B.wires
    inner = initial_live B.wires

    at : (i : ℕ) → Live (initial B.wires i) → initial B.wires i ≡ wire_slot B.wires i
    at i l = initial_at B.wires i (inner i l)

    covered : (x y : ℕ) → Joined B.wires x y → (i : ℕ) × Live (initial B.wires i) × Carries (initial B.wires i) x y
    covered x y (w, m) =
        let (i, h, e) = place_of m in
        let a = initial_at B.wires i h in
        (i, ap (λ s. s.live) a, subst (λ s. Carries s x y) (sym a) (ap (λ v. v.source) e, ap (λ v. v.target) e))

    apart : (i j : ℕ) → i ≢ j → i < length B.wires → j < length B.wires → Apart (wire_slot B.wires i) (wire_slot B.wires j)
    apart i j d hi hj = record { no_gate = λ g k. absurd k; no_wire = λ x y h k. d (n.once i j hi hj (sym h.0 ∙ k.0) (sym h.1 ∙ k.1)) }
