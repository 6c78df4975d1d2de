-- Where the wires of a part lie: between its own gates, none into its first and none out of its last (`wire_ends`, `enters_none`, `leaves_none`); and that a part leads from its first gate to its last through its inside (`crossing`). Assumes nothing.
use mathlib.Core.Path.{◌≡◌, refl, sym, ◌∙◌, subst}
use mathlib.Core.Logic.{◌≢◌, ◌⊎◌, inl, inr, ⊎_elim}
use mathlib.Core.List.{List, Memᴰ}
use Prim.Native.Nat.{ℕ}
use Rattle.model.specs.Part.{Shape, wire, series, parallel, Inside, HasGate, HasWire, Part}
use Rattle.parts.specs.Reduction.{Thru, direct}
use Rattle.parts.proofs.Diamond.{thru_join}

-- a wire leaves the first gate or one inside, and enters the last gate or one inside
pub wire_ends : (P : Shape) (a b x y : ℕ) → HasWire P a b x y → ((x ≡ a) ⊎ Inside P x) × ((y ≡ b) ⊎ Inside P y)
wire_ends wire a b x y h = (inl h.0, inl h.1)
wire_ends (series P m Q) a b x y (inl h) =
    let e = wire_ends P a m x y h in
    (⊎_elim inl (λ i. inr (inl i)) e.0, inr (⊎_elim (λ i. inr (inl i)) inl e.1))
wire_ends (series P m Q) a b x y (inr h) =
    let e = wire_ends Q m b x y h in
    (inr (⊎_elim (λ i. inr (inl i)) (λ i. inr (inr i)) e.0), ⊎_elim inl (λ i. inr (inr (inr i))) e.1)
wire_ends (parallel P Q) a b x y (inl h) =
    let e = wire_ends P a b x y h in
    (⊎_elim inl (λ i. inr (inl i)) e.0, ⊎_elim inl (λ i. inr (inl i)) e.1)
wire_ends (parallel P Q) a b x y (inr h) =
    let e = wire_ends Q a b x y h in
    (⊎_elim inl (λ i. inr (inr i)) e.0, ⊎_elim inl (λ i. inr (inr i)) e.1)

pub wire_gates : (P : Shape) (a b x y : ℕ) → HasWire P a b x y → HasGate P a b x × HasGate P a b y
wire_gates P a b x y h =
    let e = wire_ends P a b x y h in
    (⊎_elim inl (λ i. inr (inr i)) e.0, ⊎_elim (λ i. inr (inl i)) (λ i. inr (inr i)) e.1)

-- the two ends of a part are different gates, and neither is inside
pub record Ends (P : Shape) (a b : ℕ) : Type 0 where
  pub differ : a ≢ b
  pub first_outside : ¬ (Inside P a)
  pub last_outside : ¬ (Inside P b)

pub part_ends : (P : Shape) (a b : ℕ) → Part a b P → Ends P a b
part_ends wire a b p = record { differ = p; first_outside = λ i. i; last_outside = λ i. i }
part_ends (series P m Q) a b p =
    let ep = part_ends P a m p.0 in
    let eq = part_ends Q m b p.1 in
    record {
      differ = λ e. ep.differ (p.2 a (inl refl) (inr (inl e)));
      first_outside = ⊎_elim ep.first_outside (⊎_elim ep.differ (λ i. ep.differ (p.2 a (inl refl) (inr (inr i)))));
      last_outside = ⊎_elim (λ i. eq.differ (sym (p.2 b (inr (inr i)) (inr (inl refl))))) (⊎_elim (λ e. eq.differ (sym e)) eq.last_outside);
    }
part_ends (parallel P Q) a b p =
    let ep = part_ends P a b p.0 in
    let eq = part_ends Q a b p.1 in
    record {
      differ = ep.differ;
      first_outside = ⊎_elim ep.first_outside eq.first_outside;
      last_outside = ⊎_elim ep.last_outside eq.last_outside;
    }

-- no wire of a part enters its first gate
pub enters_none : (P : Shape) (a b x y : ℕ) → Part a b P → HasWire P a b x y → y ≢ a
enters_none P a b x y p h e =
    let n = part_ends P a b p in
    ⊎_elim (λ i. n.differ (sym e ∙ i)) (λ i. n.first_outside (subst (Inside P) e i)) (wire_ends P a b x y h).1

-- no wire of a part leaves its last gate
pub leaves_none : (P : Shape) (a b x y : ℕ) → Part a b P → HasWire P a b x y → x ≢ b
leaves_none P a b x y p h e =
    let n = part_ends P a b p in
    ⊎_elim (λ i. n.differ (sym i ∙ e)) (λ i. n.last_outside (subst (Inside P) e i)) (wire_ends P a b x y h).0

-- some wire leaves the first gate, and some wire enters the last
pub wire_out : (P : Shape) (a b : ℕ) → (y : ℕ) × HasWire P a b a y
wire_out wire a b = (b, (refl, refl))
wire_out (series P m Q) a b = let h = wire_out P a m in (h.0, inl h.1)
wire_out (parallel P Q) a b = let h = wire_out P a b in (h.0, inl h.1)

pub wire_in : (P : Shape) (a b : ℕ) → (x : ℕ) × HasWire P a b x b
wire_in wire a b = (a, (refl, refl))
wire_in (series P m Q) a b = let h = wire_in Q m b in (h.0, inr h.1)
wire_in (parallel P Q) a b = let h = wire_in P a b in (h.0, inl h.1)

-- Once all gates inside are taken away, a wire is left from the first gate to the last.
pub crossing :
    {E : ℕ → ℕ → Type 0} {R : List ℕ} (P : Shape) (a b : ℕ)
    → ((x y : ℕ) → HasWire P a b x y → E x y)
    → ((g : ℕ) → Inside P g → Memᴰ g R)
    → Thru E R a b
crossing wire a b w t = direct (w a b (refl, refl))
crossing (series P m Q) a b w t =
    thru_join (crossing P a m (λ x y h. w x y (inl h)) (λ g i. t g (inl i))) (t m (inr (inl refl)))
    (crossing Q m b (λ x y h. w x y (inr h)) (λ g i. t g (inr (inr i))))
crossing (parallel P Q) a b w t = crossing P a b (λ x y h. w x y (inl h)) (λ g i. t g (inl i))
