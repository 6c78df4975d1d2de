-- What the arrays of a block hold while steps, gates and wires are stored one after another: the elements stored before are kept, and one more is added at the end.
-- Assumes nothing.
use mathlib.Core.Path.{◌≡◌, sym, ◌∙◌, ap, ap₂}
use mathlib.Core.List.{List, [], ◌∷◌, ◌++◌, map, map-append}
use Prim.Native.Nat.{ℕ, ◌+◌, ◌*◌, ◌<◌, ◌≤◌}
use native.Mathlib.Numerals.{add-one}
use native.Mathlib.Omega.{arith}
use lib.ListN.{length, get_or, set}
use lib.Seq.{get_or-set_same, get_or-set_other}
use Rattle.lists.specs.Over.{build}
use Rattle.lists.proofs.Over.{build_same}
use Rattle.model.specs.Limits.{max_steps}
use Rattle.model.specs.Block.{Step, Gate, Wire}
use Rattle.model.specs.Arrays.{step_place, wire_at, wires_in, step_at, gate_at, gates_in}

-- one more element, those before it being the same
pub build_more : {A : Type 0} (n : ℕ) (f g : ℕ → A) {xs : List A} {x : A} → build n f ≡ xs → ((i : ℕ) → i < n → g i ≡ f i) → g n ≡ x → build (n + 1) g ≡ xs ++ (x ∷ [])
unfolding build
build_more {A} n f g e same new = rw (add-one n) (ap₂ (λ (l : List A) (a : A). l ++ (a ∷ [])) (build_same n g f same ∙ e) new)

-- ys is as xs below place n
abbrev pub SameBelow : ℕ → List ℕ → List ℕ → Type 0
SameBelow n xs ys = (p : ℕ) → p < n → get_or ys p 0 ≡ get_or xs p 0

pub same_below_set : (n : ℕ) (xs : List ℕ) (i a : ℕ) → n ≤ i → SameBelow n xs (set xs i a)
same_below_set n xs i a h p l = get_or-set_other xs i p a 0 (omega arith)

pub same_below_trans : (n : ℕ) (xs ys zs : List ℕ) → SameBelow n xs ys → SameBelow n ys zs → SameBelow n xs zs
same_below_trans n xs ys zs e f p l = f p l ∙ e p l

-- a wire is stored behind those stored before
pub wire_stored : (m : ℕ) (sources targets delays : List ℕ) (a b c : ℕ) {ws : List Wire} → m < length sources → m < length targets → m < length delays → wires_in m sources targets delays ≡ ws
    → wires_in (m + 1) (set sources m a) (set targets m b) (set delays m c) ≡ ws ++ (record { source = a; target = b; delay = c } ∷ [])
wire_stored m sources targets delays a b c h k l e =
    build_more m (wire_at sources targets delays) (wire_at (set sources m a) (set targets m b) (set delays m c)) e
    (λ (i : ℕ) (j : i < m).
    λ t. record {
      source = same_below_set m sources m a (omega arith) i j t;
      target = same_below_set m targets m b (omega arith) i j t;
      delay = same_below_set m delays m c (omega arith) i j t;
    })
    (λ t. record {
      source = get_or-set_same sources m a 0 h t;
      target = get_or-set_same targets m b 0 k t;
      delay = get_or-set_same delays m c 0 l t;
    })

-- a step of gate g is stored behind those stored before
pub step_stored : (g j : ℕ) (step_widths drops : List ℕ) (w d : ℕ) {ss : List Step} → step_place g j < length step_widths → step_place g j < length drops → build j (step_at step_widths drops g) ≡ ss
    → build (j + 1) (step_at (set step_widths (step_place g j) w) (set drops (step_place g j) d) g) ≡ ss ++ (record { width = w; drop = d } ∷ [])
step_stored g j step_widths drops w d h k e =
    build_more j (step_at step_widths drops g) (step_at (set step_widths (step_place g j) w) (set drops (step_place g j) d) g) e
    (λ (i : ℕ) (l : i < j).
    λ t. record {
      width = same_below_set (step_place g j) step_widths (step_place g j) w (omega arith) (step_place g i) (omega arith) t;
      drop = same_below_set (step_place g j) drops (step_place g j) d (omega arith) (step_place g i) (omega arith) t;
    })
    (λ t. record {
      width = get_or-set_same step_widths (step_place g j) w 0 h t;
      drop = get_or-set_same drops (step_place g j) d 0 k t;
    })

-- Gates are stored: below gate n the arrays of the right hold what those of the left hold.
pub record GatesKept (n : ℕ) (delays activities counts step_widths drops delays' activities' counts' step_widths' drops' : List ℕ) : Type 0 where
  pub same_delays : SameBelow n delays delays'
  pub same_activities : SameBelow n activities activities'
  pub same_counts : SameBelow n counts counts'
  pub same_widths : SameBelow (n * max_steps) step_widths step_widths'
  pub same_drops : SameBelow (n * max_steps) drops drops'

module _ (n : ℕ) (delays activities counts step_widths drops delays' activities' counts' step_widths' drops' : List ℕ)
    (kept : GatesKept n delays activities counts step_widths drops delays' activities' counts' step_widths' drops')
    (few : (g : ℕ) → g < n → get_or counts g 0 ≤ max_steps) where
  gate_kept : (g : ℕ) → g < n → gate_at delays' activities' counts' step_widths' drops' g ≡ gate_at delays activities counts step_widths drops g
  gate_kept g h =
      λ t. record {
        delay = kept.same_delays g h t;
        activity = kept.same_activities g h t;
        steps = steps t;
      }
    where
      steps : build (get_or counts' g 0) (step_at step_widths' drops' g) ≡ build (get_or counts g 0) (step_at step_widths drops g)
      steps =
          ap (λ (k : ℕ). build k (step_at step_widths' drops' g)) (kept.same_counts g h)
          ∙ build_same (get_or counts g 0) (step_at step_widths' drops' g) (step_at step_widths drops g)
          (λ (j : ℕ) (l : j < get_or counts g 0).
          let m : step_place g j < n * max_steps = omega (arith, few g h) in
          λ t. record { width = kept.same_widths (step_place g j) m t; drop = kept.same_drops (step_place g j) m t })

  -- gate n is stored behind those stored before
  pub gate_stored : {A : Type 0} (f : A → Gate) (gs : List A) (g : A) → gates_in n delays activities counts step_widths drops ≡ map f gs → gate_at delays' activities' counts' step_widths' drops' n ≡ f g
      → gates_in (n + 1) delays' activities' counts' step_widths' drops' ≡ map f (gs ++ (g ∷ []))
  gate_stored f gs g e new =
      build_more n (gate_at delays activities counts step_widths drops) (gate_at delays' activities' counts' step_widths' drops') e gate_kept new
      ∙ sym (map-append f gs (g ∷ []))
