-- Reaching along a relation E, "a wire leads from a to b", and along the wires of a list.
-- Assumes nothing.
use mathlib.Core.List.{List}
use Prim.Native.Nat.{ℕ, ◌<◌}
use native.Mathlib.Nat.{lt_trans}
use Rattle.model.specs.Block.{Wire, Joined}
use Rattle.model.specs.Path as model

-- Gate b can be reached from gate a by one step or more.
pub data Reach (E : ℕ → ℕ → Type 0) : ℕ → ℕ → Type 0 where
  step : {a b : ℕ} → E a b → Reach E a b
  on : {a b c : ℕ} → E a c → Reach E c b → Reach E a b

pub reach_trans : {E : ℕ → ℕ → Type 0} {a b c : ℕ} → Reach E a b → Reach E b c → Reach E a c
reach_trans (step e) r = on e r
reach_trans (on e s) r = on e (reach_trans s r)

-- steps that E can make in several steps, E can make one after another
pub reach_bind : {E F : ℕ → ℕ → Type 0} → ((a b : ℕ) → F a b → Reach E a b) → {a b : ℕ} → Reach F a b → Reach E a b
reach_bind f (step {a} {b} e) = f a b e
reach_bind f (on {a} {b} {c} e r) = reach_trans (f a c e) (reach_bind f r)

pub reach_map : {E F : ℕ → ℕ → Type 0} → ((a b : ℕ) → F a b → E a b) → {a b : ℕ} → Reach F a b → Reach E a b
reach_map f r = reach_bind (λ a b e. step (f a b e)) r

pub from_reaches : {ws : List Wire} {a b : ℕ} → model.Reaches ws a b → Reach (Joined ws) a b
from_reaches (model.Reaches.step e) = step e
from_reaches (model.Reaches.on e r) = on e (from_reaches r)

pub to_reaches : {ws : List Wire} {a b : ℕ} → Reach (Joined ws) a b → model.Reaches ws a b
to_reaches (step e) = model.Reaches.step e
to_reaches (on e r) = model.Reaches.on e (to_reaches r)

-- where a wire leads to a greater place, so does every way
pub place_grows : {E : ℕ → ℕ → Type 0} (place : ℕ → ℕ) → ((a b : ℕ) → E a b → place a < place b) → {a b : ℕ} → Reach E a b → place a < place b
place_grows place f (step {a} {b} e) = f a b e
place_grows place f (on {a} {b} {c} e r) = lt_trans (f a c e) (place_grows place f r)

-- a way leaves a gate where every wire joins gates
pub leaves : {E : ℕ → ℕ → Type 0} {n : ℕ} → ((a b : ℕ) → E a b → (a < n) × (b < n)) → {a b : ℕ} → Reach E a b → a < n
leaves f (step {a} {b} e) = (f a b e).0
leaves f (on {a} {b} {c} e r) = (f a c e).0
