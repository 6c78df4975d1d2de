-- What holds of the slots at every moment of the reduction (`Reducing`). The list of the gates taken away stands in no array: it is there for some list, so the order of takings is free.
use Rattle.std.specs.Prelude.{◌≡◌, ◌≢◌, ℕ}
use mathlib.Core.List.{List, [], Memᴰ}
use Rattle.model.specs.Part.{Inside, Part}
use Rattle.parts.specs.Reduction.{Left, Takes}
use Rattle.parts.specs.Slots.{Slot, Live, Carries}

-- the slot holds a part of the block whose ends are left and whose inside is taken away
pub record Fits (E : ℕ → ℕ → Type 0) (R : List ℕ) (s : Slot) : Type 0 where
  pub part : Part s.source s.target s.shape
  pub source_left : Left R s.source
  pub target_left : Left R s.target
  pub inside_gone : (g : ℕ) → Inside s.shape g → Memᴰ g R
  pub wires : (x y : ℕ) → Carries s x y → E x y

-- two slots share no gate inside and no wire
pub record Apart (s t : Slot) : Type 0 where
  pub no_gate : (g : ℕ) → Inside s.shape g → Inside t.shape g → ⊥
  pub no_wire : (x y : ℕ) → Carries s x y → Carries t x y → ⊥

-- the live slots S hold the block when the gates R are taken away
pub record Reduced (E : ℕ → ℕ → Type 0) (R : List ℕ) (S : ℕ → Slot) : Type 0 where
  pub fits : (i : ℕ) → Live (S i) → Fits E R (S i)
  pub covered : (x y : ℕ) → E x y → (i : ℕ) × Live (S i) × Carries (S i) x y
  pub apart : (i j : ℕ) → i ≢ j → Live (S i) → Live (S j) → Apart (S i) (S j)

-- no two live slots join the same gates
abbrev pub Single : (ℕ → Slot) → Type 0
Single S = (i j : ℕ) → Live (S i) → Live (S j) → (S i).source ≡ (S j).source → (S i).target ≡ (S j).target → i ≡ j

-- what holds at every moment: the gates taken away could go in some order
pub record Reducing (E : ℕ → ℕ → Type 0) (S : ℕ → Slot) : Type 0 where
  pub taken : List ℕ
  pub order : Takes E taken []
  pub reduced : Reduced E taken S
  pub single : Single S
