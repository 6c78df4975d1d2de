-- The state of the reduction: the wires left, in slots of fixed place with a live flag, each with the part that it stands for; and the step that takes one gate away.
-- Slots are never moved, so a slot is named by its number. Slots beyond those in use are dead.
use Rattle.std.specs.Prelude.{◌≡◌, ◌≢◌, Bool, true, false, cond, List, [], ◌∷◌, ℕ, zero, suc, ◌+◌, get_or}
use Rattle.model.specs.Block.{Wire}
use Rattle.model.specs.Part.{Shape, wire, series, parallel, HasWire}
use Rattle.parts.specs.Reduction.{Only}

-- a wire that is left, from `source` to `target`, and the shape of the part that it stands for
pub record Slot : Type 0 where
  pub live : Bool
  pub source : ℕ
  pub target : ℕ
  pub shape : Shape

-- a live slot: the part P from a to b
abbrev pub slot : ℕ → Shape → ℕ → Slot
slot a P b = record { live = true; source = a; target = b; shape = P }

-- a dead slot
abbrev pub empty : Slot
empty = record { live = false; source = 0; target = 0; shape = wire }

abbrev pub Live : Slot → Type 0
Live s = s.live ≡ true

-- the wire from x to y of the block is in the slot's part
abbrev pub Carries : Slot → ℕ → ℕ → Type 0
Carries s x y = HasWire s.shape s.source s.target x y

-- the slots of a list, with dead slots behind them
abbrev pub slots : List Slot → ℕ → Slot
slots L i = get_or L i empty

-- a slot for each wire
unfoldable pub wire_slots : List Wire → List Slot
wire_slots [] = []
wire_slots (w ∷ ws) = slot w.source wire w.target ∷ wire_slots ws

-- at first every wire of the block is left
abbrev pub initial : List Wire → ℕ → Slot
initial ws = slots (wire_slots ws)

-- exactly one live slot leads to gate m
abbrev pub OneIn : (ℕ → Slot) → ℕ → Type 0
OneIn S m = Only (λ i. Live (S i) × ((S i).target ≡ m))

-- exactly one live slot leads from gate m
abbrev pub OneOut : (ℕ → Slot) → ℕ → Type 0
OneOut S m = Only (λ i. Live (S i) × ((S i).source ≡ m))

-- Gate m can go: slot i, from a, is its only one in, and slot j, to b, its only one out.
pub record Between (S : ℕ → Slot) (m i j a b : ℕ) (P Q : Shape) : Type 0 where
  pub into : S i ≡ slot a P m
  pub out : S j ≡ slot m Q b
  pub only_in : (k : ℕ) → Live (S k) → (S k).target ≡ m → k ≡ i
  pub only_out : (k : ℕ) → Live (S k) → (S k).source ≡ m → k ≡ j

-- In T the two slots i and j of S have become one, s at i.
pub record Merged (S : ℕ → Slot) (i j : ℕ) (s : Slot) (T : ℕ → Slot) : Type 0 where
  pub joined : T i ≡ s
  pub gone : ¬ (Live (T j))
  pub kept : (k : ℕ) → k ≢ i → k ≢ j → T k ≡ S k

-- Gate m goes, and T is what is left: its two slots become one from a to b, in series; or, where a slot l from a to b is there already, that one takes them up, in parallel.
pub data Step (S : ℕ → Slot) (m : ℕ) (T : ℕ → Slot) : Type 0 where
  alone :
      {i j a b : ℕ} {P Q : Shape}
      → Between S m i j a b P Q
      → ((k : ℕ) → Live (S k) → (S k).source ≡ a → (S k).target ≡ b → ⊥)
      → Merged S i j (slot a (series P m Q) b) T
      → Step S m T
  onto :
      {i j l a b : ℕ} {P Q O : Shape}
      → Between S m i j a b P Q
      → S l ≡ slot a O b
      → T l ≡ slot a (parallel O (series P m Q)) b
      → ¬ (Live (T i))
      → ¬ (Live (T j))
      → ((k : ℕ) → k ≢ i → k ≢ j → k ≢ l → T k ≡ S k)
      → Step S m T

-- no gate but the two ends can go
abbrev pub Finished : (ℕ → Slot) → ℕ → ℕ → Type 0
Finished S a b = (m : ℕ) → m ≢ a → m ≢ b → OneIn S m → OneOut S m → ⊥

-- how many of the first n slots are live
unfoldable pub live_count : ℕ → (ℕ → Slot) → ℕ
live_count zero S = 0
live_count (suc n) S = cond (S n).live 1 0 + live_count n S

-- no live slot leads from a gate to itself
abbrev pub Straight : (ℕ → Slot) → Type 0
Straight S = (k : ℕ) → Live (S k) → (S k).source ≢ (S k).target
