-- An order of the gates along the wires, and how far it has been found.
use Rattle.std.specs.Prelude.{◌≡◌, Bool, true, false, List, ℕ, ◌≤◌, ◌<◌, get_or}
use Rattle.model.specs.Block.{Block, gate_count, Joined}
use Rattle.model.specs.Refusal.{OnLoop}

-- The first n elements of `order` name each gate once, and every wire leads from a smaller place to a greater: `place` says where a gate stands. `E a b`: a wire leads from a to b.
pub record Order (E : ℕ → ℕ → Type 0) (n : ℕ) (order : List ℕ) : Type 0 where
  pub place : ℕ → ℕ
  pub names_gate : (k : ℕ) → k < n → get_or order k 0 < n
  pub place_of : (k : ℕ) → k < n → place (get_or order k 0) ≡ k
  pub has_place : (g : ℕ) → g < n → place g < n
  pub stands_there : (g : ℕ) → g < n → get_or order (place g) 0 ≡ g
  pub forward : (a b : ℕ) → E a b → place a < place b

-- `count` gates are placed. A gate is placed when its element of `place` is below n, and then that is where it stands in `order`; every wire into it comes from a gate placed before.
pub record Placed (E : ℕ → ℕ → Type 0) (n : ℕ) (place order : List ℕ) (count : ℕ) : Type 0 where
  pub within : count ≤ n
  pub names_gate : (k : ℕ) → k < count → get_or order k 0 < n
  pub place_of : (k : ℕ) → k < count → get_or place (get_or order k 0) 0 ≡ k
  pub has_place : (g : ℕ) → g < n → get_or place g 0 < n → get_or place g 0 < count
  pub stands_there : (g : ℕ) → g < n → get_or place g 0 < n → get_or order (get_or place g 0) 0 ≡ g
  pub forward : (a b : ℕ) → E a b → get_or place b 0 < n → get_or place a 0 < get_or place b 0

-- `place` and `order` fit each other, whatever the wires.
abbrev pub Numbered : ℕ → List ℕ → List ℕ → ℕ → Type 0
Numbered n = Placed (λ (a b : ℕ). ⊥) n

-- Beyond its first n elements a list is as it was.
abbrev pub SameBeyond : ℕ → List ℕ → List ℕ → Type 0
SameBeyond n before after = (k : ℕ) → n ≤ k → get_or after k 0 ≡ get_or before k 0

-- an order was found, or there is none, since some gate reaches itself
abbrev pub OrderFound : Block → List ℕ → Bool → Type 0
OrderFound B order true = Order (Joined B.wires) (gate_count B) order
OrderFound B order false = (g : ℕ) × OnLoop B g
