-- The order of ties (document 02, K8, in place of document 01, "Order of ties").
use Rattle.std.specs.Prelude.{List, ◌∷◌, ℕ, ◌<◌}

-- "Compare tied lists from gate n − 1 downwards; the smaller increase at the first difference comes first": the elements behind the first are compared before it, and gate 0 last.
pub data Before : List ℕ → List ℕ → Type 0 where
  behind : {a b : ℕ} {xs ys : List ℕ} → Before xs ys → Before (a ∷ xs) (b ∷ ys)
  here : {a b : ℕ} {xs : List ℕ} → a < b → Before (a ∷ xs) (b ∷ xs)
