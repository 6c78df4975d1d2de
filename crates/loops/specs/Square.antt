-- A square of marks, one for each pair of gates, and which gates lead to which.
use Rattle.std.specs.Prelude.{◌≢◌, List, ℕ, suc, ◌+◌, ◌*◌, ◌<◌, get_or}
use Rattle.model.specs.Limits.{max_gates}

-- the place of the mark for the pair a, b
abbrev pub pair_place : ℕ → ℕ → ℕ
pair_place a b = a * max_gates + b

-- how many marks a square has
abbrev pub square_size : ℕ
square_size = max_gates * max_gates

-- the pair a, b is marked
abbrev pub Paired : List ℕ → ℕ → ℕ → Type 0
Paired square a b = get_or square (pair_place a b) 0 ≢ 0

-- The marks of the gates below n tell which pairs of them E joins.
pub record PairMarks (E : ℕ → ℕ → Type 0) (n : ℕ) (square : List ℕ) : Type 0 where
  pub right : (a b : ℕ) → a < n → b < n → Paired square a b → E a b
  pub whole : (a b : ℕ) → a < n → b < n → E a b → Paired square a b

-- a leads to b by one wire, or by several through gates below k alone
pub data Through (E : ℕ → ℕ → Type 0) (k : ℕ) : ℕ → ℕ → Type 0 where
  wire : {a b : ℕ} → E a b → Through E k a b
  via : {a b c : ℕ} → E a c → c < k → Through E k c b → Through E k a b

-- a pair of gates below n is marked
pub record Pair (n : ℕ) (square : List ℕ) (a b : ℕ) : Type 0 where
  pub first : a < n
  pub second : b < n
  pub mark : Paired square a b

-- While gate k is let through: every mark is right with gates below k + 1, none is missing with gates below k, and none is missing with gates below k + 1 in the rows above a and in the first b marks of row a. The wires are the marks of `start`.
pub record Closing (start : List ℕ) (n k a b : ℕ) (square : List ℕ) : Type 0 where
  pub right : (x y : ℕ) → x < n → y < n → Paired square x y → Through (Pair n start) (suc k) x y
  pub whole : (x y : ℕ) → x < n → y < n → Through (Pair n start) k x y → Paired square x y
  pub rows : (x y : ℕ) → x < a → x < n → y < n → Through (Pair n start) (suc k) x y → Paired square x y
  pub row : (y : ℕ) → y < b → y < n → Through (Pair n start) (suc k) a y → Paired square a y

-- The marks are right and whole once each gate below k is let through.
abbrev pub Closed : List ℕ → ℕ → ℕ → List ℕ → Type 0
Closed start n k = PairMarks (Through (Pair n start) k) n
