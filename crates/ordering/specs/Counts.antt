-- An order of the gates found by counts: a gate is placed once every wire into it is passed, and a wire is passed when the gate that it comes from has its turn.
use Rattle.std.specs.Prelude.{◌≡◌, ◌≢◌, cond, List, ℕ, ◌+◌, ◌≤◌, ◌<◌, eqb, length, get_or, set}
use Rattle.lists.specs.Sum.{sum}
use Rattle.ordering.specs.Wires.{Lent, Wired}
use Rattle.ordering.specs.Order.{Placed, Numbered, SameBeyond}
use Rattle.ordering.specs.Chain.{Chained}

-- `ahead i` for a wire i to gate g, 0 for a wire to another gate
abbrev pub into : List ℕ → (ℕ → ℕ) → ℕ → ℕ → ℕ
into targets ahead g i = cond (eqb (get_or targets i 0) g) (ahead i) 0

-- how many of the first m wires lead to gate g
abbrev pub wires_into : List ℕ → ℕ → ℕ → ℕ
wires_into targets m g = sum m (into targets (λ (i : ℕ). 1) g)

-- What a visit to gate g does: it is placed next if no wire into it is left.
pub data Visit (g : ℕ) (left order : List ℕ) (count : ℕ) : List ℕ → ℕ → Type 0 where
  waits : get_or left g 0 ≢ 0 → Visit g left order count order count
  placed_now : get_or left g 0 ≡ 0 → Visit g left order count (set order count g) (count + 1)

-- Of the gates below g, those with 0 in `left` are placed, and no others; `order₀` is the list before.
pub record FreePlaced (n : ℕ) (left order₀ : List ℕ) (g : ℕ) (order : List ℕ) (count : ℕ) : Type 0 where
  pub place : List ℕ
  pub long : n ≤ length place
  pub numbered : Numbered n place order count
  pub free : (h : ℕ) → h < g → get_or left h 0 ≡ 0 → get_or place h 0 < n
  pub only : (h : ℕ) → h < n → get_or place h 0 < n → (h < g) × (get_or left h 0 ≡ 0)
  pub beyond : SameBeyond n order₀ order

-- The arrays as lent, with the wires chained by their sources.
pub record Linked (n m : ℕ) (sources targets heads links : List ℕ) : Type 0 where
  pub lent : Lent n m sources targets
  pub heads_long : n ≤ length heads
  pub links_long : m ≤ length links
  pub chained : Chained sources m heads links

-- Which wires are passed: those with `ahead i` 0 are the wires from the first `done` gates of the order and, of the wires from the gate at place `done`, those from number `next` on; for all others it is 1.
pub record Passed (m : ℕ) (sources place : List ℕ) (ahead : ℕ → ℕ) (done next : ℕ) : Type 0 where
  pub at_most : (i : ℕ) → ahead i ≤ 1
  pub passed : (i : ℕ) → i < m → ahead i ≡ 0 → get_or place (get_or sources i 0) 0 ≤ done
  pub passed_before : (i : ℕ) → i < m → ahead i ≡ 0 → i < next → get_or place (get_or sources i 0) 0 < done
  pub waiting : (i : ℕ) → i < m → ahead i ≡ 1 → done ≤ get_or place (get_or sources i 0) 0
  pub waiting_after : (i : ℕ) → i < m → ahead i ≡ 1 → next ≤ i → done < get_or place (get_or sources i 0) 0

-- `count` gates are placed along the wires, and the wires are passed as `Passed` says: `left` holds for each gate the number of wires into it that are not, and the gates with none left are those that are placed.
pub record Counted (n m : ℕ) (sources targets left order : List ℕ) (count done next : ℕ) : Type 0 where
  pub place : List ℕ
  pub long : n ≤ length place
  pub placed : Placed (Wired m sources targets) n place order count
  pub turn : done ≤ count
  pub ahead : ℕ → ℕ
  pub so_far : Passed m sources place ahead done next
  pub left_is : (g : ℕ) → g < n → get_or left g 0 ≡ sum m (into targets ahead g)
  pub free : (g : ℕ) → g < n → get_or left g 0 ≡ 0 → get_or place g 0 < n
  pub only : (g : ℕ) → g < n → get_or place g 0 < n → get_or left g 0 ≡ 0
