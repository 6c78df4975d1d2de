-- The reduction as a function on a list of slots, which computes; and the verdict on a block that it leads to. It takes the same steps as `Step` (Slots).
use Rattle.std.specs.Prelude.{Bool, true, false, ◌&&◌, ◌||◌, not, List, ℕ, zero, suc, eqb, length, set}
use Rattle.std.proofs.Math.Option.{Option, none, some}
use Rattle.lists.specs.Search.{lesser}
use Rattle.model.specs.Block.{Block, gate_count, first, last}
use Rattle.model.specs.Part.{Shape, series, parallel}
use Rattle.parts.specs.Slots.{Slot, slot, empty, slots, wire_slots}

abbrev pub found : Bool → ℕ → Option ℕ → Option ℕ
found true k r = some k
found false k r = r

-- the greatest number below k that passes the test
unfoldable pub find : (ℕ → Bool) → ℕ → Option ℕ
find p zero = none
find p (suc k) = found (p k) k (find p k)

abbrev pub is_some : Option ℕ → Bool
is_some none = false
is_some (some i) = true

abbrev pub alone_of : (ℕ → Option ℕ) → Option ℕ → Option ℕ
alone_of others none = none
alone_of others (some i) = elim (others i) [ none ↦ some i | some j ↦ none ]

-- the only number below k that passes the test
unfoldable pub sole : (ℕ → Bool) → ℕ → Option ℕ
sole p k = alone_of (λ i. find (λ j. p j && not (eqb j i)) k) (find p k)

-- the only slot that leads to gate m, and the only one that leads from it
unfoldable pub slot_in : List Slot → ℕ → Option ℕ
slot_in L m = sole (λ i. (slots L i).live && eqb (slots L i).target m) (length L)

unfoldable pub slot_out : List Slot → ℕ → Option ℕ
slot_out L m = sole (λ i. (slots L i).live && eqb (slots L i).source m) (length L)

-- a slot from a to b
unfoldable pub slot_between : List Slot → ℕ → ℕ → Option ℕ
slot_between L a b = find (λ i. (slots L i).live && (eqb (slots L i).source a && eqb (slots L i).target b)) (length L)

-- gate m can go, which is neither of the two ends
unfoldable pub goes : ℕ → ℕ → List Slot → ℕ → Bool
goes a b L m = (not (eqb m a) && not (eqb m b)) && (is_some (slot_in L m) && is_some (slot_out L m))

-- Slots i and j become one from a to b of shape P: in i's place, or in that of a slot l from a to b that is there.
abbrev pub join : List Slot → ℕ → ℕ → ℕ → ℕ → Shape → Option ℕ → List Slot
join L i j a b P none = set (set L j empty) i (slot a P b)
join L i j a b P (some l) = set (set (set L j empty) i empty) l (slot a (parallel (slots L l).shape P) b)

abbrev pub taken_at : List Slot → ℕ → Option ℕ → Option ℕ → List Slot
taken_at L m none o = L
taken_at L m (some i) none = L
taken_at L m (some i) (some j) =
    join L i j (slots L i).source (slots L j).target (series (slots L i).shape m (slots L j).shape)
    (slot_between L (slots L i).source (slots L j).target)

-- what is left when gate m goes
unfoldable pub taken_away : List Slot → ℕ → List Slot
taken_away L m = taken_at L m (slot_in L m) (slot_out L m)

abbrev pub next : (List Slot → List Slot) → List Slot → Option ℕ → List Slot
next on L none = L
next on L (some m) = on (taken_away L m)

-- At most f gates below n, other than a and b, go one after another.
unfoldable pub reduce : ℕ → ℕ → ℕ → ℕ → List Slot → List Slot
reduce zero a b n L = L
reduce (suc f) a b n L = next (reduce f a b n) L (find (goes a b L) n)

-- what is left of a block when no gate can go
unfoldable pub remainder : Block → List Slot
remainder B = reduce (length B.wires) (first B) (last B) (gate_count B) (wire_slots B.wires)

-- the verdict: one gate, or one slot left
unfoldable pub reducible : Block → Bool
reducible B = eqb (gate_count B) 1 || is_some (sole (λ i. (slots (remainder B) i).live) (length (remainder B)))

-- the lowest gate to which a live one of the first k slots leads, or b where none leads to a lower one
unfoldable pub lowest_led : ℕ → ℕ → (ℕ → Slot) → ℕ
lowest_led zero b S = b
lowest_led (suc k) b S = lesser (S k).live (S k).target (lowest_led k b S)

-- the lowest gate left, where the block is not series-parallel
unfoldable pub gate_left : Block → ℕ
gate_left B = lowest_led (length (remainder B)) (last B) (slots (remainder B))
