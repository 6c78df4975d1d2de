-- The tree of a block: of the part that the block is, with the first and the last gate in series; and what makes a tree a tree of the block.
use Rattle.std.specs.Prelude.{◌≡◌, cond, List, [], ◌∷◌, ℕ, ◌+◌, ◌≤◌, ◌<◌, max, eqb, length, get_or}
use Rattle.lists.specs.Sum.{sum}
use Rattle.model.specs.Block.{Wire, Block, gate_count, gate, first, last, Joined}
use Rattle.model.specs.Path.{Longest}
use Rattle.model.specs.Gain.{drop_of}
use Rattle.model.specs.Part.{Shape, SeriesParallel, lone, built}
use Rattle.model.specs.InTime.{drawn}
use Rattle.model.specs.Curve.{Pair}
use Rattle.optimum.specs.Tree.{Tree, count, Once, Below, zeros, longest}
use Rattle.optimum.specs.Increases.{read, sized}
use Rattle.optimum.specs.Gates.{gate_head}
use Rattle.optimum.specs.Runs.{runs_list, joined}

-- the delay of the slowest wire from a to b
unfoldable pub wire_delay : List Wire → ℕ → ℕ → ℕ
wire_delay [] a b = 0
wire_delay (w ∷ ws) a b =
    cond (eqb w.source a) (cond (eqb w.target b) (max w.delay (wire_delay ws a b)) (wire_delay ws a b)) (wire_delay ws a b)

-- the tree of the part P from a to b
abbrev pub tree_of : List Wire → Shape → ℕ → ℕ → Tree
tree_of ws Shape.wire a b = Tree.wire (wire_delay ws a b)
tree_of ws (Shape.series P m Q) a b = Tree.series (tree_of ws P a m) m (tree_of ws Q m b)
tree_of ws (Shape.parallel P Q) a b = Tree.parallel (tree_of ws P a b) (tree_of ws Q a b)

-- the tree of a block that is the part P: its first gate, the part and its last gate in series, with ends that take no time
abbrev pub whole_tree : Block → Shape → Tree
whole_tree B P =
    Tree.series (Tree.wire 0) (first B) (Tree.series (tree_of B.wires P (first B) (last B)) (last B) (Tree.wire 0))

-- the tree of a block of one gate
abbrev pub lone_tree : Block → Tree
lone_tree B = Tree.series (Tree.wire 0) (first B) (Tree.wire 0)

-- the tree of a series-parallel block
abbrev pub block_tree : (B : Block) → SeriesParallel B → Tree
block_tree B (lone single no_wire) = lone_tree B
block_tree B (built P whole) = whole_tree B P

-- every wire joins two gates of the block
abbrev pub WiresJoinGates : Block → Type 0
WiresJoinGates B = (u v : ℕ) → Joined B.wires u v → (u < gate_count B) × (v < gate_count B)

-- no wire stands twice
abbrev pub NoneTwice : List Wire → Type 0
NoneTwice [] = Unit {0}
NoneTwice (w ∷ ws) = ¬ (Joined ws w.source w.target) × NoneTwice ws

-- t is a tree of the block: every gate stands in it once, no other does, and it lasts as long as a longest path, under any delays and increases.
pub record IsTree (B : Block) (t : Tree) : Type 0 where
  pub once : Once t
  pub below : Below (gate_count B) t
  pub all : (g : ℕ) → g < gate_count B → count t g ≡ 1
  pub lasts : (d : ℕ → ℕ) (x : List ℕ) → Longest B.wires (λ (g : ℕ). d g + get_or x g 0) (first B) (last B) (longest d t (read t x))

-- how long the block lasts with no increase
abbrev pub start_of : Block → Tree → ℕ
start_of B t = longest (drawn B) t (zeros t)

-- the list of increases after k ticks from the raised start
abbrev pub increases : Block → Tree → ℕ → List ℕ
increases B t = sized (drawn B) (gate_head B) t (gate_count B)

-- the steps of all gates
unfoldable pub step_count : Block → ℕ
step_count B = sum (gate_count B) (λ (g : ℕ). length (gate B g).steps)

-- the record of gains from the raised start on, with room for as many runs as there are steps
abbrev pub gains_of : Block → Tree → List Pair
gains_of B t = runs_list (gate_head B) t (step_count B) (increases B t 0)

-- the pairs of the block's curve
abbrev pub pairs_of : Block → Tree → List Pair
pairs_of B t = joined (gains_of B t)

-- activities are at most A, drops at most D
pub record Ranges (B : Block) (A D : ℕ) : Type 0 where
  pub input : B.activity ≤ A
  pub nets : (g : ℕ) → (gate B g).activity ≤ A
  pub drops : (g k : ℕ) → drop_of (gate B g).steps k ≤ D
