-- The tree of a node is made from those of its children (`tree_at`), and arrays that agree on the nodes below n have the same trees there (`grown`): appending a node keeps the old trees. Assumes nothing.
use mathlib.Core.Path.{◌≡◌, refl, sym, ◌∙◌, ap₂}
use mathlib.Core.Bool.{Bool, true, false}
use Prim.Native.Nat.{ℕ, zero, suc, ◌<◌}
use native.Mathlib.Omega.{arith}
use borrow.Author.Tests.{ltb-true, ltb-false, lt-ltb, le-ltb}
use lib.Dec.{ltb}
use lib.ListN.{get_or}
use Rattle.parts.specs.Nodes.{Tree, leaf, Nodes, node_tree, below, tree_of}

-- node n, made from the trees below it
made : Nodes → ℕ → Tree
made N n = node_tree (get_or N.kinds n 0) (below N n (get_or N.lefts n 0)) (get_or N.gates n 0) (below N n (get_or N.rights n 0))

below_lower : (N : Nodes) (n j : ℕ) → j < n → below N (suc n) j ≡ below N n j
unfolding below
below_lower N n j h = rw (lt-ltb j n h, below)

below_top : (N : Nodes) (n : ℕ) → below N (suc n) n ≡ made N n
unfolding below made
below_top N n = rw (le-ltb n n (omega arith), below)

below_tree : (N : Nodes) (n j : ℕ) → j < n → below N n j ≡ tree_of N j
unfolding tree_of
below_tree N zero j h = absurd (omega arith)
below_tree N (suc n) j h = go (ltb j n) refl (λ l. below_tree N n j l)
  where
    go : (t : Bool) → ltb j n ≡ t → (j < n → below N n j ≡ tree_of N j) → below N (suc n) j ≡ tree_of N j
    go true e ih = below_lower N n j (ltb-true j n e) ∙ ih (ltb-true j n e)
    go false e ih = let p : j ≡ n = omega (arith, ltb-false j n e) in rw p

-- The tree of a node whose children have smaller numbers.
pub tree_at :
    (N : Nodes) (i : ℕ)
    → get_or N.lefts i 0 < i
    → get_or N.rights i 0 < i
    → tree_of N i ≡ node_tree (get_or N.kinds i 0) (tree_of N (get_or N.lefts i 0)) (get_or N.gates i 0) (tree_of N (get_or N.rights i 0))
unfolding made
tree_at N i l r =
    unfold tree_of in below_top N i
    ∙ ap₂ (λ P Q. node_tree (get_or N.kinds i 0) P (get_or N.gates i 0) Q) (below_tree N i (get_or N.lefts i 0) l) (below_tree N i (get_or N.rights i 0) r)

pub tree_wire : (N : Nodes) (i : ℕ) → get_or N.kinds i 0 ≡ 0 → tree_of N i ≡ leaf (get_or N.gates i 0)
unfolding made tree_of
tree_wire N i e = below_top N i ∙ rw e

-- the node of number k is the same in both
pub record SameNode (N M : Nodes) (k : ℕ) : Type 0 where
  pub kind : get_or M.kinds k 0 ≡ get_or N.kinds k 0
  pub left : get_or M.lefts k 0 ≡ get_or N.lefts k 0
  pub gate : get_or M.gates k 0 ≡ get_or N.gates k 0
  pub right : get_or M.rights k 0 ≡ get_or N.rights k 0

below_grown : (N M : Nodes) (n : ℕ) → ((k : ℕ) → k < n → SameNode N M k) → (j : ℕ) → below M n j ≡ below N n j
unfolding below
below_grown N M zero h j = refl
below_grown N M (suc n) h j = go (ltb j n) refl (below_grown N M n (λ k l. h k (omega arith)))
  where
    top : SameNode N M n
    top = h n (omega arith)

    go : (t : Bool) → ltb j n ≡ t → ((j : ℕ) → below M n j ≡ below N n j) → below M (suc n) j ≡ below N (suc n) j
    go true e ih = rw (e, below) (ih j)
    go false e ih = rw (e, below, top.kind, top.left, top.gate, top.right, ih (get_or N.lefts n 0), ih (get_or N.rights n 0))

-- Arrays that agree on the nodes below n have the same trees there.
pub grown : (N M : Nodes) (n : ℕ) → ((k : ℕ) → k < n → SameNode N M k) → (i : ℕ) → i < n → tree_of M i ≡ tree_of N i
grown N M n h i l = sym (below_tree M n i l) ∙ below_grown N M n h i ∙ below_tree N n i l
