-- What holds of the arrays while gates go, and what a turn of the queue does.
use Rattle.std.specs.Prelude.{◌≡◌, List, ℕ, ◌+◌, ◌*◌, ◌≤◌, ◌<◌, length, get_or}
use Rattle.model.specs.Block.{Block, gate_count, Joined}
use Rattle.parts.specs.Slots.{Finished}
use Rattle.parts.specs.Invariant.{Reducing}
use Rattle.parts.specs.Network.{Network}
use Rattle.tallies.specs.Queue.{tail_after, CanGo}
use Rattle.tallies.specs.Tallies.{share, end_gates, TalliedBy, settled, kept_share}
use Rattle.reduction.specs.Arrays.{Arrays, held, Formed, Room, Chosen, Went}

-- With n gates, k slots and c nodes, the arrays hold a moment of the reduction of N.
pub record Going (N : Block) (n k c : ℕ) (A : Arrays) : Type 0 where
  pub gates : gate_count N ≡ n
  pub reducing : Reducing (Joined N.wires) (held k A)
  pub formed : Formed N.wires k c A

-- the same of some network
pub record Sound (n k c : ℕ) (A : Arrays) : Type 0 where
  pub block : Block
  pub network : Network block
  pub going : Going block n k c A

-- how many of the n gates some live slot leaves
abbrev pub sending : ℕ → ℕ → Arrays → ℕ
sending n k A = end_gates A.lives A.froms k n

-- The arrays have room for every node that may come, and their gates are below n. A gate that goes adds at most two nodes, and then no live slot leaves it.
pub record Ready (n k c : ℕ) (A : Arrays) : Type 0 where
  pub room : Room k (k + (n + n)) A
  pub from_below : (i : ℕ) → i < k → get_or A.froms i 0 < n
  pub to_below : (i : ℕ) → i < k → get_or A.tos i 0 < n
  pub budget : c + 2 * sending n k A ≤ k + (n + n)

-- the tallies of the n gates are right
pub record Tallied (n k : ℕ) (A : Arrays) (ins outs : List ℕ) : Type 0 where
  pub ins_right : TalliedBy A.lives A.tos n k ins
  pub outs_right : TalliedBy A.lives A.froms n k outs

-- Every gate that can go, but a and b, stands in the queue from `head` on, at its place.
pub record Queued (n a b : ℕ) (ins outs queue places : List ℕ) (head tail : ℕ) : Type 0 where
  pub gates : (q : ℕ) → q < tail → get_or queue q 0 < n
  pub waits : (g : ℕ) → g < n → CanGo ins outs a b g → (head ≤ get_or places g 0) × (get_or places g 0 < tail) × (get_or queue (get_or places g 0) 0 ≡ g)

-- Gate m has gone, between u and v; the tallies have followed.
pub record Removed (k c m i j u v : ℕ) (A B : Arrays) (ins outs ins' outs' : List ℕ) (r : ℕ) : Type 0 where
  pub went : Went k c m i j A B r
  pub ins_settled : ins' ≡ settled m v (share j) (kept_share c r i) ins
  pub outs_settled : outs' ≡ settled m u (share i) (kept_share c r i) outs

-- a gate has gone, from the arrays A with c nodes to the arrays B with r nodes; or none
pub data Turned (k c : ℕ) (A B : Arrays) (r : ℕ) : Type 0 where
  stays : B ≡ A → r ≡ c → Turned k c A B r
  goes : (m i j : ℕ) → Chosen k A m i j → Went k c m i j A B r → Turned k c A B r

-- The queue's gate at `head` has had its turn: tallies and queue are right again.
pub record Visited (n k a b c head tail : ℕ) (A B : Arrays) (ins outs queue places : List ℕ) (r : ℕ) : Type 0 where
  pub turned : Turned k c A B r
  pub tallied : Tallied n k B ins outs
  pub queued : Queued n a b ins outs queue places (head + 1) (tail_after c r tail)

-- The reduction's end, from the arrays A to the arrays B with r nodes: of whatever network A was the beginning, B is a moment at which no gate but a and b can go. The arrays of the nodes are as long as before.
pub record Ended (n k a b : ℕ) (A B : Arrays) (r : ℕ) : Type 0 where
  pub ready : Ready n k r B
  pub kinds_kept : length B.tree.kinds ≡ length A.tree.kinds
  pub stands : (N : Block) → Network N → Going N n k k A → Going N n k r B × Finished (held k B) a b
