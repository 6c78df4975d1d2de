-- Keys: a head has its key and no other.
-- Assumes nothing.
use mathlib.Core.Path.{◌≡◌}
use Prim.Native.Nat.{ℕ, ◌-◌, ◌/◌, ◌%◌, ◌<◌}
use native.Mathlib.Omega.{arith}
use Rattle.optimum.specs.Head.{Head}
use Rattle.ties.specs.Code.{ranks, of_key, key_of}

-- the rank in a key is below the number of ranks
pub rank_below : (key : ℕ) → ranks - 1 - key % ranks < ranks
rank_below key = omega arith

-- the key of the head of a key
pub key_back : (width key : ℕ) → key_of (of_key width key) ≡ key
key_back width key = omega arith

-- the head of the key of a head
pub head_back : (a : Head) → a.rank < ranks → of_key a.width (key_of a) ≡ a
head_back a l =
    let g : (key_of a) / ranks ≡ a.gain = omega arith in
    let r : ranks - 1 - key_of a % ranks ≡ a.rank = omega arith in
    λ t. record { width = a.width; gain = g t; rank = r t }
