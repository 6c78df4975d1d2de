-- Which gates can go by their tallies, and the queue in which they wait.
use Rattle.std.specs.Prelude.{◌≡◌, ◌≢◌, cond, List, ℕ, ◌+◌, ◌≤◌, ◌<◌, eqb, get_or}
use Rattle.model.specs.Limits.{max_gates, max_wires}

-- turns in the queue, at most: one for each gate, and two for each gate that goes
abbrev pub max_turns : ℕ
max_turns = max_gates + (max_gates + max_gates)

-- a tally of one slot
pub record One (t : ℕ) : Type 0 where
  pub some : max_wires ≤ t
  pub no_two : t < max_wires + max_wires

-- By the tallies, gate m can go, which is neither a nor b: one slot leads to it and one from it.
pub record CanGo (ins outs : List ℕ) (a b m : ℕ) : Type 0 where
  pub not_first : m ≢ a
  pub not_last : m ≢ b
  pub one_in : One (get_or ins m 0)
  pub one_out : One (get_or outs m 0)

-- the n gates in the queue, in their order
abbrev pub LinedUp : ℕ → List ℕ → List ℕ → Type 0
LinedUp n queue places = (g : ℕ) → g < n → (get_or queue g 0 ≡ g) × (get_or places g 0 ≡ g)

-- gate m, which the queue has at `head`, has its place there, and can go
pub record Waits (ins outs places : List ℕ) (a b head m : ℕ) : Type 0 where
  pub place : get_or places m 0 ≡ head
  pub can : CanGo ins outs a b m

-- the queue's tail once two gates have joined it, where a gate has gone
abbrev pub tail_after : ℕ → ℕ → ℕ → ℕ
tail_after c r tail = cond (eqb r c) tail (tail + 2)
