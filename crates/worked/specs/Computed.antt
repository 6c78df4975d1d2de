-- The outcome of each call for a file that cannot be read, or whose wires lead from lower to higher gate numbers: it computes.
-- The tree is the one that the reduction leaves (parts), the increases and the pairs are those of crate optimum.
use Rattle.std.specs.Prelude.{Bool, true, cond, List, [], ◌∷◌, map, ℕ, zero, suc, ◌+◌, ◌-◌, leb, ltb, eqb, ℤ, length, get_or, take}
use Rattle.std.proofs.Math.Option.{Option, none, some}
use Rattle.lists.specs.Over.{build, over}
use Rattle.model.specs.Limits.{max_pairs}
use Rattle.model.specs.Block.{Block, gate, gate_count, last, widths}
use Rattle.model.specs.Gain.{saving}
use Rattle.model.specs.InTime.{slowed}
use Rattle.model.specs.Curve.{Pair, all_ticks, count_off}
use Rattle.model.specs.Slack.{source_by, slack, start}
use Rattle.model.specs.File.{Reading, found, refused, read_block}
use Rattle.model.specs.Answer.{Outcome, refusal, accepted, Slices}
use Rattle.optimum.specs.Tree.{Tree}
use Rattle.optimum.specs.BlockTree.{whole_tree, lone_tree, start_of, increases, pairs_of}
use Rattle.parts.specs.Slots.{slots}
use Rattle.parts.specs.Reduce.{sole, remainder, gate_left}
use Rattle.parts.specs.Ascending.{ascending}
use Rattle.worked.specs.Call.{Call, find_slacks, judge_list, find_curve, find_best, find_ticks, Memory}

-- refusal k with place p, and the memory unchanged
abbrev pub refuses : {S : Type 0} → ℕ → ℕ → S → Outcome S
refuses k p lent = record { answer = refusal k p; memory = lent }

-- an accepted answer with its values, and the memory afterwards
abbrev pub gives : {S : Type 0} → List ℕ → S → Outcome S
gives values after = record { answer = accepted values; memory = after }

-- the tree of a block, where it is series-parallel: a lone gate, or the shape of the one slot that the reduction leaves
abbrev pub tree_left : Block → Option ℕ → Option Tree
tree_left B none = none
tree_left B (some i) = some (whole_tree B (slots (remainder B) i).shape)

unfoldable pub tree : Block → Option Tree
tree B =
    cond (eqb (gate_count B) 1) (some (lone_tree B)) (tree_left B (sole (λ i. (slots (remainder B) i).live) (length (remainder B))))

-- the lowest number below k that passes the test
abbrev pub first_of : Option ℕ → Bool → ℕ → Option ℕ
first_of (some i) passes k = some i
first_of none passes k = cond passes (some k) none

unfoldable pub lowest : (ℕ → Bool) → ℕ → Option ℕ
lowest p zero = none
lowest p (suc k) = first_of (lowest p k) (p k) k

abbrev pub slacks_of : Block → List ℤ → Outcome (List ℤ)
slacks_of B lent =
    cond (ltb (length lent) (gate_count B)) (refuses 10 (gate_count B) lent)
    (gives (gate_count B ∷ []) (over (build (gate_count B) (slack B)) lent))

-- how long the block lasts under the increases x
abbrev pub time_under : Block → List ℕ → ℕ
time_under B x = source_by (gate_count B) B.wires (slowed B x) 0 (last B)

-- judging, once it is known which gate exceeds its widths first
abbrev pub judged : Block → List ℕ → List ℕ → Option ℕ → Outcome (List ℕ)
judged B x lent (some g) = refuses 13 g lent
judged B x lent none =
    cond (ltb B.deadline (B.arrival + time_under B x)) (refuses 14 0 lent) (gives (saving B x ∷ []) lent)

-- gate g exceeds its widths
abbrev pub exceeds : Block → List ℕ → ℕ → Bool
exceeds B x g = ltb (widths (gate B g).steps) (get_or x g 0)

abbrev pub judge_of : Block → List ℕ → Outcome (List ℕ)
judge_of B lent =
    cond (ltb (length lent) (gate_count B)) (refuses 10 (gate_count B) lent)
    (judged B (take (gate_count B) lent) lent (lowest (exceeds B (take (gate_count B) lent)) (gate_count B)))

-- the curve by the block's tree
abbrev pub curve_by : Block → Slices → Option Tree → Outcome Slices
curve_by B lent none = refuses 11 (gate_left B) lent
curve_by B lent (some t) =
    gives (start_of B t ∷ saving B (increases B t 0) ∷ length (pairs_of B t) ∷ [])
    (record {
      for_widths = over (map (λ (p : Pair). p.width) (pairs_of B t)) lent.for_widths;
      for_gains = over (map (λ (p : Pair). p.gain) (pairs_of B t)) lent.for_gains;
    })

abbrev pub curve_of : Block → Slices → Outcome Slices
curve_of B lent =
    cond (ltb (length lent.for_widths) max_pairs) (refuses 10 max_pairs lent)
    (cond (ltb (length lent.for_gains) max_pairs) (refuses 10 max_pairs lent) (curve_by B lent (tree B)))

-- the increases by the block's tree: those after as many ticks as are spare
abbrev pub increases_by : Block → Tree → List ℕ
increases_by B t = increases B t (B.deadline - B.arrival - start_of B t)

abbrev pub best_by : Block → List ℕ → Option Tree → Outcome (List ℕ)
best_by B lent none = refuses 11 (gate_left B) lent
best_by B lent (some t) =
    cond (ltb B.deadline (B.arrival + start B)) (refuses 12 0 lent)
    (gives (saving B (increases_by B t) ∷ gate_count B ∷ []) (over (increases_by B t) lent))

abbrev pub best_of : Block → List ℕ → Outcome (List ℕ)
best_of B lent =
    cond (ltb (length lent) (gate_count B)) (refuses 10 (gate_count B) lent) (best_by B lent (tree B))

-- k ticks counted off the curve of the block's tree come to the wanted saving
abbrev pub reaches : Block → Tree → ℕ → ℕ → Bool
reaches B t wanted k = leb wanted (saving B (increases B t 0) + count_off (pairs_of B t) k)

-- the fewest ticks, once it is known which come to the wanted saving first
abbrev pub ticks_found : Option ℕ → Outcome (Unit {0})
ticks_found none = refuses 17 0 tt
ticks_found (some k) = gives (k ∷ []) tt

abbrev pub ticks_by : Block → ℕ → Option Tree → Outcome (Unit {0})
ticks_by B wanted none = refuses 11 (gate_left B) tt
ticks_by B wanted (some t) = ticks_found (lowest (reaches B t wanted) (suc (all_ticks (pairs_of B t))))

-- the outcome by what reading finds
abbrev pub by_reading : {S : Type 0} → Reading Block → S → (Block → S → Outcome S) → Outcome S
by_reading (found B o) lent further = further B lent
by_reading (refused k p) lent further = refuses k p lent

-- the outcome of a call
abbrev pub computed : (c : Call) → Outcome (Memory c)
computed (find_slacks file lent) = by_reading (read_block file) lent slacks_of
computed (judge_list file lent) = by_reading (read_block file) lent judge_of
computed (find_curve file lent) = by_reading (read_block file) lent curve_of
computed (find_best file lent) = by_reading (read_block file) lent best_of
computed (find_ticks file wanted) = by_reading (read_block file) tt (λ B lent. ticks_by B wanted (tree B))

-- the file cannot be read, or the wires of its block rise
abbrev pub rises : Reading Block → Bool
rises (found B o) = ascending B
rises (refused k p) = true
