-- The cases of document 01, "Blocks tried by hand", that are marked P, as rows of one table in the document's order; behind them D with wires that take time (document 02, K2) blocks with measured activities (K3) and the fewest ticks for a wanted saving (K6), worked out by hand.
-- Every p is 128, but in the blocks of K3; arrival is 0. Where the document leaves them free, chosen here: delay 1 for the gates of the bridge, the triangle and 001's chain, no steps for those of the bridge and the triangle; deadline 9 for these and for 001's parallel gates (in a curve it plays no part).
-- Lent slices are filled with 9 and, but for the empty file, one element longer than needed: a row shows that what lies beyond is unchanged.
use Rattle.std.specs.Prelude.{List, [], ◌∷◌, ◌++◌, ℕ, ◌+◌, ◌-◌, ◌*◌, pos, replicate}
use Rattle.model.specs.Limits.{max_pairs}
use Rattle.model.specs.Block.{Step, Wire}
use Rattle.model.specs.Netlist.{DrawnGate, Netlist}
use Rattle.model.specs.File.{encode}
use Rattle.model.specs.Answer.{Slices}
use Rattle.worked.specs.Call.{find_slacks, judge_list, find_curve, find_best, find_ticks, Row}
use Rattle.worked.specs.Computed.{refuses, gives}

-- a wire's activity, "U = 32,768"
abbrev pub U : ℕ
U = 32768

abbrev step : ℕ → ℕ → Step
step w d = record { width = w; drop = d }

-- a gate of delay d whose net has the number v in the file, and one with p = 128
abbrev gate_with : ℕ → ℕ → List Step → DrawnGate
gate_with v d ss = record { delay = d; switching = v; steps = ss }

abbrev gate : ℕ → List Step → DrawnGate
gate = gate_with 128

abbrev to : ℕ → ℕ → Wire
to a b = record { source = a; target = b; delay = 0 }

-- the same wire with a delay
abbrev to_in : ℕ → ℕ → ℕ → Wire
to_in a b ticks = record { source = a; target = b; delay = ticks }

-- a block with these gates and wires, in an edition with the number v for the input
abbrev netlist_in : ℕ → ℕ → ℕ → List DrawnGate → List Wire → Netlist
netlist_in edition v deadline gs ws =
    record { edition = edition; arrival = 0; deadline = deadline; switching = v; gates = gs; wires = ws }

-- its file, and its file in edition 1 with p = 128
abbrev file_in : ℕ → ℕ → ℕ → List DrawnGate → List Wire → List ℕ
file_in edition v deadline gs ws = encode (netlist_in edition v deadline gs ws)

abbrev file : ℕ → List DrawnGate → List Wire → List ℕ
file = file_in 1 128

-- the four wires of a diamond
abbrev diamond_wires : List Wire
diamond_wires = to 0 1 ∷ to 0 2 ∷ to 1 3 ∷ to 2 3 ∷ []

-- "D: delays 2, 3, 1, 2; steps none; (2,5),(3,2); (4,4); (5,6); wires 0-1, 0-2, 1-3, 2-3", with the numbers of its nets
abbrev diamond_gates : ℕ → ℕ → ℕ → ℕ → List DrawnGate
diamond_gates v w x y =
    gate_with v 2 [] ∷ gate_with w 3 (step 2 5 ∷ step 3 2 ∷ []) ∷ gate_with x 1 (step 4 4 ∷ []) ∷ gate_with y 2 (step 5 6 ∷ []) ∷ []

-- D in an edition with the number v for the input and for each net, and its file; in edition 1 with p = 128
abbrev pub diamond_netlist : ℕ → ℕ → ℕ → Netlist
diamond_netlist edition v deadline = netlist_in edition v deadline (diamond_gates v v v v) diamond_wires

abbrev diamond_in : ℕ → ℕ → ℕ → List ℕ
diamond_in edition v deadline = encode (diamond_netlist edition v deadline)

abbrev diamond : ℕ → List ℕ
diamond = diamond_in 1 128

-- D in edition 2 with deadline 12, its wires in the same order with these delays, and its file
abbrev pub delayed_netlist : ℕ → ℕ → ℕ → ℕ → Netlist
delayed_netlist a b c d =
    netlist_in 2 128 12 (diamond_gates 128 128 128 128) (to_in 0 1 a ∷ to_in 0 2 b ∷ to_in 1 3 c ∷ to_in 2 3 d ∷ [])

abbrev delayed_diamond : ℕ → ℕ → ℕ → ℕ → List ℕ
delayed_diamond a b c d = encode (delayed_netlist a b c d)

-- "one gate, delay 5, step (2,3), deadline 8"
abbrev one_gate : List ℕ
one_gate = file 8 (gate 5 (step 2 3 ∷ []) ∷ []) []

-- "chain of two, delays 1, steps (4,3) each"
abbrev chain_of_two : ℕ → List ℕ
chain_of_two deadline = file deadline (gate 1 (step 4 3 ∷ []) ∷ gate 1 (step 4 3 ∷ []) ∷ []) (to 0 1 ∷ [])

abbrev plain : DrawnGate
plain = gate 1 []

-- "wires 0-1, 0-2, 1-2, 1-3, 2-3"
abbrev bridge : List ℕ
bridge = file 9 (plain ∷ plain ∷ plain ∷ plain ∷ []) (to 0 1 ∷ to 0 2 ∷ to 1 2 ∷ to 1 3 ∷ to 2 3 ∷ [])

-- "wires 0-1, 1-2, 0-2"
abbrev triangle : List ℕ
triangle = file 9 (plain ∷ plain ∷ plain ∷ []) (to 0 1 ∷ to 1 2 ∷ to 0 2 ∷ [])

-- the step lists of 001's examples
abbrev first_steps : List Step
first_steps = step 3 28 ∷ step 5 24 ∷ step 3 21 ∷ []

abbrev second_steps : List Step
second_steps = step 2 24 ∷ step 4 23 ∷ []

-- "001's chain, steps (3,28),(5,24),(3,21); (2,24),(4,23); (9,26)"
abbrev chain_of_three : ℕ → ℕ → List ℕ
chain_of_three edition v =
    file_in edition v 9 (gate_with v 1 first_steps ∷ gate_with v 1 second_steps ∷ gate_with v 1 (step 9 26 ∷ []) ∷ []) (to 0 1 ∷ to 1 2 ∷ [])

-- "001's parallel gates, delays 3 and 2, the first two lists above, between stepless gates of delay 0"
abbrev parallel_gates : ℕ → ℕ → List ℕ
parallel_gates edition v =
    file_in edition v 9 (gate_with v 0 [] ∷ gate_with v 3 first_steps ∷ gate_with v 2 second_steps ∷ gate_with v 0 [] ∷ []) diamond_wires

-- a slice of so many nines
abbrev nines : ℕ → List ℕ
nines n = replicate n 9

-- two slices of so many nines
abbrev nine_slices : ℕ → Slices
nine_slices n = record { for_widths = nines n; for_gains = nines n }

-- the two slices of one element more than a curve can have pairs, with these five in front
abbrev pairs : List ℕ → List ℕ → Slices
pairs ws gs = record { for_widths = ws ++ nines (max_pairs - 4); for_gains = gs ++ nines (max_pairs - 4) }

unfoldable pub table : List Row
table =
    -- "empty file: 1, 0", whatever the call
    record { call = find_slacks [] (pos 9 ∷ []); expected = refuses 1 0 (pos 9 ∷ []) }
    ∷ record { call = judge_list [] (nines 4); expected = refuses 1 0 (nines 4) }
    ∷ record { call = find_curve [] (nine_slices 4); expected = refuses 1 0 (nine_slices 4) }
    ∷ record { call = find_best [] (nines 4); expected = refuses 1 0 (nines 4) }
    -- "D with deadline 10: increases 0 0 2 3, saving 44U"
    ∷ record { call = find_best (diamond 10) (nines 5); expected = gives (44 * U ∷ 4 ∷ []) (0 ∷ 0 ∷ 2 ∷ 3 ∷ 9 ∷ []) }
    -- "Deadline 14: 0 2 4 5, saving 86U = 2,818,048"
    ∷ record { call = find_best (diamond 14) (nines 5); expected = gives (2818048 ∷ 4 ∷ []) (0 ∷ 2 ∷ 4 ∷ 5 ∷ 9 ∷ []) }
    -- "D with 7: 0 0 2 0, saving 8U. With 6: 12"
    ∷ record { call = find_best (diamond 7) (nines 5); expected = gives (8 * U ∷ 4 ∷ []) (0 ∷ 0 ∷ 2 ∷ 0 ∷ 9 ∷ []) }
    ∷ record { call = find_best (diamond 6) (nines 5); expected = refuses 12 0 (nines 5) }
    -- "judging on D with 10: 0 0 0 3 saves 36U; 0 0 2 4 gets 14; 0 6 0 0 gets 13 at gate 1"
    ∷ record { call = judge_list (diamond 10) (0 ∷ 0 ∷ 0 ∷ 3 ∷ 9 ∷ []); expected = gives (36 * U ∷ []) (0 ∷ 0 ∷ 0 ∷ 3 ∷ 9 ∷ []) }
    ∷ record { call = judge_list (diamond 10) (0 ∷ 0 ∷ 2 ∷ 4 ∷ 9 ∷ []); expected = refuses 14 0 (0 ∷ 0 ∷ 2 ∷ 4 ∷ 9 ∷ []) }
    ∷ record { call = judge_list (diamond 10) (0 ∷ 6 ∷ 0 ∷ 0 ∷ 9 ∷ []); expected = refuses 13 1 (0 ∷ 6 ∷ 0 ∷ 0 ∷ 9 ∷ []) }
    -- "one gate, delay 5, step (2,3), deadline 8: increase 2, saving 6U"
    ∷ record { call = find_best one_gate (nines 2); expected = gives (6 * U ∷ 1 ∷ []) (2 ∷ 9 ∷ []) }
    -- "chain of two, delays 1, steps (4,3) each", deadlines 5 and 8: "now gives 3 0 and 4 2" (document 02, K8)
    ∷ record { call = find_best (chain_of_two 5) (nines 3); expected = gives (9 * U ∷ 2 ∷ []) (3 ∷ 0 ∷ 9 ∷ []) }
    ∷ record { call = find_best (chain_of_two 8) (nines 3); expected = gives (18 * U ∷ 2 ∷ []) (4 ∷ 2 ∷ 9 ∷ []) }
    -- "wires 0-1, 0-2, 1-2, 1-3, 2-3: 11", whether the curve or the best increases are asked for; "the bridge case in document 01 now gives 11 with 1" (document 02, K1)
    ∷ record { call = find_best bridge (nines 5); expected = refuses 11 1 (nines 5) }
    ∷ record { call = find_curve bridge (nine_slices (max_pairs + 1)); expected = refuses 11 1 (nine_slices (max_pairs + 1)) }
    -- "Wires 0-1, 1-2, 0-2: series-parallel", so that both are given
    ∷ record { call = find_best triangle (nines 4); expected = gives (0 ∷ 3 ∷ []) (0 ∷ 0 ∷ 0 ∷ 9 ∷ []) }
    ∷ record { call = find_curve triangle (nine_slices (max_pairs + 1)); expected = gives (3 ∷ 0 ∷ 0 ∷ []) (nine_slices (max_pairs + 1)) }
    -- "001's chain: pairs (3,28),(9,26),(7,24),(4,23),(3,21), gains in U"
    ∷ record {
      call = find_curve (chain_of_three 1 128) (nine_slices (max_pairs + 1));
      expected = gives (3 ∷ 0 ∷ 5 ∷ []) (pairs (3 ∷ 9 ∷ 7 ∷ 4 ∷ 3 ∷ []) (28 * U ∷ 26 * U ∷ 24 * U ∷ 23 * U ∷ 21 * U ∷ []));
    }
    -- "001's parallel gates: start 3, 24U at start, pairs (1,52),(2,51),(2,47),(3,24),(3,21)"
    ∷ record {
      call = find_curve (parallel_gates 1 128) (nine_slices (max_pairs + 1));
      expected = gives (3 ∷ 24 * U ∷ 5 ∷ []) (pairs (1 ∷ 2 ∷ 2 ∷ 3 ∷ 3 ∷ []) (52 * U ∷ 51 * U ∷ 47 * U ∷ 24 * U ∷ 21 * U ∷ []));
    }
    -- K2: wire delays 1, 0, 0 and 2. The path over gate 1 lasts 8 ticks and the one over gate 2 lasts 7, so that gate 2 has one tick more
    ∷ record {
      call = find_slacks (delayed_diamond 1 0 0 2) (pos 9 ∷ pos 9 ∷ pos 9 ∷ pos 9 ∷ pos 9 ∷ []);
      expected = gives (4 ∷ []) (pos 4 ∷ pos 4 ∷ pos 5 ∷ pos 4 ∷ pos 9 ∷ []);
    }
    ∷ record { call = judge_list (delayed_diamond 1 0 0 2) (0 ∷ 0 ∷ 1 ∷ 4 ∷ 9 ∷ []); expected = gives (52 * U ∷ []) (0 ∷ 0 ∷ 1 ∷ 4 ∷ 9 ∷ []) }
    ∷ record { call = judge_list (delayed_diamond 1 0 0 2) (0 ∷ 0 ∷ 2 ∷ 4 ∷ 9 ∷ []); expected = refuses 14 0 (0 ∷ 0 ∷ 2 ∷ 4 ∷ 9 ∷ []) }
    ∷ record {
      call = find_curve (delayed_diamond 1 0 0 2) (nine_slices (max_pairs + 1));
      expected = gives (8 ∷ 4 * U ∷ 4 ∷ []) (pairs (5 ∷ 2 ∷ 1 ∷ 2 ∷ 9 ∷ []) (12 * U ∷ 9 * U ∷ 6 * U ∷ 2 * U ∷ 9 ∷ []));
    }
    ∷ record { call = find_best (delayed_diamond 1 0 0 2) (nines 5); expected = gives (52 * U ∷ 4 ∷ []) (0 ∷ 0 ∷ 1 ∷ 4 ∷ 9 ∷ []) }
    -- K2: wire delay 4 on the way to gate 2, whose path is now the longer, 9 ticks to 7
    ∷ record { call = find_best (delayed_diamond 0 4 0 0) (nines 5); expected = gives (46 * U ∷ 4 ∷ []) (0 ∷ 2 ∷ 0 ∷ 3 ∷ 9 ∷ []) }
    -- K3, "compared with 001 by these counts": 001's chain and parallel gates, every activity 1. The gains are the paper's own numbers
    ∷ record {
      call = find_curve (chain_of_three 3 1) (nine_slices (max_pairs + 1));
      expected = gives (3 ∷ 0 ∷ 5 ∷ []) (pairs (3 ∷ 9 ∷ 7 ∷ 4 ∷ 3 ∷ []) (28 ∷ 26 ∷ 24 ∷ 23 ∷ 21 ∷ []));
    }
    ∷ record {
      call = find_curve (parallel_gates 3 1) (nine_slices (max_pairs + 1));
      expected = gives (3 ∷ 24 ∷ 5 ∷ []) (pairs (1 ∷ 2 ∷ 2 ∷ 3 ∷ 3 ∷ []) (52 ∷ 51 ∷ 47 ∷ 24 ∷ 21 ∷ []));
    }
    -- K3: input activity 1, nets 3, 5, 7 and 11. A tick saves 3 × 4 at gate 2 and (5 + 7) × 6 at gate 3
    ∷ record { call = find_best (file_in 3 1 10 (diamond_gates 3 5 7 11) diamond_wires) (nines 5); expected = gives (240 ∷ 4 ∷ []) (0 ∷ 0 ∷ 2 ∷ 3 ∷ 9 ∷ []) }
    -- K3: every activity 65,535, the greatest
    ∷ record { call = find_best (diamond_in 3 65535 14) (nines 5); expected = gives (5636010 ∷ 4 ∷ []) (0 ∷ 2 ∷ 4 ∷ 5 ∷ 9 ∷ []) }
    -- K3: 257 is an activity, and no probability
    ∷ record { call = find_best (diamond_in 3 257 10) (nines 5); expected = gives (44 * 257 ∷ 4 ∷ []) (0 ∷ 0 ∷ 2 ∷ 3 ∷ 9 ∷ []) }
    ∷ record { call = find_best (diamond_in 2 257 10) (nines 5); expected = refuses 4 0 (nines 5) }
    -- K6: the best savings of D with 0, 1, 2, .. spare ticks are 8, 20, 32, 44, 56, 68, 77, 86, 88, 90 and 92 U. "The saving at start counts, so a wanted saving no larger needs 0 ticks"
    ∷ record { call = find_ticks (diamond 10) 0; expected = gives (0 ∷ []) tt }
    ∷ record { call = find_ticks (diamond 10) (8 * U); expected = gives (0 ∷ []) tt }
    ∷ record { call = find_ticks (diamond 10) (8 * U + 1); expected = gives (1 ∷ []) tt }
    ∷ record { call = find_ticks (diamond 10) (44 * U); expected = gives (3 ∷ []) tt }
    ∷ record { call = find_ticks (diamond 10) (44 * U + 1); expected = gives (4 ∷ []) tt }
    ∷ record { call = find_ticks (diamond 10) (68 * U + 1); expected = gives (6 ∷ []) tt }
    ∷ record { call = find_ticks (diamond 10) (92 * U); expected = gives (10 ∷ []) tt }
    -- "17, place 0, when even the whole curve stays below the wanted saving", up to the largest 64-bit number
    ∷ record { call = find_ticks (diamond 10) (92 * U + 1); expected = refuses 17 0 tt }
    ∷ record { call = find_ticks (diamond 10) 18446744073709551615; expected = refuses 17 0 tt }
    -- K6, "the block's own deadline plays no part": with 6, where D is late, and with 0
    ∷ record { call = find_ticks (diamond 6) (44 * U + 1); expected = gives (4 ∷ []) tt }
    ∷ record { call = find_ticks (diamond 0) (92 * U + 1); expected = refuses 17 0 tt }
    -- K6 with wire delays 1, 0, 0 and 2 (K2): 4U at start and 12U for each of the first 5 ticks
    ∷ record { call = find_ticks (delayed_diamond 1 0 0 2) (52 * U + 1); expected = gives (5 ∷ []) tt }
    -- K6: a block without a step saves nothing; 11 and what every call has in common come first, also where nothing is wanted
    ∷ record { call = find_ticks triangle 0; expected = gives (0 ∷ []) tt }
    ∷ record { call = find_ticks triangle 1; expected = refuses 17 0 tt }
    ∷ record { call = find_ticks bridge 0; expected = refuses 11 1 tt }
    ∷ record { call = find_ticks [] 0; expected = refuses 1 0 tt }
    ∷ []
