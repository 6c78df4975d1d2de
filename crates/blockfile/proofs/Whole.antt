-- The whole file: what its block field, its gates and its wires were read to, is what `read_block` says.
-- Assumes nothing.
use mathlib.Core.Path.{◌≡◌, sym}
use mathlib.Core.List.{List, [], map}
use Prim.Native.Nat.{ℕ, ◌≤◌}
use lib.Dec.{T}
use lib.ListN.{length, get_or}
use Rattle.model.specs.declared.Refusal.{Refusal}
use Rattle.model.specs.Limits.{max_gates, max_wires}
use Rattle.model.specs.Block.{Gate, Wire}
use Rattle.model.specs.Edition.{activity_of}
use Rattle.model.specs.Netlist.{DrawnGate, Netlist, gate_of, block_of}
use Rattle.model.specs.Field.{number}
use Rattle.model.specs.File.{block, says, in_range, Reading, found, read_field, read_gates, read_wires, decode, read_block, netlist}
use Rattle.model.specs.Answer.{refusal, refusal_answer}
use Rattle.model.proofs.Limited.{header_limits}
use Rattle.model.proofs.Reading.{read_gates_inside, decode_block_refused, decode_gates_refused, decode_wires_refused, decode_found}
use Rattle.fields.specs.Behind.{offset_behind}
use Rattle.blockfile.specs.Reads.{refusing, reading_map}
use Rattle.blockfile.proofs.Judged.{Judged, judged_refused, judged_found, judged_inside, judged_ranges}
use Rattle.blockfile.proofs.Gates.{FoundBefore, map_found, map_refused}

-- the gates that a file with this body of the block field gives from p on, ..
abbrev drawn_gates : List ℕ → List ℕ → ℕ → Reading (List DrawnGate)
drawn_gates s b p = read_gates (get_or b 0 0) (get_or b 1 0) s p

-- .. and what they are in its edition
abbrev as_gates : List ℕ → List DrawnGate → List Gate
as_gates b = map (gate_of (get_or b 0 0))

-- what `decode` comes to, `read_block` does
module _ (s : List ℕ) where
  whole_refused : (x : Refusal) → decode s ≡ refusing x → refusing x ≡ read_block s
  unfolding read_block
  whole_refused x e = rw e

  whole_found : (N : Netlist) (o : ℕ) → decode s ≡ found N o → found (block_of N) o ≡ read_block s
  unfolding read_block
  whole_found N o e = rw e

module _ {s : List ℕ} {m : ℕ} {b : List ℕ} (j : Judged block s 0 m b) where
  pub block_refused : (x : Refusal) → (m ≡ 0 → ⊥) → refusal_answer x ≡ refusal m 0 → refusing x ≡ read_block s
  block_refused x z e = whole_refused s x (decode_block_refused s (sym (judged_refused j x z e)))

  module _ (z : m ≡ 0) where
    pub gates_at_most : get_or b 1 0 ≤ max_gates
    gates_at_most =
        let t : T (in_range block (says block b)) = rw (judged_ranges j z) tt in
        (header_limits (says block b) t).gates_most

    -- the gates begin behind the block field
    module _ {p : ℕ} (behind : p ≡ offset_behind s 0) where
      header : read_field block s 0 ≡ found (says block b) p
      header = rw behind (judged_found j z)

      -- a gate is refused
      pub block_gates_refused : (x : Refusal) → refusing x ≡ reading_map (as_gates b) (drawn_gates s b p) → refusing x ≡ read_block s
      block_gates_refused x e =
          whole_refused s x
          (decode_gates_refused s header (map_refused (as_gates b) (drawn_gates s b p) (refusal_answer x).number (get_or (refusal_answer x).values 0 0) e))

      module _ (gs : List Gate) (q : ℕ) (g : found gs q ≡ reading_map (as_gates b) (drawn_gates s b p)) where
        drawn : FoundBefore (as_gates b) (drawn_gates s b p) gs q
        drawn = map_found (as_gates b) (drawn_gates s b p) gs q g

        -- the wires begin within the file
        pub wires_from : q ≤ length s
        wires_from = read_gates_inside (get_or b 0 0) s (get_or b 1 0) p (rw behind (judged_inside j z)) drawn.was_found

        -- a wire is refused
        pub block_wires_refused : (x : Refusal) → refusing x ≡ read_wires max_wires (get_or b 0 0) (get_or b 1 0) [] s q → refusing x ≡ read_block s
        block_wires_refused x e = whole_refused s x (decode_wires_refused s header drawn.was_found (sym e))

        -- the block is found
        pub block_found : (ws : List Wire) → found ws (length s) ≡ read_wires max_wires (get_or b 0 0) (get_or b 1 0) [] s q
            → found (record { arrival = number b 2; deadline = number b 4; activity = activity_of (get_or b 0 0) (number b 6); gates = gs; wires = ws }) (length s) ≡ read_block s
        block_found ws e =
            rw drawn.seen
            (whole_found s (netlist (says block b) drawn.value ws) (length s) (decode_found s header drawn.was_found (sym e)))
