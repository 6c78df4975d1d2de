-- What the answers of the reading functions say, with the arrays at exit, as the `Reading` of the block file's definitions.
-- Free is what the arrays hold beyond the gates and wires that were read and, where several fields are read, all that they hold after a refusal.
use Rattle.std.specs.Prelude.{◌≡◌, List, ◌∷◌, ℕ, Result, Ok, Err, length, get_or}
use Rattle.model.specs.declared.Refusal.{Refusal}
use Rattle.model.specs.Field.{number}
use Rattle.model.specs.Block.{Wire, Block}
use Rattle.model.specs.Edition.{activity_of}
use Rattle.model.specs.Netlist.{gate_of}
use Rattle.model.specs.File.{Reading, found, refused, gate, wire, read_field}
use Rattle.model.specs.Answer.{refusal_answer}
use Rattle.blockfile.specs.declared.read.BlockHead.{BlockHead}
use Rattle.blockfile.specs.Held.{GateArrays, gate_held, gates_held, GatesKept, WireArrays, wire_held, wires_held, WiresKept}
use Rattle.ranges.specs.Seen.{Marks}

-- the refusal's number and place
abbrev pub refusing : {A : Type 0} → Refusal → Reading A
refusing x = refused (refusal_answer x).number (get_or (refusal_answer x).values 0 0)

-- a field that was read, or several, say a
abbrev pub passing : {A : Type 0} → Result ℕ Refusal → A → Reading A
passing (Ok next) a = found a next
passing (Err x) a = refusing x

-- what is found, seen through f
abbrev pub reading_map : {A B : Type 0} → (A → B) → Reading A → Reading B
reading_map f (found a o) = found (f a) o
reading_map f (refused k o) = refused k o

-- The gate field of an edition at o was read into place g, and the gates below are as they were; after a refusal all is. What stands above gate g, once it is read, is free.
pub record GateRead (s : List ℕ) (o edition g : ℕ) (old new : GateArrays) (r : Result ℕ Refusal) : Type 0 where
  pub reading : passing r (gate_held new g) ≡ reading_map (gate_of edition) (read_field (gate edition) s o)
  pub kept : GatesKept g old new
  pub untouched : (x : Refusal) → r ≡ Err x → new ≡ old

-- The wire field of an edition at o was read into place i, after the wires that the table holds, and the wires below are as they were; after a refusal all is, the table too. What stands above wire i, once it is read, is free.
pub record WireRead (s : List ℕ) (o edition n i : ℕ) (old new : WireArrays) (table table' : List ℕ) (r : Result ℕ Refusal) : Type 0 where
  pub reading : (ws : List Wire) → Marks table ws → passing r (wire_held new i) ≡ read_field (wire edition n ws) s o
  pub marked : (ws : List Wire) → Marks table ws → (next : ℕ) → r ≡ Ok next → Marks table' (wire_held new i ∷ ws)
  pub kept : WiresKept i old new
  pub untouched : (x : Refusal) → r ≡ Err x → (new ≡ old) × (table' ≡ table)

-- the first wires of the arrays, up to the end of the file
abbrev pub wires_passing : List ℕ → Result ℕ Refusal → WireArrays → Reading (List Wire)
wires_passing s (Ok m) A = found (wires_held A m) (length s)
wires_passing s (Err x) A = refusing x

-- the numbers of a block field's body, with a wire count
abbrev pub said_of : List ℕ → ℕ → BlockHead
said_of b m =
    record {
      gates = get_or b 1 0;
      wires = m;
      arrival = number b 2;
      deadline = number b 4;
      activity = activity_of (get_or b 0 0) (number b 6);
    }

-- the block in the arrays, up to the end of the file
abbrev pub block_passing : List ℕ → Result BlockHead Refusal → GateArrays → WireArrays → Reading Block
block_passing s (Ok h) G W =
    found
    (record { arrival = h.arrival; deadline = h.deadline; activity = h.activity; gates = gates_held G h.gates; wires = wires_held W h.wires })
    (length s)
block_passing s (Err x) G W = refusing x
