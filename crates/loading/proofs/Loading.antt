-- What reading a file and judging its network come to: a well-formed block in the arrays with an order of its gates, or the first refusal of 1 to 9.
-- Assumes nothing.
use mathlib.Core.Path.{◌≡◌, refl, sym, subst}
use mathlib.Core.List.{List}
use Prim.Native.Nat.{ℕ}
use native.Mathlib.Omega.{arith}
use lib.ListN.{length}
use Rattle.std.specs.Prelude.{Ok, Err}
use Rattle.model.specs.declared.Refusal.{Refusal}
use Rattle.model.specs.declared.Refusal.TheVariants.{Short, Tag, Length, Range, Drops, Wire, Excess, Loop, Ends, Room, NotSeriesParallel, Late, Widths, PathLate, Unreached}
use Rattle.model.specs.Block.{Block}
use Rattle.model.specs.File.{found, read_block}
use Rattle.model.specs.Refusal.{WellFormed, IllFormed, unread, loop, ends}
use Rattle.blockfile.specs.declared.read.BlockHead.{BlockHead}
use Rattle.blockfile.specs.Held.{GateArrays, WireArrays, WireRoom}
use Rattle.blockfile.specs.Reads.{block_passing}
use Rattle.ordering.specs.Wires.{Lent, Wired, InArrays}
use Rattle.ordering.specs.Order.{Order}
use Rattle.network.specs.Judged.{Judged}
use Rattle.ordering.proofs.Wired.{wired_joined}
use Rattle.loading.proofs.Held.{gates_are, lent, in_arrays}
use Rattle.loading.specs.Loads.{block_held, number_of, place_of}

-- a file that was not read
pub not_read : (file : List ℕ) (x : Refusal) (G : GateArrays) (W : WireArrays)
    → block_passing file (Err x) G W ≡ read_block file
    → IllFormed file (number_of x) (place_of x)
not_read file x G W e = unread (sym e)

-- the room for wires is kept
pub room_kept : {W Y : WireArrays} → WireRoom W → length Y.sources ≡ length W.sources → length Y.targets ≡ length W.targets → length Y.delays ≡ length W.delays → WireRoom Y
room_kept room s t d =
    record { sources = omega (arith, room.sources); targets = omega (arith, room.targets); delays = omega (arith, room.delays) }

-- an order for another relation that the wires make true
order_for : {E F : ℕ → ℕ → Type 0} {k n : ℕ} {order : List ℕ} → k ≡ n → ((a b : ℕ) → F a b → E a b) → Order E k order → Order F n order
order_for {E} {F} {k} {n} {order} e leads o =
    subst (λ (x : ℕ). Order F x order) e
    (record {
      place = o.place;
      names_gate = o.names_gate;
      place_of = o.place_of;
      has_place = o.has_place;
      stands_there = o.stands_there;
      forward = λ (a b : ℕ) (w : F a b). o.forward a b (leads a b w);
    })

module _ (file : List ℕ) (h : BlockHead) (G : GateArrays) (W : WireArrays) (e : block_passing file (Ok h) G W ≡ read_block file) where
  abbrev the_block : Block
  the_block = block_held h.gates h.wires h.arrival h.deadline h.activity G W

  read_as : read_block file ≡ found the_block (length file)
  read_as = sym e

  arrays_hold : InArrays the_block h.gates h.wires W.sources W.targets
  arrays_hold = in_arrays file h.gates h.wires h.arrival h.deadline h.activity G W (length file) read_as

  pub lent_read : WireRoom W → Lent h.gates h.wires W.sources W.targets
  lent_read = lent file h.gates h.wires h.arrival h.deadline h.activity G W (length file) read_as

  module _ (order : List ℕ) where
    pub sound : ((B : Block) → InArrays B h.gates h.wires W.sources W.targets → Judged B order (Ok tt)) → WellFormed file the_block × Order (Wired h.wires W.sources W.targets) h.gates order
    sound j = (
      record { end = length file; reads = read_as; network = (j the_block arrays_hold).0 },
      order_for (gates_are file h.gates h.wires h.arrival h.deadline h.activity G W (length file) read_as) (wired_joined the_block h.gates h.wires W.sources W.targets arrays_hold)
          (j the_block arrays_hold).1,
    )

    -- the refusals 8 and 9, and no other
    pub unsound : (x : Refusal) → ((B : Block) → InArrays B h.gates h.wires W.sources W.targets → Judged B order (Err x)) → IllFormed file (number_of x) (place_of x)
    unsound (Loop g) j = loop the_block (length file) read_as (j the_block arrays_hold) refl
    unsound (Ends g) j = ends the_block (length file) read_as (j the_block arrays_hold).0 (j the_block arrays_hold).1 refl
    unsound (Short _) j = absurd (j the_block arrays_hold)
    unsound (Tag _) j = absurd (j the_block arrays_hold)
    unsound (Length _) j = absurd (j the_block arrays_hold)
    unsound (Range _) j = absurd (j the_block arrays_hold)
    unsound (Drops _) j = absurd (j the_block arrays_hold)
    unsound (Wire _) j = absurd (j the_block arrays_hold)
    unsound (Excess _) j = absurd (j the_block arrays_hold)
    unsound (Room _) j = absurd (j the_block arrays_hold)
    unsound (NotSeriesParallel _) j = absurd (j the_block arrays_hold)
    unsound (Widths _) j = absurd (j the_block arrays_hold)
    unsound Late j = absurd (j the_block arrays_hold)
    unsound PathLate j = absurd (j the_block arrays_hold)
    unsound Unreached j = absurd (j the_block arrays_hold)
