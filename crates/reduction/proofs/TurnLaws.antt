-- A turn of the queue keeps tallies and queue right (`visited_stays`, `visited_goes`); turns one after another, and their end. Assumes nothing.
use mathlib.Core.Path.{◌≡◌, refl, sym, subst}
use mathlib.Core.List.{List}
use Prim.Native.Nat.{ℕ, ◌+◌, ◌*◌, ◌-◌, ◌≤◌, ◌<◌}
use native.Mathlib.Omega.{arith}
use lib.ListN.{length, get_or, set}
use Rattle.model.specs.Limits.{max_wires}
use Rattle.tallies.specs.Tallies.{share, kept_share}
use Rattle.tallies.specs.Queue.{Waits, tail_after}
use Rattle.tallies.proofs.QueueLaws.{tail_stays, tail_goes}
use Rattle.reduction.specs.Arrays.{Arrays, Chosen}
use Rattle.reduction.specs.Going.{Sound, sending, Ready, Tallied, Queued, Turned, stays, goes, Removed, Visited, Ended}
use Rattle.reduction.proofs.GoingLaws.{gate_chosen, went_grows, went_less, some_send, slots_apart, Onwards, onwards_turn, turns_end}
use Rattle.reduction.proofs.SettleLaws.{tallied_after}
use Rattle.reduction.proofs.QueueLaws.{queued_skip, queued_after, queued_end}

-- the gate at the head stays
pub visited_stays :
    {n k a b c m head tail : ℕ} {A : Arrays} {ins outs queue places : List ℕ}
    → Tallied n k A ins outs
    → Queued n a b ins outs queue places head tail
    → m ≡ get_or queue head 0
    → ¬ (Waits ins outs places a b head m)
    → Visited n k a b c head tail A A ins outs queue places c
visited_stays {n} {a = a} {b = b} {c = c} {head = head} {tail = tail} {ins = ins} {outs = outs} {queue = queue} {places = places} t q e w =
    record {
      turned = stays refl refl;
      tallied = t;
      queued = subst (Queued n a b ins outs queue places (head + 1)) (tail_stays c c tail refl) (queued_skip q e w);
    }

-- the gate at the head goes
pub visited_goes :
    {n k a b c m i j u v r head tail : ℕ} {A B : Arrays} {ins outs queue places ins' outs' queue' places' : List ℕ}
    → Removed k c m i j u v A B ins outs ins' outs' r
    → Sound n k c A
    → Ready n k c A
    → Tallied n k A ins outs
    → Queued n a b ins outs queue places head tail
    → Waits ins outs places a b head m
    → m ≡ get_or queue head 0
    → i ≡ get_or ins m 0 - max_wires
    → j ≡ get_or outs m 0 - max_wires
    → u ≡ get_or A.froms i 0
    → v ≡ get_or A.tos j 0
    → head < tail
    → tail + 2 * sending n k A ≤ n + (n + n)
    → n + (n + n) ≤ length queue
    → n ≤ length ins
    → n ≤ length outs
    → n ≤ length places
    → queue' ≡ set (set queue tail u) (tail + 1) v
    → places' ≡ set (set places u tail) v (tail + 1)
    → Visited n k a b c head tail A B ins' outs' queue' places' r
visited_goes {n} {k} {a} {b} {c} {m} {i} {j} {u} {v} {r} {head} {tail} {A} {B} {ins} {outs} {queue} {places} {ins'} {outs'} {queue'} {places'} d s rd t q w e ei ej eu ev some few room ins_long outs_long places_long eq ep =
    record {
      turned = goes m i j ch d.went;
      tallied =
          rw (d.ins_settled, d.outs_settled, eu, ev)
          (tallied_after ch (slots_apart s.network s.going rd ch) rd.room.live_room rd.room.to_room t ins_long outs_long below (rd.to_below j ch.out_slot) (rd.from_below i ch.in_slot) d.went);
      queued =
          subst (Queued n a b ins' outs' queue' places' (head + 1)) (tail_goes c r tail (λ z. let g = went_grows d.went in omega (arith, g)))
          (queued_after (share j) (kept_share c r i) (share i) (kept_share c r i) q e some (omega (arith, below)) (rw eu (rd.from_below i ch.in_slot)) (rw ev (rd.to_below j ch.out_slot))
          (omega (arith, some_send rd ch)) places_long d.ins_settled d.outs_settled eq ep);
    }
  where
    below : m < n
    below = subst (λ z. z < n) (sym e) (q.gates head some)

    ch : Chosen k A m i j
    ch = gate_chosen t below w.can ei ej

-- The turns that began at the arrays A have come to `head`, with c nodes.
pub record Turning (n k a b : ℕ) (A : Arrays) (c head tail : ℕ) (B : Arrays) (ins outs queue places : List ℕ) : Type 0 where
  pub onwards : Onwards n k k c A B
  pub tallied : Tallied n k B ins outs
  pub queued : Queued n a b ins outs queue places head tail
  pub room : tail + 2 * sending n k B ≤ n + (n + n)

pub turning_on :
    {n k a b c r head tail : ℕ} {A B C : Arrays} {ins outs queue places ins' outs' queue' places' : List ℕ}
    → Sound n k k A
    → Turning n k a b A c head tail B ins outs queue places
    → Visited n k a b c head tail B C ins' outs' queue' places' r
    → Turning n k a b A r (head + 1) (tail_after c r tail) C ins' outs' queue' places'
turning_on {n} {k} {c = c} {r = r} {tail = tail} {B = B} {C = C} s t v =
    record {
      onwards = onwards_turn s t.onwards v.turned;
      tallied = v.tallied;
      queued = v.queued;
      room = go v.turned;
    }
  where
    go : Turned k c B C r → tail_after c r tail + 2 * sending n k C ≤ n + (n + n)
    go (stays e f) = let x = tail_stays c r tail f in rw e (omega (arith, x, t.room))
    go (goes m i j ch w) = let g = went_grows w in let x = tail_goes c r tail (λ z. omega (arith, g)) in let y = went_less t.onwards.ready ch w in omega (arith, x, y, t.room)

pub turning_ends : {n k a b c head tail : ℕ} {A B : Arrays} {ins outs queue places : List ℕ} → k ≤ max_wires → Turning n k a b A c head tail B ins outs queue places → tail ≤ head → Ended n k a b A B c
turning_ends few t l = turns_end few t.onwards t.tallied (queued_end t.queued l)
