-- The queue: every gate that can go waits in it, from its beginning (`queued_start`) through every turn (`queued_skip`, `queued_after`) to its end (`queued_end`).
-- Assumes nothing.
use mathlib.Core.Path.{◌≡◌, sym, ◌∙◌, ap, subst}
use mathlib.Core.Logic.{◌≢◌}
use mathlib.Core.List.{List}
use Prim.Native.Nat.{ℕ, ◌+◌, ◌≤◌, ◌<◌}
use native.Mathlib.Decide.{ℕ_discrete}
use native.Mathlib.Omega.{arith}
use lib.ListN.{length, get_or, set, length-set}
use lib.Seq.{get_or-set_same, get_or-set_other}
use Rattle.tallies.specs.Tallies.{settled}
use Rattle.tallies.specs.Queue.{One, CanGo, LinedUp, Waits}
use Rattle.tallies.proofs.TallyLaws.{settled_gone, settled_else}
use Rattle.reduction.specs.Going.{Queued}

pub queued_start : {n a b : ℕ} {ins outs queue places : List ℕ} → LinedUp n queue places → Queued n a b ins outs queue places 0 n
queued_start {queue = queue} u =
    record {
      gates = λ q h. let (x, y) = u q h in omega (arith, x);
      waits = λ g h can. let (x, y) = u g h in (omega arith, omega (arith, y), ap (λ z. get_or queue z 0) y ∙ x);
    }

pub queued_end : {n a b head tail : ℕ} {ins outs queue places : List ℕ} → Queued n a b ins outs queue places head tail → tail ≤ head → (g : ℕ) → g < n → ¬ (CanGo ins outs a b g)
queued_end q l g h can = let (x, y, z) = q.waits g h can in omega (arith, x, y)

-- the gate at the head stays
pub queued_skip : {n a b m head tail : ℕ} {ins outs queue places : List ℕ} → Queued n a b ins outs queue places head tail → m ≡ get_or queue head 0
    → ¬ (Waits ins outs places a b head m) → Queued n a b ins outs queue places (head + 1) tail
queued_skip {n} {a} {b} {m} {head} {tail} {ins} {outs} {queue} {places} q e never =
    record { gates = q.gates; waits = λ g h can. let (x, y, z) = q.waits g h can in (later g can x z (ℕ_discrete (get_or places g 0) head), y, z) }
  where
    later : (g : ℕ) → CanGo ins outs a b g → head ≤ get_or places g 0 → get_or queue (get_or places g 0) 0 ≡ g → Dec (get_or places g 0 ≡ head) → head + 1 ≤ get_or places g 0
    later g can x z (yes p) =
        let s : m ≡ g = e ∙ ap (λ y. get_or queue y 0) (sym p) ∙ z in
        absurd (never (record { place = ap (λ y. get_or places y 0) s ∙ p; can = subst (CanGo ins outs a b) (sym s) can }))
    later g can x z (no d) = omega arith

-- the gate at the head goes, and its neighbours u and v join the queue
pub queued_after :
    {n a b m u v head tail : ℕ} (x y z w : ℕ) {ins outs queue places ins' outs' queue' places' : List ℕ}
    → Queued n a b ins outs queue places head tail
    → m ≡ get_or queue head 0
    → head < tail
    → m < length ins
    → u < n
    → v < n
    → tail + 2 ≤ length queue
    → n ≤ length places
    → ins' ≡ settled m v x y ins
    → outs' ≡ settled m u z w outs
    → queue' ≡ set (set queue tail u) (tail + 1) v
    → places' ≡ set (set places u tail) v (tail + 1)
    → Queued n a b ins' outs' queue' places' (head + 1) (tail + 2)
queued_after {n} {a} {b} {m} {u} {v} {head} {tail} x y z w {ins} {outs} {queue} {places} q e some inside hu hv room long ei eo eq ep =
    rw (ei, eo, eq, ep) (record { gates = λ s h. gate s h (ℕ_discrete s (tail + 1)) (ℕ_discrete s tail); waits = λ g h can. wait g h can (ℕ_discrete g v) (ℕ_discrete g u) (ℕ_discrete g m) })
  where
    line : List ℕ
    line = set (set queue tail u) (tail + 1) v

    spots : List ℕ
    spots = set (set places u tail) v (tail + 1)

    line_last : get_or line (tail + 1) 0 ≡ v
    line_last = get_or-set_same (set queue tail u) (tail + 1) v 0 (rw length-set (omega arith))

    line_next : get_or line tail 0 ≡ u
    line_next = get_or-set_other (set queue tail u) (tail + 1) tail v 0 (omega arith) ∙ get_or-set_same queue tail u 0 (omega arith)

    line_else : (s : ℕ) → s ≢ tail + 1 → s ≢ tail → get_or line s 0 ≡ get_or queue s 0
    line_else s c d = get_or-set_other (set queue tail u) (tail + 1) s v 0 c ∙ get_or-set_other queue tail s u 0 d

    gate : (s : ℕ) → s < tail + 2 → Dec (s ≡ tail + 1) → Dec (s ≡ tail) → get_or line s 0 < n
    gate s h (yes c) d = subst (λ r. r < n) (sym (ap (λ r. get_or line r 0) c ∙ line_last)) hv
    gate s h (no c) (yes d) = subst (λ r. r < n) (sym (ap (λ r. get_or line r 0) d ∙ line_next)) hu
    gate s h (no c) (no d) = subst (λ r. r < n) (sym (line_else s c d)) (q.gates s (omega arith))

    wait : (g : ℕ) → g < n → CanGo (settled m v x y ins) (settled m u z w outs) a b g → Dec (g ≡ v) → Dec (g ≡ u) → Dec (g ≡ m) → (head + 1 ≤ get_or spots g 0) × (get_or spots g 0 < tail + 2) × (get_or line (get_or spots g 0) 0 ≡ g)
    wait g h can (yes c) d o =
        let s : get_or spots g 0 ≡ tail + 1 = ap (λ r. get_or spots r 0) c ∙ get_or-set_same (set places u tail) v (tail + 1) 0 (rw length-set (omega arith)) in
        (omega arith, omega arith, ap (λ r. get_or line r 0) s ∙ line_last ∙ sym c)
    wait g h can (no c) (yes d) o =
        let s : get_or spots g 0 ≡ tail = get_or-set_other (set places u tail) v g (tail + 1) 0 c ∙ ap (λ r. get_or (set places u tail) r 0) d ∙ get_or-set_same places u tail 0 (omega arith) in
        (omega arith, omega arith, ap (λ r. get_or line r 0) s ∙ line_next ∙ sym d)
    wait g h can (no c) (no d) (yes o) =
        absurd (let s = (subst (λ r. One (get_or (settled m v x y ins) r 0)) o can.one_in).some in let r = settled_gone m v x y ins inside in omega (arith, s, r))
    wait g h can (no c) (no d) (no o) =
        let before : CanGo ins outs a b g = record { not_first = can.not_first; not_last = can.not_last; one_in = subst One (settled_else m v x y g ins o c) can.one_in; one_out = subst One (settled_else m u z w g outs o d) can.one_out } in
        let (low, high, there) = q.waits g h before in
        let s : get_or spots g 0 ≡ get_or places g 0 = get_or-set_other (set places u tail) v g (tail + 1) 0 c ∙ get_or-set_other places u g tail 0 d in
        let off : get_or places g 0 ≢ head = λ p. o (sym there ∙ ap (λ r. get_or queue r 0) p ∙ sym e) in
        (omega arith, omega arith, ap (λ r. get_or line r 0) s ∙ line_else (get_or places g 0) (omega arith) (omega arith) ∙ there)
