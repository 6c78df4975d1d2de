-- A block in time has no slack that needs a sign: so no sign is ever printed.
-- The idea: the longest path through a gate is no longer than start, so its slack is at least the spare.
-- Assumes of the block what the laws of slack do: no gate is at fault with its wires, and the gates can be numbered along the wires.
use mathlib.Core.Path.{◌≡◌, ◌∙◌}
use mathlib.Core.List.{List}
use Prim.Native.Nat.{ℕ, ◌+◌, ◌-◌, ◌≤◌, ◌<◌}
use native.Mathlib.Omega.{arith}
use Rattle.model.specs.Block.{Wire, Block, gate_count}
use Rattle.model.specs.Path.{Path, stay, go}
use Rattle.model.specs.Slack.{slack, start}
use Rattle.model.specs.Refusal.{SoundNetwork}
use Rattle.model.proofs.Signed.{difference_pos}
use Rattle.model.proofs.Source.{Along}
use Rattle.model.proofs.Slack.{slack_is, start_is}
use Rattle.text.specs.Numbers.{Natural}

-- two paths that meet at a gate, which counts once
path_joined : {ws : List Wire} {d : ℕ → ℕ} {a m b t : ℕ} (u : ℕ) → Path ws d a m t → Path ws d m b (d m + u) → Path ws d a b (t + u)
path_joined u stay q = q
path_joined {d = d} {a = a} u (go {w = w} {t = t} on rest) q =
    let e : d a + w + (t + u) ≡ d a + w + t + u = omega arith in
    rw e at (go on (path_joined u rest q))

pub no_sign : (B : Block) → SoundNetwork B → Along B.wires (gate_count B) → B.arrival + start B ≤ B.deadline
    → (g : ℕ) → g < gate_count B → Natural (slack B g)
no_sign B sound order in_time g h =
    let r = slack_is B sound order (omega arith) g h in
    let through = path_joined r.1 r.2.attained r.3.attained in
    let fits : B.arrival + r.0 + r.1 ≤ B.deadline = omega (arith, (start_is B sound order (omega arith)).greatest (r.0 + r.1) through) in
    (B.deadline - (B.arrival + r.0 + r.1), r.4 ∙ difference_pos B.deadline (B.arrival + r.0 + r.1) fits)
