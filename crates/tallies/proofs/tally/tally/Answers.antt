-- `tallies::tally::tally` meets its contract. The loop's invariant: the tallies are those of the slots below i, and small. Assumes nothing.
use mathlib.Core.Path.{◌≡◌, sym, ◌∙◌}
use lib.ListN.{length}
use Prim.Native.Nat.{ℕ, zero}
use native.Mathlib.Omega.{arith}
use Rattle.std.proofs.lemmas.List.{length-replicate, get_or-replicate}
use Rattle.model.specs.Limits.{max_gates}
use Rattle.tallies.proofs.TallyLaws.{tally_none, few_more, tallied_more}
use Rattle.tallies.proofs.tally.tally.Goals as goal

pub loop-i-init : goal.loop-i-init
loop-i-init c =
    let long : length c.args.tallies.now ≡ max_gates = omega arith in
    rw (c.fill.ensures.after (λ y h. h), long)
    (length-replicate max_gates zero, λ g h. omega (arith, get_or-replicate {A = ℕ} max_gates g 0 0 h), λ lives all g h. get_or-replicate {A = ℕ} max_gates g 0 0 h ∙ sym (tally_none lives _ g))

pub loop-i-preserved : goal.loop-i-preserved
loop-i-preserved c =
    let b = c.requires.ends_below c.loop-i.i c.loop-i-test.true in (
      omega (arith, c.count.auto.tallies, c.loop-i.invariant.0),
      rw c.count.ensures (few_more c.loop-i.tallies _ c.loop-i.i _ (omega arith) b (omega arith) c.loop-i.invariant.1),
      λ lives all. rw c.count.ensures (tallied_more lives _ c.loop-i.tallies _ c.loop-i.i (c.loop-i.invariant.2 lives all) (all c.loop-i.i c.loop-i-test.true) (omega (arith, b))),
    )
