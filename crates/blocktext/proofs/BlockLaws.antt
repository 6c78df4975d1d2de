-- The numbers that are handed over to be printed are those of the held block, and the lines written are its lines.
-- Assumes nothing.
use mathlib.Core.Path.{◌≡◌, refl, sym, ◌∙◌, ap, subst}
use mathlib.Core.List.{List, ◌++◌}
use Prim.Native.Nat.{ℕ, zero, suc, ◌+◌, ◌-◌, ◌≤◌, ◌<◌}
use native.Mathlib.Omega.{arith}
use lib.IntN.{ℤ, pos}
use lib.ListN.{length, get_or, take}
use lib.Seq.{get_or-take}
use Rattle.lists.specs.Over.{build, over}
use Rattle.lists.proofs.Over.{length_build, get_or_build, get_or_over_front}
use Rattle.model.specs.Limits.{max_gates}
use Rattle.model.specs.Slack.{slack, start, spare}
use Rattle.model.specs.Printout.{head_text, gate_texts, head_lines, gate_line, block_lines}
use Rattle.model.proofs.Signed.{difference_pos}
use Rattle.blockfile.specs.Held.{GateArrays, WireArrays}
use Rattle.timing.specs.Slacks.{slack_in}
use Rattle.loading.specs.HeldFile.{HeldFile}
use Rattle.loading.proofs.Held.{wires_are, delay_is}
use Rattle.holding.proofs.HeldLaws.{block, count, the_lent, along_all, slack_is}
use Rattle.text.specs.Numbers.{Natural, Listed, listed_line}
use Rattle.blocktext.specs.Shown.{Sized}
use Rattle.blocktext.proofs.InTime.{no_sign}

-- the same line for each gate
same_texts : (line other : ℕ → List ℕ) (n : ℕ) → ((g : ℕ) → g < n → line g ≡ other g) → gate_texts line n ≡ gate_texts other n
unfolding gate_texts
same_texts line other zero same = refl
same_texts line other (suc n) same = rw (same_texts line other n (λ g l. same g (omega arith)), same n (omega arith))

module _ {file : List ℕ} {n m arrival deadline activity : ℕ} {G : GateArrays} {W : WireArrays} {order : List ℕ} (h : HeldFile file n m arrival deadline activity G W order) where
  -- the head of the numbers that are handed over is that of the block ..
  head_is : {saved r : ℕ} {increases : List ℕ} → Sized (block h) n saved increases
      → r ≡ start (block h)
      → head_text n m r (pos (deadline - (arrival + r))) saved ≡ head_lines (block h) (take n increases)
  unfolding spare
  head_is s found =
      let gates_is = count h in
      let wires_is = wires_are file n m arrival deadline activity G W h.well.end h.well.reads in
      let start_is = found in
      let spare_is = difference_pos deadline (arrival + start (block h)) s.in_time in
      cc

  module _ (lent_out slacks : List ℤ) (written : slacks ≡ over (build n (slack_in n m W.sources W.targets W.delays G.delays arrival deadline)) lent_out) where
    -- .. the slacks that are written are those of the block ..
    slack_at : (g : ℕ) → g < n → slack (block h) g ≡ get_or slacks g (pos 0)
    slack_at g l =
        sym (ap (λ (s : List ℤ). get_or s g (pos 0)) written
        ∙ get_or_over_front (build n (slack_in n m W.sources W.targets W.delays G.delays arrival deadline)) lent_out g (pos 0) (rw length_build l)
        ∙ get_or_build n (slack_in n m W.sources W.targets W.delays G.delays arrival deadline) g (pos 0) l
        ∙ slack_is h g l)

    -- .. so is the line of each gate ..
    line_at : (increases : List ℕ) (g : ℕ) → g < n → listed_line G.delays increases slacks g ≡ gate_line (block h) (take n increases) g
    line_at increases g l =
        let delay = delay_is file n m arrival deadline activity G W h.well.end h.well.reads g l in
        let increase = get_or-take n increases g 0 l in
        let slack_same = slack_at g l in
        cc

    -- .. and the whole text
    pub text_is : {saved r : ℕ} {increases : List ℕ} → Sized (block h) n saved increases
        → r ≡ start (block h)
        → head_text n m r (pos (deadline - (arrival + r))) saved ++ gate_texts (listed_line G.delays increases slacks) n
        ≡ block_lines (block h) (take n increases)
    unfolding block_lines
    text_is {increases = increases} s found =
        let head = head_is s found in
        let gates = same_texts (listed_line G.delays increases slacks) (gate_line (block h) (take n increases)) n (line_at increases)
        ∙ ap (gate_texts (gate_line (block h) (take n increases))) (sym (count h)) in
        cc

    pub listed : {saved : ℕ} {increases : List ℕ} → Sized (block h) n saved increases → length slacks ≡ max_gates → Listed n G.delays increases slacks
    listed s kept =
        record {
          delays_long = omega (arith, h.delays_long, (the_lent h).gates);
          increases_long = s.long;
          slacks_long = omega (arith, (the_lent h).gates);
          natural = λ g l. subst Natural (slack_at g l) (no_sign (block h) h.well.network (along_all h) s.in_time g (omega (arith, count h)));
        }

  pub spare_fits : {saved r : ℕ} {increases : List ℕ} → Sized (block h) n saved increases
      → r ≡ start (block h)
      → arrival + r ≤ deadline
  spare_fits s found = omega (arith, found, s.in_time)
