-- The steps of a gate that the words hold are those of the arrays.
-- Assumes nothing.
use mathlib.Core.Path.{◌≡◌}
use mathlib.Core.List.{List}
use Prim.Native.Nat.{ℕ, ◌<◌}
use lib.ListN.{get_or}
use Rattle.lists.specs.Over.{build}
use Rattle.lists.proofs.Over.{build_same}
use Rattle.model.specs.Arrays.{step_at}
use Rattle.blockwords.specs.BlockWords.{counts_of, widths_of, drops_of}
use Rattle.blockwords.specs.Gathered.{Gathered}

pub same_steps : {n : ℕ} {counts step_widths drops inputs block : List ℕ} → Gathered n counts step_widths drops inputs block → (g : ℕ) → g < n → build (get_or counts g 0) (step_at step_widths drops g) ≡ build (get_or (counts_of block) g 0) (step_at (widths_of block) (drops_of block) g)
same_steps {counts = counts} {step_widths = step_widths} {drops = drops} {block = block} x g l =
    rw (x.each g l).count
    (build_same (get_or counts g 0) (step_at step_widths drops g) (step_at (widths_of block) (drops_of block) g)
    (λ j m. rw ((x.each g l).width j m, (x.each g l).drop j m)))
