-- Laws of `view`: what stands there, and what a word written there or elsewhere leaves of it.
-- Assumes nothing.
use mathlib.Core.Path.{◌≡◌, sym, ◌∙◌}
use mathlib.Core.Logic.{◌≢◌}
use mathlib.Core.List.{List}
use Prim.Native.Nat.{ℕ, ◌+◌, ◌*◌, ◌<◌}
use native.Mathlib.Decide.{ℕ_discrete}
use native.Mathlib.Omega.{arith}
use lib.ListN.{length, get_or, set, length-set}
use lib.Seq.{get_or-set_same, get_or-set_other, ext_get_or}
use Rattle.lists.proofs.Over.{length_build, get_or_build, build_same}
use Rattle.words.specs.View.{view}

module _ (from stride count : ℕ) (words : List ℕ) where
  pub length_view : length (view from stride count words) ≡ count
  unfolding view
  length_view = length_build count _

  pub at_view : (k : ℕ) → k < count → get_or (view from stride count words) k 0 ≡ get_or words (k * stride + from) 0
  unfolding view
  at_view k l = get_or_build count _ k 0 l

  -- a word written elsewhere
  pub view_beside : (p v : ℕ) → ((k : ℕ) → k < count → k * stride + from ≢ p) → view from stride count (set words p v) ≡ view from stride count words
  unfolding view
  view_beside p v d = build_same count _ _ (λ k l. get_or-set_other words p (k * stride + from) v 0 (d k l))

-- a word written at place k of the view
module _ (from stride count : ℕ) (words : List ℕ) (k v : ℕ) (in_words_lem : k * stride + from < length words) (apart : (j : ℕ) → j ≢ k → j * stride + from ≢ k * stride + from) where
  elements : (j : ℕ) → j < count → get_or (view from stride count (set words (k * stride + from) v)) j 0 ≡ get_or (set (view from stride count words) k v) j 0
  elements j l = at_view from stride count (set words (k * stride + from) v) j l ∙ go (ℕ_discrete j k)
    where
      go : Dec (j ≡ k) → get_or (set words (k * stride + from) v) (j * stride + from) 0 ≡ get_or (set (view from stride count words) k v) j 0
      go (yes e) =
          rw (
            e,
            get_or-set_same words (k * stride + from) v 0 in_words_lem,
            get_or-set_same (view from stride count words) k v 0 (rw (length_view from stride count words) (rw e at l)),
          )
      go (no d) =
          get_or-set_other words (k * stride + from) (j * stride + from) v 0 (apart j d)
          ∙ sym (get_or-set_other (view from stride count words) k j v 0 d ∙ at_view from stride count words j l)

  pub view_written : view from stride count (set words (k * stride + from) v) ≡ set (view from stride count words) k v
  view_written =
      ext_get_or 0 _ _
      (length_view from stride count _ ∙ sym (length-set (view from stride count words) k v ∙ length_view from stride count words))
      (λ j l. elements j (rw (length_view from stride count (set words (k * stride + from) v)) at l))

-- place k of the numbers that stand one behind the other
pub read_on : (from count : ℕ) (words : List ℕ) (k : ℕ) → k < count → get_or words (k + from) 0 ≡ get_or (view from 1 count words) k 0
read_on from count words k l =
    let e : k + from ≡ k * 1 + from = omega arith in
    rw e (sym (at_view from 1 count words k l))
