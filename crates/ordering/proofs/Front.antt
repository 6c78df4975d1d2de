-- What a lent array holds once its first n elements are written: as one equation with `over`, and element by element.
-- Assumes nothing.
use mathlib.Core.Path.{◌≡◌, sym, ◌∙◌, ap}
use mathlib.Core.Logic.{◌⊎◌, inl, inr}
use mathlib.Core.List.{List}
use Prim.Native.Nat.{ℕ, ◌≤◌, ◌<◌}
use native.Mathlib.Omega.{arith}
use lib.ListN.{length, get_or, set}
use lib.Seq.{ext_get_or, get_or-set_other}
use Rattle.lists.specs.Over.{build, over}
use Rattle.lists.proofs.Over.{length_build, get_or_build, length_over, get_or_over_front, get_or_over_behind}
use Rattle.lists.proofs.Compare.{le_or_lt}
use Rattle.ordering.specs.Order.{SameBeyond}

-- a store in front changes nothing beyond
pub set_beyond : (n k v : ℕ) (before after : List ℕ) → k < n → SameBeyond n before after → SameBeyond n before (set after k v)
set_beyond n k v before after h same i l = get_or-set_other after k i v 0 (λ (e : i ≡ k). omega arith) ∙ same i l

-- a list whose first elements are those of xs and whose others are as in `before`
pub is_over : (xs before after : List ℕ) → length xs ≤ length before → length after ≡ length before
    → ((i : ℕ) → i < length xs → get_or after i 0 ≡ get_or xs i 0)
    → SameBeyond (length xs) before after
    → after ≡ over xs before
is_over xs before after room long front behind =
    ext_get_or 0 after (over xs before) (long ∙ sym (length_over xs before room)) (λ i h. at i (le_or_lt (length xs) i))
  where
    at : (i : ℕ) → (length xs ≤ i) ⊎ (i < length xs) → get_or after i 0 ≡ get_or (over xs before) i 0
    at i (inl l) = behind i l ∙ sym (get_or_over_behind xs before i 0 l)
    at i (inr l) = front i l ∙ sym (get_or_over_front xs before i 0 l)

module _ (n : ℕ) (f : ℕ → ℕ) (before after : List ℕ) where
  pub front_at : after ≡ over (build n f) before → (g : ℕ) → g < n → get_or after g 0 ≡ f g
  front_at e g h =
      ap (λ (xs : List ℕ). get_or xs g 0) e
      ∙ get_or_over_front (build n f) before g 0 (rw length_build h)
      ∙ get_or_build n f g 0 h

  pub front_beyond : after ≡ over (build n f) before → SameBeyond n before after
  front_beyond e i h = ap (λ (xs : List ℕ). get_or xs i 0) e ∙ get_or_over_behind (build n f) before i 0 (rw length_build h)

  pub front_written : n ≤ length before
      → length after ≡ length before
      → ((g : ℕ) → g < n → get_or after g 0 ≡ f g)
      → SameBeyond n before after
      → after ≡ over (build n f) before
  front_written room long front behind =
      let e = length_build n f in
      is_over (build n f) before after (omega arith) long
      (λ i h. let l : i < n = omega arith in front i l ∙ sym (get_or_build n f i 0 l))
      (λ i h. behind i (omega arith))
