-- Tallies when a gate goes (`tallied_after`): the two slots at the gate change, and so do the tallies of its neighbours only.
-- Assumes nothing.
use mathlib.Core.Path.{◌≡◌, refl, sym, ◌∙◌, subst}
use mathlib.Core.Logic.{◌≢◌}
use mathlib.Core.Bool.{Bool, true, false, cond}
use mathlib.Core.List.{List}
use Prim.Native.Nat.{ℕ, ◌+◌, ◌^◌, ◌≤◌, ◌<◌}
use native.Mathlib.Omega.{arith}
use borrow.Author.Tests.{eq-eqb, ne_eqb}
use lib.Dec.{eqb}
use lib.ListN.{length, get_or, set, length-set}
use lib.Seq.{get_or-set_same, get_or-set_other}
use Rattle.model.specs.Limits.{max_wires}
use Rattle.tallies.specs.Tallies.{share, share_at, tally, OnlyAt, TalliedBy, settled, kept_share}
use Rattle.tallies.proofs.TallyLaws.{share_dead, tally_few, tally_has, only_tally, tally_changes, Shifts, settled_right, kept_few}
use Rattle.reduction.specs.Arrays.{Arrays, Chosen, joined, taken_up, Went, by_joining, by_taking_up}
use Rattle.reduction.specs.Going.{Ready, Tallied}
use Rattle.reduction.proofs.Held.{cleared_dead}
use Rattle.reduction.proofs.GoingLaws.{in_at, out_at}

-- x where v is g, else nothing
abbrev when : ℕ → ℕ → ℕ → ℕ
when v g x = cond (eqb v g) x 0

when_there : (v x : ℕ) → when v v x ≡ x
when_there v x = rw (eq-eqb v v refl) refl

when_else : (v g x : ℕ) → v ≢ g → when v g x ≡ 0
when_else v g x d = rw (ne_eqb v g d) refl

when_nothing : (v g : ℕ) → when v g 0 ≡ 0
when_nothing v g = go (eqb v g)
  where
    go : (b : Bool) → ◌≡◌ {A = ℕ} (cond b 0 0) 0
    go true = refl
    go false = refl

shifts : {old new : ℕ → ℕ} {m v x y z : ℕ} → v ≢ m → old m ≡ x → ((g : ℕ) → new g + (when m g x + when v g y) ≡ old g + when v g z) → Shifts old new m v y z
shifts {old} {new} {m} {v} {x} {y} {z} d was law =
    record {
      none =
          let a = when_there m x in let b = when_else v m y d in let c = when_else v m z d in let e = law m in
          omega (arith, a, b, c, e);
      here =
          let a = when_else m v x (λ e. d (sym e)) in let b = when_there v y in let c = when_there v z in let e = law v in
          omega (arith, a, b, c, e);
      same = λ g n o.
          let a = when_else m g x (λ e. n (sym e)) in let b = when_else v g y (λ e. o (sym e)) in let c = when_else v g z (λ e. o (sym e)) in let e = law g in
          omega (arith, a, b, c, e);
    }

share_when : (lives ends : List ℕ) (g q v : ℕ) → get_or lives q 0 ≡ 1 → get_or ends q 0 ≡ v → share_at lives ends g q ≡ when v g (share q)
share_when lives ends g q v l e = rw (eq-eqb (get_or lives q 0) 1 l, e) refl

-- At one end of the slots: p is the only slot at gate m, q ends at v, and when they have changed, what they count is `kept` at v.
shifted :
    {lives ends : List ℕ} (lives' ends' : List ℕ) {k m v p q kept : ℕ}
    → OnlyAt lives ends k m p
    → q < k
    → get_or lives q 0 ≡ 1
    → get_or ends q 0 ≡ v
    → q ≢ p
    → ((x : ℕ) → x ≢ p → x ≢ q → (get_or lives' x 0 ≡ get_or lives x 0) × (get_or ends' x 0 ≡ get_or ends x 0))
    → ((g : ℕ) → share_at lives' ends' g p + share_at lives' ends' g q ≡ when v g kept)
    → Shifts (tally lives ends k) (tally lives' ends' k) m v (share q) kept
shifted {lives} {ends} lives' ends' {k} {m} {v} {p} {q} {kept} o h l e apart same after =
    shifts (λ z. apart (o.only q h l (e ∙ z))) (only_tally lives ends o)
    (λ g.
    let w = tally_changes lives ends lives' ends' k g p q o.slot h (λ z. apart (sym z)) (λ x _. same x) in
    let x = share_when lives ends g p m o.live o.end in
    let y = share_when lives ends g q v l e in
    let z = after g in
    omega (arith, w, x, y, z))

-- A gate m that goes, with its slots i and j.
module _ {k m i j : ℕ} {A : Arrays} (ch : Chosen k A m i j) (apart : i ≢ j) (lives_long : k ≤ length A.lives) (tos_long : k ≤ length A.tos) where
  abbrev v : ℕ
  v = get_or A.tos j 0

  abbrev u : ℕ
  u = get_or A.froms i 0

  abbrev lives₁ : List ℕ
  lives₁ = set A.lives j 0

  abbrev tos₁ : List ℕ
  tos₁ = set A.tos i v

  abbrev lives₂ : List ℕ
  lives₂ = set (set A.lives i 0) j 0

  pub v_off_m : v ≢ m
  v_off_m e = apart (sym (ch.in_only j ch.out_slot ch.out_live e))

  pub u_off_m : u ≢ m
  u_off_m e = apart (ch.out_only i ch.in_slot ch.in_live e)

  j_inside : j < length A.lives
  j_inside = omega (arith, ch.out_slot)

  -- slots i and j become one: i lives on, j is dead
  i_lives : get_or lives₁ i 0 ≡ 1
  i_lives = get_or-set_other A.lives j i 0 0 apart ∙ ch.in_live

  j_dead₁ : (ends : List ℕ) (g : ℕ) → share_at lives₁ ends g j ≡ 0
  j_dead₁ ends g = share_dead lives₁ ends g j (cleared_dead A.lives j j_inside)

  joined_ins : Shifts (tally A.lives A.tos k) (tally lives₁ tos₁ k) m v (share j) (share i)
  joined_ins =
      shifted lives₁ tos₁ (in_at ch) ch.out_slot ch.out_live refl (λ e. apart (sym e)) (λ x a b. (get_or-set_other A.lives j x 0 0 b, get_or-set_other A.tos i x v 0 a))
      (λ g.
      let x = share_when lives₁ tos₁ g i v i_lives (get_or-set_same A.tos i v 0 (omega (arith, ch.in_slot))) in
      let y = j_dead₁ tos₁ g in
      omega (arith, x, y))

  joined_outs : Shifts (tally A.lives A.froms k) (tally lives₁ A.froms k) m u (share i) (share i)
  joined_outs =
      shifted lives₁ A.froms (out_at ch) ch.in_slot ch.in_live refl apart (λ x a b. (get_or-set_other A.lives j x 0 0 a, refl))
      (λ g.
      let x = share_when lives₁ A.froms g i u i_lives refl in
      let y = j_dead₁ A.froms g in
      omega (arith, x, y))

  -- another slot takes up slots i and j: both are dead
  dead₂ : (ends : List ℕ) (g : ℕ) → (share_at lives₂ ends g i ≡ 0) × (share_at lives₂ ends g j ≡ 0)
  dead₂ ends g = (
    share_dead lives₂ ends g i (λ e. cleared_dead A.lives i (omega (arith, ch.in_slot)) (sym (get_or-set_other (set A.lives i 0) j i 0 0 apart) ∙ e)),
    share_dead lives₂ ends g j (cleared_dead (set A.lives i 0) j (rw length-set j_inside)),
  )

  same₂ : (x : ℕ) → x ≢ i → x ≢ j → get_or lives₂ x 0 ≡ get_or A.lives x 0
  same₂ x a b = get_or-set_other (set A.lives i 0) j x 0 0 b ∙ get_or-set_other A.lives i x 0 0 a

  taken_up_ins : Shifts (tally A.lives A.tos k) (tally lives₂ A.tos k) m v (share j) 0
  taken_up_ins =
      shifted lives₂ A.tos (in_at ch) ch.out_slot ch.out_live refl (λ e. apart (sym e)) (λ x a b. (same₂ x a b, refl))
      (λ g. let (x, y) = dead₂ A.tos g in let z = when_nothing v g in omega (arith, x, y, z))

  taken_up_outs : Shifts (tally A.lives A.froms k) (tally lives₂ A.froms k) m u (share i) 0
  taken_up_outs =
      shifted lives₂ A.froms (out_at ch) ch.in_slot ch.in_live refl apart (λ x a b. (same₂ x b a, refl))
      (λ g. let (x, y) = dead₂ A.froms g in let z = when_nothing u g in omega (arith, x, y, z))

  -- the tallies settled
  module _ {n : ℕ} {ins outs : List ℕ} (t : Tallied n k A ins outs) (ins_long : n ≤ length ins) (outs_long : n ≤ length outs) (m_below : m < n) (v_below : v < n) (u_below : u < n) where
    pub tallied_after : {c r : ℕ} {B : Arrays} → Went k c m i j A B r → Tallied n k B (settled m v (share j) (kept_share c r i) ins) (settled m u (share i) (kept_share c r i) outs)
    tallied_after {c} {r} (by_joining none e f) =
        subst (λ B. Tallied n k B (settled m v (share j) (kept_share c r i) ins) (settled m u (share i) (kept_share c r i) outs)) (sym e)
        (rw (f, eq-eqb (c + 1) (c + 1) refl) (unfold joined in record {
          ins_right = settled_right ins ins_long m_below v_below v_off_m t.ins_right joined_ins;
          outs_right = settled_right outs outs_long m_below u_below u_off_m t.outs_right joined_outs;
        }))
    tallied_after {c} {r} (by_taking_up l inside ld e f) =
        subst (λ B. Tallied n k B (settled m v (share j) (kept_share c r i) ins) (settled m u (share i) (kept_share c r i) outs)) (sym e)
        (rw (f, ne_eqb (c + 2) (c + 1) (omega arith)) (unfold taken_up in record {
          ins_right = settled_right ins ins_long m_below v_below v_off_m t.ins_right taken_up_ins;
          outs_right = settled_right outs outs_long m_below u_below u_off_m t.outs_right taken_up_outs;
        }))

-- A tally is small, and holds the share of each slot at its gate: it can be settled.
settles : (lives ends tallies : List ℕ) (n k g q kept c r i : ℕ) → TalliedBy lives ends n k tallies → k ≤ max_wires → g < n → g ≡ get_or ends q 0 → q < k → get_or lives q 0 ≡ 1 → i < k → kept ≡ kept_share c r i
    → (get_or tallies g 0 + kept < 2 ^ 32) × (share q ≤ get_or tallies g 0 + kept)
settles lives ends tallies n k g q kept c r i t few below e h l hi is =
    let x = t g below in
    let y = tally_few lives ends k g few in
    let z = tally_has lives ends k g q h l (sym e) in
    let w = kept_few c r i (omega arith) in
    (omega (arith, x, y, w), omega (arith, x, z))

module _ {n k c m i j : ℕ} {A : Arrays} {ins outs : List ℕ} (rd : Ready n k c A) (ch : Chosen k A m i j) (t : Tallied n k A ins outs) (few : k ≤ max_wires) where
  pub ins_settle : (r : ℕ) {g kept : ℕ} → g ≡ get_or A.tos j 0 → kept ≡ kept_share c r i → (get_or ins g 0 + kept < 2 ^ 32) × (share j ≤ get_or ins g 0 + kept)
  ins_settle r {g} {kept} e is =
      settles A.lives A.tos ins n k g j kept c r i t.ins_right few (subst (λ z. z < n) (sym e) (rd.to_below j ch.out_slot)) e ch.out_slot ch.out_live ch.in_slot is

  pub outs_settle : (r : ℕ) {g kept : ℕ} → g ≡ get_or A.froms i 0 → kept ≡ kept_share c r i → (get_or outs g 0 + kept < 2 ^ 32) × (share i ≤ get_or outs g 0 + kept)
  outs_settle r {g} {kept} e is =
      settles A.lives A.froms outs n k g i kept c r i t.outs_right few (subst (λ z. z < n) (sym e) (rd.from_below i ch.in_slot)) e ch.in_slot ch.in_live ch.in_slot is
