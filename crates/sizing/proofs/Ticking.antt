-- Ticks handed out at a node run by run: the ticks left, handed out from here on, lead to the same increases as all of them from the start on.
-- Assumes nothing.
use mathlib.Core.Path.{◌≡◌, sym, ◌∙◌, ap}
use mathlib.Core.Logic.{◌⊎◌, inl, inr}
use Prim.Native.Nat.{ℕ, suc, ◌+◌, ◌-◌, ◌≤◌, ◌<◌, min}
use native.Mathlib.Nat.{eq-zero-or-pos}
use native.Mathlib.Omega.{arith}
use borrow.Author.Tests.{eq-eqb, ne_eqb}
use Rattle.optimum.specs.Tree.{Tree}
use Rattle.optimum.specs.Head.{Head}
use Rattle.optimum.specs.Handout.{head}
use Rattle.optimum.specs.Increases.{read, ticks_list}
use Rattle.optimum.proofs.Handout.{some_width}
use Rattle.optimum.proofs.Loop.{ticks_list_add, give_list_is_ticks, ticks_list_none}
use Rattle.heads.specs.Plan.{Plan, part, parent}
use Rattle.heads.specs.Stored.{Keeps, head_at}
use Rattle.handout.specs.State.{State, Ready, Fitting, GivenOut}
use Rattle.sizing.specs.Ticks.{TickedOut, run_of}
use Rattle.heads.proofs.Written.{keeps_on}
use Rattle.handout.proofs.Handing.{node_head, placed}

pub run_none : (ticks gain width : ℕ) → gain ≡ 0 → 0 ≡ run_of ticks gain width
unfolding run_of
run_none ticks gain width z = rw (eq-eqb gain 0 z)

pub run_some : (ticks gain width r : ℕ) → ¬ (gain ≡ 0) → r ≡ min ticks width → r ≡ run_of ticks gain width
unfolding run_of
run_some ticks gain width r d e = rw (ne_eqb gain 0 d) e

-- the next run, by a head that is read
pub run_read : (ticks : ℕ) {r : ℕ} {a b : Head} → a ≡ b → r ≡ run_of ticks a.gain a.width → r ≡ run_of ticks b.gain b.width
run_read ticks e q = q ∙ ap (λ (h : Head). run_of ticks h.gain h.width) e

-- what a run says: it is none, and there is no head, no width or no tick left; or it fits
run_zero : (ticks gain width : ℕ) → run_of ticks gain width ≡ 0 → (0 < gain → 0 < width) → (ticks ≡ 0) ⊎ (gain ≡ 0)
unfolding run_of
run_zero ticks gain width = go (eq-zero-or-pos gain)
  where
    go : (gain ≡ 0) ⊎ (0 < gain) → run_of ticks gain width ≡ 0 → (0 < gain → 0 < width) → (ticks ≡ 0) ⊎ (gain ≡ 0)
    go (inl z) = λ e wide. inr z
    go (inr p) = rw (ne_eqb gain 0 (λ z. omega arith)) (λ e wide. inl (omega (arith, wide p)))

pub run_pos : (ticks gain width : ℕ) → 0 < run_of ticks gain width → (0 < gain) × (run_of ticks gain width ≤ ticks) × (run_of ticks gain width ≤ width)
unfolding run_of
run_pos ticks gain width = go (eq-zero-or-pos gain)
  where
    go : (gain ≡ 0) ⊎ (0 < gain) → 0 < run_of ticks gain width → (0 < gain) × (run_of ticks gain width ≤ ticks) × (run_of ticks gain width ≤ width)
    go (inl z) = rw (eq-eqb gain 0 z) (λ l. absurd (omega arith))
    go (inr p) = rw (ne_eqb gain 0 (λ z. omega arith)) (λ l. (p, omega arith, omega arith))

-- `left` of `ticks` ticks are still to be handed out at node i
pub record Underway (P : Plan) (S S' : State) (i ticks left : ℕ) : Type 0 where
  pub ready : Ready P S' i
  pub leads_there : ticks_list P.heads (part P.nodes i) left S'.increases ≡ ticks_list P.heads (part P.nodes i) ticks S.increases
  pub keeps : Keeps P.nodes S.gates S.nodes S'.gates S'.nodes (parent P.parents i)

module _ {P : Plan} {S S' : State} {i ticks left : ℕ} (on : Underway P S S' i ticks left) where
  abbrev t : Tree
  t = part P.nodes i

  module _ {run : ℕ} (is : run ≡ run_of left (head_at S'.nodes i).gain (head_at S'.nodes i).width) where
    runs : 0 < run → (0 < (head_at S'.nodes i).gain) × (run ≤ left) × (run ≤ (head_at S'.nodes i).width)
    runs l = rw is (run_pos left (head_at S'.nodes i).gain (head_at S'.nodes i).width (rw is at l))

    pub run_fits : 0 < run → Fitting S' i run
    run_fits l p = (runs l).2

    pub run_left : 0 < run → run ≤ left
    run_left l = (runs l).1

    pub run_done : i < parent P.parents i → 0 < run → {S'' : State} → GivenOut P S' S'' i run (parent P.parents i) → Underway P S S'' i ticks (left - run)
    run_done up l {S''} given =
        let e = node_head P S' i on.ready i (omega arith) in
        let g = ap (λ (a : Head). a.gain) e in
        let w = ap (λ (a : Head). a.width) e in
        let q = runs l in
        let s : suc (run - 1) ≡ run = omega arith in
        let one =
        give_list_is_ticks P.gate_count P.heads on.ready.sound.heads t (run - 1) S'.increases (on.ready.sound.shaped.once i on.ready.node)
        (placed P S' i on.ready.sound on.ready.fresh on.ready.node) (omega arith) (omega arith) in
        let f : run + (left - run) ≡ left = omega arith in
        record {
          ready = record {
            sound = on.ready.sound;
            lent = given.lent;
            fresh = given.fresh;
            node = on.ready.node;
            local = λ k b. given.keeps.still k (omega (arith, on.ready.node)) (λ z. omega arith) (on.ready.local k b);
          };
          leads_there = ap (ticks_list P.heads t (left - run)) (given.increases ∙ rw s at one)
              ∙ sym (ticks_list_add P.heads t run (left - run) S'.increases)
              ∙ ap (λ (k : ℕ). ticks_list P.heads t k S'.increases) f
              ∙ on.leads_there;
          keeps = keeps_on P.nodes _ _ _ _ _ _ _ on.keeps given.keeps;
        }

    pub all_out : run ≤ 0 → TickedOut P S S' i ticks
    all_out d =
        record {
          increases = ends (run_zero left _ _ (sym is ∙ none) wide) ∙ on.leads_there;
          lent = on.ready.lent;
          fresh = on.ready.fresh;
          keeps = on.keeps;
        }
      where
        none : run ≡ 0
        none = omega arith

        e : head_at S'.nodes i ≡ head P.heads t (read t S'.increases)
        e = node_head P S' i on.ready i (omega arith)

        wide : 0 < (head_at S'.nodes i).gain → 0 < (head_at S'.nodes i).width
        wide p =
            let g = ap (λ (a : Head). a.gain) e in
            let w = ap (λ (a : Head). a.width) e in
            omega (arith, some_width P.gate_count P.heads on.ready.sound.heads t (read t S'.increases) (omega arith))

        ends : (left ≡ 0) ⊎ ((head_at S'.nodes i).gain ≡ 0) → S'.increases ≡ ticks_list P.heads t left S'.increases
        ends (inl z) = rw z
        ends (inr z) =
            let g = ap (λ (a : Head). a.gain) e in
            sym (ticks_list_none P.gate_count P.heads on.ready.sound.heads t left S'.increases (on.ready.sound.shaped.once i on.ready.node)
            (placed P S' i on.ready.sound on.ready.fresh on.ready.node) (omega arith))
