-- Ticks spent at a node, run after run: the runs noted so far, followed by those of the ticks that are left, are all runs, and these lead to the same list.
-- Assumes nothing.
use mathlib.Core.Path.{◌≡◌, refl, sym, ◌∙◌, ap}
use mathlib.Core.List.{List, [], ◌∷◌, ◌++◌, append-nil}
use Prim.Native.Nat.{ℕ, zero, suc, ◌+◌, ◌-◌, ◌*◌, ◌^◌, ◌≤◌, ◌<◌}
use native.Mathlib.Omega.{arith}
use borrow.Author.Tests.{eq-eqb, ne_eqb}
use lib.ListN.{get_or}
use lib.Seq.{append_snoc}
use Rattle.lists.specs.Over.{build}
use Rattle.model.specs.Limits.{max_width}
use Rattle.model.specs.Curve.{Pair}
use Rattle.optimum.specs.Tree.{Tree}
use Rattle.optimum.specs.Head.{Head}
use Rattle.optimum.specs.Handout.{head}
use Rattle.optimum.specs.Increases.{read}
use Rattle.optimum.specs.Runs.{joined}
use Rattle.heads.specs.Plan.{Plan, part, parent}
use Rattle.heads.specs.Stored.{head_at}
use Rattle.handout.specs.State.{State, Ready, Fitting, GivenOut}
use Rattle.sizing.specs.Ticks.{run_of}
use Rattle.sizing.specs.Pairs.{pair, pairs_in, extend, next_run, spent_runs, spent_list, Noted, Curvable, Spent}
use Rattle.handout.proofs.Handing.{node_head}
use Rattle.sizing.proofs.Ticking.{run_pos}
use Rattle.sizing.proofs.Joining.{joined_more}
use Rattle.sizing.proofs.Spent.{width_bounded}

-- after k runs, `left` of `ticks` ticks are still to be spent, and c pairs stand in the arrays
pub record Spending (P : Plan) (x₀ : List ℕ) (i ticks steps left c k : ℕ) (widths₀ gains₀ : List ℕ) (S : State) (widths gains : List ℕ) : Type 0 where
  pub ready : Ready P S i
  pub past : List Pair
  pub all_runs : spent_runs P.heads (part P.nodes i) steps ticks x₀ ≡ past ++ spent_runs P.heads (part P.nodes i) (steps - k) left S.increases
  pub leads_there : spent_list P.heads (part P.nodes i) (steps - k) left S.increases ≡ spent_list P.heads (part P.nodes i) steps ticks x₀
  pub noted : pairs_in c widths gains ≡ joined past
  pub within : k ≤ steps
  pub few : c ≤ k
  pub wide : (j : ℕ) → j < c → get_or widths j 0 ≤ k * max_width
  pub other_widths : (j : ℕ) → c ≤ j → get_or widths j 0 ≡ get_or widths₀ j 0
  pub other_gains : (j : ℕ) → c ≤ j → get_or gains j 0 ≡ get_or gains₀ j 0

pub spending_starts : {P : Plan} {S : State} {i steps : ℕ} → Curvable P S i steps → (ticks : ℕ) (widths gains : List ℕ)
    → Spending P S.increases i ticks steps ticks 0 0 widths gains S widths gains
unfolding build joined
spending_starts {P} {S} {i} {steps} able ticks widths gains =
    let e : steps - 0 ≡ steps = omega arith in
    record {
      ready = able.ready;
      past = [];
      all_runs = rw e;
      leads_there = rw e;
      noted = refl;
      within = omega arith;
      few = omega arith;
      wide = λ j l. absurd (omega arith);
      other_widths = λ j l. refl;
      other_gains = λ j l. refl;
    }

module _ {P : Plan} {S₀ : State} {i steps : ℕ} (able : Curvable P S₀ i steps) {x₀ : List ℕ} {ticks left c k : ℕ} {widths₀ gains₀ : List ℕ} {S : State}
    {widths gains : List ℕ} (on : Spending P x₀ i ticks steps left c k widths₀ gains₀ S widths gains) where
  abbrev t : Tree
  t = part P.nodes i

  stored_head : head_at S.nodes i ≡ head P.heads t (read t S.increases)
  stored_head = node_head P S i on.ready i (omega arith)

  width_small : (head_at S.nodes i).width ≤ max_width
  width_small =
      let e = ap (λ (a : Head). a.width) stored_head in
      omega (arith, width_bounded P.heads max_width able.widths t (read t S.increases))

  done : on.past ++ spent_runs P.heads t (steps - k) left S.increases ≡ on.past → spent_list P.heads t (steps - k) left S.increases ≡ S.increases
      → Spent P x₀ S.increases i ticks steps c widths₀ gains₀ widths gains
  done e same =
      record {
        increases = sym same ∙ on.leads_there;
        pairs = on.noted ∙ ap joined (sym (on.all_runs ∙ e));
        few = omega (arith, on.few, on.within);
        other_widths = on.other_widths;
        other_gains = on.other_gains;
      }

  -- all runs are noted
  pub spending_full : steps ≤ k → Spent P x₀ S.increases i ticks steps c widths₀ gains₀ widths gains
  unfolding spent_runs spent_list
  spending_full l =
      let e : steps - k ≡ 0 = omega (arith, on.within) in
      done (ap (λ (f : ℕ). on.past ++ spent_runs P.heads t f left S.increases) e ∙ append-nil on.past)
      (ap (λ (f : ℕ). spent_list P.heads t f left S.increases) e)

  module _ {run : ℕ} (is : run ≡ run_of left (head_at S.nodes i).gain (head_at S.nodes i).width) where
    is_next : next_run P.heads t left S.increases ≡ run
    is_next = sym (is ∙ ap (λ (a : Head). run_of left a.gain a.width) stored_head)

    -- no tick is left, or no head
    pub spending_ends : run ≡ 0 → Spent P x₀ S.increases i ticks steps c widths₀ gains₀ widths gains
    unfolding spent_runs spent_list
    spending_ends z = done (ap (λ (L : List Pair). on.past ++ L) (no_runs (steps - k)) ∙ append-nil on.past) (no_change (steps - k))
      where
        no_runs : (f : ℕ) → spent_runs P.heads t f left S.increases ≡ []
        no_runs zero = refl
        no_runs (suc f) = rw (eq-eqb _ 0 (is_next ∙ z))

        no_change : (f : ℕ) → spent_list P.heads t f left S.increases ≡ S.increases
        no_change zero = refl
        no_change (suc f) = rw (eq-eqb _ 0 (is_next ∙ z))

    module _ (some : 0 < run) where
      fits : (0 < (head_at S.nodes i).gain) × (run ≤ left) × (run ≤ (head_at S.nodes i).width)
      fits = rw is (run_pos left (head_at S.nodes i).gain (head_at S.nodes i).width (rw is at some))

      pub run_fits : Fitting S i run
      run_fits p = fits.2

      pub run_left : run ≤ left
      run_left = fits.1

      pub widths_fit : (j : ℕ) → j < c → get_or widths j 0 + run < 2 ^ 32
      widths_fit j l = omega (arith, on.wide j l, fits.2, width_small, on.within, able.few)

      pub spending_on : {r : ℕ} {widths' gains' : List ℕ} {g : ℕ} → g ≡ (head_at S.nodes i).gain → Noted c r widths gains widths' gains' run g → k < steps
          → {S' : State} → GivenOut P S S' i run (parent P.parents i) → Spending P x₀ i ticks steps (left - run) r (k + 1) widths₀ gains₀ S' widths' gains'
      unfolding spent_runs spent_list
      spending_on {r} {widths'} {gains'} {g} eg new l {S'} given =
          record {
            ready = record {
              sound = on.ready.sound;
              lent = given.lent;
              fresh = given.fresh;
              node = on.ready.node;
              local = λ j b. given.keeps.still j (omega (arith, on.ready.node)) (λ z. omega (arith, able.above)) (on.ready.local j b);
            };
            past = on.past ++ (pair run g ∷ []);
            all_runs = on.all_runs ∙ ap (λ (L : List Pair). on.past ++ L) first_run ∙ sym (append_snoc on.past (pair run g) _);
            leads_there = sym after_run ∙ on.leads_there;
            noted = new.pairs ∙ ap (λ (L : List Pair). extend L (pair run g)) on.noted ∙ sym (joined_more on.past (pair run g));
            within = omega arith;
            few = omega (arith, on.few, new.few);
            wide = λ j b. omega (arith, new.wide (k * max_width) on.wide j b, fits.2, width_small);
            other_widths = λ j b. new.other_widths j b ∙ on.other_widths j (omega (arith, new.no_fewer));
            other_gains = λ j b. new.other_gains j b ∙ on.other_gains j (omega (arith, new.no_fewer));
          }
        where
          f : steps - k ≡ suc (steps - (k + 1))
          f = omega arith

          goes_on : ¬ (next_run P.heads t left S.increases ≡ 0)
          goes_on z = omega (arith, is_next)

          gain_is : (head P.heads t (read t S.increases)).gain ≡ g
          gain_is = sym (eg ∙ ap (λ (a : Head). a.gain) stored_head)

          first_run : spent_runs P.heads t (steps - k) left S.increases ≡ pair run g ∷ spent_runs P.heads t (steps - (k + 1)) (left - run) S'.increases
          first_run = rw f (rw (ne_eqb (next_run P.heads t left S.increases) 0 goes_on) (rw (is_next, gain_is, given.increases)))

          after_run : spent_list P.heads t (steps - k) left S.increases ≡ spent_list P.heads t (steps - (k + 1)) (left - run) S'.increases
          after_run = rw f (rw (ne_eqb (next_run P.heads t left S.increases) 0 goes_on) (rw (is_next, given.increases)))
