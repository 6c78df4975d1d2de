-- The judgement of a network: an order leaves no loop, the lowest gate of a kind is one gate, and a network has one judgement, which refuses it exactly when a refusal fits.
-- Assumes nothing.
use Rattle.std.proofs.Common.{Option, Some, None, Result, Ok, Err, IsSome}
use mathlib.Core.Path.{◌≡◌, refl, ap, subst}
use mathlib.Core.Logic.{◌↔◌}
use mathlib.Core.Bool.{true}
use mathlib.Core.List.{List, []}
use Prim.Native.Nat.{ℕ, ◌<◌}
use lib.ListN.{replicate, length-replicate}
use native.Mathlib.Omega.{arith}
use native.Mathlib.Decide.{dec_lt}
use Rattle.lists.specs.Search.{Lowest, LowestBelow}
use Rattle.model.specs.declared.Refusal.{Refusal}
use Rattle.model.specs.declared.Refusal.TheVariants.{Loop, Ends}
use Rattle.model.specs.Block.{Block, no_gate}
use Rattle.model.specs.Arrays.{wires_in}
use Rattle.model.specs.Refusal.{OnLoop, EndFault, SoundNetwork}
use Rattle.ordering.specs.Wires.{Lent, InArrays}
use Rattle.ordering.specs.Order.{OrderFound}
use Rattle.network.specs.Judged.{FaultFound, Judged}
use Rattle.ordering.proofs.Reach.{leaves, from_reaches}
use Rattle.ordering.proofs.Wired.{wired_gates, loop_wired}
use Rattle.ordering.proofs.OrderOrLoop.{no_loop}

-- an order leaves no loop
ordered_no_loop : (B : Block) (order : List ℕ) → OrderFound B order true → (g : ℕ) → ¬ (OnLoop B g)
ordered_no_loop B order O g r = no_loop O g (from_reaches r)

-- Some block has these gates and wires.
pub some_block : (n m : ℕ) (sources targets : List ℕ) → (B : Block) × InArrays B n m sources targets
some_block n m sources targets = (
  record { arrival = 0; deadline = 0; activity = 0; gates = replicate n no_gate; wires = wires_in m sources targets [] },
  record { delays = []; gates = length-replicate n no_gate; wires = refl },
)

module _ (B : Block) (n m : ℕ) (sources targets : List ℕ) (I : InArrays B n m sources targets) (L : Lent n m sources targets) where
  loop_gate : (g : ℕ) → OnLoop B g → g < n
  loop_gate g r = leaves (wired_gates L) (loop_wired B n m sources targets I g r)

  -- Where some gate reaches itself, the search has found the lowest.
  pub lowest_found : (g : ℕ) × OnLoop B g → (r : Option ℕ) → LowestBelow (OnLoop B) n r → (k : ℕ) → r ≡ Some k → Lowest (OnLoop B) k
  lowest_found f r F k e = (subst (LowestBelow (OnLoop B) n) e F).1

  pub some_found : (g : ℕ) × OnLoop B g → (r : Option ℕ) → LowestBelow (OnLoop B) n r → IsSome r
  some_found f (Some r) F = refl
  some_found f None F = absurd (F f.0 (loop_gate f.0 f.1) f.1)

module _ (B : Block) (order : List ℕ) (O : OrderFound B order true) where
  pub sound_judged : FaultFound B None → Judged B order (Ok tt)
  sound_judged none = (record { no_loop = ordered_no_loop B order O; ends = none }, O)

  pub ends_judged : (g : ℕ) → FaultFound B (Some g) → Judged B order (Err (Ends g))
  ends_judged g l = (ordered_no_loop B order O, l)

-- There is one lowest number of a kind.
lowest_one : (P : ℕ → Type 0) (a b : ℕ) → Lowest P a → Lowest P b → a ≡ b
lowest_one P a b A C = go (dec_lt a b) (dec_lt b a)
  where
    go : Dec (a < b) → Dec (b < a) → a ≡ b
    go (yes h) d = absurd (C.none_below a h A.holds)
    go (no d) (yes h) = absurd (A.none_below b h C.holds)
    go (no d) (no e) = omega arith

-- A network has one judgement, whatever order was found.
pub one_judgement : (B : Block) (o p : List ℕ) (r s : Result (Unit {0}) Refusal) → Judged B o r → Judged B p s → r ≡ s
one_judgement B o p (Ok _) (Ok _) J K = refl
one_judgement B o p (Ok _) (Err (Loop h)) J K = absurd (J.0.no_loop h K.holds)
one_judgement B o p (Ok _) (Err (Ends h)) J K = absurd (J.0.ends h K.1.holds)
one_judgement B o p (Ok _) (Err _) J K = absurd K
one_judgement B o p (Err (Loop g)) (Ok _) J K = absurd (K.0.no_loop g J.holds)
one_judgement B o p (Err (Loop g)) (Err (Loop h)) J K = ap (λ (k : ℕ). Err (Loop k)) (lowest_one (OnLoop B) g h J K)
one_judgement B o p (Err (Loop g)) (Err (Ends h)) J K = absurd (K.0 g J.holds)
one_judgement B o p (Err (Loop g)) (Err _) J K = absurd K
one_judgement B o p (Err (Ends g)) (Ok _) J K = absurd (K.0.ends g J.1.holds)
one_judgement B o p (Err (Ends g)) (Err (Loop h)) J K = absurd (J.0 h K.holds)
one_judgement B o p (Err (Ends g)) (Err (Ends h)) J K = ap (λ (k : ℕ). Err (Ends k)) (lowest_one (EndFault B) g h J.1 K.1)
one_judgement B o p (Err (Ends g)) (Err _) J K = absurd K
one_judgement B o p (Err _) s J K = absurd J

-- Refusal 8 is answered exactly when some gate reaches itself, ..
pub loop_refused : (B : Block) (o : List ℕ) (r : Result (Unit {0}) Refusal) → Judged B o r → ((g : ℕ) × OnLoop B g) ↔ ((p : ℕ) × (r ≡ Err (Loop p)))
loop_refused B o (Ok _) J = (λ f. absurd (J.0.no_loop f.0 f.1), λ (p, e). cc)
loop_refused B o (Err (Loop p)) J = (λ f. (p, refl), λ e. (p, J.holds))
loop_refused B o (Err (Ends p)) J = (λ f. absurd (J.0 f.0 f.1), λ (p, e). cc)
loop_refused B o (Err _) J = absurd J

-- .. refusal 9 exactly when none does and some gate is at fault with its wires, ..
pub ends_refused : (B : Block) (o : List ℕ) (r : Result (Unit {0}) Refusal) → Judged B o r
    → (((h : ℕ) → ¬ (OnLoop B h)) × ((g : ℕ) × EndFault B g)) ↔ ((p : ℕ) × (r ≡ Err (Ends p)))
ends_refused B o (Ok _) J = (λ f. absurd (J.0.ends f.1.0 f.1.1), λ (p, e). cc)
ends_refused B o (Err (Loop p)) J = (λ f. absurd (f.0 p J.holds), λ (p, e). cc)
ends_refused B o (Err (Ends p)) J = (λ f. (p, refl), λ e. (J.0, (p, J.1.holds)))
ends_refused B o (Err _) J = absurd J

-- .. and neither exactly when the network is sound.
pub sound_accepted : (B : Block) (o : List ℕ) (r : Result (Unit {0}) Refusal) → Judged B o r → SoundNetwork B ↔ (r ≡ Ok tt)
sound_accepted B o (Ok _) J = (λ s. refl, λ e. J.0)
sound_accepted B o (Err (Loop p)) J = (λ s. absurd (s.no_loop p J.holds), λ e. cc)
sound_accepted B o (Err (Ends p)) J = (λ s. absurd (s.ends p J.1.holds), λ e. cc)
sound_accepted B o (Err _) J = absurd J
