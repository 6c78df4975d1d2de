-- On lists: where gates stand once, handing out and raising on the list is handing out and raising of the increases read off it, and nothing else in the list changes.
-- Assumes nothing.
use mathlib.Core.Path.{◌≡◌, refl, sym, ◌∙◌, ap}
use mathlib.Core.Logic.{◌⊎◌, inl, inr}
use mathlib.Core.List.{List}
use Prim.Native.Nat.{ℕ, zero, suc, ◌+◌, ◌-◌, ◌≤◌, ◌<◌}
use native.Mathlib.Nat.{eq-zero-or-pos}
use native.Mathlib.Omega.{arith}
use lib.ListN.{length, get_or, length-set, replicate, length-replicate}
use lib.Seq.{get_or-set_same, get_or-set_other, ext_get_or}
use Rattle.optimum.specs.Tree.{wire, series, parallel, Tree, is, count, Once, Below, St, zeros, longest}
use Rattle.optimum.specs.Head.{Head, Item, item}
use Rattle.optimum.specs.Handout.{head, give, ticks, raise}
use Rattle.optimum.specs.Increases.{read, add, give_list, ticks_list, raise_list, sized}
use Rattle.optimum.proofs.Order.{by_turn}
use Rattle.optimum.proofs.Count.{is_self, in_series, in_parallel}

-- The list y is x but for gates of the part.
pub record Frame (t : Tree) (x y : List ℕ) : Type 0 where
  pub same_length : length y ≡ length x
  pub others : (g : ℕ) → count t g ≡ 0 → get_or y g 0 ≡ get_or x g 0

pub frame_none : (t : Tree) (x : List ℕ) → Frame t x x
frame_none t x = record { same_length = refl; others = λ g z. refl }

frame_on : (t : Tree) (x y z : List ℕ) → Frame t x y → Frame t y z → Frame t x z
frame_on t x y z f e = record { same_length = e.same_length ∙ f.same_length; others = λ g n. e.others g n ∙ f.others g n }

wider : (t u : Tree) (x y : List ℕ) → ((g : ℕ) → count t g ≤ count u g) → Frame t x y → Frame u x y
wider t u x y more f = record { same_length = f.same_length; others = λ g z. f.others g (omega (arith, more g)) }

pub read_same : (t : Tree) (x y : List ℕ) → ((g : ℕ) → 0 < count t g → get_or y g 0 ≡ get_or x g 0) → read t y ≡ read t x
read_same (wire w) x y e = refl
read_same (series P m Q) x y e =
    let p = read_same P x y (λ g l. e g (omega arith)) in
    let q = read_same Q x y (λ g l. e g (omega arith)) in
    let c = e m (omega (arith, is_self m)) in
    λ i. (p i, c i, q i)
read_same (parallel P Q) x y e =
    let p = read_same P x y (λ g l. e g (omega arith)) in
    let q = read_same Q x y (λ g l. e g (omega arith)) in
    λ i. (p i, q i)

-- equal increases of a part are equal at each of its gates
pub same_read : (t : Tree) (x y : List ℕ) → read t y ≡ read t x → (g : ℕ) → 0 < count t g → get_or y g 0 ≡ get_or x g 0
same_read (wire w) x y e g l = absurd (omega arith)
same_read (series P m Q) x y e g l =
    in_series P m Q g (get_or y g 0 ≡ get_or x g 0) l (same_read P x y (ap (λ (r : St (series P m Q)). r.0) e) g)
    (λ s. rw s (ap (λ (r : St (series P m Q)). r.1) e)) (same_read Q x y (ap (λ (r : St (series P m Q)). r.2) e) g)
same_read (parallel P Q) x y e g l =
    in_parallel P Q g (get_or y g 0 ≡ get_or x g 0) l (same_read P x y (ap (λ (r : St (parallel P Q)). r.0) e) g)
    (same_read Q x y (ap (λ (r : St (parallel P Q)). r.1) e) g)

-- a part that shares no gate with the changed one is read as before
read_apart : (t u : Tree) (x y : List ℕ) → ((g : ℕ) → count t g + count u g ≤ 1) → Frame t x y → read u y ≡ read u x
read_apart t u x y once f = read_same u x y (λ g l. f.others g (omega (arith, once g)))

module _ (h : ℕ → ℕ → Head) where
  pub give_frame : (t : Tree) (w : ℕ) (x : List ℕ) → Frame t x (give_list h t w x)
  give_frame (wire l) w x = frame_none (wire l) x
  give_frame (series P m Q) w x =
      by_turn (head h P (read P x)) (h m (get_or x m 0)) (head h Q (read Q x))
      (λ (i : Item). Frame (series P m Q) x (item i (give_list h P w x) (add x m w) (give_list h Q w x)))
      (λ ab ac. wider P (series P m Q) x _ (λ g. omega arith) (give_frame P w x))
      (λ ba bc.
      record {
        same_length = length-set x m _;
        others = λ g z. get_or-set_other x m g _ 0 (λ e. let u = is_self m in let k : is m g ≡ 1 = rw e u in omega arith);
      })
      (λ ca cb. wider Q (series P m Q) x _ (λ g. omega arith) (give_frame Q w x))
  give_frame (parallel P Q) w x =
      frame_on (parallel P Q) x (give_list h P w x) _ (wider P (parallel P Q) x _ (λ g. omega arith) (give_frame P w x))
      (wider Q (parallel P Q) _ _ (λ g. omega arith) (give_frame Q w (give_list h P w x)))

  pub ticks_frame : (t : Tree) (k : ℕ) (x : List ℕ) → Frame t x (ticks_list h t k x)
  ticks_frame t zero x = frame_none t x
  ticks_frame t (suc k) x = frame_on t x (give_list h t 1 x) _ (give_frame t 1 x) (ticks_frame t k (give_list h t 1 x))

  pub raise_frame : (d : ℕ → ℕ) (t : Tree) (x : List ℕ) → Frame t x (raise_list d h t x)
  raise_frame d (wire w) x = frame_none (wire w) x
  raise_frame d (series P m Q) x =
      frame_on (series P m Q) x (raise_list d h P x) _ (wider P (series P m Q) x _ (λ g. omega arith) (raise_frame d P x))
      (wider Q (series P m Q) _ _ (λ g. omega arith) (raise_frame d Q (raise_list d h P x)))
  raise_frame d (parallel P Q) x =
      let x₁ = raise_list d h P x in
      let x₂ = raise_list d h Q x₁ in
      let k = longest d Q (zeros Q) - longest d P (zeros P) in
      let l = longest d P (zeros P) - longest d Q (zeros Q) in
      let x₃ = ticks_list h P k x₂ in
      let left : (a b : List ℕ) → Frame P a b → Frame (parallel P Q) a b = λ a b. wider P (parallel P Q) a b (λ g. omega arith) in
      let right : (a b : List ℕ) → Frame Q a b → Frame (parallel P Q) a b = λ a b. wider Q (parallel P Q) a b (λ g. omega arith) in
      frame_on (parallel P Q) x x₁ _ (left x x₁ (raise_frame d P x)) (frame_on (parallel P Q) x₁ x₂ _ (right x₁ x₂ (raise_frame d Q x₁))
      (frame_on (parallel P Q) x₂ x₃ _ (left x₂ x₃ (ticks_frame P k x₂)) (right x₃ _ (ticks_frame Q l x₃))))

-- every gate of the part has a place in the list
abbrev pub Placed : Tree → List ℕ → Type 0
Placed t x = (g : ℕ) → 0 < count t g → g < length x

module _ (h : ℕ → ℕ → Head) where
  pub read_give : (t : Tree) (w : ℕ) (x : List ℕ) → Once t → Placed t x → read t (give_list h t w x) ≡ give h t w (read t x)
  read_give (wire l) w x once p = refl
  read_give (series P m Q) w x once p =
      by_turn (head h P (read P x)) (h m (get_or x m 0)) (head h Q (read Q x))
      (λ (i : Item). read (series P m Q) (item i (give_list h P w x) (add x m w) (give_list h Q w x)) ≡ item i (give h P w (read P x), get_or x m 0, read Q x) (read P x, get_or x m 0 + w, read Q x) (read P x, get_or x m 0, give h Q w (read Q x)))
      (λ ab ac.
      let a = read_give P w x (λ g. omega (arith, once g)) (λ g l. p g (omega arith)) in
      let f = give_frame h P w x in
      let b = f.others m (omega (arith, once m, is_self m)) in
      let c = read_apart P Q x _ (λ g. omega (arith, once g)) f in
      λ i. (a i, b i, c i))
      (λ ba bc.
      let b = get_or-set_same x m (get_or x m 0 + w) 0 (p m (omega (arith, is_self m))) in
      let a = read_same P x (add x m w) (λ g l. get_or-set_other x m g _ 0 (λ e. aside g e (once g) l)) in
      let c = read_same Q x (add x m w) (λ g l. get_or-set_other x m g _ 0 (λ e. beyond g e (once g) l)) in
      λ i. (a i, b i, c i))
      (λ ca cb.
      let c = read_give Q w x (λ g. omega (arith, once g)) (λ g l. p g (omega arith)) in
      let f = give_frame h Q w x in
      let b = f.others m (omega (arith, once m, is_self m)) in
      let a = read_apart Q P x _ (λ g. omega (arith, once g)) f in
      λ i. (a i, b i, c i))
    where
      aside : (g : ℕ) → g ≡ m → count (series P m Q) g ≤ 1 → 0 < count P g → ⊥
      aside g e o l = let k : is m g ≡ 1 = rw e (is_self m) in omega arith

      beyond : (g : ℕ) → g ≡ m → count (series P m Q) g ≤ 1 → 0 < count Q g → ⊥
      beyond g e o l = let k : is m g ≡ 1 = rw e (is_self m) in omega arith
  read_give (parallel P Q) w x once p =
      let y = give_list h P w x in
      let f = give_frame h P w x in
      let e = give_frame h Q w y in
      let a = read_apart Q P y _ (λ g. omega (arith, once g)) e ∙ read_give P w x (λ g. omega (arith, once g)) (λ g l. p g (omega arith)) in
      let b = read_give Q w y (λ g. omega (arith, once g)) (λ g l. omega (arith, p g (omega arith), f.same_length)) ∙ ap (give h Q w) (read_apart P Q x y (λ g. omega (arith, once g)) f) in
      λ i. (a i, b i)

  pub read_ticks : (t : Tree) (k : ℕ) (x : List ℕ) → Once t → Placed t x → read t (ticks_list h t k x) ≡ ticks h t k (read t x)
  read_ticks t zero x once p = refl
  read_ticks t (suc k) x once p =
      read_ticks t k (give_list h t 1 x) once (λ g l. omega (arith, p g l, (give_frame h t 1 x).same_length))
      ∙ ap (ticks h t k) (read_give t 1 x once p)

  -- two parts that share no gate, raised one after the other
  read_both : (d : ℕ → ℕ) (P Q : Tree) (x : List ℕ) → ((g : ℕ) → count P g + count Q g ≤ 1) → Placed Q x → read Q x ≡ zeros Q
      → read P (raise_list d h P x) ≡ raise d h P
      → ((y : List ℕ) → Placed Q y → read Q y ≡ zeros Q → read Q (raise_list d h Q y) ≡ raise d h Q)
      → (read P (raise_list d h Q (raise_list d h P x)) ≡ raise d h P) × (read Q (raise_list d h Q (raise_list d h P x)) ≡ raise d h Q)
  read_both d P Q x once p z readP readQ =
      let y = raise_list d h P x in
      let f = raise_frame h d P x in (
        read_apart Q P y _ (λ g. omega (arith, once g)) (raise_frame h d Q y) ∙ readP,
        readQ y (λ g l. omega (arith, p g l, f.same_length)) (read_apart P Q x y once f ∙ z),
      )

  pub read_raise : (d : ℕ → ℕ) (t : Tree) (x : List ℕ) → Once t → Placed t x → read t x ≡ zeros t → read t (raise_list d h t x) ≡ raise d h t
  read_raise d (wire w) x once p z = refl
  read_raise d (series P m Q) x once p z =
      let r =
      read_both d P Q x
      (λ g. omega (arith, once g))
      (λ g l. p g (omega arith)) (ap (λ (r : St (series P m Q)). r.2) z)
      (read_raise d P x (λ g. omega (arith, once g)) (λ g l. p g (omega arith)) (ap (λ (r : St (series P m Q)). r.0) z))
      (λ y. read_raise d Q y (λ g. omega (arith, once g)))
      in
      let a = r.0 in
      let c = r.1 in
      let b =
      (raise_frame h d Q (raise_list d h P x)).others m (omega (arith, once m, is_self m))
      ∙ (raise_frame h d P x).others m (omega (arith, once m, is_self m))
      ∙ ap (λ (r : St (series P m Q)). r.1) z
      in
      λ i. (a i, b i, c i)
  read_raise d (parallel P Q) x once p z =
      let x₁ = raise_list d h P x in
      let x₂ = raise_list d h Q x₁ in
      let k = longest d Q (zeros Q) - longest d P (zeros P) in
      let l = longest d P (zeros P) - longest d Q (zeros Q) in
      let x₃ = ticks_list h P k x₂ in
      let same₂ : length x₂ ≡ length x = (raise_frame h d Q x₁).same_length ∙ (raise_frame h d P x).same_length in
      let r =
      read_both d P Q x once
      (λ g l. p g (omega arith)) (ap (λ (r : St (parallel P Q)). r.1) z)
      (read_raise d P x (λ g. omega (arith, once g)) (λ g l. p g (omega arith)) (ap (λ (r : St (parallel P Q)). r.0) z))
      (λ y. read_raise d Q y (λ g. omega (arith, once g)))
      in
      let f = ticks_frame h P k x₂ in
      let a =
      read_apart Q P x₃ _ (λ g. omega (arith, once g)) (ticks_frame h Q l x₃)
      ∙ read_ticks P k x₂ (λ g. omega (arith, once g)) (λ g l. omega (arith, p g (omega arith)))
      ∙ ap (ticks h P k) r.0
      in
      let b =
      read_ticks Q l x₃ (λ g. omega (arith, once g)) (λ g l. omega (arith, p g (omega arith), f.same_length))
      ∙ ap (ticks h Q l) (read_apart P Q x₂ x₃ once f ∙ r.1)
      in
      λ i. (a i, b i)

-- two lists that differ from x at most at the part's gates, and not there
pub same_lists : (t : Tree) (x y z : List ℕ) → Frame t x y → Frame t x z → read t y ≡ read t z → y ≡ z
same_lists t x y z f e r = ext_get_or 0 y z (f.same_length ∙ sym e.same_length) (λ g l. go g (eq-zero-or-pos (count t g)))
  where
    go : (g : ℕ) → (count t g ≡ 0) ⊎ (0 < count t g) → get_or y g 0 ≡ get_or z g 0
    go g (inl n) = f.others g n ∙ sym (e.others g n)
    go g (inr p) = same_read t z y r g p

-- no increase, read off a list of zeros
no_increase : (n g : ℕ) → get_or {A = ℕ} (replicate n 0) g 0 ≡ 0
no_increase zero g = refl
no_increase (suc n) zero = refl
no_increase (suc n) (suc g) = no_increase n g

pub read_zeros : (n : ℕ) (t : Tree) → read t (replicate n 0) ≡ zeros t
read_zeros n (wire w) = refl
read_zeros n (series P m Q) =
    let a = read_zeros n P in
    let b = no_increase n m in
    let c = read_zeros n Q in
    λ i. (a i, b i, c i)
read_zeros n (parallel P Q) =
    let a = read_zeros n P in
    let b = read_zeros n Q in
    λ i. (a i, b i)

module _ (h : ℕ → ℕ → Head) (d : ℕ → ℕ) (t : Tree) (n : ℕ) where
  pub length_raised : length (raise_list d h t (replicate n 0)) ≡ n
  length_raised = (raise_frame h d t (replicate n 0)).same_length ∙ length-replicate n 0

  pub length_sized : (k : ℕ) → length (sized d h t n k) ≡ n
  length_sized k = (ticks_frame h t k (raise_list d h t (replicate n 0))).same_length ∙ length_raised

  -- the list after k ticks from the raised start holds the part's increases after k ticks from its raised start
  pub read_sized : (k : ℕ) → Once t → Below n t → read t (sized d h t n k) ≡ ticks h t k (raise d h t)
  read_sized k once below =
      read_ticks h t k _ once (λ g l. omega (arith, below g l, length_raised))
      ∙ ap
      (ticks h t k) (read_raise h d t _ once (λ g l. omega (arith, below g l, length-replicate {A = ℕ} n 0)) (read_zeros n t))
