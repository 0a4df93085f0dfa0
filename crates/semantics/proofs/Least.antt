-- The first of least cost. Over all extensions it is found by first choosing the older part, each charged the least that the newest plot
-- then adds, and completing it by the first class that adds it.
use Rattle.std.proofs.Common.{◌≡◌, refl, sym, ap, ap₂, ◌∙◌, Bool, true, false, cond, List, [], ◌∷◌, ◌++◌, map, ⊎_elim, ℕ, suc, ◌+◌, ◌<◌}
use Rattle.std.proofs.Common.{◌≤◌, min, add-zero, add_assoc, add_comm, le_refl, le_of_eq, le_of_lt, le_trans, lt_trans, arith, leb, le-leb}
use Rattle.std.proofs.Common.{leb-true, leb-false}
use mathlib.Core.List.Memᴰ
use mathlib.Core.List.{Memᴰ}
use borrow.Author.Tests.{lt-leb}
use Rattle.semantics.specs.Basics.{those}
use Rattle.semantics.specs.Solutions.{extend}
use Rattle.semantics.specs.Relabelling.{Best, none, best, better, cheapest}
use Rattle.semantics.specs.Messages.{Cost, never, some, plus, at_cost, least, worth, chosen}
use Rattle.semantics.proofs.Weights.{Product}

pub plus_assoc : (a b c : Cost) → plus (plus a b) c ≡ plus a (plus b c)
plus_assoc never b c = refl
plus_assoc (some m) never c = refl
plus_assoc (some m) (some n) never = refl
plus_assoc (some m) (some n) (some k) = ap some (add_assoc m n k)

pub plus_comm : (a b : Cost) → plus a b ≡ plus b a
plus_comm never never = refl
plus_comm never (some n) = refl
plus_comm (some m) never = refl
plus_comm (some m) (some n) = ap some (add_comm m n)

pub plus-zero : (a : Cost) → plus a (some 0) ≡ a
plus-zero never = refl
plus-zero (some m) = ap some (add-zero m)

-- costs are a product in the sense of `Weights`: what is added up along an assignment
abbrev pub costs : Product Cost
costs = record { one = some 0; barred = never; times = plus; times_assoc = plus_assoc; times_comm = plus_comm; times_one = plus-zero }

module _ {ℓ} {A : Type ℓ} where
  better_assoc : (a b c : Best A) → better (better a b) c ≡ better a (better b c)
  better_assoc none b c = refl
  better_assoc (best m x) none c = refl
  better_assoc (best m x) (best n y) none = go (leb m n)
    where
      go : (t : Bool) → better (cond t (best m x) (best n y)) none ≡ cond t (best m x) (best n y)
      go true = refl
      go false = refl
  better_assoc (best m x) (best n y) (best k z) = go (leb m n) refl (leb n k) refl
    where
      go : (t : Bool) → leb m n ≡ t → (u : Bool) → leb n k ≡ u
          → better (cond t (best m x) (best n y)) (best k z) ≡ better (best m x) (cond u (best n y) (best k z))
      go true e true f = rw (e, le-leb m k (le_trans (leb-true m n e) (leb-true n k f)))
      go true e false f = refl
      go false e true f = rw (e, f)
      go false e false f = rw (f, lt-leb m k (lt_trans (leb-false n k f) (leb-false m n e)))

  pub least-append : (f : A → Cost) (xs ys : List A) → least f (xs ++ ys) ≡ better (least f xs) (least f ys)
  least-append f [] ys = refl
  least-append f (x ∷ xs) ys =
      ap (better (at_cost (f x) x)) (least-append f xs ys) ∙ sym (better_assoc (at_cost (f x) x) (least f xs) (least f ys))

  pub least_cong : (f g : A → Cost) (xs : List A) → ((x : A) → Memᴰ x xs → f x ≡ g x) → least f xs ≡ least g xs
  least_cong f g [] h = refl
  least_cong f g (x ∷ xs) h =
      ap₂ (λ c b. better (at_cost c x) b) (h x (Memᴰ.head refl)) (least_cong f g xs (λ y m. h y (Memᴰ.tail m)))

  -- what is found, if anything, is such a cost with such an element
  abbrev pub OfBest : (ℕ → A → Type 0) → Best A → Type 0
  OfBest P none = Prim.Unit
  OfBest P (best m x) = P m x

  pub of_at-cost : (P : ℕ → A → Type 0) (v : Cost) (x : A) → ((m : ℕ) → v ≡ some m → P m x) → OfBest P (at_cost v x)
  of_at-cost P never x h = tt
  of_at-cost P (some m) x h = h m refl

  of_better : (P : ℕ → A → Type 0) (a b : Best A) → OfBest P a → OfBest P b → OfBest P (better a b)
  of_better P none b h l = l
  of_better P (best m x) none h l = h
  of_better P (best m x) (best n y) h l = go (leb m n)
    where
      go : (t : Bool) → OfBest P (cond t (best m x) (best n y))
      go true = h
      go false = l

  pub of_least : (P : ℕ → A → Type 0) (f : A → Cost) (xs : List A) → ((x : A) → Memᴰ x xs → (m : ℕ) → f x ≡ some m → P m x)
      → OfBest P (least f xs)
  of_least P f [] h = tt
  of_least P f (x ∷ xs) h =
      of_better P (at_cost (f x) x) (least f xs) (of_at-cost P (f x) x (h x (Memᴰ.head refl)))
      (of_least P f xs (λ y i. h y (Memᴰ.tail i)))

  -- the cheapest of those that pass a test: the others are not allowed
  pub cheapest_those : (test : A → Bool) (f : A → ℕ) (xs : List A)
      → cheapest f (those test xs) ≡ least (λ x. cond (test x) (some (f x)) never) xs
  cheapest_those test f [] = refl
  cheapest_those test f (x ∷ xs) = go (test x) (cheapest_those test f xs)
    where
      go : (t : Bool) → cheapest f (those test xs) ≡ least (λ y. cond (test y) (some (f y)) never) xs
          → cheapest f (cond t (x ∷ those test xs) (those test xs))
          ≡ better (at_cost (cond t (some (f x)) never) x) (least (λ y. cond (test y) (some (f y)) never) xs)
      go true h = ap (better (best (f x) x)) h
      go false h = h

module _ {ℓ κ} {A : Type ℓ} {B : Type κ} where
  -- the best of a list carried along f, at a cost more
  abbrev shift : Cost → (A → B) → Best A → Best B
  shift never f b = none
  shift (some w) f none = none
  shift (some w) f (best n x) = best (w + n) (f x)

  shift_better : (w : Cost) (f : A → B) (a b : Best A) → shift w f (better a b) ≡ better (shift w f a) (shift w f b)
  shift_better never f a b = refl
  shift_better (some w) f none b = refl
  shift_better (some w) f (best m x) none = refl
  shift_better (some w) f (best m x) (best n y) = go (leb m n) refl
    where
      go : (t : Bool) → leb m n ≡ t
          → shift (some w) f (cond t (best m x) (best n y)) ≡ cond (leb (w + m) (w + n)) (best (w + m) (f x)) (best (w + n) (f y))
      go true e =
          let h : m ≤ n = leb-true m n e in
          rw (le-leb (w + m) (w + n) (omega arith))
      go false e =
          let h : n < m = leb-false m n e in
          rw (lt-leb (w + m) (w + n) (omega arith))

  shift_at-cost : (w c : Cost) (f : A → B) (x : A) → at_cost (plus w c) (f x) ≡ shift w f (at_cost c x)
  shift_at-cost never c f x = refl
  shift_at-cost (some w) never f x = refl
  shift_at-cost (some w) (some m) f x = refl

  least-map : (w : Cost) (F : B → Cost) (h : A → Cost) (g : A → B) → ((x : A) → F (g x) ≡ plus w (h x)) → (xs : List A)
      → least F (map g xs) ≡ shift w g (least h xs)
  least-map never F h g e [] = refl
  least-map (some w) F h g e [] = refl
  least-map w F h g e (x ∷ xs) =
      rw (e x, shift_at-cost w (h x) g x, least-map w F h g e xs) (sym (shift_better w g (at_cost (h x) x) (least h xs)))

-- what the cheaper of two costs
abbrev pub cheaper : Cost → Cost → Cost
cheaper never y = y
cheaper (some m) never = some m
cheaper (some m) (some n) = some (min m n)

pub cheaper_assoc : (x y z : Cost) → cheaper (cheaper x y) z ≡ cheaper x (cheaper y z)
cheaper_assoc never y z = refl
cheaper_assoc (some m) never z = refl
cheaper_assoc (some m) (some n) never = refl
cheaper_assoc (some m) (some n) (some k) = ap some (omega arith)

pub cheaper_comm : (x y : Cost) → cheaper x y ≡ cheaper y x
cheaper_comm never never = refl
cheaper_comm never (some n) = refl
cheaper_comm (some m) never = refl
cheaper_comm (some m) (some n) = ap some (omega arith)

pub worth_better : (a b : Best ℕ) → worth (better a b) ≡ cheaper (worth a) (worth b)
worth_better none b = refl
worth_better (best m c) none = refl
worth_better (best m c) (best n d) = go (leb m n) refl
  where
    go : (t : Bool) → leb m n ≡ t → worth (cond t (best m c) (best n d)) ≡ some (min m n)
    go true e = let h : m ≤ n = leb-true m n e in ap some (omega arith)
    go false e = let h : n < m = leb-false m n e in ap some (omega arith)

-- an older choice completed by the newest plot's best class
abbrev pub complete : (List ℕ → Best ℕ) → Best (List ℕ) → Best (List ℕ)
complete K none = none
complete K (best m a) = best m (chosen (K a) ∷ a)

complete_better : (K : List ℕ → Best ℕ) (a b : Best (List ℕ)) → complete K (better a b) ≡ better (complete K a) (complete K b)
complete_better K none b = refl
complete_better K (best m x) none = refl
complete_better K (best m x) (best n y) = go (leb m n)
  where
    go : (t : Bool) → complete K (cond t (best m x) (best n y)) ≡ cond t (best m (chosen (K x) ∷ x)) (best n (chosen (K y) ∷ y))
    go true = refl
    go false = refl

complete_at-cost : (K : List ℕ → Best ℕ) (g : Cost) (b : Best ℕ) (a : List ℕ) → K a ≡ b
    → complete K (at_cost (plus g (worth b)) a) ≡ shift g (λ c. c ∷ a) b
complete_at-cost K never b a e = refl
complete_at-cost K (some w) none a e = refl
complete_at-cost K (some w) (best n c) a e = ap (λ k. best (w + n) (chosen k ∷ a)) e

-- The first of least cost over all extensions, found by the older part first.
pub least-extend : (F G : List ℕ → Cost) (H : List ℕ → ℕ → Cost) → ((c : ℕ) (a : List ℕ) → F (c ∷ a) ≡ plus (G a) (H a c))
    → (cs : List ℕ) (older : List (List ℕ))
    → least F (extend cs older) ≡ complete (λ a. least (H a) cs) (least (λ a. plus (G a) (worth (least (H a) cs))) older)
least-extend F G H e cs [] = refl
least-extend F G H e cs (a ∷ more) =
    least-append F (map (λ c. c ∷ a) cs) (extend cs more)
    ∙ rw (
      least-map (G a) F (H a) (λ c. c ∷ a) (λ c. e c a) cs,
      least-extend F G H e cs more,
      ← complete_at-cost (λ x. least (H x) cs) (G a) (least (H a) cs) a refl,
    )
    (sym
    (complete_better (λ x. least (H x) cs) (at_cost (plus (G a) (worth (least (H a) cs))) a)
    (least (λ x. plus (G x) (worth (least (H x) cs))) more)))

module _ {ℓ} {A : Type ℓ} where
  -- a stands in a list, and all before it cost more than m
  abbrev pub First : (A → ℕ) → List A → ℕ → A → Type ℓ
  First f xs m a = (before : List A) × (rest : List A) × (xs ≡ before ++ (a ∷ rest)) × ((b : A) → Memᴰ b before → m < f b)

  -- what `cheapest` finds: nothing in the empty list alone, else the first of least cost, with its cost
  abbrev pub Finds : (A → ℕ) → List A → Best A → Type ℓ
  Finds f xs none = xs ≡ []
  Finds f xs (best m a) = (m ≡ f a) × First f xs m a × ((b : A) → Memᴰ b xs → m ≤ f b)

  -- what the head costs at least, and all behind it, all cost at least
  bound_cons : (f : A → ℕ) (m : ℕ) {x : A} {xs : List A} → m ≤ f x → ((b : A) → Memᴰ b xs → m ≤ f b)
      → (b : A) → Memᴰ b (x ∷ xs) → m ≤ f b
  bound_cons f m h hs b i = ⊎_elim (λ e. le_trans h (le_of_eq (ap f (sym e)))) (hs b) (Memᴰ.cases_cons i)

  -- It does.
  pub cheapest_finds : (f : A → ℕ) (xs : List A) → Finds f xs (cheapest f xs)
  cheapest_finds f [] = refl
  cheapest_finds f (x ∷ xs) = step (cheapest f xs) (cheapest_finds f xs)
    where
      head_wins : ((b : A) → Memᴰ b xs → f x ≤ f b) → Finds f (x ∷ xs) (best (f x) x)
      head_wins h = (refl, ([], xs, refl, λ b i. absurd (Memᴰ.not-nil i)), bound_cons f (f x) (le_refl (f x)) h)

      head_loses : (k : ℕ) (y : A) → k < f x → Finds f xs (best k y) → Finds f (x ∷ xs) (best k y)
      head_loses k y l (e, (before, rest, s, dearer), least) =
          (e, (x ∷ before, rest, ap (λ r. x ∷ r) s, bound_cons f (suc k) l dearer), bound_cons f k (le_of_lt l) least)

      step : (y : Best A) → Finds f xs y → Finds f (x ∷ xs) (better (best (f x) x) y)
      step none e = head_wins (λ b i. absurd (Memᴰ.not-nil (rw e at i)))
      step (best k y) h = go (leb (f x) k) refl
        where
          go : (t : Bool) → leb (f x) k ≡ t → Finds f (x ∷ xs) (cond t (best (f x) x) (best k y))
          go true e = head_wins (λ b i. le_trans (leb-true (f x) k e) (h.2 b i))
          go false e = head_loses k y (leb-false (f x) k e) h
