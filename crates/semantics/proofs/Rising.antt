-- Lists in order: each element comes before all that stand behind it, by any test of two elements.
use Rattle.std.proofs.Common.{◌≡◌, refl, sym, ap, ◌∙◌, Bool, true, false, cond, ◌&&◌, List, [], ◌∷◌, ◌++◌, map, ⊎_elim, ℕ, zero, suc, ◌<◌}
use Rattle.std.proofs.Common.{arith, length, ltb, lt-ltb}
use mathlib.Core.Bool.{false≢true}
use mathlib.Core.List.Memᴰ
use mathlib.Core.List.{Memᴰ}
use Rattle.semantics.specs.Basics.{every, those, below}
use Rattle.semantics.proofs.Lists.{and_left, and_right, and_both, not_passed, every_append, every_in, in_every, in_those, those_none}
use Rattle.semantics.proofs.Lists.{in_below}

module _ {ℓ} {A : Type ℓ} (before : A → A → Bool) where
  abbrev pub rising : List A → Bool
  rising [] = true
  rising (a ∷ more) = every (before a) more && rising more

  pub rising_head : (a : A) (more : List A) → rising (a ∷ more) ≡ true → every (before a) more ≡ true
  rising_head a more h = and_left (every (before a) more) (rising more) h

  pub rising_tail : (a : A) (more : List A) → rising (a ∷ more) ≡ true → rising more ≡ true
  rising_tail a more h = and_right (every (before a) more) (rising more) h

  pub rising_append : (xs ys : List A) → rising xs ≡ true → rising ys ≡ true
      → ((x y : A) → Memᴰ x xs → Memᴰ y ys → before x y ≡ true) → rising (xs ++ ys) ≡ true
  rising_append [] ys p q h = q
  rising_append (x ∷ xs) ys p q h =
      and_both (every (before x) (xs ++ ys)) (rising (xs ++ ys))
      (every_append (before x) xs ys
      ∙ and_both (every (before x) xs) (every (before x) ys) (rising_head x xs p)
      (in_every (before x) ys (λ y m. h x y (Memᴰ.head refl) m)))
      (rising_append xs ys (rising_tail x xs p) q (λ y z m n. h y z (Memᴰ.tail m) n))

  -- of a rising list any part is rising
  pub rising_those : (f : A → Bool) (xs : List A) → rising xs ≡ true → rising (those f xs) ≡ true
  rising_those f [] h = refl
  rising_those f (a ∷ more) h = go (f a) (rising_those f more (rising_tail a more h))
    where
      go : (t : Bool) → rising (those f more) ≡ true → rising (cond t (a ∷ those f more) (those f more)) ≡ true
      go true ih =
          and_both (every (before a) (those f more)) (rising (those f more))
          (in_every (before a) (those f more) (λ b m. every_in (before a) more (rising_head a more h) (in_those f more m).0)) ih
      go false ih = ih

  -- and so is what stands behind some of its elements
  pub rising_rest : (xs ys : List A) → rising (xs ++ ys) ≡ true → rising ys ≡ true
  rising_rest [] ys h = h
  rising_rest (x ∷ xs) ys h = rising_rest xs ys (rising_tail x (xs ++ ys) h)

  -- an element that doesn't come before itself stands once: a test that it alone passes is passed once
  pub rising_once : (f : A → Bool) (a : A) (xs : List A) → f a ≡ true → ((b : A) → f b ≡ true → a ≡ b) → before a a ≡ false
      → rising xs ≡ true
      → Memᴰ a xs → length (those f xs) ≡ 1
  rising_once f a [] e u i h m = absurd (Memᴰ.not-nil m)
  rising_once f a (b ∷ more) e u i h m = go (f b) refl (rising_once f a more e u i (rising_tail b more h))
    where
      go : (t : Bool) → f b ≡ t → (Memᴰ a more → length (those f more) ≡ 1)
          → length (cond t (b ∷ those f more) (those f more)) ≡ 1
      go true q ih =
          ap suc
          (ap length
          (those_none f more
          (λ c k. not_passed (f c)
          (λ g. false≢true
          (sym i ∙ ap (λ x. before x a) (u b q) ∙ ap (before b) (u c g) ∙ every_in (before b) more (rising_head b more h) k)))))
      go false q ih = ih (⊎_elim (λ r. absurd (false≢true (sym q ∙ ap f (sym r) ∙ e))) (λ k. k) (Memᴰ.cases_cons m))

-- a list in order by one test is so by any other that its elements then pass too
pub rising_also {ℓ} : {A : Type ℓ} (before also : A → A → Bool) (xs : List A)
    → ((x y : A) → Memᴰ x xs → Memᴰ y xs → before x y ≡ true → also x y ≡ true) → rising before xs ≡ true → rising also xs ≡ true
rising_also before also [] h r = refl
rising_also before also (x ∷ xs) h r =
    and_both (every (also x) xs) (rising also xs)
    (in_every (also x) xs (λ y m. h x y (Memᴰ.head refl) (Memᴰ.tail m) (every_in (before x) xs (rising_head before x xs r) m)))
    (rising_also before also xs (λ y z m n. h y z (Memᴰ.tail m) (Memᴰ.tail n)) (rising_tail before x xs r))

-- elements that are made one from each of a list in order
pub rising_map {ℓ κ} : {A : Type ℓ} {B : Type κ} (before : B → B → Bool) (g : A → B) (xs : List A)
    → rising (λ x y. before (g x) (g y)) xs ≡ true → rising before (map g xs) ≡ true
rising_map before g [] h = refl
rising_map before g (x ∷ xs) h =
    and_both (every (before (g x)) (map g xs)) (rising before (map g xs))
    (in_every (before (g x)) (map g xs)
    (λ y m.
    let r = Memᴰ.of_map g xs m in
    rw (← r.2) (every_in (λ z. before (g x) (g z)) xs (rising_head (λ u v. before (g u) (g v)) x xs h) r.1)))
    (rising_map before g xs (rising_tail (λ u v. before (g u) (g v)) x xs h))

-- the numbers below k rise
pub rising_below : (k : ℕ) → rising ltb (below k) ≡ true
rising_below zero = refl
rising_below (suc k) =
    rising_append ltb (below k) (k ∷ []) (rising_below k) refl
    (λ x y m n. lt-ltb x y (let l : x < k = in_below k m in let e : y ≡ k = Memᴰ.eq_of_singleton n in omega arith))
