-- Laws of the lists and tests that the definitions are written with: `every`, `those`, `foremost`, `same`, `below`, and membership in them.
use Rattle.std.proofs.Common.{◌≡◌, refl, sym, ap, ap₂, ◌∙◌, Bool, true, false, cond, not, ◌&&◌, List, [], ◌∷◌, ◌++◌, map, ⊎_elim, ℕ, zero}
use Rattle.std.proofs.Common.{suc, ◌<◌, eq-or-lt_of_le, not-suc-le-zero, le_of_suc-le-suc, add-one, arith, length, get_or, length-append}
use Rattle.std.proofs.Common.{eqb, eq-eqb, ne_eqb, eqb-true}
use mathlib.Core.Bool.{false≢true}
use mathlib.Core.List.{map-append, Memᴰ}
use mathlib.Core.List.Memᴰ
use lib.ListN.{length-map, get_or-append}
use lib.Seq.{get_or_at}
use Rattle.semantics.specs.Basics.{every, those, foremost, same, below}

-- both halves of a test that passes, and a test whose halves pass
pub and_left : (a b : Bool) → (a && b) ≡ true → a ≡ true
and_left true b h = refl
and_left false b h = h

pub and_right : (a b : Bool) → (a && b) ≡ true → b ≡ true
and_right true b h = h
and_right false b h = absurd (false≢true h)

pub and_both : (a b : Bool) → a ≡ true → b ≡ true → (a && b) ≡ true
and_both a b p q = rw (p, q)

-- a test that can't pass fails
pub not_passed : (t : Bool) → (t ≡ true → ⊥) → t ≡ false
not_passed true h = absurd (h refl)
not_passed false h = refl

module _ {ℓ} {A : Type ℓ} where
  pub every_append : (f : A → Bool) (xs ys : List A) → every f (xs ++ ys) ≡ (every f xs && every f ys)
  every_append f [] ys = refl
  every_append f (x ∷ xs) ys = go (f x) (every_append f xs ys)
    where
      go : (b : Bool) → every f (xs ++ ys) ≡ (every f xs && every f ys) → (b && every f (xs ++ ys)) ≡ (b && every f xs && every f ys)
      go true h = h
      go false h = refl

  -- two tests that agree on the elements choose the same, a test that all pass leaves none out, and one that none passes leaves none
  pub those_cong : (f g : A → Bool) (xs : List A) → ((x : A) → Memᴰ x xs → f x ≡ g x) → those f xs ≡ those g xs
  those_cong f g [] h = refl
  those_cong f g (x ∷ xs) h = rw (h x (Memᴰ.head refl), those_cong f g xs (λ y m. h y (Memᴰ.tail m)))

  pub those_all : (f : A → Bool) (xs : List A) → ((x : A) → Memᴰ x xs → f x ≡ true) → those f xs ≡ xs
  those_all f [] h = refl
  those_all f (x ∷ xs) h = rw (h x (Memᴰ.head refl), those_all f xs (λ y m. h y (Memᴰ.tail m)))

  pub those_none : (f : A → Bool) (xs : List A) → ((x : A) → Memᴰ x xs → f x ≡ false) → those f xs ≡ []
  those_none f [] h = refl
  those_none f (x ∷ xs) h = rw (h x (Memᴰ.head refl), those_none f xs (λ y m. h y (Memᴰ.tail m)))

  -- one test after another is one test
  pub those_those : (f g : A → Bool) (xs : List A) → those f (those g xs) ≡ those (λ x. g x && f x) xs
  those_those f g [] = refl
  those_those f g (x ∷ xs) = go (g x) (those_those f g xs)
    where
      go : (b : Bool) → those f (those g xs) ≡ those (λ y. g y && f y) xs
          → those f (cond b (x ∷ those g xs) (those g xs)) ≡ cond (b && f x) (x ∷ those (λ y. g y && f y) xs) (those (λ y. g y && f y) xs)
      go true h = ap (λ l. cond (f x) (x ∷ l) l) h
      go false h = h

  pub those_append : (f : A → Bool) (xs ys : List A) → those f (xs ++ ys) ≡ those f xs ++ those f ys
  those_append f [] ys = refl
  those_append f (x ∷ xs) ys = go (f x) (those_append f xs ys)
    where
      go : (b : Bool) → those f (xs ++ ys) ≡ those f xs ++ those f ys
          → cond b (x ∷ those f (xs ++ ys)) (those f (xs ++ ys)) ≡ cond b (x ∷ those f xs) (those f xs) ++ those f ys
      go true h = ap (λ l. x ∷ l) h
      go false h = h

  -- an element is among those that pass exactly when it is an element and passes
  pub in_those : (f : A → Bool) {x : A} (xs : List A) → Memᴰ x (those f xs) → Memᴰ x xs × (f x ≡ true)
  in_those f [] m = absurd (Memᴰ.not-nil m)
  in_those f {x} (y ∷ ys) m = go (f y) refl m (λ n. in_those f ys n)
    where
      tailward : Memᴰ x ys × (f x ≡ true) → Memᴰ x (y ∷ ys) × (f x ≡ true)
      tailward p = (Memᴰ.tail p.0, p.1)

      go : (b : Bool) → f y ≡ b → Memᴰ x (cond b (y ∷ those f ys) (those f ys))
          → (Memᴰ x (those f ys) → Memᴰ x ys × (f x ≡ true))
          → Memᴰ x (y ∷ ys) × (f x ≡ true)
      go true e n ih = ⊎_elim (λ q. (Memᴰ.head q, ap f q ∙ e)) (λ k. tailward (ih k)) (Memᴰ.cases_cons n)
      go false e n ih = tailward (ih n)

  pub those_in : (f : A → Bool) {x : A} (xs : List A) → Memᴰ x xs → f x ≡ true → Memᴰ x (those f xs)
  those_in f [] m h = absurd (Memᴰ.not-nil m)
  those_in f {x} (y ∷ ys) m h = ⊎_elim (λ q. here q) (λ k. there (f y) (those_in f ys k h)) (Memᴰ.cases_cons m)
    where
      here : x ≡ y → Memᴰ x (cond (f y) (y ∷ those f ys) (those f ys))
      here q = rw (sym (ap f q) ∙ h) (Memᴰ.head q)

      there : (b : Bool) → Memᴰ x (those f ys) → Memᴰ x (cond b (y ∷ those f ys) (those f ys))
      there true n = Memᴰ.tail n
      there false n = n

  -- nothing is lost or gained where those that pass come first
  pub in_foremost : (f : A → Bool) {x : A} (xs : List A) → Memᴰ x (foremost f xs) → Memᴰ x xs
  in_foremost f xs m =
      ⊎_elim (λ k. (in_those f xs k).0) (λ k. (in_those (λ x. not (f x)) xs k).0) (Memᴰ.append_cases (those f xs) m)

  pub foremost_in : (f : A → Bool) {x : A} (xs : List A) → Memᴰ x xs → Memᴰ x (foremost f xs)
  foremost_in f {x} xs m = go (f x) refl
    where
      go : (b : Bool) → f x ≡ b → Memᴰ x (foremost f xs)
      go true e = Memᴰ.append_left (those (λ y. not (f y)) xs) (those_in f xs m e)
      go false e = Memᴰ.append_right (those f xs) (those_in (λ y. not (f y)) xs m (ap not e))

  pub every_in : (f : A → Bool) {x : A} (xs : List A) → every f xs ≡ true → Memᴰ x xs → f x ≡ true
  every_in f [] e m = absurd (Memᴰ.not-nil m)
  every_in f (y ∷ ys) e m =
      ⊎_elim (λ q. ap f q ∙ and_left (f y) (every f ys) e) (λ k. every_in f ys (and_right (f y) (every f ys) e) k) (Memᴰ.cases_cons m)

  pub in_every : (f : A → Bool) (xs : List A) → ((x : A) → Memᴰ x xs → f x ≡ true) → every f xs ≡ true
  in_every f [] h = refl
  in_every f (y ∷ ys) h = and_both (f y) (every f ys) (h y (Memᴰ.head refl)) (in_every f ys (λ x m. h x (Memᴰ.tail m)))

  -- a list with an element isn't empty, and the other way round
  pub some_in : (xs : List A) → 0 < length xs → (x : A) × Memᴰ x xs
  some_in [] h = absurd (omega arith)
  some_in (x ∷ xs) h = (x, Memᴰ.head refl)

  pub in_some : {x : A} (xs : List A) → Memᴰ x xs → 0 < length xs
  in_some [] m = absurd (Memᴰ.not-nil m)
  in_some (y ∷ ys) m = omega arith

-- lists that are the same are equal
pub same_refl : (a : List ℕ) → same a a ≡ true
same_refl [] = refl
same_refl (x ∷ a) = rw (eq-eqb x x refl, same_refl a)

pub same_true : (a b : List ℕ) → same a b ≡ true → a ≡ b
same_true [] [] h = refl
same_true [] (y ∷ b) h = absurd (false≢true h)
same_true (x ∷ a) [] h = absurd (false≢true h)
same_true (x ∷ a) (y ∷ b) h = ap₂ ◌∷◌ (eqb-true x y (and_left (eqb x y) (same a b) h)) (same_true a b (and_right (eqb x y) (same a b) h))

-- a number is in the list of those below n exactly when it is below n
pub in_below : {c : ℕ} (n : ℕ) → Memᴰ c (below n) → c < n
in_below zero m = absurd (Memᴰ.not-nil m)
in_below {c} (suc n) m =
    ⊎_elim (λ k. let h : c < n = in_below n k in omega arith) (λ k. let h : c ≡ n = Memᴰ.eq_of_singleton k in omega arith)
    (Memᴰ.append_cases (below n) m)

pub below_in : {c : ℕ} (n : ℕ) → c < n → Memᴰ c (below n)
below_in zero h = absurd (not-suc-le-zero h)
below_in {c} (suc n) h =
    ⊎_elim (λ e. Memᴰ.append_right (below n) (Memᴰ.head e)) (λ l. Memᴰ.append_left (n ∷ []) (below_in n l))
    (eq-or-lt_of_le {n = c} {m = n} (le_of_suc-le-suc h))

-- of the numbers below k one is l
pub those_one : (l k : ℕ) → l < k → those (eqb l) (below k) ≡ (l ∷ [])
those_one l zero h = absurd (not-suc-le-zero h)
those_one l (suc k) h =
    those_append (eqb l) (below k) (k ∷ [])
    ∙ ⊎_elim
    (λ (e : l ≡ k).
    rw (those_none (eqb l) (below k) (λ c m. let i : c < k = in_below k m in ne_eqb l c (λ q. omega arith)), eq-eqb l k e, e))
    (λ (i : l < k). rw (those_one l k i, ne_eqb l k (λ q. omega arith)))
    (eq-or-lt_of_le {n = l} {m = k} (le_of_suc-le-suc h))

pub length-below : (n : ℕ) → length (below n) ≡ n
length-below zero = refl
length-below (suc n) = length-append (below n) (n ∷ []) ∙ rw (length-below n, add-one)

-- a list by the numbers below k, one by one
pub length_by {ℓ} : {A : Type ℓ} (f : ℕ → A) (k : ℕ) → length (map f (below k)) ≡ k
length_by f k = length-map (below k) f ∙ length-below k

pub get_or_by {ℓ} : {A : Type ℓ} (f : ℕ → A) (d : A) (k c : ℕ) → c < k → get_or (map f (below k)) c d ≡ f c
get_or_by f d zero c h = absurd (not-suc-le-zero h)
get_or_by f d (suc k) c h =
    rw (map-append f (below k) (k ∷ []))
    (⊎_elim last (λ l. before l (get_or_by f d k c l)) (eq-or-lt_of_le {n = c} {m = k} (le_of_suc-le-suc h)))
  where
    last : c ≡ k → get_or (map f (below k) ++ (f k ∷ [])) c d ≡ f c
    last e = get_or_at (map f (below k)) (f k) [] d c (length_by f k ∙ sym e) ∙ ap f (sym e)

    before : c < k → get_or (map f (below k)) c d ≡ f c → get_or (map f (below k) ++ (f k ∷ [])) c d ≡ f c
    before l e = get_or-append (map f (below k)) (f k ∷ []) d c (rw (length_by f k) l) ∙ e
