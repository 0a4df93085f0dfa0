-- Sums of numbers over a list, and over the assignments that extend others.
use Rattle.std.proofs.Common.{◌≡◌, refl, sym, ap, ap₂, ◌∙◌, Bool, true, false, cond, List, [], ◌∷◌, ◌++◌, map, ⊎_elim, ℕ, zero, suc, ◌+◌}
use Rattle.std.proofs.Common.{◌*◌, ◌<◌, ◌≤◌, zero-add, add_assoc, mul-add, mul-zero, mul_comm, eq-or-lt_of_le, le_of_suc-le-suc}
use Rattle.std.proofs.Common.{not-suc-le-zero, arith, length, eqb, eq-eqb, ne_eqb}
use mathlib.Core.List.{Memᴰ}
use Rattle.semantics.specs.Basics.{those, below, sum}
use Rattle.semantics.specs.Solutions.{extend}

module _ {ℓ} {A : Type ℓ} where
  pub sum-append : (f : A → ℕ) (xs ys : List A) → sum f (xs ++ ys) ≡ sum f xs + sum f ys
  sum-append f [] ys = sym (zero-add (sum f ys))
  sum-append f (x ∷ xs) ys = ap (λ n. f x + n) (sum-append f xs ys) ∙ sym (add_assoc (f x) (sum f xs) (sum f ys))

  -- two functions that agree on the elements have one sum
  pub sum_cong : (f g : A → ℕ) (xs : List A) → ((x : A) → Memᴰ x xs → f x ≡ g x) → sum f xs ≡ sum g xs
  sum_cong f g [] h = refl
  sum_cong f g (x ∷ xs) h = ap₂ ◌+◌ (h x (Memᴰ.head refl)) (sum_cong f g xs (λ y m. h y (Memᴰ.tail m)))

  pub sum_scale : (w : ℕ) (f : A → ℕ) (xs : List A) → sum (λ x. w * f x) xs ≡ w * sum f xs
  sum_scale w f [] = sym (mul-zero w)
  sum_scale w f (x ∷ xs) = ap (λ n. w * f x + n) (sum_scale w f xs) ∙ sym (mul-add w (f x) (sum f xs))

  pub sum_add : (f g : A → ℕ) (xs : List A) → sum (λ x. f x + g x) xs ≡ sum f xs + sum g xs
  sum_add f g [] = refl
  sum_add f g (x ∷ xs) = let h = sum_add f g xs in omega arith

  pub sum-zero : (xs : List A) → sum (λ x. 0) xs ≡ 0
  sum-zero [] = refl
  sum-zero (x ∷ xs) = ap (λ n. 0 + n) (sum-zero xs)

  -- a sum over those that pass a test
  pub sum_those : (test : A → Bool) (f : A → ℕ) (xs : List A) → sum f (those test xs) ≡ sum (λ x. cond (test x) (f x) 0) xs
  sum_those test f [] = refl
  sum_those test f (x ∷ xs) = go (test x) (sum_those test f xs)
    where
      go : (b : Bool) → sum f (those test xs) ≡ sum (λ y. cond (test y) (f y) 0) xs
          → sum f (cond b (x ∷ those test xs) (those test xs)) ≡ cond b (f x) 0 + sum (λ y. cond (test y) (f y) 0) xs
      go true h = ap (λ n. f x + n) h
      go false h = h ∙ sym (zero-add (sum (λ y. cond (test y) (f y) 0) xs))

  -- how many pass a test
  pub length_those : (test : A → Bool) (xs : List A) → length (those test xs) ≡ sum (λ x. cond (test x) 1 0) xs
  length_those test [] = refl
  length_those test (x ∷ xs) = go (test x) (length_those test xs)
    where
      go : (b : Bool) → length (those test xs) ≡ sum (λ y. cond (test y) 1 0) xs
          → length (cond b (x ∷ those test xs) (those test xs)) ≡ cond b 1 0 + sum (λ y. cond (test y) 1 0) xs
      go true h = omega arith
      go false h = h ∙ sym (zero-add (sum (λ y. cond (test y) 1 0) xs))

module _ {ℓ κ} {A : Type ℓ} {B : Type κ} where
  pub sum-map : (f : B → ℕ) (g : A → B) (xs : List A) → sum f (map g xs) ≡ sum (λ x. f (g x)) xs
  sum-map f g [] = refl
  sum-map f g (x ∷ xs) = ap (λ n. f (g x) + n) (sum-map f g xs)

  -- the order of two sums
  pub sum_swap : (f : A → B → ℕ) (xs : List A) (ys : List B) → sum (λ x. sum (λ y. f x y) ys) xs ≡ sum (λ y. sum (λ x. f x y) xs) ys
  sum_swap f [] ys = sym (sum-zero ys)
  sum_swap f (x ∷ xs) ys = ap (λ n. sum (f x) ys + n) (sum_swap f xs ys) ∙ sym (sum_add (f x) (λ y. sum (λ z. f z y) xs) ys)

-- the sum over all extensions: over the older ones, of the sum over the newest plot's classes
pub sum-extend : (f : List ℕ → ℕ) (cs : List ℕ) (older : List (List ℕ)) → sum f (extend cs older) ≡ sum (λ a. sum (λ c. f (c ∷ a)) cs) older
sum-extend f cs [] = refl
sum-extend f cs (a ∷ more) =
    sum-append f (map (λ c. c ∷ a) cs) (extend cs more)
    ∙ ap₂ ◌+◌ (sum-map f (λ c. c ∷ a) cs) (sum-extend f cs more)

-- a sum over the numbers below n of which at most c counts
module _ (test : ℕ → Bool) (f : ℕ → ℕ) (c : ℕ) (others : (d : ℕ) → (d ≡ c → ⊥) → test d ≡ false) where
  pub sum-none : (n : ℕ) → n ≤ c → sum (λ d. cond (test d) (f d) 0) (below n) ≡ 0
  sum-none zero h = refl
  sum-none (suc n) h =
      sum-append (λ d. cond (test d) (f d) 0) (below n) (n ∷ []) ∙ rw (sum-none n (omega arith), others n (λ e. omega arith))

  pub sum-only : (n : ℕ) → c < n → test c ≡ true → sum (λ d. cond (test d) (f d) 0) (below n) ≡ f c
  sum-only zero h t = absurd (not-suc-le-zero h)
  sum-only (suc n) h t =
      sum-append (λ d. cond (test d) (f d) 0) (below n) (n ∷ [])
      ∙ ⊎_elim
      (λ (e : c ≡ n). rw (sum-none n (omega arith), ← e, t) (omega arith))
      (λ (l : c < n). rw (sum-only n l t, others n (λ e. omega arith)) (omega arith))
      (eq-or-lt_of_le {n = c} {m = n} (le_of_suc-le-suc h))

-- a sum over a list, sorted by a number that each element has
module _ {ℓ} {A : Type ℓ} (key w : A → ℕ) (h : ℕ → ℕ) where
  spread : (b : ℕ) (xs : List A) → sum w (those (λ x. eqb (key x) b) xs) * h b ≡ sum (λ x. cond (eqb (key x) b) (w x * h b) 0) xs
  spread b xs =
      mul_comm (sum w (those (λ x. eqb (key x) b) xs)) (h b)
      ∙ sym (sum_scale (h b) w (those (λ x. eqb (key x) b) xs))
      ∙ sum_cong (λ x. h b * w x) (λ x. w x * h b) (those (λ x. eqb (key x) b) xs) (λ x m. mul_comm (h b) (w x))
      ∙ sum_those (λ x. eqb (key x) b) (λ x. w x * h b) xs

  pub sum_by : (m : ℕ) (xs : List A) → ((x : A) → Memᴰ x xs → key x < m)
      → sum (λ b. sum w (those (λ x. eqb (key x) b) xs) * h b) (below m) ≡ sum (λ x. w x * h (key x)) xs
  sum_by m xs l =
      sum_cong _ _ (below m) (λ b k. spread b xs)
      ∙ sum_swap (λ b x. cond (eqb (key x) b) (w x * h b) 0) (below m) xs
      ∙ sum_cong _ _ xs
      (λ x k.
      sum-only (λ b. eqb (key x) b) (λ b. w x * h b) (key x) (λ d q. ne_eqb (key x) d (λ r. q (sym r))) m (l x k)
      (eq-eqb (key x) (key x) refl))
