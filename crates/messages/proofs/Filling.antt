-- A list that a loop fills from its start: value by value it becomes the row of a function.
use Rattle.std.proofs.Common.{◌≡◌, refl, sym, ap, ◌∙◌, Bool, true, false, cond, List, [], ◌∷◌, ◌++◌, map, append-nil, ℕ, zero, suc, ◌+◌, ◌-◌, ◌≤◌}
use Rattle.std.proofs.Common.{◌<◌, add-one, arith, length, get_or, set, drop, replicate, length-append, ltb, get_or-append-add, ext_get_or}
use Rattle.std.proofs.Common.{ltb-true, ltb-false}
use mathlib.Core.List.{map-append}
use lib.ListN.{length-replicate, get_or-replicate, get_or-append}
use lib.Seq.{set_at, append_snoc, drop-cons}
use Rattle.semantics.specs.Basics.{below, row_of}
use Rattle.semantics.proofs.Lists.{length_by, get_or_by}
use Rattle.messages.specs.Rows.{filled}

-- what holds at a loop's counter holds at its end
pub at-end {ℓ} : {A : Type ℓ} (f : ℕ → A) (i m : ℕ) (x : A) → i ≤ m → m ≤ i → x ≡ f i → x ≡ f m
at-end f i m x h l e = let q : i ≡ m = omega arith in e ∙ ap f q

-- what holds of a value, and of what is read past the end, holds of all that is read of a list of that value alone
pub replicate_any {ℓ} : {A : Type ℓ} (P : A → Type 0) (z d : A) (m i : ℕ) → P d → P z → P (get_or (replicate m z) i d)
replicate_any P z d zero i p q = p
replicate_any P z d (suc m) zero p q = q
replicate_any P z d (suc m) (suc i) p q = replicate_any P z d m i p q

-- a turn of a loop that lays a list anew from its start: what it hasn't reached is as it was before
pub laid_turn {ℓ} : {A : Type ℓ} (f : ℕ → A) (k : ℕ) (x : A) (before xs : List A) → k < length before → xs ≡ map f (below k) ++ drop k before
    → x ≡ f k → set xs k x ≡ map f (below (k + 1)) ++ drop (k + 1) before
laid_turn f k x before xs l e q =
    rw (
      e,
      q,
      add-one,
      drop-cons before k x l,
      set_at (map f (below k)) (get_or before k x) (drop (suc k) before) (f k) k (length_by f k),
      map-append f (below k) (k ∷ []),
      append_snoc,
    )

module _ {ℓ} {A : Type ℓ} (z : A) (m : ℕ) (f : ℕ → A) where
  -- at first nothing of the function
  pub fill_start : replicate m z ≡ filled z m f 0
  fill_start = let r : m - 0 ≡ m = omega arith in rw r

  -- then a value more
  pub fill_more : (k : ℕ) → k < m → set (filled z m f k) k (f k) ≡ filled z m f (k + 1)
  fill_more k l =
      let r : m - k ≡ suc (m - suc k) = omega arith in
      rw (
        add-one,
        r,
        set_at (map f (below k)) z (replicate (m - suc k) z) (f k) k (length_by f k),
        map-append f (below k) (k ∷ []),
        append_snoc,
      )

  -- at last its whole row
  pub fill_done : (k : ℕ) → m ≤ k → filled z m f k ≡ row_of k f
  fill_done k h = let r : m - k ≡ 0 = omega arith in rw r (append-nil (map f (below k)))

  -- a turn of the loop that fills it
  pub fill_turn : (k : ℕ) (x : A) (xs : List A) → k < m → xs ≡ filled z m f k → x ≡ f k → set xs k x ≡ filled z m f (k + 1)
  fill_turn k x xs l e q = rw (e, q) (fill_more k l)

  length-filled : (k : ℕ) → k ≤ m → length (filled z m f k) ≡ m
  length-filled k h = omega (arith, length-append (map f (below k)) (replicate (m - k) z), length_by f k, length-replicate (m - k) z)

  pub filled_long : (k : ℕ) → k ≤ m → k ≤ length (filled z m f k)
  filled_long k h = omega (arith, length-filled k h)

  pub get_or-filled : (d : A) (k c : ℕ) → c < k → get_or (filled z m f k) c d ≡ f c
  get_or-filled d k c l =
      get_or-append (map f (below k)) (replicate (m - k) z) d c (rw (length_by f k) l) ∙ get_or_by f d k c l

  -- past the first k values the rest stands
  pub get_or-rest : (k c : ℕ) → k ≤ c → c < m → get_or (filled z m f k) c z ≡ z
  get_or-rest k c h l =
      let e : c ≡ length (map f (below k)) + (c - k) = omega (arith, length_by f k) in
      ap (λ i. get_or (filled z m f k) i z) e ∙ get_or-append-add (map f (below k)) (replicate (m - k) z) (c - k) z
      ∙ get_or-replicate (m - k) (c - k) z z (omega arith)

  -- so it is the row of a function that is the rest's value from k on
  pub filled_upto : (k : ℕ) → k ≤ m → filled z m f k ≡ row_of m (λ c. cond (ltb c k) (f c) z)
  filled_upto k h =
      ext_get_or z (filled z m f k) (row_of m (λ c. cond (ltb c k) (f c) z))
      (length-filled k h ∙ sym (length_by (λ c. cond (ltb c k) (f c) z) m))
      (λ c l. let b : c < m = rw (length-filled k h) at l in go c b (ltb c k) refl ∙ sym (get_or_by (λ d. cond (ltb d k) (f d) z) z m c b))
    where
      go : (c : ℕ) → c < m → (t : Bool) → ltb c k ≡ t → get_or (filled z m f k) c z ≡ cond t (f c) z
      go c l true e = get_or-filled z k c (ltb-true c k e)
      go c l false e = get_or-rest k c (ltb-false c k e) l
