-- Factors as rows: for each plot a list of m values, one for each class, which is what a program keeps. The values may stand for others,
-- as a held number does: what is left once the newest plot is taken away is then the rows that stand for what is left of the factors.
use Rattle.std.proofs.Common.{◌≡◌, refl, ap, ap₂, ◌∙◌, Bool, true, false, cond, List, [], ◌∷◌, map, ℕ, ◌<◌, length, get_or, eqb, leb}
use Rattle.std.proofs.Common.{leb-true, leb-false}
use mathlib.Core.List.{Memᴰ}
use lib.ListN.{length-map, get_or-eq_default}
use Rattle.semantics.specs.Basics.{below, row_of}
use Rattle.semantics.specs.Network.{Link, root, child, allows, row}
use Rattle.semantics.proofs.Lists.{in_below, length_by, get_or_by}
use Rattle.semantics.proofs.Weights.{Product, folded_factors, absorbed}

map_cong {ℓ κ} : {A : Type ℓ} {B : Type κ} (f g : A → B) (xs : List A) → ((x : A) → Memᴰ x xs → f x ≡ g x) → map f xs ≡ map g xs
map_cong f g [] h = refl
map_cong f g (x ∷ xs) h = ap₂ ◌∷◌ (h x (Memᴰ.head refl)) (map_cong f g xs (λ y k. h y (Memᴰ.tail k)))

-- functions with the same first m values have the same row
pub row_cong {ℓ} : {A : Type ℓ} (m : ℕ) (f g : ℕ → A) → ((c : ℕ) → c < m → f c ≡ g c) → row_of m f ≡ row_of m g
row_cong m f g h = map_cong f g (below m) (λ c k. h c (in_below m k))

-- a row made value by value from another row is made of the other's function
pub row-over {ℓ κ} : {A : Type ℓ} {B : Type κ} (m : ℕ) (g : ℕ → A → B) (f : ℕ → A) (z : A)
    → row_of m (λ c. g c (get_or (row_of m f) c z)) ≡ row_of m (λ c. g c (f c))
row-over m g f z = row_cong m _ _ (λ c l. ap (g c) (get_or_by f z m c l))

-- what holds of a function's value, and of what is read past the end of its row, holds of what is read there
pub row_any {ℓ} : {A : Type ℓ} (P : A → Type 0) (z : A) (m : ℕ) (f : ℕ → A) (c : ℕ) → P z → P (f c) → P (get_or (row_of m f) c z)
row_any P z m f c p h = go (leb m c) refl
  where
    go : (t : Bool) → leb m c ≡ t → P (get_or (row_of m f) c z)
    go true e = rw (get_or-eq_default (row_of m f) z {n = c} (rw (length_by f m) (leb-true m c e))) p
    go false e = rw (get_or_by f z m c (leb-false m c e)) h

-- a constant factor, and the rows of the plots
pub record RowsLeft (X : Type 0) : Type 0 where
  pub scalar : X
  pub rows : List (List X)

-- `folded_factors` and `absorbed` of the laws on weights, for rows of m values; z stands past the end of a row
module _ {X : Type 0} (times : X → X → X) (z : X) (m : ℕ) where
  abbrev pub folded_rows : ℕ → (ℕ → X) → List (List X) → List (List X)
  folded_rows q message [] = []
  folded_rows q message (r ∷ rs) =
      cond (eqb q (length rs)) (row_of m (λ c. times (get_or r c z) (message c)) ∷ rs) (r ∷ folded_rows q message rs)

  abbrev pub absorbed_rows : List (List ℕ) → Link → ((ℕ → Bool) → X) → X → List (List X) → RowsLeft X
  absorbed_rows tables root worth s rs = record { scalar = times s (worth (λ c. true)); rows = rs }
  absorbed_rows tables (child q t) worth s rs = record { scalar = s; rows = folded_rows q (λ b. worth (allows (row tables t b))) rs }

-- values of X stand for those of W, and their products for the products
module _ {W X : Type 0} (P : Product W) (times : X → X → X) (z : X) (m : ℕ) (for : W → X)
    (products : (a b : W) → times (for a) (for b) ≡ for (P.times a b)) where
  -- the row that stands for the factors of a plot
  abbrev pub row_for : (ℕ → W) → List X
  row_for f = row_of m (λ c. for (f c))

  folded_rows_lem : (q : ℕ) (message : ℕ → W) (sent : ℕ → X) → ((b : ℕ) → sent b ≡ for (message b)) → (fs : List (ℕ → W))
      → folded_rows times z m q sent (map row_for fs) ≡ map row_for (folded_factors P q message fs)
  folded_rows_lem q message sent e [] = refl
  folded_rows_lem q message sent e (f ∷ fs) = rw (length-map fs row_for) (go (eqb q (length fs)) (folded_rows_lem q message sent e fs))
    where
      here : row_of m (λ c. times (get_or (row_for f) c z) (sent c)) ≡ row_for (λ c. P.times (f c) (message c))
      here =
          row_cong m _ _ (λ c l. ap₂ times (get_or_by (λ d. for (f d)) z m c l) (e c) ∙ products (f c) (message c))

      go : (b : Bool) → folded_rows times z m q sent (map row_for fs) ≡ map row_for (folded_factors P q message fs)
          → cond b (row_of m (λ c. times (get_or (row_for f) c z) (sent c)) ∷ map row_for fs)
          (row_for f ∷ folded_rows times z m q sent (map row_for fs))
          ≡ map row_for (cond b ((λ c. P.times (f c) (message c)) ∷ fs) (f ∷ folded_factors P q message fs))
      go true h = ap (λ r. r ∷ map row_for fs) here
      go false h = ap (λ rs. row_for f ∷ rs) h

  -- what is left of the rows stands for what is left of the factors
  pub absorbed_rows_lem : (tables : List (List ℕ)) (l : Link) (worth : (ℕ → Bool) → W) (found : (ℕ → Bool) → X) (s : W) (fs : List (ℕ → W))
      → ((beside : ℕ → Bool) → found beside ≡ for (worth beside))
      → ((absorbed_rows times z m tables l found (for s) (map row_for fs)).scalar ≡ for (absorbed P tables l worth s fs).scalar)
      × ((absorbed_rows times z m tables l found (for s) (map row_for fs)).rows ≡ map row_for (absorbed P tables l worth s fs).factors)
  absorbed_rows_lem tables root worth found s fs e = (ap (times (for s)) (e (λ c. true)) ∙ products s (worth (λ c. true)), refl)
  absorbed_rows_lem tables (child q t) worth found s fs e = (
    refl,
    folded_rows_lem q (λ b. worth (allows (row tables t b))) (λ b. found (allows (row tables t b)))
        (λ b. e (allows (row tables t b))) fs,
  )
