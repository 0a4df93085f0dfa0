-- The weight of an assignment: the product of a factor for each plot and one for each link. Over any commutative product, so that
-- numbers under multiplication (counting) and costs under addition (relabelling) share the laws.
-- Factors stand newest first, as plots and classes do: for each plot, what it gives for each of its classes.
use Rattle.std.proofs.Common.{◌≡◌, refl, sym, ap, ◌∙◌, Bool, true, false, cond, ◌&&◌, List, [], ◌∷◌, ⊎_elim, ℕ, suc, ◌<◌, eq-or-lt_of_le}
use Rattle.std.proofs.Common.{arith, length, eqb, ltb, eq-eqb, ne_eqb, ltb-true}
use native.Mathlib.Nat.{suc_inj}
use Rattle.semantics.specs.Network.{Link, root, child, Plot, allows, row}
use Rattle.semantics.specs.Solutions.{class_at, linked}
use Rattle.semantics.proofs.Lists.{and_left, and_right}

-- a commutative product with its one, and what stands for a choice that isn't allowed
pub record Product (W : Type 0) : Type 0 where
  pub one : W
  pub barred : W
  pub times : W → W → W
  pub times_assoc : (a b c : W) → times (times a b) c ≡ times a (times b c)
  pub times_comm : (a b : W) → times a b ≡ times b a
  pub times_one : (a : W) → times a one ≡ a

-- a parent stands before its child
abbrev pub earlier : ℕ → Link → Bool
earlier i root = true
earlier i (child q t) = ltb q i

-- every parent does
abbrev pub ordered : List Plot → Bool
ordered [] = true
ordered (p ∷ older) = ordered older && earlier (length older) p.link

-- the newest of ordered plots has an older parent or none, and the older ones are ordered
module _ (p : Plot) (older : List Plot) (o : ordered (p ∷ older) ≡ true) where
  pub newest_earlier : earlier (length older) p.link ≡ true
  newest_earlier = and_right (ordered older) (earlier (length older) p.link) o

  pub older_ordered : ordered older ≡ true
  older_ordered = and_left (ordered older) (earlier (length older) p.link) o

-- a constant factor, and the factors of the plots
pub record Left (W : Type 0) : Type 0 where
  pub scalar : W
  pub factors : List (ℕ → W)

module _ {W : Type 0} (P : Product W) where
  -- what a link gives: nothing that counts where it holds
  abbrev pub gate : Bool → W
  gate b = cond b P.one P.barred

  -- the weight of an assignment, with a constant factor s
  abbrev pub weight : List (List ℕ) → W → List (ℕ → W) → List Plot → List ℕ → W
  weight tables s fs [] a = s
  weight tables s [] (p ∷ older) a = P.barred
  weight tables s (f ∷ fs) (p ∷ older) [] = P.barred
  weight tables s (f ∷ fs) (p ∷ older) (c ∷ a) =
      P.times (weight tables s fs older a) (P.times (f c) (gate (linked tables p.link c a)))

  -- the factors with those of the plot at a position multiplied by a message
  abbrev pub folded_factors : ℕ → (ℕ → W) → List (ℕ → W) → List (ℕ → W)
  folded_factors q m [] = []
  folded_factors q m (f ∷ fs) = cond (eqb q (length fs)) ((λ c. P.times (f c) (m c)) ∷ fs) (f ∷ folded_factors q m fs)

  pub length_folded : (q : ℕ) (m : ℕ → W) (fs : List (ℕ → W)) → length (folded_factors q m fs) ≡ length fs
  length_folded q m [] = refl
  length_folded q m (f ∷ fs) = go (eqb q (length fs)) (length_folded q m fs)
    where
      go : (b : Bool) → length (folded_factors q m fs) ≡ length fs
          → length (cond b ((λ c. P.times (f c) (m c)) ∷ fs) (f ∷ folded_factors q m fs)) ≡ suc (length fs)
      go true h = refl
      go false h = ap suc h

  -- a factor in the middle of a product goes to its end
  outward : (w t x : W) → P.times (P.times w t) x ≡ P.times (P.times w x) t
  outward w t x = P.times_assoc w t x ∙ ap (P.times w) (P.times_comm t x) ∙ sym (P.times_assoc w x t)

  inward : (w f m g : W) → P.times w (P.times (P.times f m) g) ≡ P.times (P.times w (P.times f g)) m
  inward w f m g = ap (P.times w) (outward f m g) ∙ sym (P.times_assoc w (P.times f g) m)

  -- a message to a plot multiplies each weight by what it says of the class that the plot has there
  pub weight_folded : (tables : List (List ℕ)) (s : W) (q : ℕ) (m : ℕ → W) (fs : List (ℕ → W)) (ps : List Plot) (a : List ℕ)
      → length fs ≡ length ps → length a ≡ length ps → q < length ps
      → weight tables s (folded_factors q m fs) ps a ≡ P.times (weight tables s fs ps a) (m (class_at a q))
  weight_folded tables s q m fs [] a l k h = absurd (omega arith)
  weight_folded tables s q m [] (p ∷ older) a l k h = absurd (omega arith)
  weight_folded tables s q m (f ∷ fs) (p ∷ older) [] l k h = absurd (omega arith)
  weight_folded tables s q m (f ∷ fs) (p ∷ older) (c ∷ a) l k h =
      ⊎_elim
      (λ (e : q ≡ length older).
      rw (eq-eqb q (length fs) (omega arith), eq-eqb q (length a) (omega arith))
      (inward (weight tables s fs older a) (f c) (m c) (gate (linked tables p.link c a))))
      (λ (less : q < length older).
      rw (
        ne_eqb q (length fs) (λ e. omega arith),
        ne_eqb q (length a) (λ e. omega arith),
        weight_folded tables s q m fs older a (suc_inj l) (suc_inj k) less,
      )
      (outward (weight tables s fs older a) (m (class_at a q)) (P.times (f c) (gate (linked tables p.link c a)))))
      (eq-or-lt_of_le {n = q} {m = length older} (omega arith))

  -- a constant factor can be taken out
  pub weight_scaled : (tables : List (List ℕ)) (s t : W) (fs : List (ℕ → W)) (ps : List Plot) (a : List ℕ)
      → length fs ≡ length ps → length a ≡ length ps
      → weight tables (P.times s t) fs ps a ≡ P.times (weight tables s fs ps a) t
  weight_scaled tables s t fs [] a l k = refl
  weight_scaled tables s t [] (p ∷ older) a l k = absurd (omega arith)
  weight_scaled tables s t (f ∷ fs) (p ∷ older) [] l k = absurd (omega arith)
  weight_scaled tables s t (f ∷ fs) (p ∷ older) (c ∷ a) l k =
      ap (λ w. P.times w (P.times (f c) (gate (linked tables p.link c a))))
      (weight_scaled tables s t fs older a (suc_inj l) (suc_inj k))
      ∙ outward (weight tables s fs older a) t (P.times (f c) (gate (linked tables p.link c a)))

  -- What is left once the newest plot is taken away, whose classes that pass a test are worth something together: a root leaves a constant
  -- factor, and a child sends its parent a message, what its classes in the row of each class of the parent are worth.
  abbrev pub absorbed : List (List ℕ) → Link → ((ℕ → Bool) → W) → W → List (ℕ → W) → Left W
  absorbed tables root worth s fs = record { scalar = P.times s (worth (λ c. true)); factors = fs }
  absorbed tables (child q t) worth s fs = record { scalar = s; factors = folded_factors q (λ b. worth (allows (row tables t b))) fs }

  pub length_absorbed : (tables : List (List ℕ)) (l : Link) (worth : (ℕ → Bool) → W) (s : W) (fs : List (ℕ → W))
      → length (absorbed tables l worth s fs).factors ≡ length fs
  length_absorbed tables root worth s fs = refl
  length_absorbed tables (child q t) worth s fs = length_folded q (λ b. worth (allows (row tables t b))) fs

  -- the weight of what is left: that of the older plots times what the newest plot's classes are worth beside them
  pub weight_absorbed : (tables : List (List ℕ)) (l : Link) (worth : (ℕ → Bool) → W) (s : W) (fs : List (ℕ → W)) (older : List Plot)
      (a : List ℕ)
      → length fs ≡ length older → length a ≡ length older → earlier (length older) l ≡ true
      → P.times (weight tables s fs older a) (worth (λ c. linked tables l c a))
      ≡ weight tables (absorbed tables l worth s fs).scalar (absorbed tables l worth s fs).factors older a
  weight_absorbed tables root worth s fs older a e g h = sym (weight_scaled tables s (worth (λ c. true)) fs older a e g)
  weight_absorbed tables (child q t) worth s fs older a e g h =
      sym (weight_folded tables s q (λ b. worth (allows (row tables t b))) fs older a e g (ltb-true q (length older) h))
