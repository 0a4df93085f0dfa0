-- Counting solutions by taking the newest plot away: equations 1 to 4 of 004, with one more factor at each plot, its own.
use Rattle.std.proofs.Common.{◌≡◌, refl, sym, ap, ◌∙◌, Bool, true, false, cond, ◌&&◌, List, [], ◌∷◌, map, ℕ, ◌*◌, ◌<◌, ◌≤◌, mul_assoc}
use Rattle.std.proofs.Common.{mul_comm, mul-one, zero-mul, arith, length, eqb, leb, eq-eqb, ne_eqb, ltb-true}
use mathlib.Core.Bool.{and-false}
use mathlib.Core.List.{Memᴰ}
use Rattle.semantics.specs.Basics.{every, those, below, sum}
use Rattle.semantics.specs.Network.{Link, root, child, Plot, Network, allows, row}
use Rattle.semantics.specs.Solutions.{class_at, assignments, linked, fits, agrees, agrees_all, solutions, support}
use Rattle.semantics.proofs.Lists.{those_those}
use Rattle.semantics.proofs.Listing.{listed, assignment-length, class_bound}
use Rattle.semantics.proofs.Weights.{Product, Left, earlier, gate, weight, absorbed, weight_absorbed}
use Rattle.semantics.proofs.Sums.{sum_cong, sum_scale, sum-zero, sum_those, length_those, sum-extend, sum-none, sum-only, sum_by}

-- numbers under multiplication; what isn't allowed counts 0
abbrev pub numbers : Product ℕ
numbers = record { one = 1; barred = 0; times = ◌*◌; times_assoc = mul_assoc; times_comm = mul_comm; times_one = mul-one }

-- Equation 2: what a neighbour contributes to a class: the sum of its supports over those of its k classes that may stand beside that
-- class. From a child to its parent and from a parent to its child alike.
abbrev pub contribution : (ℕ → ℕ) → ℕ → (ℕ → Bool) → ℕ
contribution support k beside = sum (λ y. support y * gate numbers (beside y)) (below k)

-- Equation 4: the factors that are left once the newest plot is taken away. A plot's factors are its own, times what each neighbour that
-- was taken away contributed: what it will send to a neighbour that it hasn't heard from.
abbrev pub counts_left : List (List ℕ) → Plot → (ℕ → ℕ) → ℕ → List (ℕ → ℕ) → Left ℕ
counts_left tables p f s fs = absorbed numbers tables p.link (contribution f p.classes) s fs

-- an assignment that is listed has a class for each plot
as_long : (ps : List Plot) (a : List ℕ) → Memᴰ a (assignments ps) → length a ≡ length ps
as_long ps a k = assignment-length ps a (listed ps a k)

module _ (tables : List (List ℕ)) where
  -- one assignment of the older plots, with every class of the newest
  newest_summed : (p : Plot) (f : ℕ → ℕ) (s : ℕ) (fs : List (ℕ → ℕ)) (older : List Plot) (a : List ℕ)
      → length fs ≡ length older → length a ≡ length older → earlier (length older) p.link ≡ true
      → sum (λ c. weight numbers tables s (f ∷ fs) (p ∷ older) (c ∷ a)) (below p.classes)
      ≡ weight numbers tables (counts_left tables p f s fs).scalar (counts_left tables p f s fs).factors older a
  newest_summed p f s fs older a e g h =
      sum_scale (weight numbers tables s fs older a) (λ c. f c * gate numbers (linked tables p.link c a)) (below p.classes)
      ∙ weight_absorbed numbers tables p.link (contribution f p.classes) s fs older a e g h

  -- the sum of the weights of all assignments
  abbrev pub total : ℕ → List (ℕ → ℕ) → List Plot → ℕ
  total s fs ps = sum (weight numbers tables s fs ps) (assignments ps)

  -- Taking the newest plot away, child or root, keeps the sum.
  pub eliminate : (p : Plot) (f : ℕ → ℕ) (s : ℕ) (fs : List (ℕ → ℕ)) (older : List Plot)
      → length fs ≡ length older → earlier (length older) p.link ≡ true
      → total s (f ∷ fs) (p ∷ older)
      ≡ total (counts_left tables p f s fs).scalar (counts_left tables p f s fs).factors older
  eliminate p f s fs older e h =
      sum-extend (weight numbers tables s (f ∷ fs) (p ∷ older)) (below p.classes) (assignments older)
      ∙ sum_cong _ _ (assignments older) (λ a k. newest_summed p f s fs older a e (as_long older a k) h)

  -- the same sum over the assignments that give the plot at a position a class
  abbrev pub share : ℕ → List (ℕ → ℕ) → List Plot → ℕ → ℕ → ℕ
  share s fs ps i c = sum (weight numbers tables s fs ps) (those (λ a. eqb (class_at a i) c) (assignments ps))

  share_sum : (s : ℕ) (fs : List (ℕ → ℕ)) (ps : List Plot) (i c : ℕ)
      → share s fs ps i c ≡ sum (λ a. cond (eqb (class_at a i) c) (weight numbers tables s fs ps a) 0) (assignments ps)
  share_sum s fs ps i c = sum_those (λ a. eqb (class_at a i) c) (weight numbers tables s fs ps) (assignments ps)

  share_extend : (p : Plot) (f : ℕ → ℕ) (s : ℕ) (fs : List (ℕ → ℕ)) (older : List Plot) (i c : ℕ)
      → share s (f ∷ fs) (p ∷ older) i c
      ≡ sum
      (λ a.
      sum
      (λ d. cond (eqb (class_at (d ∷ a) i) c) (weight numbers tables s fs older a * (f d * gate numbers (linked tables p.link d a))) 0)
      (below p.classes))
      (assignments older)
  share_extend p f s fs older i c =
      share_sum s (f ∷ fs) (p ∷ older) i c
      ∙ sum-extend
      (λ a. cond (eqb (class_at a i) c) (weight numbers tables s (f ∷ fs) (p ∷ older) a) 0)
      (below p.classes)
      (assignments older)

  -- Of an older plot: the newest is taken away first (one pass up).
  pub share_older : (p : Plot) (f : ℕ → ℕ) (s : ℕ) (fs : List (ℕ → ℕ)) (older : List Plot) (i c : ℕ)
      → length fs ≡ length older → earlier (length older) p.link ≡ true → i < length older
      → share s (f ∷ fs) (p ∷ older) i c
      ≡ share (counts_left tables p f s fs).scalar (counts_left tables p f s fs).factors older i c
  share_older p f s fs older i c e h l =
      share_extend p f s fs older i c
      ∙ sum_cong _ _ (assignments older)
      (λ a j.
      let k : length a ≡ length older = as_long older a j in
      rw (ne_eqb i (length a) (λ q. omega arith))
      (under (eqb (class_at a i) c) _ _ (below p.classes) (newest_summed p f s fs older a e k h)))
      ∙ sym (share_sum (counts_left tables p f s fs).scalar (counts_left tables p f s fs).factors older i c)
    where
      under : (b : Bool) (g : ℕ → ℕ) (w : ℕ) (ds : List ℕ) → sum g ds ≡ w → sum (λ d. cond b (g d) 0) ds ≡ cond b w 0
      under true g w ds q = q
      under false g w ds q = sum-zero ds

  -- of the newest plot, for one of its classes: only that class counts
  newest_only : (p : Plot) (f : ℕ → ℕ) (s : ℕ) (fs : List (ℕ → ℕ)) (older : List Plot) (c : ℕ) → c < p.classes
      → share s (f ∷ fs) (p ∷ older) (length older) c
      ≡ sum (λ a. weight numbers tables s fs older a * (f c * gate numbers (linked tables p.link c a))) (assignments older)
  newest_only p f s fs older c l =
      share_extend p f s fs older (length older) c
      ∙ sum_cong _ _ (assignments older)
      (λ a k.
      rw (eq-eqb (length older) (length a) (sym (as_long older a k)))
      (sum-only (λ d. eqb d c) (λ d. weight numbers tables s fs older a * (f d * gate numbers (linked tables p.link d a))) c
      (λ d q. ne_eqb d c q) p.classes l (eq-eqb c c refl)))

  -- what comes to the newest plot from above, for each of its classes: to a child what its parent contributes (equation 2) from all that
  -- the parent has heard from the others; to a root the number that the other plots have by themselves
  abbrev pub above : ℕ → Link → ℕ → (ℕ → ℕ → ℕ) → ℕ → ℕ
  above m root whole shares c = whole
  above m (child q t) whole shares c = contribution (shares q) m (λ b. allows (row tables t b) c)

  -- Equations 1 and 3: the support of a class is the product of what all neighbours contribute. The newest plot's factors f hold what its
  -- children contributed; its parent is the neighbour that is left.
  abbrev pub overall : ℕ → Plot → (ℕ → ℕ) → ℕ → (ℕ → ℕ → ℕ) → ℕ → ℕ
  overall m p f whole shares c = f c * above m p.link whole shares c

  -- The support of the newest plot in terms of its parent's among the older ones.
  pub share_newest : (m : ℕ) (p : Plot) (f : ℕ → ℕ) (s : ℕ) (fs : List (ℕ → ℕ)) (older : List Plot) (c : ℕ)
      → earlier (length older) p.link ≡ true → every (λ o. leb o.classes m) older ≡ true → c < p.classes
      → share s (f ∷ fs) (p ∷ older) (length older) c ≡ overall m p f (total s fs older) (share s fs older) c
  share_newest m p f s fs older c h e l = newest_only p f s fs older c l ∙ go p.link h
    where
      aside : (w x g : ℕ) → w * (x * g) ≡ x * (w * g)
      aside w x g = sym (mul_assoc w x g) ∙ ap (λ n. n * g) (mul_comm w x) ∙ mul_assoc x w g

      go : (k : Link) → earlier (length older) k ≡ true
          → sum (λ a. weight numbers tables s fs older a * (f c * gate numbers (linked tables k c a))) (assignments older)
          ≡ f c * above m k (total s fs older) (share s fs older) c
      go root q =
          sum_cong _ _ (assignments older) (λ a k. ap (λ n. weight numbers tables s fs older a * n) (mul-one (f c)) ∙ mul_comm _ (f c))
          ∙ sum_scale (f c) (weight numbers tables s fs older) (assignments older)
      go (child parent t) q =
          sum_cong _ _ (assignments older)
          (λ a k. aside (weight numbers tables s fs older a) (f c) (gate numbers (allows (row tables t (class_at a parent)) c)))
          ∙ sum_scale (f c) (λ a. weight numbers tables s fs older a * gate numbers (allows (row tables t (class_at a parent)) c))
          (assignments older)
          ∙ ap (λ n. f c * n)
          (sym
          (sum_by (λ a. class_at a parent) (weight numbers tables s fs older) (λ b. gate numbers (allows (row tables t b) c)) m
          (assignments older)
          (λ a k. class_bound older a parent m (listed older a k) (ltb-true parent (length older) q) e)))

  -- a class past the newest plot's has no assignment
  pub newest_past : (p : Plot) (f : ℕ → ℕ) (s : ℕ) (fs : List (ℕ → ℕ)) (older : List Plot) (c : ℕ) → p.classes ≤ c
      → share s (f ∷ fs) (p ∷ older) (length older) c ≡ 0
  newest_past p f s fs older c l =
      share_extend p f s fs older (length older) c
      ∙ sum_cong _ (λ a. 0) (assignments older)
      (λ a k.
      rw (eq-eqb (length older) (length a) (sym (as_long older a k)))
      (sum-none (λ d. eqb d c) (λ d. weight numbers tables s fs older a * (f d * gate numbers (linked tables p.link d a))) c
      (λ d q. ne_eqb d c q) p.classes l))
      ∙ sum-zero (assignments older)

-- a plot's own factor: 1 for a class that is in its domain and agrees with its label, else 0
abbrev pub factor : Plot → ℕ → ℕ
factor p c = cond (allows p.domain c && agrees p.label c) 1 0

-- with these factors a solution weighs 1, and any other assignment 0
weight_counts : (tables : List (List ℕ)) (ps : List Plot) (a : List ℕ)
    → weight numbers tables 1 (map factor ps) ps a ≡ cond (fits tables ps a && agrees_all ps a) 1 0
weight_counts tables [] a = refl
weight_counts tables (p ∷ older) [] = refl
weight_counts tables (p ∷ older) (c ∷ a) =
    ap (λ w. w * (factor p c * gate numbers (linked tables p.link c a))) (weight_counts tables older a)
    ∙ go (fits tables older a) (agrees_all older a) (allows p.domain c) (agrees p.label c) (linked tables p.link c a)
  where
    go : (x y d g l : Bool) → cond (x && y) 1 0 * (cond (d && g) 1 0 * gate numbers l) ≡ cond (x && d && l && (y && g)) 1 0
    go false y d g l = zero-mul (cond (d && g) 1 0 * gate numbers l)
    go true false d g l = zero-mul (cond (d && g) 1 0 * gate numbers l) ∙ rw and-false
    go true true false g l = ap (λ w. 1 * w) (zero-mul (gate numbers l))
    go true true true false false = refl
    go true true true false true = refl
    go true true true true false = refl
    go true true true true true = refl

-- the number of solutions that pass a test is the sum of the weights of the assignments that do
pub solutions_weigh : (n : Network) (test : List ℕ → Bool)
    → length (those test (solutions n))
    ≡ sum (weight numbers n.tables 1 (map factor n.plots) n.plots) (those test (assignments n.plots))
solutions_weigh n test =
    ap length (those_those test (agrees_all n.plots) (those (fits n.tables n.plots) (assignments n.plots)))
    ∙ ap length (those_those (λ a. agrees_all n.plots a && test a) (fits n.tables n.plots) (assignments n.plots))
    ∙ length_those (λ a. fits n.tables n.plots a && (agrees_all n.plots a && test a)) (assignments n.plots)
    ∙ sum_cong _ _ (assignments n.plots)
    (λ a k.
    go (fits n.tables n.plots a) (agrees_all n.plots a) (test a)
    ∙ ap (λ w. cond (test a) w 0) (sym (weight_counts n.tables n.plots a)))
    ∙ sym (sum_those test (weight numbers n.tables 1 (map factor n.plots) n.plots) (assignments n.plots))
  where
    go : (x y t : Bool) → ◌≡◌ {A = ℕ} (cond (x && (y && t)) 1 0) (cond t (cond (x && y) 1 0) 0)
    go false y false = refl
    go false y true = refl
    go true false false = refl
    go true false true = refl
    go true true false = refl
    go true true true = refl
