-- The list of assignments, for any order of each plot's classes: it holds every assignment once and nothing else, in order, and what is
-- counted over it doesn't depend on the order. Then what an assignment's classes are bounded by.
use Rattle.std.proofs.Common.{◌≡◌, refl, sym, ap, ◌∙◌, Bool, true, false, cond, List, [], ◌∷◌, ◌++◌, map, ⊎_elim, ℕ, suc, ◌*◌, ◌<◌, ◌≤◌}
use Rattle.std.proofs.Common.{one-mul, arith, length, eqb, leb, ltb, lt-ltb, le-ltb, ltb-true, leb-true, eq-eqb, eqb-true}
use mathlib.Core.Bool.{false≢true}
use mathlib.Core.List.Memᴰ
use mathlib.Core.List.{Memᴰ}
use borrow.Author.Tests.{eqb-false}
use Rattle.semantics.specs.Basics.{every, those, same, sum}
use Rattle.semantics.specs.Network.{Plot}
use Rattle.semantics.specs.Solutions.{class_at, is_assignment, extend, listed_by, classes_of, assignments, solutions}
use Rattle.semantics.specs.Relabelling.{precedes}
use Rattle.semantics.proofs.Lists.{and_left, and_right, and_both, not_passed, every_in, those_none, same_refl, same_true, in_below}
use Rattle.semantics.proofs.Lists.{below_in}
use Rattle.semantics.proofs.Sums.{sum_cong, sum_those, length_those, sum-extend, sum_by}
use Rattle.semantics.proofs.Rising.{rising, rising_head, rising_tail, rising_append, rising_those, rising_rest, rising_once}
use Rattle.semantics.proofs.Rising.{rising_also, rising_map, rising_below}

-- the two halves of an assignment: the newest plot's class, and the older ones'
module _ (p : Plot) (older : List Plot) (c : ℕ) (a : List ℕ) (h : is_assignment (p ∷ older) (c ∷ a) ≡ true) where
  pub newest_class : c < p.classes
  newest_class = ltb-true c p.classes (and_left (ltb c p.classes) (is_assignment older a) h)

  pub older_classes : is_assignment older a ≡ true
  older_classes = and_right (ltb c p.classes) (is_assignment older a) h

-- what stands in an extension: each class with each older assignment
in_extend : {x : List ℕ} (cs : List ℕ) (xs : List (List ℕ)) → Memᴰ x (extend cs xs)
    → (c : ℕ) × (a : List ℕ) × Memᴰ c cs × Memᴰ a xs × ((c ∷ a) ≡ x)
in_extend cs [] m = absurd (Memᴰ.not-nil m)
in_extend cs (a ∷ more) m =
    ⊎_elim
    (λ k. let r = Memᴰ.of_map (λ c. c ∷ a) cs k in (r.0, a, r.1, Memᴰ.head refl, r.2))
    (λ k. let r = in_extend cs more k in (r.0, r.1, r.2, Memᴰ.tail r.3, r.4))
    (Memᴰ.append_cases (map (λ c. c ∷ a) cs) m)

extend_in : {c : ℕ} {a : List ℕ} {cs : List ℕ} (xs : List (List ℕ)) → Memᴰ c cs → Memᴰ a xs → Memᴰ (c ∷ a) (extend cs xs)
extend_in [] m n = absurd (Memᴰ.not-nil n)
extend_in {c} {a} {cs} (b ∷ more) m n =
    ⊎_elim
    (λ e. Memᴰ.append_left (extend cs more) (Memᴰ.cast (ap (λ l. c ∷ l) e) (Memᴰ.map (λ d. d ∷ b) m)))
    (λ k. Memᴰ.append_right (map (λ d. d ∷ b) cs) (extend_in more m k))
    (Memᴰ.cases_cons n)

-- An assignment has one class for each plot.
pub assignment-length : (ps : List Plot) (a : List ℕ) → is_assignment ps a ≡ true → length a ≡ length ps
assignment-length [] [] h = refl
assignment-length [] (c ∷ a) h = absurd (false≢true h)
assignment-length (p ∷ older) [] h = absurd (false≢true h)
assignment-length (p ∷ older) (c ∷ a) h = ap suc (assignment-length older a (older_classes p older c a h))

-- one class of a plot comes before another
abbrev pub ahead : (Plot → ℕ → ℕ) → Plot → ℕ → ℕ → Bool
ahead by p c d = ltb (by p c) (by p d)

-- An order of the classes of every plot, by a rank of them: all of them and nothing else, rising in rank, and so each once.
pub record Order (order : Plot → List ℕ) (by : Plot → ℕ → ℕ) : Type 0 where
  pub only : (p : Plot) (c : ℕ) → Memᴰ c (order p) → c < p.classes
  pub each : (p : Plot) (c : ℕ) → c < p.classes → Memᴰ c (order p)
  pub rises : (p : Plot) → rising (ahead by p) (order p) ≡ true

-- rising classes are one
pub by_class : Order classes_of (λ p c. c)
by_class =
    record {
      only = λ p c m. in_below p.classes m;
      each = λ p c l. below_in p.classes l;
      rises = λ p. rising_below p.classes;
    }

-- nothing comes before itself
pub precedes_self : (by : Plot → ℕ → ℕ) (ps : List Plot) (a : List ℕ) → precedes by ps a a ≡ false
precedes_self by [] a = refl
precedes_self by (p ∷ older) [] = refl
precedes_self by (p ∷ older) (c ∷ a) = rw (same_refl a, le-ltb (by p c) (by p c) (omega arith))

module _ {order : Plot → List ℕ} {by : Plot → ℕ → ℕ} (o : Order order by) where
  -- Nothing but assignments stands in the list.
  pub only-assignments : (ps : List Plot) (a : List ℕ) → Memᴰ a (listed_by order ps) → is_assignment ps a ≡ true
  only-assignments [] a m = ap (is_assignment []) (Memᴰ.eq_of_singleton m)
  only-assignments (p ∷ older) a m =
      let r = in_extend (order p) (listed_by order older) m in
      sym (ap (is_assignment (p ∷ older)) r.4)
      ∙ and_both (ltb r.0 p.classes) (is_assignment older r.1) (lt-ltb r.0 p.classes (o.only p r.0 r.2))
      (only-assignments older r.1 r.3)

  -- Every assignment stands in the list.
  pub every_assignment : (ps : List Plot) (a : List ℕ) → is_assignment ps a ≡ true → Memᴰ a (listed_by order ps)
  every_assignment [] [] h = Memᴰ.head refl
  every_assignment [] (c ∷ a) h = absurd (false≢true h)
  every_assignment (p ∷ older) [] h = absurd (false≢true h)
  every_assignment (p ∷ older) (c ∷ a) h =
      extend_in (listed_by order older) (o.each p c (newest_class p older c a h)) (every_assignment older a (older_classes p older c a h))

  -- the older plots decide first, and the newest only where they agree
  older_first : (p : Plot) (older : List Plot) (c d : ℕ) (a b : List ℕ) → precedes by older a b ≡ true
      → precedes by (p ∷ older) (c ∷ a) (d ∷ b) ≡ true
  older_first p older c d a b h = go (same a b) refl
    where
      go : (t : Bool) → same a b ≡ t → cond t (ltb (by p c) (by p d)) (precedes by older a b) ≡ true
      go true e = absurd (false≢true (sym (precedes_self by older a) ∙ ap (precedes by older a) (same_true a b e) ∙ h))
      go false e = h

  rising_classes : (p : Plot) (older : List Plot) (a : List ℕ) → rising (precedes by (p ∷ older)) (map (λ c. c ∷ a) (order p)) ≡ true
  rising_classes p older a =
      rising_map (precedes by (p ∷ older)) (λ c. c ∷ a) (order p)
      (rising_also (ahead by p) _ (order p) (λ c d m n l. rw (same_refl a) l) (o.rises p))

  rising_extend : (p : Plot) (older : List Plot) (xs : List (List ℕ)) → rising (precedes by older) xs ≡ true
      → rising (precedes by (p ∷ older)) (extend (order p) xs) ≡ true
  rising_extend p older [] h = refl
  rising_extend p older (a ∷ more) h =
      rising_append (precedes by (p ∷ older)) (map (λ c. c ∷ a) (order p)) (extend (order p) more) (rising_classes p older a)
      (rising_extend p older more (rising_tail (precedes by older) a more h)) step
    where
      step : (x y : List ℕ) → Memᴰ x (map (λ c. c ∷ a) (order p)) → Memᴰ y (extend (order p) more)
          → precedes by (p ∷ older) x y ≡ true
      step x y m n =
          let r = Memᴰ.of_map (λ c. c ∷ a) (order p) m in
          let s = in_extend (order p) more n in
          rw (← r.2, ← s.4)
          (older_first p older r.0 s.0 a s.1
          (every_in (precedes by older a) more (rising_head (precedes by older) a more h) s.3))

  -- Each assignment comes before all that stand after it. So the first of some of them in the list is the first when
  -- classes are compared plot by plot in order of arrival, each plot's by their rank.
  pub in_order : (ps : List Plot) → rising (precedes by ps) (listed_by order ps) ≡ true
  in_order [] = refl
  in_order (p ∷ older) = rising_extend p older (listed_by order older) (in_order older)

  -- Of the assignments that pass a test, each comes before those listed behind it.
  pub behind : (ps : List Plot) (f : List ℕ → Bool) (before : List (List ℕ)) (a : List ℕ) (rest : List (List ℕ))
      → those f (listed_by order ps) ≡ before ++ (a ∷ rest) → (b : List ℕ) → Memᴰ b rest → precedes by ps a b ≡ true
  behind ps f before a rest e b m =
      every_in (precedes by ps a) rest
      (rising_head (precedes by ps) a rest
      (rising_rest (precedes by ps) before (a ∷ rest) (rw e at (rising_those (precedes by ps) f (listed_by order ps) (in_order ps))))) m

  -- Every assignment stands in the list exactly once, and nothing else does: what is counted over the list is counted over the
  -- assignments, each one once.
  pub once : (ps : List Plot) (a : List ℕ) → length (those (same a) (listed_by order ps)) ≡ cond (is_assignment ps a) 1 0
  once ps a = go (is_assignment ps a) refl
    where
      go : (t : Bool) → is_assignment ps a ≡ t → length (those (same a) (listed_by order ps)) ≡ cond t 1 0
      go true e =
          rising_once (precedes by ps) (same a) a (listed_by order ps) (same_refl a) (λ b h. same_true a b h) (precedes_self by ps a)
          (in_order ps)
          (every_assignment ps a e)
      go false e =
          ap length
          (those_none (same a) (listed_by order ps)
          (λ b m. not_passed (same a b) (λ h. false≢true (sym e ∙ ap (is_assignment ps) (same_true a b h) ∙ only-assignments ps b m))))

  -- each class stands once
  class_once : (p : Plot) (c : ℕ) → c < p.classes → length (those (λ d. eqb d c) (order p)) ≡ 1
  class_once p c l =
      rising_once (ahead by p) (λ d. eqb d c) c (order p) (eq-eqb c c refl) (λ d h. sym (eqb-true d c h))
      (le-ltb (by p c) (by p c) (omega arith)) (o.rises p) (o.each p c l)

  -- so a sum over the classes is the same in this order as over rising classes
  sum-classes : (p : Plot) (g : ℕ → ℕ) → sum g (order p) ≡ sum g (classes_of p)
  sum-classes p g =
      sum_cong _ _ (order p) (λ c m. sym (one-mul (g c)))
      ∙ sym (sum_by (λ c. c) (λ c. 1) g p.classes (order p) (λ c m. o.only p c m))
      ∙ sum_cong _ _ (classes_of p)
      (λ c m.
      ap (λ k. k * g c)
      (sum_those (λ d. eqb d c) (λ d. 1) (order p) ∙ sym (length_those (λ d. eqb d c) (order p)) ∙ class_once p c (in_below p.classes m))
      ∙ one-mul (g c))

  -- and so is one over the assignments
  sum_listed : (F : List ℕ → ℕ) (ps : List Plot) → sum F (listed_by order ps) ≡ sum F (assignments ps)
  sum_listed F [] = refl
  sum_listed F (p ∷ older) =
      sum-extend F (order p) (listed_by order older)
      ∙ sum_listed (λ a. sum (λ c. F (c ∷ a)) (order p)) older
      ∙ sum_cong _ _ (assignments older) (λ a m. sum-classes p (λ c. F (c ∷ a)))
      ∙ sym (sum-extend F (classes_of p) (assignments older))

  -- In any order as many assignments pass a test: their number, and with it every count, doesn't depend on the order.
  pub number_listed : (test : List ℕ → Bool) (ps : List Plot)
      → length (those test (listed_by order ps)) ≡ length (those test (assignments ps))
  number_listed test ps =
      length_those test (listed_by order ps) ∙ sum_listed (λ a. cond (test a) 1 0) ps ∙ sym (length_those test (assignments ps))

-- nothing but assignments is counted
pub listed : (ps : List Plot) (a : List ℕ) → Memᴰ a (assignments ps) → is_assignment ps a ≡ true
listed ps a m = only-assignments by_class ps a m

-- the number of classes of the plot at a position
abbrev pub class_count : List Plot → ℕ → ℕ
class_count [] i = 0
class_count (p ∷ older) i = cond (eqb i (length older)) p.classes (class_count older i)

-- The class that an assignment gives the plot at a position is one of that plot's.
pub class-below : (ps : List Plot) (a : List ℕ) (i : ℕ) → is_assignment ps a ≡ true → i < length ps → class_at a i < class_count ps i
class-below [] a i h l = absurd (omega arith)
class-below (p ∷ older) [] i h l = absurd (false≢true h)
class-below (p ∷ older) (c ∷ a) i h l =
    rw (assignment-length older a rest) (go (eqb i (length older)) refl (class-below older a i rest))
  where
    rest : is_assignment older a ≡ true
    rest = older_classes p older c a h

    go : (t : Bool) → eqb i (length older) ≡ t → (i < length older → class_at a i < class_count older i)
        → cond t c (class_at a i) < cond t p.classes (class_count older i)
    go true e ih = newest_class p older c a h
    go false e ih = ih (let n = eqb-false i (length older) e in omega arith)

-- the two halves of a bound on the classes of every plot
module _ (m : ℕ) (p : Plot) (older : List Plot) (b : every (λ q. leb q.classes m) (p ∷ older) ≡ true) where
  pub newest_few : p.classes ≤ m
  newest_few = leb-true p.classes m (and_left (leb p.classes m) (every (λ q. leb q.classes m) older) b)

  pub older_few : every (λ q. leb q.classes m) older ≡ true
  older_few = and_right (leb p.classes m) (every (λ q. leb q.classes m) older) b

classes_bound : (ps : List Plot) (i m : ℕ) → every (λ p. leb p.classes m) ps ≡ true → class_count ps i ≤ m
classes_bound [] i m h = omega arith
classes_bound (p ∷ older) i m h = go (eqb i (length older)) (classes_bound older i m (older_few m p older h))
  where
    go : (t : Bool) → class_count older i ≤ m → cond t p.classes (class_count older i) ≤ m
    go true ih = newest_few m p older h
    go false ih = ih

-- A bound on the classes of every plot bounds the classes of every assignment.
pub class_bound : (ps : List Plot) (a : List ℕ) (i m : ℕ) → is_assignment ps a ≡ true → i < length ps
    → every (λ p. leb p.classes m) ps ≡ true
    → class_at a i < m
class_bound ps a i m h l b = omega (arith, class-below ps a i h l, classes_bound ps i m b)

-- The empty network has one assignment, and so one solution.
pub empty_solution : (tables : List (List ℕ)) → solutions (record { tables = tables; plots = [] }) ≡ ([] ∷ [])
empty_solution tables = refl
