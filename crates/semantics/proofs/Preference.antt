-- A plot's order of preference, its own label first and then lower classes: it is an order of its classes, and the least cost doesn't
-- depend on it.
use Rattle.std.proofs.Common.{◌≡◌, refl, sym, ap, ap₂, ◌∙◌, Bool, true, false, cond, not, List, [], ◌∷◌, ◌++◌, ℕ, suc, ◌<◌, arith, eqb, ltb}
use Rattle.std.proofs.Common.{eqb-true, lt-ltb, ltb-true}
use mathlib.Core.Bool.{false≢true}
use mathlib.Core.List.{Memᴰ}
use borrow.Author.Tests.{not-true}
use Rattle.semantics.specs.Basics.{those, foremost, below}
use Rattle.semantics.specs.Network.{Label, unlabelled, class, Plot}
use Rattle.semantics.specs.Solutions.{classes_of}
use Rattle.semantics.specs.Relabelling.{is_label, rank, preference}
use Rattle.semantics.specs.Messages.{Cost, at_cost, least, worth}
use Rattle.semantics.proofs.Lists.{those_all, those_none, those_one, in_those, in_foremost, foremost_in, in_below, below_in}
use Rattle.semantics.proofs.Rising.{rising, rising_append, rising_those, rising_also, rising_below}
use Rattle.semantics.proofs.Listing.{ahead, Order}
use Rattle.semantics.proofs.Least.{cheaper, cheaper_assoc, cheaper_comm, worth_better, least-append}

-- two classes that both are the label are the same
label_one : (l : Label) (c d : ℕ) → is_label l c ≡ true → is_label l d ≡ true → c ≡ d
label_one unlabelled c d h g = absurd (false≢true h)
label_one (class l) c d h g = sym (eqb-true l c h) ∙ eqb-true l d g

module _ (p : Plot) where
  abbrev is_other : ℕ → Bool
  is_other c = not (is_label p.label c)

  is_label_lem : {c : ℕ} → Memᴰ c (those (is_label p.label) (classes_of p)) → is_label p.label c ≡ true
  is_label_lem m = (in_those (is_label p.label) (classes_of p) m).1

  is_other_lem : {c : ℕ} → Memᴰ c (those is_other (classes_of p)) → is_label p.label c ≡ false
  is_other_lem {c} m = not-true (is_label p.label c) (in_those is_other (classes_of p) m).1

  labels_rise : rising (ahead rank p) (those (is_label p.label) (classes_of p)) ≡ true
  labels_rise =
      rising_also ltb (ahead rank p) (those (is_label p.label) (classes_of p))
      (λ c d m n l.
      let e : c ≡ d = label_one p.label c d (is_label_lem m) (is_label_lem n) in
      let h : c < d = ltb-true c d l in
      absurd (omega arith))
      (rising_those ltb (is_label p.label) (classes_of p) (rising_below p.classes))

  others_rise : rising (ahead rank p) (those is_other (classes_of p)) ≡ true
  others_rise =
      rising_also ltb (ahead rank p) (those is_other (classes_of p))
      (λ c d m n l. let h : c < d = ltb-true c d l in rw (is_other_lem m, is_other_lem n) (lt-ltb (suc c) (suc d) (omega arith)))
      (rising_those ltb is_other (classes_of p) (rising_below p.classes))

  preference_rises : rising (ahead rank p) (preference p) ≡ true
  preference_rises =
      rising_append (ahead rank p) (those (is_label p.label) (classes_of p)) (those is_other (classes_of p)) labels_rise others_rise
      (λ c d m n. rw (is_label_lem m, is_other_lem n) (lt-ltb 0 (suc d) (omega arith)))

-- A plot's order of preference is an order of its classes.
pub by_preference : Order preference rank
by_preference =
    record {
      only = λ p c m. in_below p.classes (in_foremost (is_label p.label) (classes_of p) m);
      each = λ p c l. foremost_in (is_label p.label) (classes_of p) (below_in p.classes l);
      rises = preference_rises;
    }

-- A plot without a label, or with one that is none of its k classes, keeps lower classes first.
pub lower_first : (l : Label) (k : ℕ) → ((c : ℕ) → c < k → is_label l c ≡ false) → foremost (is_label l) (below k) ≡ below k
lower_first l k h =
    ap₂ ◌++◌
    (those_none (is_label l) (below k) (λ c m. h c (in_below k m)))
    (those_all (λ c. not (is_label l c)) (below k) (λ c m. ap not (h c (in_below k m))))

-- A label that is one of them stands at the front, the others behind it as they were.
pub label-first : (l k : ℕ) → l < k → foremost (eqb l) (below k) ≡ l ∷ those (λ c. not (eqb l c)) (below k)
label-first l k h = ap (λ xs. xs ++ those (λ c. not (eqb l c)) (below k)) (those_one l k h)

-- The least cost doesn't depend on which come first.
pub worth_foremost : (f : ℕ → Cost) (t : ℕ → Bool) (xs : List ℕ) → worth (least f (foremost t xs)) ≡ worth (least f xs)
worth_foremost f t xs =
    ap worth (least-append f (those t xs) (those (λ x. not (t x)) xs))
    ∙ worth_better (least f (those t xs)) (least f (those (λ x. not (t x)) xs))
    ∙ parts xs
  where
    w : List ℕ → Cost
    w ys = worth (least f ys)

    inner : (a x b : Cost) → cheaper a (cheaper x b) ≡ cheaper x (cheaper a b)
    inner a x b = sym (cheaper_assoc a x b) ∙ ap (λ y. cheaper y b) (cheaper_comm a x) ∙ cheaper_assoc x a b

    parts : (ys : List ℕ) → cheaper (w (those t ys)) (w (those (λ x. not (t x)) ys)) ≡ w ys
    parts [] = refl
    parts (y ∷ ys) = go (t y) (parts ys)
      where
        own : Cost
        own = worth (at_cost (f y) y)

        go : (b : Bool) → cheaper (w (those t ys)) (w (those (λ x. not (t x)) ys)) ≡ w ys
            → cheaper (w (cond b (y ∷ those t ys) (those t ys)))
            (w (cond (not b) (y ∷ those (λ x. not (t x)) ys) (those (λ x. not (t x)) ys)))
            ≡ w (y ∷ ys)
        go true ih =
            ap (λ x. cheaper x (w (those (λ x. not (t x)) ys))) (worth_better (at_cost (f y) y) (least f (those t ys)))
            ∙ cheaper_assoc own (w (those t ys)) (w (those (λ x. not (t x)) ys))
            ∙ ap (cheaper own) ih
            ∙ sym (worth_better (at_cost (f y) y) (least f ys))
        go false ih =
            ap (cheaper (w (those t ys))) (worth_better (at_cost (f y) y) (least f (those (λ x. not (t x)) ys)))
            ∙ inner (w (those t ys)) own (w (those (λ x. not (t x)) ys))
            ∙ ap (cheaper own) ih
            ∙ sym (worth_better (at_cost (f y) y) (least f ys))
