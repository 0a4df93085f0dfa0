-- Which bits of a table count: those of the rows of a parent's classes that name classes of the child. All others have no effect.
use Rattle.std.proofs.Common.{◌≡◌, refl, sym, ap, ◌∙◌, true, List, [], ◌∷◌, ℕ, suc, ◌+◌, ◌-◌, ◌/◌, ◌%◌, ◌^◌, ◌<◌, arith, length, eqb}
use Rattle.std.proofs.Common.{ltb-true}
use lib.Pow.{field, mod-mod-pow}
use Rattle.semantics.specs.Basics.{those}
use Rattle.semantics.specs.Network.{Plot, Link, root, child, allows, row}
use Rattle.semantics.specs.Solutions.{class_at, is_assignment, assignments, linked, fits, agrees_all, fitting, solutions}
use Rattle.semantics.proofs.Lists.{those_cong}
use Rattle.semantics.proofs.Listing.{newest_class, older_classes, listed, class_count, class-below}
use Rattle.semantics.proofs.Weights.{earlier, ordered, newest_earlier, older_ordered}

-- only the lowest k bits of a mask say whether a class below k is in it
allows-low : (mask k c : ℕ) → c < k → allows (mask % 2 ^ k) c ≡ allows mask c
allows-low mask k c h =
    let q : k ≡ k - suc c + 1 + c = omega arith in
    ap (λ n. eqb (mask % 2 ^ n / 2 ^ c % 2) 1) q
    ∙ ap (λ n. eqb (n % 2) 1) (field mask (k - suc c + 1) c)
    ∙ ap (λ n. eqb n 1) (mod-mod-pow (mask / 2 ^ c) (k - suc c) 1)

-- A row counts only through its lowest k bits, for a plot of k classes.
pub bits_past : (mask mask' k c : ℕ) → c < k → mask % 2 ^ k ≡ mask' % 2 ^ k → allows mask c ≡ allows mask' c
bits_past mask mask' k c h e = sym (allows-low mask k c h) ∙ ap (λ n. allows n c) e ∙ allows-low mask' k c h

-- two lists of tables agree for a plot: the rows of its parent's classes agree in the bits of its own k classes
abbrev pub AlikeAt : List (List ℕ) → List (List ℕ) → Link → List Plot → ℕ → Type 0
AlikeAt tables tables' root older k = Unit
AlikeAt tables tables' (child i t) older k = (r : ℕ) → r < class_count older i → row tables t r % 2 ^ k ≡ row tables' t r % 2 ^ k

-- the same for every plot
abbrev pub Alike : List (List ℕ) → List (List ℕ) → List Plot → Type 0
Alike tables tables' [] = Unit
Alike tables tables' (p ∷ older) = Alike tables tables' older × AlikeAt tables tables' p.link older p.classes

module _ (tables tables' : List (List ℕ)) where
  linked_alike : (l : Link) (older : List Plot) (k c : ℕ) (a : List ℕ) → earlier (length older) l ≡ true → AlikeAt tables tables' l older k
      → is_assignment older a ≡ true → c < k → linked tables l c a ≡ linked tables' l c a
  linked_alike root older k c a h s g b = refl
  linked_alike (child i t) older k c a h s g b =
      bits_past (row tables t (class_at a i)) (row tables' t (class_at a i)) k c b
      (s (class_at a i) (class-below older a i g (ltb-true i (length older) h)))

  -- Table bits that name classes a plot lacks have no effect: with tables that agree in all other bits the same assignments fit.
  pub fits_alike : (ps : List Plot) (a : List ℕ) → ordered ps ≡ true → Alike tables tables' ps → is_assignment ps a ≡ true
      → fits tables ps a ≡ fits tables' ps a
  fits_alike [] a h s g = refl
  fits_alike (p ∷ older) [] h s g = refl
  fits_alike (p ∷ older) (c ∷ a) h s g =
      rw (
        fits_alike older a (older_ordered p older h) s.0 rest,
        linked_alike p.link older p.classes c a (newest_earlier p older h) s.1 rest
            (newest_class p older c a g),
      )
    where
      rest : is_assignment older a ≡ true
      rest = older_classes p older c a g

  pub fitting_alike : (ps : List Plot) → ordered ps ≡ true → Alike tables tables' ps
      → fitting (record { tables = tables; plots = ps }) ≡ fitting (record { tables = tables'; plots = ps })
  fitting_alike ps h s = those_cong (fits tables ps) (fits tables' ps) (assignments ps) (λ a m. fits_alike ps a h s (listed ps a m))

  pub solutions_alike : (ps : List Plot) → ordered ps ≡ true → Alike tables tables' ps
      → solutions (record { tables = tables; plots = ps }) ≡ solutions (record { tables = tables'; plots = ps })
  solutions_alike ps h s = ap (those (agrees_all ps)) (fitting_alike ps h s)
