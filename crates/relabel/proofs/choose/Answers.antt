-- `relabel::choose` meets its contract. The invariant: the classes read for the first j plots stand at their positions.
use Rattle.std.proofs.Common.{◌≡◌, refl, ◌∙◌, List, [], ℕ, ◌+◌, ◌*◌, ◌≤◌, ◌<◌, add-one, arith, length, get_or, set, Fits, w64}
use Rattle.semantics.specs.Limits.{max_classes, max_plots}
use Rattle.semantics.specs.Network.{Link, root, child, Label}
use Rattle.semantics.specs.Solutions.{class_at}
use Rattle.network.specs.declared.Network.{Network}
use Rattle.stored.specs.Values.{link_at, label_at}
use Rattle.network.proofs.Standing.{few-plots}
use Rattle.network.proofs.Reach.{link_reaches}
use Rattle.relabel.specs.Keys.{class_above, key_class, NameClasses, read_to}
use Rattle.relabel.specs.Answer.{by_position}
use Rattle.relabel.proofs.ByPosition.{none-placed, one_placed, placed_at}
use Rattle.relabel.proofs.Offers.{length-read, low_above, read_low}
use Rattle.relabel.proofs.choose.Goals as goal

-- the class above a link depends on the parent's class alone
same_above : (link : Link) (f g : ℕ → ℕ) → ((i : ℕ) → f i ≡ g i) → class_above link f ≡ class_above link g
same_above root f g h = refl
same_above (child parent table) f g h = h parent

module _ (n : Network) (offers : List (List ℕ)) (j : ℕ) where
  -- the class of each of the first j plots
  abbrev a : List ℕ
  a = read_to n offers j

  long : length a ≡ j
  long = length-read n offers j

  module _ (few : n.plots ≤ max_plots) (l : j < n.plots) (are : NameClasses n offers)
      (classes : List ℕ) (e : classes ≡ by_position a) (link : Link) (b : ℕ) (q : b ≡ class_above link (λ i. get_or classes i 0)) where
    -- what the array holds is what the assignment gives, and so a class
    at : (i : ℕ) → get_or classes i 0 ≡ class_at a i
    at i = rw e (placed_at a i (omega (arith, long)))

    low : b < max_classes
    low =
        rw q
        (low_above link (λ i. get_or classes i 0) (λ i. rw (at i) (read_low n offers are j (omega arith) i)))

    narrow : Fits w64 (b * 2)
    narrow = let h : b < max_classes = low in omega arith

    -- what is read is a class
    low-class : (label : Label) → label ≡ label_at n.labels j → key_class label (get_or (get_or offers j []) b 0) < max_classes
    low-class label s = rw s (are.low j b l low)

    -- one plot more
    next : (label : Label) (c : ℕ) → link ≡ link_at n.parents n.through j → label ≡ label_at n.labels j
        → c ≡ key_class label (get_or (get_or offers j []) b 0)
        → set classes j c ≡ by_position (read_to n offers (j + 1))
    next label c p s t =
        let above = class_above (link_at n.parents n.through j) (class_at a) in
        let m : b ≡ above = q ∙ rw p (same_above (link_at n.parents n.through j) (λ i. get_or classes i 0) (class_at a) at) in
        let x = key_class (label_at n.labels j) (get_or (get_or offers j []) above 0) in
        let v : c ≡ x = rw (t, s, m) in
        rw (add-one, e, v) (rw long at (one_placed a x (omega (arith, long))))

pub loop-j-init : goal.loop-j-init
loop-j-init c = none-placed

pub class_above-b-requires : goal.class_above-b-requires
class_above-b-requires c = search link_reaches

pub offset_bounds-offers-b : goal.offset_bounds-offers-b
offset_bounds-offers-b c = search (narrow, few-plots)

pub bounds-offers-b : goal.bounds-offers-b
bounds-offers-b c = search (low, few-plots)

pub class_of-requires : goal.class_of-requires
class_of-requires c = search (low-class, few-plots)

pub loop-j-preserved : goal.loop-j-preserved
loop-j-preserved c = search (next, few-plots)
