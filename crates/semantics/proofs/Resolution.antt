-- Relabelling (document 01): what the first of the cheapest assignments that fit is worth among all choices of labels.
use Rattle.std.proofs.Common.{◌≡◌, refl, sym, ap, ap₂, ◌∙◌, Bool, true, false, cond, List, [], ◌∷◌, ◌++◌, map, ◌↔◌, ◌⊎◌, inl, inr, ⊎_elim}
use Rattle.std.proofs.Common.{ℕ, suc, ◌+◌, ◌<◌, ◌≤◌, le_refl, le_trans, arith, length, eqb, eq-eqb, eqb-true}
use mathlib.Core.Path.{fun_ext}
use mathlib.Core.Bool.{false≢true}
use mathlib.Core.List.Memᴰ
use mathlib.Core.List.{Memᴰ}
use lib.Seq.{append_snoc}
use Rattle.semantics.specs.Basics.{those}
use Rattle.semantics.specs.Network.{Label, unlabelled, class, Plot, Network, update, with_label, labels_off}
use Rattle.semantics.specs.Solutions.{is_assignment, extend, listed_by, classes_of, assignments, fits, agrees, agrees_all, fitting}
use Rattle.semantics.specs.Solutions.{solutions}
use Rattle.semantics.specs.Relabelling.{charge, cost_by, label_cost, cost, none, best, cheapest, preference, rank, precedes, preferred}
use Rattle.semantics.specs.Relabelling.{relabelling, Change, change, changes, changed, with_changes, permitted, is_choice, relabel_plots}
use Rattle.semantics.specs.Relabelling.{relabelled, same_label, changed_by, changed_labels}
use Rattle.semantics.proofs.Lists.{and_left, and_right, and_both, those_cong, those_all, in_those, those_in, some_in, in_some}
use Rattle.semantics.proofs.Listing.{older_classes, by_class, listed, only-assignments, every_assignment, behind, number_listed}
use Rattle.semantics.proofs.Preference.{by_preference}
use Rattle.semantics.proofs.Least.{First, Finds, cheapest_finds}
use Rattle.semantics.proofs.Places.{update-at}

-- assignments, and which of them fit, do not depend on labels
assignments-relabelled : (ps : List Plot) (ls : List Label) → assignments (relabel_plots ps ls) ≡ assignments ps
assignments-relabelled [] ls = refl
assignments-relabelled (p ∷ older) [] = refl
assignments-relabelled (p ∷ older) (l ∷ ls) = ap (extend (classes_of p)) (assignments-relabelled older ls)

fits-relabelled : (tables : List (List ℕ)) (ps : List Plot) (ls : List Label) (a : List ℕ)
    → fits tables (relabel_plots ps ls) a ≡ fits tables ps a
fits-relabelled tables [] ls a = refl
fits-relabelled tables (p ∷ older) [] a = refl
fits-relabelled tables (p ∷ older) (l ∷ ls) [] = refl
fits-relabelled tables (p ∷ older) (l ∷ ls) (c ∷ a) = rw (fits-relabelled tables older ls a)

-- Whatever labels a network gets, the same assignments fit, in the same order, and its solutions are those that agree with the labels.
pub solutions-relabelled : (n : Network) (ls : List Label)
    → solutions (relabelled n ls) ≡ those (agrees_all (relabel_plots n.plots ls)) (fitting n)
solutions-relabelled n ls =
    ap (those (agrees_all qs))
    (ap (those (fits n.tables qs)) (assignments-relabelled n.plots ls)
    ∙ those_cong (fits n.tables qs) (fits n.tables n.plots) (assignments n.plots)
    (λ a m. fits-relabelled n.tables n.plots ls a))
  where
    qs : List Plot
    qs = relabel_plots n.plots ls

-- an assignment that fits is one
pub fitting-assignment : (n : Network) (a : List ℕ) → Memᴰ a (fitting n) → is_assignment n.plots a ≡ true
fitting-assignment n a i = listed n.plots a (in_those (fits n.tables n.plots) (assignments n.plots) i).0

-- all labels off: every assignment agrees with that
abbrev pub no_labels : List Plot → List Label
no_labels = map (λ p. unlabelled)

off_relabels : (ps : List Plot) → map (with_label unlabelled) ps ≡ relabel_plots ps (no_labels ps)
off_relabels [] = refl
off_relabels (p ∷ older) = ap (λ qs. with_label unlabelled p ∷ qs) (off_relabels older)

off_agrees : (ps : List Plot) (a : List ℕ) → is_assignment ps a ≡ true → agrees_all (relabel_plots ps (no_labels ps)) a ≡ true
off_agrees [] a h = refl
off_agrees (p ∷ older) [] h = absurd (false≢true h)
off_agrees (p ∷ older) (c ∷ a) h = rw (off_agrees older a (older_classes p older c a h))

-- With all labels off the solutions are the assignments that fit.
pub labels_off-solutions : (n : Network) → solutions (labels_off n) ≡ fitting n
labels_off-solutions n =
    ap (λ ps. solutions (record { tables = n.tables; plots = ps })) (off_relabels n.plots)
    ∙ solutions-relabelled n (no_labels n.plots)
    ∙ those_all (agrees_all (relabel_plots n.plots (no_labels n.plots))) (fitting n)
    (λ a i. off_agrees n.plots a (fitting-assignment n a i))

-- the assignments that fit are the same in the order of preference
pub preferred-fitting : (n : Network) (a : List ℕ) → Memᴰ a (preferred n) → Memᴰ a (fitting n)
preferred-fitting n a i =
    let (k, f) = in_those (fits n.tables n.plots) (listed_by preference n.plots) i in
    those_in (fits n.tables n.plots) (assignments n.plots)
    (every_assignment by_class n.plots a (only-assignments by_preference n.plots a k)) f

pub fitting-preferred : (n : Network) (a : List ℕ) → Memᴰ a (fitting n) → Memᴰ a (preferred n)
fitting-preferred n a i =
    let (k, f) = in_those (fits n.tables n.plots) (assignments n.plots) i in
    those_in (fits n.tables n.plots) (listed_by preference n.plots)
    (every_assignment by_preference n.plots a (listed n.plots a k)) f

-- Nothing is found exactly when no assignment fits, which is when the network has no solution even with all labels off.
pub none_iff : (n : Network) → (relabelling n ≡ none) ↔ (fitting n ≡ [])
none_iff n = (
  λ e.
      let x : preferred n ≡ [] = rw e at (cheapest_finds (cost n.plots) (preferred n)) in
      none_left (fitting n) (sym as_many ∙ ap length x),
  λ e. ap (cheapest (cost n.plots)) (none_left (preferred n) (as_many ∙ ap length e)),
)
  where
    as_many : length (preferred n) ≡ length (fitting n)
    as_many = number_listed by_preference (fits n.tables n.plots) n.plots

    none_left : (xs : List (List ℕ)) → length xs ≡ 0 → xs ≡ []
    none_left [] h = refl
    none_left (a ∷ xs) h = absurd (omega arith)

pub none_iff_off : (n : Network) → (relabelling n ≡ none) ↔ (solutions (labels_off n) ≡ [])
none_iff_off n = rw (labels_off-solutions n) (none_iff n)

-- the label that a plot has where it gets class c: none where it had none
abbrev pub new_label : Label → ℕ → Label
new_label unlabelled c = unlabelled
new_label (class l) c = class c

-- the labels of some plots where they get the classes of an assignment, newest first
abbrev pub labels_by : List Plot → List ℕ → List Label
labels_by [] a = []
labels_by (p ∷ older) [] = []
labels_by (p ∷ older) (c ∷ a) = new_label p.label c ∷ labels_by older a

-- What a choice may be: all labels as they are, and all of them off.
pub kept_choice : (ps : List Plot) → is_choice ps (map (λ p. p.label) ps) ≡ true
kept_choice [] = refl
kept_choice (p ∷ older) = and_both _ _ (go p.label) (kept_choice older)
  where
    go : (l : Label) → permitted p.classes l l ≡ true
    go unlabelled = refl
    go (class c) = rw (eq-eqb c c refl)

pub off_choice : (ps : List Plot) → is_choice ps (no_labels ps) ≡ true
off_choice [] = refl
off_choice (p ∷ older) = and_both _ _ (go p.label) (off_choice older)
  where
    go : (l : Label) → permitted p.classes l unlabelled ≡ true
    go unlabelled = refl
    go (class c) = refl

-- an assignment agrees with the labels that it gives
agrees_by : (l : Label) (c : ℕ) → agrees (new_label l c) c ≡ true
agrees_by unlabelled c = refl
agrees_by (class l) c = eq-eqb c c refl

agrees_all_by : (ps : List Plot) (a : List ℕ) → is_assignment ps a ≡ true → agrees_all (relabel_plots ps (labels_by ps a)) a ≡ true
agrees_all_by [] a h = refl
agrees_all_by (p ∷ older) [] h = absurd (false≢true h)
agrees_all_by (p ∷ older) (c ∷ a) h = rw (agrees_all_by older a (older_classes p older c a h)) (agrees_by p.label c)

-- and a class that agrees with a chosen label differs from a plot's own only where the chosen label does, whatever that costs
charge_le : (x : ℕ) (l k : Label) (c : ℕ) → agrees k c ≡ true → cond (agrees l c) 0 x ≤ cond (same_label l k) 0 x
charge_le x unlabelled k c h = omega arith
charge_le x (class l) unlabelled c h = go (eqb l c)
  where
    go : (t : Bool) → cond t 0 x ≤ x
    go true = omega arith
    go false = omega arith
charge_le x (class l) (class k) c h = rw (eqb-true k c h) (le_refl (cond (eqb l c) 0 x))

-- What follows holds for any cost of each plot's label.
module _ (each : Plot → ℕ) where
  -- what the changes of a list cost
  abbrev pub list_cost : List Change → ℕ
  list_cost [] = 0
  list_cost (h ∷ hs) = each h.plot + list_cost hs

  list_append : (hs ks : List Change) → list_cost (hs ++ ks) ≡ list_cost hs + list_cost ks
  list_append [] ks = omega arith
  list_append (h ∷ hs) ks = let e = list_append hs ks in omega arith

  list_change : (i : ℕ) (p : Plot) (c : ℕ) (l : Label) → list_cost (change i p c l) ≡ cond (agrees l c) 0 (each p)
  list_change i p c unlabelled = refl
  list_change i p c (class l) = go (eqb l c)
    where
      go : (t : Bool) → list_cost (cond t [] (record { position = i; plot = p; new_class = c } ∷ [])) ≡ cond t 0 (each p)
      go true = refl
      go false = omega arith

  list_changes : (ps : List Plot) (a : List ℕ) → list_cost (changes ps a) ≡ cost_by each ps a
  list_changes [] a = refl
  list_changes (p ∷ older) [] = refl
  list_changes (p ∷ older) (c ∷ a) =
      list_append (changes older a) (change (length older) p c p.label)
      ∙ ap₂ ◌+◌ (list_changes older a) (list_change (length older) p c p.label)

  -- a solution for a choice of labels costs no more than the labels that the choice changes or takes off
  cost_le : (ps : List Plot) (ls : List Label) (b : List ℕ) → is_choice ps ls ≡ true → agrees_all (relabel_plots ps ls) b ≡ true
      → cost_by each ps b ≤ changed_by each ps ls
  cost_le [] ls b i h = le_refl 0
  cost_le (p ∷ older) [] b i h = absurd (false≢true i)
  cost_le (p ∷ older) (l ∷ ls) [] i h = absurd (false≢true h)
  cost_le (p ∷ older) (l ∷ ls) (c ∷ b) i h =
      let rest : cost_by each older b ≤ changed_by each older ls =
      cost_le older ls b (and_right (permitted p.classes p.label l) (is_choice older ls) i) (and_left others (agrees l c) h) in
      let own : charge each p c ≤ cond (same_label p.label l) 0 (each p) =
      charge_le (each p) p.label l c (and_right others (agrees l c) h) in
      omega arith
    where
      others : Bool
      others = agrees_all (relabel_plots older ls) b

  -- Where every label costs 1, the changes of a list cost as much as it is long, and a choice as many labels as it changes or takes off.
  module _ (one : (p : Plot) → each p ≡ 1) where
    pub list_length : (hs : List Change) → list_cost hs ≡ length hs
    list_length [] = refl
    list_length (h ∷ hs) = let e = list_length hs in let o = one h.plot in omega arith

    pub changed-number : (ps : List Plot) (ls : List Label) → changed_by each ps ls ≡ changed_labels ps ls
    changed-number ps ls = ap (λ f. changed_by f ps ls) (fun_ext one)

-- making the changes of a list gives the plots those labels
changed-append : (hs ks : List Change) (ps : List Plot) → changed (hs ++ ks) ps ≡ changed ks (changed hs ps)
changed-append [] ks ps = refl
changed-append (h ∷ hs) ks ps = changed-append hs ks (update h.position (with_label (class h.new_class)) ps)

length-relabel_plots : (ps : List Plot) (ls : List Label) → length (relabel_plots ps ls) ≡ length ps
length-relabel_plots [] ls = refl
length-relabel_plots (p ∷ older) [] = refl
length-relabel_plots (p ∷ older) (l ∷ ls) = ap suc (length-relabel_plots older ls)

-- a plot with the label that it has is the same plot
label_kept : (p : Plot) (l : Label) → p.label ≡ l → p ≡ with_label l p
label_kept p l e = ap (λ k. with_label k p) e

change_one : (newer : List Plot) (p : Plot) (older : List Plot) (i c : ℕ) (l : Label) → length older ≡ i → p.label ≡ l
    → changed (change i p c l) (newer ++ (p ∷ older)) ≡ newer ++ (with_label (new_label l c) p ∷ older)
change_one newer p older i c unlabelled e h = ap (λ q. newer ++ (q ∷ older)) (label_kept p unlabelled h)
change_one newer p older i c (class l) e h = go (eqb l c) refl
  where
    go : (t : Bool) → eqb l c ≡ t
        → changed (cond t [] (record { position = i; plot = p; new_class = c } ∷ [])) (newer ++ (p ∷ older))
        ≡ newer ++ (with_label (class c) p ∷ older)
    go true g = ap (λ q. newer ++ (q ∷ older)) (label_kept p (class c) (h ∙ ap class (eqb-true l c g)))
    go false g = update-at i (with_label (class c)) newer p older e

changes_relabel : (newer ps : List Plot) (a : List ℕ) → changed (changes ps a) (newer ++ ps) ≡ newer ++ relabel_plots ps (labels_by ps a)
changes_relabel newer [] a = refl
changes_relabel newer (p ∷ older) [] = refl
changes_relabel newer (p ∷ older) (c ∷ a) =
    changed-append (changes older a) own (newer ++ (p ∷ older))
    ∙ ap (changed own) (others (changes_relabel (newer ++ (p ∷ [])) older a))
    ∙ change_one newer p rest (length older) c p.label (length-relabel_plots older (labels_by older a)) refl
  where
    own : List Change
    own = change (length older) p c p.label

    rest : List Plot
    rest = relabel_plots older (labels_by older a)

    others : changed (changes older a) (newer ++ (p ∷ []) ++ older) ≡ newer ++ (p ∷ []) ++ rest
        → changed (changes older a) (newer ++ (p ∷ older)) ≡ newer ++ (p ∷ rest)
    others e = rw (append_snoc newer p older, append_snoc newer p rest) at e

-- what relabelling finds is what is cheapest among the assignments that fit, in the order of preference
finds : (n : Network) (m : ℕ) (a : List ℕ) → relabelling n ≡ best m a → Finds (cost n.plots) (preferred n) (best m a)
finds n m a e = rw e at (cheapest_finds (cost n.plots) (preferred n))

-- What total m and assignment a are, where relabelling finds them: the least cost of labels to change or take off for the network to have
-- a solution, and an assignment whose list does it at that cost.
pub record Resolves (n : Network) (m : ℕ) (a : List ℕ) : Type 0 where
  -- it is an assignment that fits
  pub member : Memᴰ a (fitting n)
  -- the total is its cost, and that of its list's changes
  pub is_cost : m ≡ cost n.plots a
  pub is_list_cost : m ≡ list_cost label_cost (changes n.plots a)
  -- the changes of its list leave a network with a solution
  pub leaves_solution : 0 < length (solutions (with_changes n (changes n.plots a)))
  -- no assignment that fits costs less, and one that costs the same comes later when classes are compared plot by plot in order of arrival,
  -- each plot's by their rank there
  pub least : (b : List ℕ) → Memᴰ b (fitting n) → m ≤ cost n.plots b
  pub first : (b : List ℕ) → Memᴰ b (fitting n) → cost n.plots b ≡ m → (b ≡ a) ⊎ (precedes rank n.plots a b ≡ true)
  -- no choice of labels that leaves a solution costs less
  pub rivals : (ls : List Label) → is_choice n.plots ls ≡ true → 0 < length (solutions (relabelled n ls))
      → m ≤ changed_by label_cost n.plots ls

pub resolves : (n : Network) (m : ℕ) (a : List ℕ) → relabelling n ≡ best m a → Resolves n m a
resolves n m a e =
    record {
      member = member;
      is_cost = costs;
      is_list_cost = costs ∙ sym (list_changes label_cost ps a);
      leaves_solution = rw (ap solutions made ∙ solutions-relabelled n ls) (in_some _ solves);
      least = least;
      first = first;
      rivals = rivals;
    }
  where
    ps : List Plot
    ps = n.plots

    ls : List Label
    ls = labels_by ps a

    costs : m ≡ cost ps a
    costs = (finds n m a e).0

    least : (b : List ℕ) → Memᴰ b (fitting n) → m ≤ cost ps b
    least b i = (finds n m a e).2 b (fitting-preferred n b i)

    place : First (cost ps) (preferred n) m a
    place = (finds n m a e).1

    member : Memᴰ a (fitting n)
    member = let (before, rest, s, dearer) = place in preferred-fitting n a (rw s (Memᴰ.append_right before (Memᴰ.head refl)))

    first : (b : List ℕ) → Memᴰ b (fitting n) → cost ps b ≡ m → (b ≡ a) ⊎ (precedes rank ps a b ≡ true)
    first b i c =
        let (before, rest, s, dearer) = place in
        ⊎_elim
        (λ k. let l : m < cost ps b = dearer b k in absurd (omega arith))
        (λ k. ⊎_elim inl (λ j. inr (behind by_preference ps (fits n.tables ps) before a rest s b j)) (Memᴰ.cases_cons k))
        (Memᴰ.append_cases before (rw s at (fitting-preferred n b i)))

    assigned : is_assignment ps a ≡ true
    assigned = fitting-assignment n a member

    made : with_changes n (changes ps a) ≡ relabelled n ls
    made = ap (λ qs. record { tables = n.tables; plots = qs }) (changes_relabel [] ps a)

    solves : Memᴰ a (those (agrees_all (relabel_plots ps ls)) (fitting n))
    solves = those_in (agrees_all (relabel_plots ps ls)) (fitting n) member (agrees_all_by ps a assigned)

    rivals : (ks : List Label) → is_choice ps ks ≡ true → 0 < length (solutions (relabelled n ks)) → m ≤ changed_by label_cost ps ks
    rivals ks i h =
        let (b, j) = some_in (those (agrees_all (relabel_plots ps ks)) (fitting n)) (rw (solutions-relabelled n ks) at h) in
        let (k, g) = in_those (agrees_all (relabel_plots ps ks)) (fitting n) j in
        le_trans (least b k) (cost_le label_cost ps ks b i g)

-- Where every label costs 1, as it does today, the total is how long the list is, and no choice of labels that leaves a solution changes or
-- takes off fewer.
pub one_each : (p : Plot) → label_cost p ≡ 1
one_each p = refl

module _ (one : (p : Plot) → label_cost p ≡ 1) (n : Network) (m : ℕ) (a : List ℕ) (r : Resolves n m a) where
  pub total-length : m ≡ length (changes n.plots a)
  total-length = r.is_list_cost ∙ list_length label_cost one (changes n.plots a)

  pub fewest_labels : (ls : List Label) → is_choice n.plots ls ≡ true → 0 < length (solutions (relabelled n ls))
      → m ≤ changed_labels n.plots ls
  fewest_labels ls i h = rw (changed-number label_cost one n.plots ls) at (r.rivals ls i h)
