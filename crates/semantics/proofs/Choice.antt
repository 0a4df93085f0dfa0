-- The first of the cheapest assignments that fit, by taking the newest plot away: equation 5 of 004, with a cost of its own for each
-- labelled plot, inner ones too.
use Rattle.std.proofs.Common.{◌≡◌, refl, sym, ap, ap₂, ◌∙◌, Bool, true, false, cond, ◌&&◌, List, [], ◌∷◌, map, ℕ, ◌+◌, ◌≤◌, add-zero}
use Rattle.std.proofs.Common.{lt_of_lt_of_le, arith, length, get_or, leb}
use mathlib.Core.List.{map-map}
use native.Mathlib.Nat.{suc_inj}
use lib.ListN.{length-map}
use Rattle.semantics.specs.Basics.{every, row_of}
use Rattle.semantics.specs.Network.{Plot, Network, allows}
use Rattle.semantics.specs.Solutions.{listed_by, linked, fits}
use Rattle.semantics.specs.Relabelling.{Best, none, best, charge, cost_by, label_cost, cost, preference, relabelling}
use Rattle.semantics.specs.Messages.{Cost, never, some, plus, at_cost, least, worth, chosen}
use Rattle.semantics.proofs.Lists.{get_or_by}
use Rattle.semantics.proofs.Listing.{only-assignments, assignment-length, newest_few, older_few}
use Rattle.semantics.proofs.Preference.{by_preference}
use Rattle.semantics.proofs.Weights.{Left, earlier, ordered, newest_earlier, older_ordered, gate, weight, absorbed, length_absorbed}
use Rattle.semantics.proofs.Weights.{weight_absorbed}
use Rattle.semantics.proofs.Rows.{RowsLeft, absorbed_rows, absorbed_rows_lem}
use Rattle.semantics.proofs.Least.{costs, least_cong, cheapest_those, complete, least-extend}

-- a plot's own cost for each class: none is allowed outside its domain
abbrev pub charges : (Plot → ℕ) → Plot → ℕ → Cost
charges each p c = cond (allows p.domain c) (some (charge each p c)) never

-- with these costs an assignment that fits costs what `cost_by` says, and no other is allowed
weight_costs : (each : Plot → ℕ) (tables : List (List ℕ)) (ps : List Plot) (a : List ℕ)
    → weight costs tables (some 0) (map (charges each) ps) ps a ≡ cond (fits tables ps a) (some (cost_by each ps a)) never
weight_costs each tables [] a = refl
weight_costs each tables (p ∷ older) [] = refl
weight_costs each tables (p ∷ older) (c ∷ a) =
    ap (λ w. plus w (plus (charges each p c) (gate costs (linked tables p.link c a)))) (weight_costs each tables older a)
    ∙ go (fits tables older a) (allows p.domain c) (linked tables p.link c a) (cost_by each older a) (charge each p c)
  where
    go : (x d l : Bool) (m k : ℕ)
        → plus (cond x (some m) never) (plus (cond d (some k) never) (gate costs l)) ≡ cond (x && d && l) (some (m + k)) never
    go false d l m k = refl
    go true false l m k = refl
    go true true false m k = refl
    go true true true m k = ap (λ j. some (m + j)) (add-zero k)

-- The best of a plot's classes that pass a test, with what it costs: the first of the least, in order of preference.
abbrev pub best_class : Plot → (ℕ → Cost) → (ℕ → Bool) → Best ℕ
best_class p f beside = least (λ c. plus (f c) (gate costs (beside c))) (preference p)

-- Equation 5: the costs that are left once the newest plot is taken away. A plot's costs are its own, plus for each child that was taken
-- away the least that the child then costs.
abbrev pub costs_left : List (List ℕ) → Plot → (ℕ → Cost) → Cost → List (ℕ → Cost) → Left Cost
costs_left tables p f s fs = absorbed costs tables p.link (λ beside. worth (best_class p f beside)) s fs

-- Taking the newest plot away, child or root: the first of least cost of all is the first of least cost of what is left, completed by the
-- newest plot's best class beside it.
pub choose_newest : (tables : List (List ℕ)) (p : Plot) (f : ℕ → Cost) (s : Cost) (fs : List (ℕ → Cost)) (older : List Plot)
    → length fs ≡ length older → earlier (length older) p.link ≡ true
    → least (weight costs tables s (f ∷ fs) (p ∷ older)) (listed_by preference (p ∷ older))
    ≡ complete (λ a. best_class p f (λ c. linked tables p.link c a))
    (least (weight costs tables (costs_left tables p f s fs).scalar (costs_left tables p f s fs).factors older) (listed_by preference older))
choose_newest tables p f s fs older e h =
    least-extend (weight costs tables s (f ∷ fs) (p ∷ older)) (weight costs tables s fs older)
    (λ a c. plus (f c) (gate costs (linked tables p.link c a))) (λ c a. refl) (preference p) (listed_by preference older)
    ∙ ap (complete (λ a. best_class p f (λ c. linked tables p.link c a)))
    (least_cong _ _ (listed_by preference older)
    (λ a k.
    weight_absorbed costs tables p.link (λ beside. worth (best_class p f beside)) s fs older a e
    (assignment-length older a (only-assignments by_preference older a k)) h))

-- what stands in a row of costs; past its end nothing is allowed
abbrev pub cost_at : List Cost → ℕ → Cost
cost_at r c = get_or r c never

module _ (tables : List (List ℕ)) (m : ℕ) where
  -- equation 5 over rows
  abbrev pub rows_left : Plot → List Cost → Cost → List (List Cost) → RowsLeft Cost
  rows_left p r s rs = absorbed_rows plus never m tables p.link (λ beside. worth (best_class p (cost_at r) beside)) s rs

  -- One pass up, newest plot first, and one pass down: each plot takes its best class beside those of the older plots.
  abbrev pub best_by : Cost → List (List Cost) → List Plot → Best (List ℕ)
  best_by s rs [] = at_cost s []
  best_by s [] (p ∷ older) = none
  best_by s (r ∷ rs) (p ∷ older) =
      complete (λ a. best_class p (cost_at r) (λ c. linked tables p.link c a))
      (best_by (rows_left p r s rs).scalar (rows_left p r s rs).rows older)

  -- a row of m values is as good as the function where the plot has no more classes
  best-row : (p : Plot) (f : ℕ → Cost) (beside : ℕ → Bool) → p.classes ≤ m → best_class p (cost_at (row_of m f)) beside ≡ best_class p f beside
  best-row p f beside l =
      least_cong _ _ (preference p)
      (λ c k. ap (λ x. plus x (gate costs (beside c))) (get_or_by f never m c (lt_of_lt_of_le (by_preference.only p c k) l)))

  complete_same : (K L : List ℕ → Best ℕ) (x : Best (List ℕ)) → ((a : List ℕ) → K a ≡ L a) → complete K x ≡ complete L x
  complete_same K L none h = refl
  complete_same K L (best n a) h = ap (λ k. best n (chosen k ∷ a)) (h a)

  -- The two passes over rows give the first of least cost, for any costs.
  pub best_by_lem : (s : Cost) (fs : List (ℕ → Cost)) (ps : List Plot)
      → length fs ≡ length ps → ordered ps ≡ true → every (λ p. leb p.classes m) ps ≡ true
      → best_by s (map (row_of m) fs) ps ≡ least (weight costs tables s fs ps) (listed_by preference ps)
  best_by_lem never fs [] e o b = refl
  best_by_lem (some k) fs [] e o b = refl
  best_by_lem s [] (p ∷ older) e o b = absurd (omega arith)
  best_by_lem s (f ∷ fs) (p ∷ older) e o b =
      complete_same _ _
      (best_by (rows_left p (row_of m f) s (map (row_of m) fs)).scalar (rows_left p (row_of m f) s (map (row_of m) fs)).rows older)
      (λ a. best-row p f (λ c. linked tables p.link c a) (newest_few m p older b))
      ∙ ap (complete (λ a. best_class p f (λ c. linked tables p.link c a)))
      (ap₂ (λ x y. best_by x y older) rows.0 rows.1
      ∙ best_by_lem (costs_left tables p f s fs).scalar (costs_left tables p f s fs).factors older
      (length_absorbed costs tables p.link (λ beside. worth (best_class p f beside)) s fs ∙ suc_inj e)
      (older_ordered p older o) (older_few m p older b))
      ∙ sym (choose_newest tables p f s fs older (suc_inj e) (newest_earlier p older o))
    where
      rows : ((rows_left p (row_of m f) s (map (row_of m) fs)).scalar ≡ (costs_left tables p f s fs).scalar)
          × ((rows_left p (row_of m f) s (map (row_of m) fs)).rows ≡ map (row_of m) (costs_left tables p f s fs).factors)
      rows =
          absorbed_rows_lem costs plus never m (λ x. x) (λ x y. refl) tables p.link (λ beside. worth (best_class p f beside))
          (λ beside. worth (best_class p (cost_at (row_of m f)) beside)) s fs
          (λ beside. ap worth (best-row p f beside (newest_few m p older b)))

-- the relabelling, as the first of least cost over all assignments in order of preference
pub relabelling-least : (n : Network)
    → relabelling n
    ≡ least (weight costs n.tables (some 0) (map (charges label_cost) n.plots) n.plots) (listed_by preference n.plots)
relabelling-least n =
    cheapest_those (fits n.tables n.plots) (cost n.plots) (listed_by preference n.plots)
    ∙ least_cong _ _ (listed_by preference n.plots) (λ a k. sym (weight_costs label_cost n.tables n.plots a))

-- the row of a plot's own costs, with which the pass starts
abbrev pub own_cost_row : (Plot → ℕ) → ℕ → Plot → List Cost
own_cost_row each m p = row_of m (charges each p)

-- The relabelling by one pass up and one pass down.
pub relabelling_by : (n : Network) (m : ℕ) → ordered n.plots ≡ true → every (λ p. leb p.classes m) n.plots ≡ true
    → best_by n.tables m (some 0) (map (own_cost_row label_cost m) n.plots) n.plots ≡ relabelling n
relabelling_by n m o b =
    ap (λ rs. best_by n.tables m (some 0) rs n.plots) (sym (map-map (row_of m) (charges label_cost) n.plots))
    ∙ best_by_lem n.tables m (some 0) (map (charges label_cost) n.plots) n.plots (length-map n.plots (charges label_cost)) o b
    ∙ sym (relabelling-least n)
