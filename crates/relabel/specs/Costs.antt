-- Costs as numbers, and the two passes over rows of eight of them by position (equation 5 of 004), as the definitions have them: the best
-- of a plot's classes is looked for among those that it has.
use Rattle.std.specs.Prelude.{Bool, cond, List, [], ◌∷◌, ℕ, zero, suc, ◌+◌, min, get_or, ltb}
use Rattle.semantics.specs.Basics.{foremost, below, row_of}
use Rattle.semantics.specs.Limits.{max_classes, max_mask}
use Rattle.semantics.specs.Network.{Link, root, child, Label, allows}
use Rattle.semantics.specs.Solutions.{class_at, agrees}
use Rattle.semantics.specs.Relabelling.{Best, is_label}
use Rattle.semantics.specs.Messages.{Cost, never, some, plus, least, worth, chosen}
use Rattle.network.specs.declared.Network.{Network}
use Rattle.stored.specs.Values.{table_at, link_at, classes_at, label_at}
use Rattle.messages.specs.Rows.{own_rows}
use Rattle.messages.specs.Pass.{gathered}

-- the number that says that a class can't be had at any cost
abbrev pub never_number : ℕ
never_number = 4095

-- the cost that a number stands for, and the number of a cost
abbrev pub as_cost : ℕ → Cost
as_cost v = cond (ltb v never_number) (some v) never

abbrev pub cost_number : Cost → ℕ
cost_number never = never_number
cost_number (some v) = v

-- two costs together; with one that can't be paid, the sum can't
abbrev pub together : ℕ → ℕ → ℕ
together a b = min (a + b) never_number

-- what a class costs in a row of costs, where it passes a test
abbrev pub cost_in : List ℕ → (ℕ → Bool) → ℕ → Cost
cost_in row beside c = plus (as_cost (get_or row c 0)) (cond (beside c) (some 0) never)

-- the best of k classes in a row of costs, among those that pass a test
abbrev pub best_in : List ℕ → (ℕ → Bool) → ℕ → Best ℕ
best_in row beside k = least (cost_in row beside) (below k)

-- the same in order of preference: the label's class first, then lower classes
abbrev pub preferred_in : Label → List ℕ → (ℕ → Bool) → ℕ → Best ℕ
preferred_in label row beside k = least (cost_in row beside) (foremost (is_label label) (below k))

-- equation 5, from a child of k classes to each class of its parent: the least that it then costs
unfoldable pub costs_up : List ℕ → List ℕ → ℕ → ℕ → List ℕ
costs_up row rows table k = row_of max_classes (λ b. cost_number (worth (best_in row (allows (get_or (table_at rows table) b 0)) k)))

-- what a row becomes once a child's message is folded into it
unfoldable pub folded_costs : List ℕ → List ℕ → List ℕ
folded_costs row message = row_of max_classes (λ c. together (get_or row c 0) (get_or message c 0))

-- a plot's own cost for a class: 1 where it is labelled with another; a class outside its domain can't be had
abbrev pub own_cost : ℕ → Label → ℕ → ℕ
own_cost domain label c = cond (allows domain c) (cond (agrees label c) 0 1) never_number

-- its own costs, class by class
unfoldable pub own_costs : ℕ → Label → List ℕ
own_costs domain label = row_of max_classes (own_cost domain label)

-- the mask of the classes that may stand below a link, by the class of each plot: a root is bound by no row
abbrev pub row_above : Link → List ℕ → (ℕ → ℕ) → ℕ
row_above root rows class_of = max_mask
row_above (child parent table) rows class_of = get_or (table_at rows table) (class_of parent) 0

-- a cost with the least that a root costs
abbrev pub with_root : Link → List ℕ → ℕ → ℕ → ℕ
with_root root row k cost = together cost (cost_number (worth (best_in row (allows max_mask) k)))
with_root (child parent table) row k cost = cost

module _ (n : Network) where
  -- the rows once every plot has sent its costs to its parent
  abbrev pub cost_rows : List (List ℕ)
  cost_rows = gathered folded_costs costs_up n [] n.plots (own_rows own_costs n)

  -- a cost with the least of each root among the first j plots
  abbrev pub totalled : List (List ℕ) → ℕ → ℕ → ℕ
  totalled rows zero cost = cost
  totalled rows (suc j) cost =
      totalled rows j (with_root (link_at n.parents n.through j) (get_or rows j []) (classes_at n.classes j) cost)

  -- the class of each of the first j plots, newest first: the first of the cheapest in its row beside its parent's, in order of preference
  abbrev pub chosen_to : List (List ℕ) → ℕ → List ℕ
  chosen_to rows zero = []
  chosen_to rows (suc j) =
      let a = chosen_to rows j in
      let beside = allows (row_above (link_at n.parents n.through j) n.rows (class_at a)) in
      chosen (preferred_in (label_at n.labels j) (get_or rows j []) beside (classes_at n.classes j)) ∷ a
