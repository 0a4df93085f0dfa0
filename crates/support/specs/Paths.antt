-- The counts of a plot by messages, as equations 1 to 4 of 004 have them: rows of eight counts by position, each sum and product held.
use Rattle.std.specs.Prelude.{Bool, true, false, cond, List, [], ◌++◌, ℕ, zero, suc, ◌-◌, get_or, replicate, set, eqb}
use Rattle.semantics.specs.Limits.{max_classes, max_plots}
use Rattle.semantics.specs.Network.{Link, root, child}
use Rattle.semantics.specs.Solutions.{supports}
use Rattle.network.specs.declared.Network.{Network}
use Rattle.network.specs.View.{plot_at, view}
use Rattle.stored.specs.Values.{link_at}
use Rattle.messages.specs.Pass.{gathered}
use Rattle.counts.specs.HeldRows.{up_through, down_through, products}

-- equation 4 towards the root: what a row becomes once a child's message is folded into it
abbrev pub folded_counts : List ℕ → List ℕ → List ℕ
folded_counts counts message = products counts message max_classes

-- what comes from above a plot, through tables that are spread: nothing bounds a root
abbrev pub above_through : Link → List ℕ → List (List (List ℕ)) → List ℕ
above_through root counts spread = replicate max_classes 1
above_through (child parent table) counts spread = down_through counts (get_or spread table [])

-- the position that a link leads to; a root leads nowhere else
abbrev pub leads_to : Link → ℕ → ℕ
leads_to root i = i
leads_to (child parent table) i = parent

-- the message of a child through tables that are spread
abbrev pub told_through : List (List (List ℕ)) → List ℕ → List ℕ → ℕ → ℕ → List ℕ
told_through spread counts rows table k = up_through counts (get_or spread table [])

module _ (n : Network) where
  -- a plot and its ancestors are marked, at the positions below one
  abbrev pub marked : ℕ → ℕ → List Bool → List Bool
  marked zero at path = path
  marked (suc j) at path =
      cond (eqb j at) (marked j (leads_to (link_at n.parents n.through j) j) (set path j true)) (marked j at path)

  -- of some plots, those on the path from one to its root
  unfoldable pub path_to : ℕ → List Bool
  path_to i = marked n.plots i (replicate max_plots false)

  -- the rows once all plots but those of the path have sent theirs, through tables that are spread
  abbrev pub gathered_through : List Bool → List (List (List ℕ)) → List (List ℕ) → List (List ℕ)
  gathered_through path spread = gathered folded_counts (told_through spread) n path n.plots

  -- equations 1 and 3, and 4 away from the root: the counts that come down the path, past the first j plots, through such tables
  abbrev pub descended_through : List Bool → List (List (List ℕ)) → List (List ℕ) → ℕ → List ℕ
  descended_through path spread rows zero = replicate max_classes 0
  descended_through path spread rows (suc j) =
      let counts = descended_through path spread rows j in
      cond (get_or path j false) (products (get_or rows j []) (above_through (link_at n.parents n.through j) counts spread) max_classes) counts

-- the supports of the plot at a position, then zeros
abbrev pub supports_then_zeros : Network → ℕ → List ℕ
supports_then_zeros n i = supports (view n) i (plot_at n i) ++ replicate (max_classes - (plot_at n i).classes) 0
