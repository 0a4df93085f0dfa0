-- What one pass up and one path or pass down give, of any network that keeps the rules: its supports and its relabelling.
use Rattle.std.proofs.Common.{◌≡◌, true, map, ℕ, ◌<◌, length, leb}
use Rattle.semantics.specs.Basics.{every, row_of}
use Rattle.semantics.specs.Limits.{max_classes}
use Rattle.semantics.specs.Network.{Network}
use Rattle.semantics.specs.Solutions.{held, solutions, support}
use Rattle.semantics.specs.Relabelling.{label_cost, relabelling}
use Rattle.semantics.specs.Rules.{network_holds}
use Rattle.semantics.specs.Messages.{some}
use Rattle.semantics.proofs.Weights.{ordered}
use Rattle.semantics.proofs.Rules.{network-rules, plots_ordered, classes-few}
use Rattle.semantics.proofs.Supports.{held_shares, held_total, own_row, supports_by, solutions_by}
use Rattle.semantics.proofs.Choice.{best_by, own_cost_row, relabelling_by}

module _ (n : Network) (h : network_holds n ≡ true) where
  parents_first : ordered n.plots ≡ true
  parents_first = plots_ordered (length n.tables) n.plots (network-rules n h).each_plot

  few-classes : every (λ p. leb p.classes max_classes) n.plots ≡ true
  few-classes = classes-few (length n.tables) n.plots (network-rules n h).each_plot

  -- The eight supports of a plot, each sum and product held.
  pub supports_passes : (i : ℕ) → i < length n.plots
      → held_shares n.tables max_classes 1 (map (own_row max_classes) n.plots) n.plots i ≡ row_of max_classes (support n i)
  supports_passes i l = supports_by n max_classes parents_first few-classes i l

  -- The held number of solutions. U13 of 02 will cite it.
  pub solutions_passes : held_total n.tables max_classes 1 (map (own_row max_classes) n.plots) n.plots ≡ held (length (solutions n))
  solutions_passes = solutions_by n max_classes parents_first few-classes

  -- The first of the cheapest assignments that fit, or that none fits.
  pub relabelling_passes : best_by n.tables max_classes (some 0) (map (own_cost_row label_cost max_classes) n.plots) n.plots
      ≡ relabelling n
  relabelling_passes = relabelling_by n max_classes parents_first few-classes
