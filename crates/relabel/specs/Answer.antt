-- The answer: that no assignment fits, or the number of labels to change and the class of every plot.
use Rattle.std.specs.Prelude.{Option, Some, None, List, map, ℕ}
use Rattle.semantics.specs.Basics.{below}
use Rattle.semantics.specs.Limits.{max_plots}
use Rattle.semantics.specs.Solutions.{class_at}
use Rattle.semantics.specs.Relabelling.{Best, none, best}
use Rattle.relabel.specs.declared.Relabelled.{Relabelled}

-- the class that an assignment gives each plot, by position; 0 past the last plot
unfoldable pub by_position : List ℕ → List ℕ
by_position a = map (class_at a) (below max_plots)

-- where no assignment fits there is nothing to give
abbrev pub as_relabelled : Best (List ℕ) → Option Relabelled
as_relabelled none = None
as_relabelled (best cost a) = Some (record { number = cost; classes = by_position a })
