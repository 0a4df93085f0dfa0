-- What the structs stand for: the network and the state of the definitions.
-- Every value of the structs has a view. Where its bytes are no tree, the view breaks a rule of the book.
use Rattle.std.specs.Prelude.{◌≡◌, List, [], ◌∷◌, ◌++◌, ℕ, zero, suc, ◌*◌, length}
use Rattle.semantics.specs.Limits.{max_tables, max_plots, table_rows}
use Rattle.semantics.specs.Network as model
use Rattle.semantics.specs.Network.{Plot}
use Rattle.semantics.specs.Engine as engine
use Rattle.text.specs.Ids.{slot_bytes, trimmed}
use Rattle.notes.specs.Views.{as_notes}
use Rattle.stored.specs.Values.{table_at, slot_at, link_at, classes_at, domain_at, label_at}
use Rattle.network.specs.declared.Network.{Network}
use Rattle.network.specs.declared.State.{State}

-- n tables, in order of arrival
abbrev pub tables_of : List ℕ → ℕ → List (List ℕ)
tables_of rows zero = []
tables_of rows (suc t) = tables_of rows t ++ (table_at rows t ∷ [])

abbrev pub plot_at : Network → ℕ → Plot
plot_at n i =
    record {
      id = trimmed (slot_at n.ids i);
      link = link_at n.parents n.through i;
      classes = classes_at n.classes i;
      domain = domain_at n.domains i;
      label = label_at n.labels i;
    }

-- n plots, newest first
abbrev pub plots_of : Network → ℕ → List Plot
plots_of n zero = []
plots_of n (suc i) = plot_at n i ∷ plots_of n i

-- the network that a struct stands for: what its counts say, and nothing of what lies past them
abbrev pub view : Network → model.Network
view n = record { tables = tables_of n.rows n.tables; plots = plots_of n n.plots }

-- how long the arrays of a struct are
pub record Lengths (n : Network) : Type 0 where
  pub rows : length n.rows ≡ max_tables * table_rows
  pub ids : length n.ids ≡ max_plots * slot_bytes
  pub parents : length n.parents ≡ max_plots
  pub through : length n.through ≡ max_plots
  pub classes : length n.classes ≡ max_plots
  pub domains : length n.domains ≡ max_plots
  pub labels : length n.labels ≡ max_plots

abbrev pub view_state : State → engine.State
view_state s = record { network = view s.network; notes = as_notes s.notes }
