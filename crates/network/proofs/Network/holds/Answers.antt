-- `Network::holds` meets its contract: the counts first, then the plots; tables of bytes always keep their rules.
use Rattle.std.proofs.Common.{◌≡◌, Bool, true, false, ◌<◌, ◌≤◌, le-leb}
use mathlib.Core.Bool.{and-false}
use borrow.Author.Tests.{lt-leb}
use Rattle.semantics.specs.Basics.{every}
use Rattle.semantics.specs.Limits.{max_tables, max_plots}
use Rattle.semantics.specs.Rules.{is_table, plots_hold, network_holds}
use Rattle.network.specs.declared.Network.{Network}
use Rattle.network.specs.View.{tables_of, plots_of, view}
use Rattle.network.proofs.Views.{length-plots, length-tables}
use Rattle.network.proofs.Network.holds.Goals as goal

module _ (n : Network) where
  many-tables : max_tables < n.tables → false ≡ network_holds (view n)
  many-tables h = rw (length-tables n.rows n.tables, lt-leb _ _ h)

  many-plots : max_plots < n.plots → false ≡ network_holds (view n)
  many-plots h = rw (length-plots n n.plots, lt-leb _ _ h, and-false)

  the-plots : (r : Bool) → n.tables ≤ max_tables → n.plots ≤ max_plots → every is_table (tables_of n.rows n.tables) ≡ true
      → r ≡ plots_hold n.tables (plots_of n n.plots) → r ≡ network_holds (view n)
  the-plots r t p k e = rw (length-tables n.rows n.tables, length-plots n n.plots, le-leb _ _ t, le-leb _ _ p, k) e

pub returns-then-self-gt-MAX_TABLES : goal.returns-then-self-gt-MAX_TABLES
returns-then-self-gt-MAX_TABLES c = search many-tables

pub returns-then-self-gt-MAX_PLOTS : goal.returns-then-self-gt-MAX_PLOTS
returns-then-self-gt-MAX_PLOTS c = search many-plots

pub returns : goal.returns
returns c = search the-plots
