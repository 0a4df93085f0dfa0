-- What a struct tells of itself where its view keeps the rules.
use Rattle.std.proofs.Common.{◌≡◌, ap, Bool, true, List, ℕ, ◌<◌, ◌≤◌, arith}
use Rattle.semantics.specs.Limits.{max_tables, max_plots}
use Rattle.semantics.specs.Network.{child}
use Rattle.semantics.specs.Rules.{plots_hold, network_holds}
use Rattle.semantics.specs.Notes.{Tally, tallied_for}
use Rattle.semantics.specs.Engine.{holds}
use Rattle.semantics.proofs.Rules.{PlotRules, stands_rules, parents_earlier, network-rules}
use Rattle.notes.specs.Views.{as_tallies}
use Rattle.notes.proofs.Tallying.{tallied-seen}
use Rattle.network.specs.declared.Network.{Network}
use Rattle.network.specs.declared.State.{State}
use Rattle.stored.specs.Values.{link_at}
use Rattle.network.specs.declared.sound.Sound.{Sound}
use Rattle.network.specs.View.{plot_at, plots_of, view, view_state}
use Rattle.network.specs.Sound.{whole, with_line}
use Rattle.network.proofs.Views.{length-plots, length-tables, plot_stands}

module _ (n : Network) (h : network_holds (view n) ≡ true) where
  -- no more plots and tables stand than may
  pub few-plots : n.plots ≤ max_plots
  few-plots = omega (arith, (network-rules (view n) h).few_plots, length-plots n n.plots)

  pub few-tables : n.tables ≤ max_tables
  few-tables = omega (arith, (network-rules (view n) h).few_tables, length-tables n.rows n.tables)

  each-plot : plots_hold n.tables (plots_of n n.plots) ≡ true
  each-plot = rw (length-tables n.rows n.tables) at (network-rules (view n) h).each_plot

  -- each plot keeps the rules of its position
  pub rules-at : (i : ℕ) → i < n.plots → PlotRules n.tables i (plot_at n i)
  rules-at i l = stands_rules n.tables i (plot_at n i) (view n).plots each-plot (plot_stands n n.plots i l)

  -- a parent stands earlier than its child, and the table between them stands
  pub child-below : (i parent table : ℕ) → i < n.plots → link_at n.parents n.through i ≡ child parent table
      → (parent < i) × (table < n.tables)
  child-below i parent table l e =
      parents_earlier n.tables i (plot_at n i) (view n).plots parent table each-plot (plot_stands n n.plots i l) e

-- what a function names where it reads the arrays at places that stand
pub ruleset few = (few-plots, few-tables)

-- a sound state keeps the rules as a whole
pub sound_holds : (s : Sound) → holds (view_state (whole s)) ≡ true
sound_holds s = rw s.network_rules s.notes_rules

-- one line more is that of the definitions
pub with_line-seen : (accepted : Bool) (s : State)
    → view_state (with_line accepted s)
    ≡ record {
      network = view s.network;
      notes = record { tallies = tallied_for s.notes.scanner accepted (as_tallies s.notes.tallies); scanner = s.notes.scanner };
    }
with_line-seen accepted s =
    ap (λ (ts : List Tally). record { network = view s.network; notes = record { tallies = ts; scanner = s.notes.scanner } })
    (tallied-seen s.notes.tallies.each s.notes.scanner accepted)
